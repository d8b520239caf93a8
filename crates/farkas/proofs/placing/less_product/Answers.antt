use Rattle.std.proofs.Common.{rules, ◌≡◌, ◌∙◌, ap, ℤ, ◌*ℤ◌, to_z, of_z}
use Rattle.std.specs.Int.{w128}
use Rattle.std.proofs.lemmas.Int.{to_z-of_z}
use Rattle.linear_rows.specs.Forms.{small}
use Rattle.farkas.proofs.Slacks.{product_taken}
use Rattle.farkas.proofs.placing.less_product.Goals as goal

pub returns : goal.returns
returns c =
    let product : c.times.result ≡ small (c.args.first *ℤ c.args.second) =
    c.times.ensures ∙ ap (λ (z : ℤ). small (z *ℤ to_z w128 (of_z w128 c.args.second))) (to_z-of_z w128 c.args.first c.ranges.first)
    ∙ ap (λ (z : ℤ). small (c.args.first *ℤ z)) (to_z-of_z w128 c.args.second c.ranges.second) in
    product_taken c.args.rest c.args.first c.args.second c.in_ok-product.product _ _ c.times.result c.minus.result product c.in_ok-product.was
    (to_z-of_z w128 c.args.rest c.ranges.rest) (to_z-of_z w128 c.in_ok-product.product (search rules)) c.minus.ensures
