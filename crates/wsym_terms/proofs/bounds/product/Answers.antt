use Rattle.std.proofs.Common.{◌≡◌, ℤ, ◌*◌, ◌^◌, ◌≤◌, ◌*ℤ◌, unsigned_abs, SFits, to_z-of_z, sym, ap, subst, ◌∙◌, arith, lit<, mul-le-mul}
use Rattle.std.specs.Int.{w128}
use Rattle.std.proofs.lemmas.Int.{fits_signed_mul, unsigned_abs-mul}
use Rattle.wsym_terms.proofs.BoundLaws.{abs_of_fits}
use Rattle.wsym_terms.proofs.bounds.product.Goals as goal

pub overflow_mul-result : goal.overflow_mul-result
overflow_mul-result c =
    let f = c.ranges.factor in
    let same : c.from.result ≡ c.args.value = c.from.ensures ∙ to_z-of_z c.ranges.value in
    let w : SFits w128 c.from.result = record { sfits = c.from.type_inv } in
    let small : unsigned_abs c.from.result ≤ 2 ^ 31 = subst (λ (z : ℤ). unsigned_abs z ≤ 2 ^ 31) (sym same) (abs_of_fits c.args.value c.ranges.value) in
    let fit : SFits w128 (c.args.factor *ℤ c.from.result) = fits_signed_mul w128 c.args.factor c.from.result (2 ^ 90) (2 ^ 31) c.requires small (lit< tt) in
    rw (to_z-of_z f, to_z-of_z w) fit

pub returns-clause-exact : goal.returns-clause-exact
returns-clause-exact c =
    let f = c.ranges.factor in
    let same : c.from.result ≡ c.args.value = c.from.ensures ∙ to_z-of_z c.ranges.value in
    let w : SFits w128 c.from.result = record { sfits = c.from.type_inv } in
    let small : unsigned_abs c.from.result ≤ 2 ^ 31 = subst (λ (z : ℤ). unsigned_abs z ≤ 2 ^ 31) (sym same) (abs_of_fits c.args.value c.ranges.value) in
    let fit : SFits w128 (c.args.factor *ℤ c.from.result) = fits_signed_mul w128 c.args.factor c.from.result (2 ^ 90) (2 ^ 31) c.requires small (lit< tt) in
    rw (to_z-of_z f, to_z-of_z w, to_z-of_z fit) (ap (λ (z : ℤ). c.args.factor *ℤ z) same)

pub returns-clause-small : goal.returns-clause-small
returns-clause-small c =
    let f = c.ranges.factor in
    let same : c.from.result ≡ c.args.value = c.from.ensures ∙ to_z-of_z c.ranges.value in
    let w : SFits w128 c.from.result = record { sfits = c.from.type_inv } in
    let small : unsigned_abs c.from.result ≤ 2 ^ 31 = subst (λ (z : ℤ). unsigned_abs z ≤ 2 ^ 31) (sym same) (abs_of_fits c.args.value c.ranges.value) in
    let fit : SFits w128 (c.args.factor *ℤ c.from.result) = fits_signed_mul w128 c.args.factor c.from.result (2 ^ 90) (2 ^ 31) c.requires small (lit< tt) in
    let large : unsigned_abs c.args.factor * unsigned_abs c.from.result ≤ 2 ^ 90 * 2 ^ 31 = mul-le-mul c.requires small in
    rw (to_z-of_z f, to_z-of_z w, to_z-of_z fit) (omega (arith, unsigned_abs-mul c.args.factor c.from.result, large))
