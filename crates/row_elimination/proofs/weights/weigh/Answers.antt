use Rattle.std.proofs.Common.{rules, ◌≡◌, ℕ, ◌*◌, get_or, ◌∙◌, true}
use Rattle.row_elimination.specs.declared.weights.Multiplier.{Multiplier}
use Rattle.row_elimination.specs.Weights.{sum_fits, with_multiplier}
use Rattle.row_elimination.proofs.Adding.{weigh_next, products_next, sums_next, some_if}
use Rattle.row_elimination.proofs.weights.weigh.Goals as goal

none : Multiplier
none = record { row = 0; factor = 0 }

pub loop-multiplier-preserved : goal.loop-multiplier-preserved
unfolding none
loop-multiplier-preserved c =
    let f : c.in-Some-product_below_limit.factor ≡ c.args.a * (get_or c.args.first.now c.loop-multiplier.multiplier-index none).factor =
    some_if {A = ℕ} _ _ _ _ c.product_below_limit.ensures c.in-Some-product_below_limit.is in
    let o : c.add.new.out.items ≡ with_multiplier (record { row = (get_or c.args.first.now c.loop-multiplier.multiplier-index none).row; factor = c.in-Some-product_below_limit.factor }) c.loop-multiplier.out.items = search rules in
    let fits : sum_fits (record { row = (get_or c.args.first.now c.loop-multiplier.multiplier-index none).row; factor = c.in-Some-product_below_limit.factor }) c.loop-multiplier.out.items ≡ true = search rules in
    record {
      told = weigh_next c.args.a c.loop-multiplier.multiplier-index c.args.first.now c.loop-multiplier.out.items c.add.new.out.items none c.in-Some-product_below_limit.factor c.loop-multiplier-test.true f o
          ∙ c.loop-multiplier.invariant.told;
      products = products_next c.args.a c.loop-multiplier.multiplier-index c.args.first.now none c.in-Some-product_below_limit.factor c.product_below_limit.result c.loop-multiplier-test.true c.product_below_limit.ensures c.in-Some-product_below_limit.is
          ∙ c.loop-multiplier.invariant.products;
      sums = sums_next c.args.a c.loop-multiplier.multiplier-index c.args.first.now c.loop-multiplier.out.items c.add.new.out.items none c.in-Some-product_below_limit.factor c.loop-multiplier-test.true f fits o
          ∙ c.loop-multiplier.invariant.sums;
    }
