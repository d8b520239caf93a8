use Rattle.std.proofs.Common.{Option, List, map, sym, subst, ◌∙◌}
use Rattle.cost_multiset.specs.CostLists.{CostList}
use Rattle.wsym_formula.specs.Tables.{meaning_at}
use Rattle.simplifier.specs.Normal.{constants}
use Rattle.simplifier.specs.Simplified.{IsSummed, IsJointly}
use Rattle.simplifier.proofs.Joining.{sum_beyond, sum_counted}
use Rattle.simplifier.proofs.constants.leading_sum.Goals as goal

pub returns-then-is_counted : goal.returns-then-is_counted
returns-then-is_counted c =
    let lists : List CostList = constants (map (meaning_at c.args.table.now) c.args.parts.now) in
    sum_counted lists c.in-Some.costs c.is_its_places.ensures (subst (λ (o : Option CostList). IsJointly IsSummed lists o) c.in-Some.is c.in_ok-costs.ensures) (sym c.is_counted.ensures ∙ c.if-is_counted.true)

pub returns-else-is_counted : goal.returns-else-is_counted
returns-else-is_counted c =
    let lists : List CostList = constants (map (meaning_at c.args.table.now) c.args.parts.now) in
    sum_beyond lists c.in-Some.costs c.is_its_places.ensures (subst (λ (o : Option CostList). IsJointly IsSummed lists o) c.in-Some.is c.in_ok-costs.ensures) (sym c.is_counted.ensures ∙ c.if-is_counted.false)
