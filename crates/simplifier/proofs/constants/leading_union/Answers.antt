use Rattle.std.proofs.Common.{rules, ◌≡◌, ◌^◌, nat_lt, true, Option, List, map, subst}
use Rattle.cost_multiset.specs.CostLists.{CostList}
use Rattle.wsym_formula.specs.Tables.{meaning_at}
use Rattle.simplifier.specs.Normal.{all_places, constants}
use Rattle.simplifier.specs.Simplified.{IsUnited, IsJointly}
use Rattle.simplifier.proofs.Joining.{union_leads}
use Rattle.simplifier.proofs.constants.leading_union.Goals as goal

pub returns-in-Some : goal.returns-in-Some
returns-in-Some c =
    let lists : List CostList = constants (map (meaning_at c.args.table.now) c.args.parts.now) in
    let few : nat_lt (all_places lists) (2 ^ 63) ≡ true = search rules in
    union_leads lists c.in-Some.costs c.is_its_places.ensures (subst (λ (o : Option CostList). IsJointly IsUnited lists o) c.in-Some.is c.in_ok-costs.ensures) few
