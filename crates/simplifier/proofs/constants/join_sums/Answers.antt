use Rattle.std.proofs.Common.{Option, subst}
use Rattle.cost_multiset.specs.CostLists.{CostList}
use Rattle.simplifier.specs.Simplified.{IsSummed, IsJointly}
use Rattle.simplifier.proofs.Joining.{sums_join}
use Rattle.simplifier.proofs.constants.join_sums.Goals as goal

pub returns : goal.returns
returns c = λ xs ys p q. sums_join xs ys c.in-Some.front c.in-Some-right.back c.in_ok-costs.costs c.in_ok-costs.ensures.places c.in_ok-costs.ensures.length
    (subst (λ (o : Option CostList). IsJointly IsSummed xs o) c.in-Some.is p) (subst (λ (o : Option CostList). IsJointly IsSummed ys o) c.in-Some-right.is q)
