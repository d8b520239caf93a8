use Rattle.std.proofs.Common.{Option, subst}
use Rattle.cost_multiset.specs.CostLists.{CostList}
use Rattle.simplifier.specs.Simplified.{IsUnited, IsJointly}
use Rattle.simplifier.proofs.Joining.{unions_join}
use Rattle.simplifier.proofs.constants.join_unions.Goals as goal

pub returns : goal.returns
returns c = λ xs ys p q. unions_join xs ys c.in-Some.front c.in-Some-right.back c.in_ok-costs.costs c.in_ok-costs.ensures.places c.in_ok-costs.ensures.length
    (subst (λ (o : Option CostList). IsJointly IsUnited xs o) c.in-Some.is p) (subst (λ (o : Option CostList). IsJointly IsUnited ys o) c.in-Some-right.is q)
