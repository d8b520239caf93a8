use Rattle.std.proofs.Common.{List, map, sym, subst}
use Rattle.std.proofs.lemmas.Result.{IfOk-weaker}
use Rattle.cost_multiset.specs.CostLists.{CostList}
use Rattle.wsym_formula.specs.Tables.{meaning_at}
use Rattle.simplifier.specs.Normal.{constants}
use Rattle.simplifier.specs.Simplified.{IsSummed, IsJointly}
use Rattle.simplifier.proofs.Joining.{ok_sum_of_one, whole}
use Rattle.simplifier.proofs.constants.+sums.Goals as goal

pub returns-in-len1 : goal.returns-in-len1
returns-in-len1 t c = ok_sum_of_one c.copied_at.result (meaning_at c.args.table.now) c.args.parts.now 0 c.in-len1.len_at_least c.in-len1.len_below c.copied_at.ensures.same c.copied_at.ensures.down

pub returns-in_ok-right-in_default : goal.returns-in_ok-right-in_default
returns-in_ok-right-in_default t c = IfOk-weaker c.join_sums.result _ _
    (λ o h. subst (λ (l : List CostList). IsJointly IsSummed l o) (sym (whole (meaning_at c.args.table.now) c.args.parts.now c.halves.result.0.now c.halves.result.1.now c.halves.ensures.whole))
    (h (constants (map (meaning_at c.args.table.now) c.halves.result.0.now)) (constants (map (meaning_at c.args.table.now) c.halves.result.1.now)) c.in_ok-left-in_default.ensures c.in_ok-right-in_default.ensures)) c.join_sums.ensures
