use Rattle.std.proofs.Common.{◌≡◌, ◌+◌, length, ◌++◌}
use Rattle.linear_rows.specs.Terms.{IsAscending}
use Rattle.linear_rows.specs.Forms.{weighted_terms, terms_stay_small}
use Rattle.linear_rows.specs.Steps.{signed}
use Rattle.linear_rows.proofs.weighing.weigh.Given as goal

abbrev pub invariant-loop-first : goal.invariant-loop-first
invariant-loop-first l =
    let a = signed l.a.is_negative l.a.magnitude in
    let b = signed l.b.is_negative l.b.magnitude in
    record {
      told : l.out ++ weighted_terms a l.left b l.right ≡ weighted_terms a l.fn.xs b l.fn.ys;
      small : terms_stay_small a l.left b l.right ≡ terms_stay_small a l.fn.xs b l.fn.ys;
      left_ascends : IsAscending l.left;
      right_ascends : IsAscending l.right;
    }

abbrev pub decreases-loop-first : goal.decreases-loop-first
decreases-loop-first l = length l.left + length l.right
