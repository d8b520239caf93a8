use Rattle.std.proofs.Common.{length}
use Rattle.std.specs.Prelude.{◌↔◌}
use Rattle.linear_rows.specs.Terms.{IsCollected}
use Rattle.linear_rows.proofs.forms.Form.is_collected.Given as goal

abbrev pub invariant-loop-term : goal.invariant-loop-term
invariant-loop-term l = IsCollected l.left ↔ IsCollected l.fn.self.terms

abbrev pub decreases-loop-term : goal.decreases-loop-term
decreases-loop-term l = length l.left
