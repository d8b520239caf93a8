use Rattle.std.proofs.Common.{◌≡◌, ◌<◌, length, get_or, []}
use Rattle.std.specs.List.{list_any}
use Rattle.control_flow.specs.Controls.{calls}
use Rattle.function_points.proofs.expand.is_recursive.Given as goal

abbrev pub invariant-loop-parent : goal.invariant-loop-parent
invariant-loop-parent l =
    record {
      within : l.at < length l.contexts;
      same : list_any (λ r. calls l.image r l.target) (get_or l.contexts l.at []) ≡ list_any (λ r. calls l.image r l.target)
          (get_or l.contexts l.context []);
    }

abbrev pub decreases-loop-parent : goal.decreases-loop-parent
decreases-loop-parent l = l.at
