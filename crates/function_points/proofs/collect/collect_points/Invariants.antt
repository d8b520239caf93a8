use Rattle.std.proofs.Common.{◌≤◌, ◌-◌, length}
use Rattle.graph_search.specs.Searches.{Searched}
use Rattle.control_flow.specs.Controls.{calls, control_of}
use Rattle.control_flow.specs.Points.{entry_point}
use Rattle.function_points.specs.Steps.{step_from}
use Rattle.function_points.specs.PointLists.{point_eq, points_at, AreHeld, AreUsed}
use Rattle.function_points.proofs.collect.collect_points.Given as goal

abbrev pub invariant-loop-at : goal.invariant-loop-at
invariant-loop-at l =
    record {
      held : AreHeld l.contexts l.found;
      searched : Searched point_eq (step_from (control_of l.image) (calls l.image) l.entry) (entry_point l.entry) l.at
          (points_at l.contexts l.found);
      used : AreUsed l.contexts (points_at l.contexts l.found);
      within : l.at ≤ length l.found;
      few : length l.found ≤ l.most;
    }

abbrev pub decreases-loop-at : goal.decreases-loop-at
decreases-loop-at l = l.most - l.at
