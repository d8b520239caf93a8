use Rattle.std.proofs.Common.{length, ◌-◌, ◌≤◌}
use Rattle.flow_graph.specs.Graphs.{returns_in}
use Rattle.function_frames.specs.Points.{AreSitesTo}
use Rattle.function_frames.proofs.points.sites_of.Given as goal

abbrev pub invariant-loop-at : goal.invariant-loop-at
invariant-loop-at l = record {
  within : l.at ≤ length l.points;
  made : AreSitesTo l.image (returns_in l.contexts) l.points l.table l.at l.sites.items;
}

abbrev pub decreases-loop-at : goal.decreases-loop-at
decreases-loop-at l = length l.points - l.at
