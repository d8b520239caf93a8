use Rattle.std.proofs.Common.{◌≡◌, ◌-◌, map, length, drop}
use Rattle.function_points.specs.Contexts.{lists_from}
use Rattle.flow_graph.specs.Graphs.{context_row, returns_in}
use Rattle.graph_reports.proofs.parts.lists_of.Given as goal

abbrev pub decreases-loop-at : goal.decreases-loop-at
decreases-loop-at l = length l.contexts - l.at

abbrev pub invariant-loop-at : goal.invariant-loop-at
invariant-loop-at l = lists_from l.lists (map context_row (drop l.at l.contexts)) ≡ returns_in l.contexts
