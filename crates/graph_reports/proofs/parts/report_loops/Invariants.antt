use Rattle.std.proofs.Common.{◌≡◌, ◌++◌, map, drop}
use Rattle.graph_reports.specs.Parts.{loop_in}
use Rattle.graph_reports.proofs.parts.report_loops.Given as goal

abbrev pub invariant-loop-info : goal.invariant-loop-info
invariant-loop-info l = l.found ++ map loop_in (drop l.info-index l.loops) ≡ map loop_in l.loops
