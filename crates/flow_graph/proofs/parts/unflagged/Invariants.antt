use Rattle.std.proofs.Common.{◌≤◌, ◌-◌}
use Rattle.basic_blocks.specs.Chains.{is_flagged}
use Rattle.flow_graph.specs.Parts.{AreUnflagged}
use Rattle.flow_graph.proofs.parts.unflagged.Given as goal

abbrev pub invariant-loop-at : goal.invariant-loop-at
invariant-loop-at l =
    record {
      within : l.at ≤ l.count;
      numbers : AreUnflagged l.at (is_flagged l.flags) l.numbers;
    }

abbrev pub decreases-loop-at : goal.decreases-loop-at
decreases-loop-at l = l.count - l.at
