use Rattle.std.proofs.Common.{◌≡◌, ℕ, Bool, List, length}
use Rattle.std.specs.Prelude.{Option}
use Rattle.node_elimination.specs.declared.cells.Cell.{Cell}
use Rattle.node_elimination.specs.Cells.{AreIn}
use Rattle.node_elimination.specs.Tables.{Keeps, Gains}
use Rattle.node_elimination.proofs.NodeEdgeLemmas.{OutSoFar}
use Rattle.node_elimination.proofs.table.Table.pull_out.Given as goal

abbrev pub invariant-loop-to : goal.invariant-loop-to
invariant-loop-to l =
    record {
      keeps : (all : List ℕ) (E : ℕ → ℕ → Option Cell) → Keeps all E l.fn.self → AreIn all E → OutSoFar all E l.node l.list.items l.self;
      leaves : l.self.tally.leaves.items ≡ l.fn.self.tally.leaves.items;
      gains : (live : ℕ → Bool) → Gains live l.fn.self.tally → Gains live l.self.tally;
    }

abbrev pub decreases-loop-to : goal.decreases-loop-to
decreases-loop-to l = length l.self.links.keys
