use Rattle.std.proofs.Common.{◌≡◌, ℕ, Bool, List, length}
use Rattle.std.specs.Prelude.{Option}
use Rattle.node_elimination.specs.declared.cells.Cell.{Cell}
use Rattle.node_elimination.specs.Cells.{AreIn}
use Rattle.node_elimination.specs.Tables.{Keeps, Gains}
use Rattle.node_elimination.proofs.NodeEdgeLemmas.{InSoFar}
use Rattle.node_elimination.proofs.table.Table.pull_in.Given as goal

abbrev pub invariant-loop-from : goal.invariant-loop-from
invariant-loop-from l =
    record {
      keeps : (all : List ℕ) (E : ℕ → ℕ → Option Cell) → Keeps all E l.fn.self → AreIn all E → InSoFar all E l.node l.list.items l.self;
      leaves : l.self.tally.leaves.items ≡ l.fn.self.tally.leaves.items;
      gains : (live : ℕ → Bool) → Gains live l.fn.self.tally → Gains live l.self.tally;
    }

abbrev pub decreases-loop-from : goal.decreases-loop-from
decreases-loop-from l = length l.self.links.keys
