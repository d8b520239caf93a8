use Rattle.std.proofs.Common.{◌≡◌, ℕ, Bool, List, take}
use Rattle.std.specs.Prelude.{Option}
use Rattle.std.specs.List.{AllByRecursion}
use Rattle.elimination_plans.specs.Weights.{Only}
use Rattle.node_elimination.specs.declared.cells.Cell.{Cell}
use Rattle.node_elimination.specs.Cells.{OnceIn, row_joined}
use Rattle.node_elimination.specs.Tables.{Keeps, Gains}
use Rattle.node_elimination.proofs.table.Table.add_row.Given as goal

abbrev pub invariant-loop-out : goal.invariant-loop-out
invariant-loop-out l =
    record {
      keeps : (all : List ℕ) (E : ℕ → ℕ → Option Cell) → Keeps all E l.fn.self → Only l.from all → AllByRecursion (λ x. Only x.0 all) l.outs
          → OnceIn l.outs → Keeps all (row_joined l.from l.into l.node (take l.out-index l.outs) E) l.self;
      leaves : l.self.tally.leaves.items ≡ l.fn.self.tally.leaves.items;
      gains : (live : ℕ → Bool) → Gains live l.fn.self.tally → Gains live l.self.tally;
    }
