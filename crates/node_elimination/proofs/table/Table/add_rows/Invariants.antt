use Rattle.std.proofs.Common.{◌≡◌, ℕ, Bool, List, take}
use Rattle.std.specs.Prelude.{Option}
use Rattle.std.specs.List.{AllByRecursion}
use Rattle.elimination_plans.specs.Weights.{Only}
use Rattle.node_elimination.specs.declared.cells.Cell.{Cell}
use Rattle.node_elimination.specs.Cells.{OnceIn, all_joined}
use Rattle.node_elimination.specs.Tables.{Keeps, Gains}
use Rattle.node_elimination.proofs.table.Table.add_rows.Given as goal

abbrev pub invariant-loop-from : goal.invariant-loop-from
invariant-loop-from l =
    record {
      keeps : (all : List ℕ) (E : ℕ → ℕ → Option Cell) → Keeps all E l.fn.self → AllByRecursion (λ x. Only x.0 all) l.ins → OnceIn l.ins
          → AllByRecursion (λ x. Only x.0 all) l.outs → OnceIn l.outs → Keeps all (all_joined (take l.from-index l.ins) l.node l.outs E)
          l.self;
      leaves : l.self.tally.leaves.items ≡ l.fn.self.tally.leaves.items;
      gains : (live : ℕ → Bool) → Gains live l.fn.self.tally → Gains live l.self.tally;
    }
