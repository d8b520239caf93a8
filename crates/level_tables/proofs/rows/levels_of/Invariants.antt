use Rattle.std.proofs.Common.{◌≡◌, ℕ, length}
use Rattle.std.specs.Prelude.{Some, slice_get}
use Rattle.flow_tree.specs.declared.tables.LevelRows.{LevelRows}
use Rattle.level_tables.specs.LevelRows.{IsLevelIn}
use Rattle.level_tables.proofs.rows.levels_of.Given as goal

abbrev pub invariant-loop-row : goal.invariant-loop-row
invariant-loop-row g l =
    record {
      place : l.level ≡ l.row-index;
      size : length l.levels.items ≡ l.row-index;
      some : (c : ℕ) (r : LevelRows) → slice_get l.levels.items c ≡ Some r → IsLevelIn (g.G.FlowGraph.flow l.graph) l.nest c r;
    }
