use Rattle.std.proofs.Common.{◌≡◌, ℕ, length, nat_eq}
use Rattle.std.specs.Prelude.{◌&&◌, ◌==◌, nat_lt}
use Rattle.std.specs.List.{list_any}
use Rattle.graph_search.specs.NodeLists.{holds}
use Rattle.graph_search.specs.Rows.{row_in}
use Rattle.level_tables.proofs.blocks.blocks_of_loops.Given as goal

abbrev pub invariant-loop-round : goal.invariant-loop-round
invariant-loop-round l =
    record {
      place : l.block ≡ l.round-index;
      size : length l.rows.items ≡ l.levels;
      exact : (c u : ℕ) → holds nat_eq u (row_in l.rows.items c) ≡
          (nat_lt u l.round-index && list_any (λ y. y == c) (row_in l.around u));
    }
