use Rattle.std.proofs.Common.{◌≡◌, ℕ, length, take, nat_eq}
use Rattle.std.specs.Prelude.{◌||◌, ◌&&◌, ◌==◌}
use Rattle.std.specs.List.{list_any}
use Rattle.graph_search.specs.NodeLists.{holds}
use Rattle.graph_search.specs.Rows.{row_in}
use Rattle.level_tables.proofs.blocks.add_to_loops.Given as goal

abbrev pub invariant-loop-number : goal.invariant-loop-number
invariant-loop-number l =
    record {
      size : length l.rows.items ≡ length l.fn.rows.items;
      there : (q u : ℕ) → holds nat_eq u (row_in l.rows.items q) ≡
          ((list_any (λ y. y == q) (take l.number-index l.round) && nat_eq u l.block) || holds nat_eq u
          (row_in l.fn.rows.items q));
    }
