use Rattle.std.proofs.Common.{◌≡◌, ℕ, length, take, nat_eq}
use Rattle.std.specs.Prelude.{◌||◌, ◌&&◌, ◌==◌}
use Rattle.std.specs.List.{list_any}
use Rattle.graph_search.specs.NodeLists.{holds}
use Rattle.graph_search.specs.Rows.{row_in}
use Rattle.graph_search.proofs.rows.add_source.Given as goal

abbrev pub invariant-loop-target : goal.invariant-loop-target
invariant-loop-target l =
    record {
      size : length l.rows.items ≡ length l.fn.rows.items;
      there : (q u : ℕ) → holds nat_eq u (row_in l.rows.items q) ≡
          ((list_any (λ y. y == q) (take l.target-index l.targets) && nat_eq u l.source) || holds nat_eq u
          (row_in l.fn.rows.items q));
    }
