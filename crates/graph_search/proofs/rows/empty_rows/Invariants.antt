use Rattle.std.proofs.Common.{◌≡◌, ℕ, [], length}
use Rattle.graph_search.specs.Rows.{row_in}
use Rattle.graph_search.proofs.rows.empty_rows.Given as goal

abbrev pub invariant-loop-made : goal.invariant-loop-made
invariant-loop-made l = record { size : length l.rows.items ≡ l._made; empty : (q : ℕ) → row_in l.rows.items q ≡ [] }
