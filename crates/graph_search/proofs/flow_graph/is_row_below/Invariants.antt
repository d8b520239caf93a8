use Rattle.std.proofs.Common.{◌≡◌, ℕ, true, take, ◌<◌}
use Rattle.std.specs.Prelude.{◌==◌}
use Rattle.std.specs.List.{list_any}
use Rattle.graph_search.proofs.flow_graph.is_row_below.Given as goal

abbrev pub invariant-loop-target : goal.invariant-loop-target
invariant-loop-target l = (h : ℕ) → list_any (λ y. y == h) (take l.target-index l.row) ≡ true → h < l.count
