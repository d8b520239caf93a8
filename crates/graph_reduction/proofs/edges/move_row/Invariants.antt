use Rattle.std.proofs.Common.{◌≡◌, ℕ, take}
use Rattle.graph_reduction.specs.Sets.{in_set, row_moved}
use Rattle.graph_reduction.proofs.edges.move_row.Given as goal

abbrev pub invariant-loop-target : goal.invariant-loop-target
invariant-loop-target l = (x n w : ℕ) → in_set l.into x n w ≡ row_moved (take l.target-index l.row) l.source l.from l.to
    (in_set l.fn.into) x n w
