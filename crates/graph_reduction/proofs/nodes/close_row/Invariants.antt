use Rattle.std.proofs.Common.{◌≡◌, ℕ, true, false, length}
use Rattle.std.specs.Prelude.{◌&&◌, ◌==◌}
use Rattle.graph_reduction.specs.Sets.{in_set}
use Rattle.graph_reduction.proofs.nodes.close_row.Given as goal

abbrev pub invariant-loop-source : goal.invariant-loop-source
invariant-loop-source l =
    record {
      less : (x n u : ℕ) → in_set l.into x n u ≡ true → in_set l.fn.into x n u ≡ true;
      others : (x n u : ℕ) → ((x == l.target) && (n == l.node)) ≡ false → in_set l.into x n u ≡ in_set l.fn.into x n u;
    }

abbrev pub decreases-loop-source : goal.decreases-loop-source
decreases-loop-source l = length l.into.keys
