use Rattle.std.proofs.Common.{◌≡◌, ℕ, length, []}
use Rattle.std.specs.Prelude.{Some, slice_get}
use Rattle.wsym_terms.specs.declared.trees.BlockUses.{BlockUses}
use Rattle.tree_cases.proofs.graphs.leaves.Given as goal

abbrev pub invariant-loop-block : goal.invariant-loop-block
invariant-loop-block l =
    record {
      size : length l.uses.items ≡ l._block;
      none : (b : ℕ) (u : BlockUses) → slice_get l.uses.items b ≡ Some u → u.uses ≡ [];
    }
