use Rattle.std.proofs.Common.{◌≡◌, ℕ, take}
use Rattle.graph_reduction.specs.ClosingEdges.{closings_added}
use Rattle.graph_reduction.specs.Sets.{in_set}
use Rattle.graph_reduction.proofs.closers.add_closings.Given as goal

abbrev pub invariant-loop-target : goal.invariant-loop-target
invariant-loop-target l = (h u z : ℕ) → in_set l.closing h u z ≡ closings_added (take l.target-index l.row)
    (λ t. in_set l.into t l.node l.block) l.block (in_set l.fn.closing) h u z
