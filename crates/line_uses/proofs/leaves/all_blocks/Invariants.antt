use Rattle.std.proofs.Common.{◌≡◌, ◌++◌, drop}
use Rattle.std.specs.Prelude.{map}
use Rattle.line_uses.specs.Leaves.{leaf_of}
use Rattle.line_uses.proofs.leaves.all_blocks.Given as goal

abbrev pub invariant-loop-block : goal.invariant-loop-block
invariant-loop-block l = l.found ++ map (leaf_of l.miss l.costs l.tables l.scopes) (drop l.block-index l.blocks) ≡ map
    (leaf_of l.miss l.costs l.tables l.scopes) l.blocks
