use Rattle.std.proofs.Common.{◌≡◌, take}
use Rattle.wsym_terms.specs.Trees.{sizes_of}
use Rattle.wsym_terms.proofs.trees.+sizes.Given as goal

abbrev pub invariant-sizes-loop-tree : goal.invariant-sizes-loop-tree
invariant-sizes-loop-tree l = l.total ≡ sizes_of (take l.tree-index l.trees)
