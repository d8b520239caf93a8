use Rattle.std.proofs.Common.{◌≡◌, ◌≤◌, min, take}
use Rattle.wsym_terms.specs.Trees.{sizes_of}
use Rattle.report_elements.proofs.sizes.+sizes.Given as goal

abbrev pub invariant-trees_size-loop-tree : goal.invariant-trees_size-loop-tree
invariant-trees_size-loop-tree l = (l.total ≡ min (sizes_of (take l.tree-index l.trees)) l.limit) × (l.total ≤ l.limit)
