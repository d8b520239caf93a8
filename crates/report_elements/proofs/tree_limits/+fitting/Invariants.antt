use Rattle.std.proofs.Common.{◌≡◌, drop, map}
use Rattle.report_elements.specs.TreeReading.{all_fit, fits}
use Rattle.report_elements.proofs.tree_limits.+fitting.Given as goal

abbrev pub invariant-trees_fit-loop-tree : goal.invariant-trees_fit-loop-tree
invariant-trees_fit-loop-tree l = all_fit (map (fits l.blocks l.loops) (drop l.tree-index l.trees)) l.room ≡ all_fit (map (fits l.blocks l.loops) l.trees) l.room
