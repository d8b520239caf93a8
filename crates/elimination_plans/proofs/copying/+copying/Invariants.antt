use Rattle.std.proofs.Common.{◌≡◌, take}
use Rattle.elimination_plans.proofs.copying.+copying.Given as goal

abbrev pub invariant-copies-loop-tree : goal.invariant-copies-loop-tree
invariant-copies-loop-tree l = l.made ≡ take l.tree-index l.trees
