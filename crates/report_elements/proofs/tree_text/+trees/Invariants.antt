use Rattle.std.proofs.Common.{◌≡◌, ◌++◌, string_bytes, drop}
use Rattle.report_elements.specs.Elements.{spaced, tree_text}
use Rattle.report_elements.proofs.tree_text.+trees.Given as goal

abbrev pub invariant-push_trees-loop-tree : goal.invariant-push_trees-loop-tree
invariant-push_trees-loop-tree l = string_bytes l.out ++ spaced tree_text (drop l.tree-index l.trees) ≡ string_bytes l.fn.out ++ spaced tree_text l.trees
