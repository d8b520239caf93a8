use Rattle.std.proofs.Common.{map, take}
use Rattle.wsym_formula.specs.Placing.{ArePlaced}
use Rattle.wsym_formula.specs.Tables.{Extends}
use Rattle.wsym_formula.specs.Trees.{shape_of}
use Rattle.wsym_formula.proofs.trees.+members.Given as goal

abbrev pub invariant-add_members-loop-tree : goal.invariant-add_members-loop-tree
invariant-add_members-loop-tree l = record {
  extends : Extends l.fn.table l.table;
  placed : ArePlaced l.table (map (shape_of l.miss) (take l.tree-index l.trees)) l.depth l.numbers l.scope;
}
