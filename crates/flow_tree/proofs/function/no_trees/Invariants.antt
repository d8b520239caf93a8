use Rattle.flow_tree.specs.Descriptions.{AreMade}
use Rattle.flow_tree.proofs.function.no_trees.Given as goal

abbrev pub invariant-loop-loop : goal.invariant-loop-loop
invariant-loop-loop l = AreMade l.tables l.made.items
