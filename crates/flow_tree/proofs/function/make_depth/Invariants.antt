use Rattle.flow_tree.specs.Descriptions.{AreLarge, AreMade}
use Rattle.flow_tree.proofs.function.make_depth.Given as goal

abbrev pub invariant-loop-info : goal.invariant-loop-info
invariant-loop-info l = record { made : AreMade l.tables l.trees.items; past : AreLarge l.tables l.large }
