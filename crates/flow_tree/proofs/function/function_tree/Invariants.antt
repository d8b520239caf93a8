use Rattle.flow_tree.specs.Descriptions.{AreLarge, AreMade}
use Rattle.flow_tree.proofs.function.function_tree.Given as goal

abbrev pub invariant-loop-step : goal.invariant-loop-step
invariant-loop-step l = record { made : AreMade l.tables l.trees.items; past : AreLarge l.tables l.large }
