use Rattle.std.proofs.Common.{take}
use Rattle.control_flow.specs.Instructions.{instruction_at}
use Rattle.point_tables.specs.Numbers.{Pointwise}
use Rattle.flow_graph.specs.Parts.{IsBlockOf}
use Rattle.flow_graph.proofs.parts.blocks_of.Given as goal

abbrev pub invariant-loop-chain : goal.invariant-loop-chain
invariant-loop-chain l = Pointwise (IsBlockOf (instruction_at l.image) l.points l.table l.firsts) (take l.chain-index l.chains) l.blocks
