use Rattle.std.proofs.Common.{◌≡◌, take, map}
use Rattle.flow_graph.specs.Parts.{first_number}
use Rattle.flow_graph.proofs.parts.firsts_of.Given as goal

abbrev pub invariant-loop-chain : goal.invariant-loop-chain
invariant-loop-chain l = l.firsts ≡ map first_number (take l.chain-index l.chains)
