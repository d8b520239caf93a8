use Rattle.std.proofs.Common.{◌≡◌, ◌∷◌, take, map}
use Rattle.flow_graph.specs.Parts.{row_context}
use Rattle.flow_graph.proofs.PartLemmas.{first_context}
use Rattle.flow_graph.proofs.parts.contexts_of.Given as goal

abbrev pub invariant-loop-row : goal.invariant-loop-row
invariant-loop-row l = l.out ≡ first_context ∷ map row_context (take l.row-index l.rows)
