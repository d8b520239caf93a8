use Rattle.std.proofs.Common.{ap, ◌∙◌, ◌∷◌, map}
use Rattle.std.proofs.lemmas.List.{take_all}
use Rattle.flow_graph.specs.Parts.{row_context}
use Rattle.flow_graph.proofs.PartLemmas.{contexts_are, first_context}
use Rattle.flow_graph.proofs.parts.contexts_of.Goals as goal

pub returns : goal.returns
returns c =
    contexts_are c.args.contexts.now c.rows-rows.result.now c.loop-row.out
    (c.loop-row.invariant
    ∙ ap (λ zs. first_context ∷ map row_context zs) (take_all c.loop-row.row-index c.rows-rows.result.now c.loop-row-test.false))
    c.rows-rows.ensures.lists c.rows-rows.ensures.exact
