use Rattle.std.proofs.Common.{subst, sym, ℕ}
use Rattle.std.specs.Prelude.{Option, None}
use Rattle.flow_graph.specs.Parts.{IsBlockAt}
use Rattle.flow_graph.proofs.PartLemmas.{number_nowhere}
use Rattle.flow_graph.proofs.parts.block_at.Goals as goal

pub returns-in-Err : goal.returns-in-Err
returns-in-Err c =
    subst (λ (o : Option ℕ). IsBlockAt c.args.firsts.now o None) (sym c.in-Some.is)
    (number_nowhere c.args.firsts.now c.in-Some.number c.in-Err.field-0 c.requires.rising c.in-Err.ensures.position)
