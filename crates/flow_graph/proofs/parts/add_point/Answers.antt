use Rattle.std.proofs.Common.{sym, ◌∙◌}
use Rattle.flow_graph.proofs.PartLemmas.{fetched_insn, fetched_none}
use Rattle.flow_graph.proofs.parts.add_point.Goals as goal

pub returns-in_ok-push-in-Ok : goal.returns-in_ok-push-in-Ok
returns-in_ok-push-in-Ok c = (
  c.in-Ok.insn,
  fetched_insn c.args.image.now c.args.address c.in-Ok.insn (sym c.fetch.ensures.exact ∙ c.in-Ok.is),
  c.in_ok-push-in-Ok.ensures.ok,
)

pub returns-in-Err : goal.returns-in-Err
returns-in-Err c = absurd (c.requires (fetched_none c.args.image.now c.args.address c.in-Err.field-0
    (sym c.fetch.ensures.exact ∙ c.in-Err.is)))
