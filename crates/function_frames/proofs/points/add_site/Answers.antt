use Rattle.std.proofs.Common.{refl, sym, ◌∙◌}
use Rattle.flow_graph.proofs.PartLemmas.{fetched_insn}
use Rattle.function_frames.proofs.points.add_site.Goals as goal

pub returns-in_ok-push-in-Ok : goal.returns-in_ok-push-in-Ok
returns-in_ok-push-in-Ok c = (
  record {
    address = c.args.point.1;
    insn = c.in-Ok.insn;
    literal = c.literal_of-literal.result;
    home = c.home_of-home.result;
    targets = c.args.targets;
  },
  record {
    address = refl;
    insn = fetched_insn c.args.image.now c.args.point.1 c.in-Ok.insn (sym c.fetch.ensures.exact ∙ c.in-Ok.is);
    literal = c.literal_of-literal.ensures;
    home = c.home_of-home.ensures;
  },
  refl,
  c.in_ok-push-in-Ok.ensures.items,
)
