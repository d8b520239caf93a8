use Rattle.std.proofs.Common.{subst}
use Rattle.fact_lattice.specs.Flows.{Flow, IsLostAt}
use Rattle.copy_facts.specs.Points.{flow_of}
use Rattle.copy_facts.proofs.FlowLemmas.{regular}
use Rattle.copy_facts.proofs.FrameLemmas.{flow_same, lost_refused, stop_lost}
use Rattle.copy_facts.proofs.following.solved.Goals as goal

pub solve-requires-clause-regular : goal.solve-requires-clause-regular
solve-requires-clause-regular c = regular c.in-Ok.table.stack c.in-Ok.table.start c.in-Ok.table.sites.now

pub returns-clause-refused : goal.returns-clause-refused
returns-clause-refused c image entry ps a =
    let t = c.in-Ok.table in
    let same = c.in-Ok.ensures.same in
    lost_refused image entry c.args.stack c.args.start ps c.args.sites.now a c.in-Err-Lost.point c.address_of.result
    (subst (λ (f : Flow). IsLostAt f c.in-Err-Lost.point)
    (flow_same t.stack c.args.stack t.start c.args.start t.sites.now c.args.sites.now same.0 same.1 same.2)
    (stop_lost (flow_of t.stack t.start t.sites.now) c.in-Err-Lost.field-0 c.in-Err-Lost.point c.in-Err-Lost.field-0-is
    c.in-Err-Lost.ensures.stop))
    c.address_of.ensures
