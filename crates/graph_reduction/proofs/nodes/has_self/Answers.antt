use Rattle.std.proofs.Common.{sym, ◌∙◌}
use Rattle.graph_reduction.specs.Nodes.{number_in}
use Rattle.graph_reduction.proofs.TestLemmas.{self_yes, self_no}
use Rattle.graph_reduction.proofs.nodes.has_self.Goals as goal

pub returns-in-Some : goal.returns-in-Some
returns-in-Some c flow b h k =
    self_yes flow (number_in c.args.label.now) (number_in c.args.owner.now) c.args.into.now b h k c.args.x c.number_at-own.result
    c.in-Some.field-0
    c.number_at-own.ensures (sym c.number_at.ensures ∙ c.if-number_at-x.true) c.in-Some.ensures.some

pub returns-in-None : goal.returns-in-None
returns-in-None c flow b h k =
    self_no flow (number_in c.args.label.now) (number_in c.args.owner.now) c.args.into.now b h k c.args.x c.number_at-own.result
    c.number_at-own.ensures c.in-None.ensures.none
