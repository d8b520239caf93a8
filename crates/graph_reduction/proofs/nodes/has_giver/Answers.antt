use Rattle.std.proofs.Common.{refl, sym, ap, ◌∙◌}
use Rattle.std.specs.Prelude.{Some, None}
use Rattle.graph_reduction.specs.Nodes.{number_in, state_of}
use Rattle.graph_reduction.proofs.TestLemmas.{labelled, holds_open, giver_yes, giver_no}
use Rattle.graph_reduction.proofs.nodes.has_giver.Goals as goal

pub returns-in-Some : goal.returns-in-Some
returns-in-Some c flow b e h k =
    let label = number_in c.args.label.now in
    let owner = number_in c.args.owner.now in
    let top = sym c.number_at.ensures ∙ c.if-number_at-x.true in
    giver_yes flow label owner c.args.into.now b h k c.args.x c.number_at-own.result c.in-Some.field-0 c.args.entry
    (Some c.in-Some.field-0) refl e
    c.number_at-own.ensures top
    (λ q. c.if-number_at-x-2.false (c.number_at-then-number_at-x.ensures ∙ (ap owner c.number_at-first.ensures ∙ q)))
    (c.in-Some.ensures flow (state_of flow label owner c.args.into.now) label owner (labelled flow label owner c.args.into.now b h k)
    (holds_open flow label owner c.args.into.now b h k)
    (ap owner (sym c.number_at-own.ensures) ∙ top) (sym c.number_at-own.ensures))

pub returns-in-None : goal.returns-in-None
returns-in-None c flow b e h k =
    let label = number_in c.args.label.now in
    let owner = number_in c.args.owner.now in
    let top = sym c.number_at.ensures ∙ c.if-number_at-x.true in
    giver_no flow label owner c.args.into.now b h k c.args.x None refl
    (c.in-None.ensures flow (state_of flow label owner c.args.into.now) label owner (labelled flow label owner c.args.into.now b h k)
    (holds_open flow label owner c.args.into.now b h k)
    (ap owner (sym c.number_at-own.ensures) ∙ top) (sym c.number_at-own.ensures))
