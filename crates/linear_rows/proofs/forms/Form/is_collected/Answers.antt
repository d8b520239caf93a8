use Rattle.std.proofs.Common.{rules, ◌≢◌, pos}
use Rattle.linear_rows.specs.Terms.{ComesBefore}
use Rattle.linear_rows.proofs.TermLists.{rest_collected}
use Rattle.linear_rows.proofs.forms.Form.is_collected.Goals as goal

pub loop-term-preserved : goal.loop-term-preserved
loop-term-preserved c =
    let factor : c.in-Some.term.now.factor ≢ pos 0 = search rules in
    let before : ComesBefore c.in-Some.term.now c.in-Some.rest.now = search rules in
    rest_collected c.in-Some.term.now c.in-Some.rest.now c.loop-term.left.now c.in-Some.ensures.cases.0 factor before c.loop-term.invariant
