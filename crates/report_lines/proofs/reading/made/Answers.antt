use Rattle.std.proofs.Common.{ℤ, rules, ◌≡◌, true, false, Bool, IfOk, Option, Some, None, sym, ap, ◌∙◌, subst, if◌then◌else◌, neg_ℤ}
use Rattle.std.specs.Int.{w128}
use mir.Val.{to_z, of_z}
use Rattle.linear_rows.specs.Rows.{Inequality}
use Rattle.linear_rows.specs.Terms.{IsCollected}
use Rattle.linear_rows.specs.NormalForm.{row_of}
use Rattle.report_lines.specs.Reading.{collected, row_with}
use Rattle.report_lines.proofs.CollectedLaws.{collected_is, collected_true, made_row, made_none}
use Rattle.report_lines.proofs.reading.made.Goals as goal

pub returns-then-is_collected : goal.returns-then-is_collected
returns-then-is_collected c =
    let z : to_z w128 (of_z w128 c.negative.result) ≡ c.negative.result = search rules in
    let y : to_z w128 (of_z w128 c.args.constant) ≡ c.args.constant = search rules in
    let is : IsCollected c.args.terms = search rules in
    made_row c.args.constant c.args.terms c.make.result is (subst (λ (z : ℤ). IfOk c.make.result (λ o. o ≡ row_of (record { terms = c.args.terms; constant = z }))) (z ∙ c.negative.ensures ∙ ap neg_ℤ y) c.make.ensures.exact)

pub returns : goal.returns
returns c = made_none c.args.constant c.args.terms (search rules)
