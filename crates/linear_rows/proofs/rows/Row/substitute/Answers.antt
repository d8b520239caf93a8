use Rattle.std.proofs.Common.{rules, ◌≡◌, sym, ◌∙◌, subst, ap, List, to_z, of_z, FitsSigned}
use Rattle.std.specs.Int.{w128}
use Rattle.std.proofs.lemmas.Int.{to_z-of_z}
use Rattle.std.specs.Prelude.{◌↔◌}
use Rattle.linear_rows.specs.declared.rows.RowTerm.{RowTerm}
use Rattle.linear_rows.specs.Combinations.{substituted}
use Rattle.linear_rows.specs.Rows.{Inequality, Valuation, Holds, changed}
use Rattle.linear_rows.specs.Terms.{IsAscending, without_var}
use Rattle.linear_rows.specs.Forms.{value_at}
use Rattle.linear_rows.specs.Steps.{signed}
use Rattle.linear_rows.proofs.TermLists.{IsAscending-without_var}
use Rattle.linear_rows.proofs.Combining.{substituted_holds}
use Rattle.linear_rows.proofs.Making.{substituted_row, given, all_valuations}
use Rattle.linear_rows.proofs.rows.Row.substitute.Goals as goal

pub weighted-requires-clause-first : goal.weighted-requires-clause-first
weighted-requires-clause-first c =
    let others : c.as_slice-xs.result.now ≡ without_var c.args.var c.self.inside.terms =
    c.as_slice-xs.ensures ∙ c.in_ok-others.ensures ∙ ap (without_var c.args.var) c.as_slice-terms.ensures in
    subst (λ (ts : List RowTerm). IsAscending ts) (sym others) (IsAscending-without_var c.args.var c.self.inside.terms c.self.invariant.ascending)

pub returns-clause-exact : goal.returns-clause-exact
returns-clause-exact c =
    substituted_row c.args.self.now c.args.var c.args.form.now
    (signed c.times.result.is_negative c.times.result.magnitude) (to_z w128 (of_z w128 c.form_constant-m.result))
    (signed c.signed.result.is_negative c.signed.result.magnitude) (to_z w128 (of_z w128 c.args.form.now.constant))
    c.as_slice-xs.result.now c.as_slice-ys.result.now c.weighted.result
    (search rules) (search rules) (search rules) (search rules)
    (to_z-of_z w128 c.form_constant-m.result (record { sfits = c.form_constant-m.type_inv }) ∙ c.form_constant-m.ensures)
    (let fits : FitsSigned w128 c.args.form.now.constant = search rules in to_z-of_z w128 c.args.form.now.constant fits)
    c.weighted.ensures

pub returns-clause-holds : goal.returns-clause-holds
returns-clause-holds c =
    let row : Inequality = c.args.self.now in
    given (λ new. (v : Valuation) → Holds v new ↔ Holds (changed v c.args.var (value_at v c.args.form.now)) row)
    (substituted row c.args.var c.args.form.now) c.weighted.result
    (all_valuations (λ v new. Holds v new ↔ Holds (changed v c.args.var (value_at v c.args.form.now)) row)
    (substituted row c.args.var c.args.form.now)
    (λ v. substituted_holds v row c.args.var c.args.form.now (search rules)))
    (returns-clause-exact c)
