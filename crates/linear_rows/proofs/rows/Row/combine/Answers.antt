use Rattle.std.proofs.Common.{rules, ◌≤ℤ◌, ◌+ℤ◌, ◌*ℤ◌, pos, ◌∙◌, to_z, of_z}
use Rattle.std.specs.Int.{w128}
use Rattle.std.proofs.lemmas.Int.{to_z-of_z}
use Rattle.std.specs.Prelude.{◌↔◌}
use Rattle.linear_rows.specs.Combinations.{combined, IsCombination}
use Rattle.linear_rows.specs.Rows.{Inequality, Valuation, Holds, sum_at}
use Rattle.linear_rows.specs.Steps.{signed}
use Rattle.linear_rows.proofs.Combining.{combined_holds, sound_at}
use Rattle.linear_rows.proofs.Making.{combined_row, given, all_valuations}
use Rattle.linear_rows.proofs.rows.Row.combine.Goals as goal

pub returns-clause-exact : goal.returns-clause-exact
returns-clause-exact c =
    combined_row c.args.self.now c.args.other.now c.args.mine c.args.theirs
    (signed c.times-a.result.is_negative c.times-a.result.magnitude) (to_z w128 (of_z w128 c.form_constant-m.result))
    (signed c.times-b.result.is_negative c.times-b.result.magnitude) (to_z w128 (of_z w128 c.form_constant-n.result))
    c.as_slice-first.result.now c.as_slice-second.result.now c.weighted.result
    (search rules) (search rules) (search rules) (search rules)
    (to_z-of_z w128 c.form_constant-m.result (record { sfits = c.form_constant-m.type_inv }) ∙ c.form_constant-m.ensures)
    (to_z-of_z w128 c.form_constant-n.result (record { sfits = c.form_constant-n.type_inv }) ∙ c.form_constant-n.ensures)
    c.weighted.ensures

pub returns-clause-holds : goal.returns-clause-holds
returns-clause-holds c =
    let row : Inequality = c.args.self.now in
    let other : Inequality = c.args.other.now in
    given (IsCombination row c.args.mine other c.args.theirs) (combined row c.args.mine other c.args.theirs) c.weighted.result
    (all_valuations (λ v new. Holds v new ↔
    (((pos c.args.mine *ℤ sum_at v row.terms) +ℤ (pos c.args.theirs *ℤ sum_at v other.terms)) ≤ℤ ((pos c.args.mine *ℤ row.constant) +ℤ (pos c.args.theirs *ℤ other.constant))))
    (combined row c.args.mine other c.args.theirs) (λ v. combined_holds v row other c.args.mine c.args.theirs))
    (returns-clause-exact c)

pub returns-clause-sound : goal.returns-clause-sound
returns-clause-sound c =
    let row : Inequality = c.args.self.now in
    let other : Inequality = c.args.other.now in
    given (λ new. (v : Valuation) → Holds v row → Holds v other → Holds v new) (combined row c.args.mine other c.args.theirs) c.weighted.result
    (all_valuations (λ v new. Holds v row → Holds v other → Holds v new) (combined row c.args.mine other c.args.theirs)
    (λ v. sound_at v row other c.args.mine c.args.theirs))
    (returns-clause-exact c)
