-- Inequalities made of others.
use Rattle.std.specs.Prelude.{ℕ, pos, Option, option_and_then, ◌+ℤ◌, ◌*ℤ◌, ◌≤ℤ◌, ◌↔◌}
use Rattle.linear_rows.specs.declared.rows.Var.{Var}
use Rattle.linear_rows.specs.declared.forms.Form.{Form}
use Rattle.linear_rows.specs.Rows.{Inequality, Valuation, sum_at, Holds, changed}
use Rattle.linear_rows.specs.Terms.{factor_of, without_var}
use Rattle.linear_rows.specs.Forms.{value_at, form_of, weighted_within}
use Rattle.linear_rows.specs.NormalForm.{row_of}

-- a times one inequality plus b times another, in normal form
abbrev pub combined : Inequality → ℕ → Inequality → ℕ → Option Inequality
combined row a other b = option_and_then row_of (weighted_within (pos a) (form_of row) (pos b) (form_of other))

-- the inequality with a form in place of a variable: the other terms, plus the variable's factor
-- times the form, in normal form
abbrev pub substituted : Inequality → Var → Form → Option Inequality
substituted row var form =
    option_and_then row_of
    (weighted_within (pos 1) (form_of (record { terms = without_var var row.terms; constant = row.constant }))
    (factor_of var row.terms) form)

-- at a valuation the inequality holds exactly where a times one plus b times another does
abbrev pub IsCombinationAt : Valuation → Inequality → ℕ → Inequality → ℕ → Inequality → Type 0
IsCombinationAt v row a other b new = Holds v new ↔
    (((pos a *ℤ sum_at v row.terms) +ℤ (pos b *ℤ sum_at v other.terms)) ≤ℤ ((pos a *ℤ row.constant) +ℤ (pos b *ℤ other.constant)))

-- it does so at each
abbrev pub IsCombination : Inequality → ℕ → Inequality → ℕ → Inequality → Type 0
IsCombination row a other b new = (v : Valuation) → IsCombinationAt v row a other b new

-- the inequality holds of exactly the valuations at which the form is at most 0
abbrev pub IsRowOf : Form → Inequality → Type 0
IsRowOf form row = (v : Valuation) → Holds v row ↔ (value_at v form ≤ℤ pos 0)

-- it holds wherever both others hold
abbrev pub FollowsFrom : Inequality → Inequality → Inequality → Type 0
FollowsFrom row other new = (v : Valuation) → Holds v row → Holds v other → Holds v new

-- it holds of a valuation exactly where the other holds of it with the form's value for the variable
abbrev pub IsSubstitution : Inequality → Var → Form → Inequality → Type 0
IsSubstitution row var form new = (v : Valuation) → Holds v new ↔ Holds (changed v var (value_at v form)) row
