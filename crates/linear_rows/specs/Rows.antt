-- Linear inequalities: a sum of factors times variables is at most a constant.
use Rattle.std.specs.Prelude.{ℤ, pos, ◌+ℤ◌, ◌*ℤ◌, ◌≤ℤ◌, List, [], ◌∷◌, if◌then◌else◌}
use Rattle.std.specs.Ordering.{is_eq}
use Rattle.linear_rows.specs.declared.rows.Var.{Var}
use Rattle.linear_rows.specs.declared.rows.RowTerm.{RowTerm}
use Rattle.linear_rows.specs.Variables.{var_cmp}

-- the sum of the terms is at most the constant
pub record Inequality : Type 0 where
  pub terms : List RowTerm
  pub constant : ℤ

-- what gives each variable an integer
abbrev pub Valuation : Type 0
Valuation = Var → ℤ

-- the sum of factors times variables
abbrev pub sum_at : Valuation → List RowTerm → ℤ
sum_at v [] = pos 0
sum_at v (t ∷ ts) = (t.factor *ℤ v t.var) +ℤ sum_at v ts

-- the inequality is true where each variable has its number
abbrev pub Holds : Valuation → Inequality → Type 0
Holds v row = sum_at v row.terms ≤ℤ row.constant

-- the valuation with another number for one variable
abbrev pub changed : Valuation → Var → ℤ → Valuation
changed v var number other = if is_eq (var_cmp var other) then number else v other
