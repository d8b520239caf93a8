-- Rational points, and the inequalities that hold at them.
use Rattle.std.specs.Prelude.{◌≡◌, ◌≢◌, ℤ, pos, ◌*ℤ◌, ◌≤ℤ◌, ◌<ℤ◌, List, [], ◌∷◌, length, if◌then◌else◌}
use Rattle.std.specs.Ordering.{is_eq}
use Rattle.linear_rows.specs.declared.rows.Var.{Var}
use Rattle.linear_rows.specs.Variables.{var_cmp}
use Rattle.linear_rows.specs.Rows.{Inequality, Valuation, sum_at}
use Rattle.farkas.specs.declared.answers.RationalPoint.{RationalPoint}

-- A rational point gives each variable a fraction. It is a numerator for each variable over one common
-- divisor, which is positive. The inequality holds at it:
abbrev pub Meets : Valuation → ℤ → Inequality → Type 0
Meets v d row = sum_at v row.terms ≤ℤ (row.constant *ℤ d)

-- each of some inequalities holds
abbrev pub MeetsEach : Valuation → ℤ → List Inequality → Type 0
MeetsEach v d [] = Unit {0}
MeetsEach v d (row ∷ rows) = Meets v d row × MeetsEach v d rows

-- the inequality doesn't hold
abbrev pub Breaks : Valuation → ℤ → Inequality → Type 0
Breaks v d row = (row.constant *ℤ d) <ℤ sum_at v row.terms

-- at each rational point at which all the inequalities hold, the inequality holds
abbrev pub Entail : List Inequality → Inequality → Type 0
Entail rows row = (v : Valuation) (d : ℤ) → pos 0 <ℤ d → MeetsEach v d rows → Meets v d row

-- at no rational point all the inequalities hold
abbrev pub AreEmpty : List Inequality → Type 0
AreEmpty rows = (v : Valuation) (d : ℤ) → pos 0 <ℤ d → MeetsEach v d rows → ⊥

-- the number of a variable among some variables with their numbers, 0 where it isn't one of them
abbrev pub number_of : List Var → List ℤ → Var → ℤ
number_of [] ns x = pos 0
number_of (v ∷ vs) [] x = pos 0
number_of (v ∷ vs) (n ∷ ns) x = if is_eq (var_cmp x v) then n else number_of vs ns x

-- the numerators that a point gives to all variables
abbrev pub valuation_of : RationalPoint → Valuation
valuation_of p x = number_of p.vars p.numbers x

-- no variable is the one
abbrev pub IsAbsent : Var → List Var → Type 0
IsAbsent x [] = Unit {0}
IsAbsent x (v ∷ vs) = (x ≢ v) × IsAbsent x vs

-- no variable stands twice
abbrev pub IsDistinct : List Var → Type 0
IsDistinct [] = Unit {0}
IsDistinct (v ∷ vs) = IsAbsent v vs × IsDistinct vs

-- distinct variables, as many numbers as variables, a positive divisor
pub record IsPoint (p : RationalPoint) : Type 0 where
  pub positive : pos 0 <ℤ p.divisor
  pub numbered : length p.numbers ≡ length p.vars
  pub distinct : IsDistinct p.vars
