-- The breaking point: a number for each variable, the last one first and then in reverse order.
use Rattle.std.specs.Prelude.{ℕ, max, ℤ, pos, ◌-ℤ◌, ◌*ℤ◌, int_lt, unsigned_abs, List, [], ◌∷◌, Bool, true, false, ◌&&◌, Option, Some, None, if◌then◌else◌}
use Rattle.linear_rows.specs.declared.rows.Var.{Var}
use Rattle.linear_rows.specs.declared.rows.RowTerm.{RowTerm}
use Rattle.linear_rows.specs.Forms.{is_small}
use Rattle.linear_rows.specs.NormalForm.{gcd, floor}
use Rattle.farkas.specs.declared.placing.Placed.{Placed}
use Rattle.farkas.specs.declared.placing.Limit.{Limit}
use Rattle.farkas.specs.declared.placing.Level.{Level}
use Rattle.farkas.specs.Points.{number_of}
use Rattle.row_elimination.specs.Derivations.{Derivation, size_of}
use Rattle.row_elimination.specs.Steps.{has_positive, has_negative, with_var, eliminated}

-- what an inequality leaves for more terms at a point, times the point's divisor: its constant less its
-- terms and its multiple of the last variable; a variable that has no number yet counts as 0
abbrev pub slack_from : ℤ → Placed → List RowTerm → ℤ
slack_from rest p [] = rest
slack_from rest p (t ∷ ts) = slack_from (rest -ℤ (t.factor *ℤ number_of p.vars p.numbers t.var)) p ts

abbrev pub slack_fits_from : ℤ → Placed → List RowTerm → Bool
slack_fits_from rest p [] = true
slack_fits_from rest p (t ∷ ts) =
    is_small (t.factor *ℤ number_of p.vars p.numbers t.var)
    && is_small (rest -ℤ (t.factor *ℤ number_of p.vars p.numbers t.var))
    && slack_fits_from (rest -ℤ (t.factor *ℤ number_of p.vars p.numbers t.var)) p ts

abbrev pub slack_of : Placed → Derivation → ℤ
slack_of p r = slack_from ((r.constant *ℤ p.divisor) -ℤ (r.last *ℤ p.last)) p r.terms

abbrev pub slack_fits : Placed → Derivation → Bool
slack_fits p r =
    is_small (r.constant *ℤ p.divisor) && is_small (r.last *ℤ p.last)
    && is_small ((r.constant *ℤ p.divisor) -ℤ (r.last *ℤ p.last))
    && slack_fits_from ((r.constant *ℤ p.divisor) -ℤ (r.last *ℤ p.last)) p r.terms

-- how far the variable may go by an inequality: the slack divided by the magnitude of its factor, up where
-- the factor is positive, and down, with the other sign, where it is negative
abbrev pub limit_of : Var → Placed → Derivation → Limit
limit_of y p r = record { slack = slack_of p r; size = size_of y r }

-- the fraction is less
abbrev pub is_less : Limit → Limit → Bool
is_less a b = int_lt (a.slack *ℤ pos b.size) (b.slack *ℤ pos a.size)

-- the lesser of two, the first of equal ones
abbrev pub lesser : Option Limit → Limit → Option Limit
lesser None b = Some b
lesser (Some a) b = if is_less b a then Some b else Some a

-- it limits the variable from above, or from below
abbrev pub limits : Bool → Var → Derivation → Bool
limits true y r = has_positive y r
limits false y r = has_negative y r

-- the least limit from above, or from below
abbrev pub least_limit : Bool → Var → Placed → Option Limit → List Derivation → Option Limit
least_limit up y p best [] = best
least_limit up y p best (r ∷ rs) =
    if limits up y r then least_limit up y p (lesser best (limit_of y p r)) rs else least_limit up y p best rs

abbrev pub limits_fit : Bool → Var → Placed → List Derivation → Bool
limits_fit up y p [] = true
limits_fit up y p (r ∷ rs) = (if limits up y r then slack_fits p r else true) && limits_fit up y p rs

abbrev pub scaled_numbers : ℤ → List ℤ → List ℤ
scaled_numbers m [] = []
scaled_numbers m (n ∷ ns) = (m *ℤ n) ∷ scaled_numbers m ns

abbrev pub numbers_fit : ℤ → List ℤ → Bool
numbers_fit m [] = true
numbers_fit m (n ∷ ns) = is_small (m *ℤ n) && numbers_fit m ns

-- the point with one more variable: its number is n/m over the old divisor
abbrev pub extended : Var → ℤ → ℕ → Placed → Placed
extended y n m p = record {
  vars = y ∷ p.vars;
  numbers = n ∷ scaled_numbers (pos m) p.numbers;
  last = pos m *ℤ p.last;
  divisor = pos m *ℤ p.divisor;
}

abbrev pub extended_fits : ℤ → ℕ → Placed → Bool
extended_fits n m p =
    is_small n && numbers_fit (pos m) p.numbers && is_small (pos m *ℤ p.last) && is_small (pos m *ℤ p.divisor)

-- the greatest common divisor of a number and of others
abbrev pub common_number : ℕ → List ℤ → ℕ
common_number d [] = d
common_number d (n ∷ ns) = common_number (gcd d (unsigned_abs n)) ns

abbrev pub point_divisor : Placed → ℕ
point_divisor p = max (common_number (gcd (unsigned_abs p.divisor) (unsigned_abs p.last)) p.numbers) 1

abbrev pub divided_numbers : ℕ → List ℤ → List ℤ
divided_numbers d [] = []
divided_numbers d (n ∷ ns) = floor n d ∷ divided_numbers d ns

-- the point in lowest terms
abbrev pub lowest_point : Placed → Placed
lowest_point p = record {
  vars = p.vars;
  numbers = divided_numbers (point_divisor p) p.numbers;
  last = floor p.last (point_divisor p);
  divisor = floor p.divisor (point_divisor p);
}

-- the greatest lower bound of the variable
abbrev pub from_below : Var → Limit → Placed → Placed
from_below y l p = extended y (pos 0 -ℤ l.slack) l.size p

-- its least upper bound, else 0
abbrev pub from_above : Var → Option Limit → Placed → Placed
from_above y (Some u) p = extended y u.slack u.size p
from_above y None p = extended y (pos 0) 1 p

-- the greatest lower bound, else the least upper bound, else 0
abbrev pub chosen : Var → Option Limit → List Derivation → Placed → Placed
chosen y (Some l) rs p = from_below y l p
chosen y None rs p = from_above y (least_limit true y p None rs) p

abbrev pub fits_below : Limit → Placed → Bool
fits_below l p = is_small (pos 0 -ℤ l.slack) && extended_fits (pos 0 -ℤ l.slack) l.size p

abbrev pub fits_above : Option Limit → Placed → Bool
fits_above (Some u) p = extended_fits u.slack u.size p
fits_above None p = extended_fits (pos 0) 1 p

abbrev pub chosen_fits : Var → Option Limit → List Derivation → Placed → Bool
chosen_fits y (Some l) rs p = fits_below l p
chosen_fits y None rs p = limits_fit true y p rs && fits_above (least_limit true y p None rs) p

-- the point with a number for one more variable, in lowest terms
abbrev pub with_number : Var → List Derivation → Placed → Placed
with_number y rs p = lowest_point (chosen y (least_limit false y p None rs) rs p)

abbrev pub number_fits : Var → List Derivation → Placed → Bool
number_fits y rs p = limits_fit false y p rs && chosen_fits y (least_limit false y p None rs) rs p

-- the steps of a run: the variables with the inequalities that mentioned them
abbrev pub levels_of : List Var → List Derivation → List Level
levels_of [] rs = []
levels_of (y ∷ ys) rs = record { var = y; rows = with_var y rs } ∷ levels_of ys (eliminated y rs)

-- the point with the numbers of all variables, the last step first
abbrev pub raised : List Level → Placed → Placed
raised [] p = p
raised (l ∷ ls) p = with_number l.var l.rows (raised ls p)

abbrev pub raised_fits : List Level → Placed → Bool
raised_fits [] p = true
raised_fits (l ∷ ls) p = raised_fits ls p && number_fits l.var l.rows (raised ls p)
