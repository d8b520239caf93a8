-- One step of the elimination, and the run.
use Rattle.std.specs.Prelude.{ℕ, ◌+◌, ◌==◌, nat_le, pos, ◌+ℤ◌, List, [], ◌∷◌, ◌++◌, length, Bool, true, false, ◌&&◌, ◌||◌, Option, Some, None, option_map, int_lt, int_le, if◌then◌else◌}
use Rattle.std.specs.Ordering.{is_eq, int_eq}
use Rattle.linear_rows.specs.declared.rows.Var.{Var}
use Rattle.linear_rows.specs.declared.rows.RowTerm.{RowTerm}
use Rattle.linear_rows.specs.Variables.{var_cmp}
use Rattle.linear_rows.specs.Terms.{factor_of, is_zero}
use Rattle.row_elimination.specs.declared.steps.Equality.{Equality}
use Rattle.row_elimination.specs.Derivations.{Derivation, combination, combination_fits}

-- whether it has a factor of the variable
abbrev pub mentions : Var → Derivation → Bool
mentions y r = if is_zero (factor_of y r.terms) then false else true

abbrev pub has_positive : Var → Derivation → Bool
has_positive y r = int_lt (pos 0) (factor_of y r.terms)

abbrev pub has_negative : Var → Derivation → Bool
has_negative y r = int_lt (factor_of y r.terms) (pos 0)

-- those without y
abbrev pub without : Var → List Derivation → List Derivation
without y [] = []
without y (r ∷ rs) = if mentions y r then without y rs else r ∷ without y rs

-- those with y
abbrev pub with_var : Var → List Derivation → List Derivation
with_var y [] = []
with_var y (r ∷ rs) = if mentions y r then r ∷ with_var y rs else with_var y rs

-- the terms are those of the other with negated factors: the sums are 0
abbrev pub are_negated : List RowTerm → List RowTerm → Bool
are_negated [] [] = true
are_negated [] (u ∷ us) = false
are_negated (t ∷ ts) [] = false
are_negated (t ∷ ts) (u ∷ us) = is_eq (var_cmp t.var u.var) && is_zero (t.factor +ℤ u.factor) && are_negated ts us

-- each number is that of the other negated
abbrev pub is_negation : Derivation → Derivation → Bool
is_negation r s = are_negated r.terms s.terms && is_zero (r.last +ℤ s.last) && is_zero (r.constant +ℤ s.constant)

-- the place of the first negation of an inequality
abbrev pub negation_place : Derivation → List Derivation → Option ℕ
negation_place r [] = None
negation_place r (s ∷ ss) = if is_negation s r then Some 0 else option_map (λ k. k + 1) (negation_place r ss)

abbrev pub found_at : ℕ → Option ℕ → Option Equality → Option Equality
found_at place None otherwise = otherwise
found_at place (Some other) otherwise = Some (record { first = place; second = other })

-- the places of an inequality and of its negation: together they are an equality. The first in the list
abbrev pub equality_from : List Derivation → ℕ → List Derivation → Option Equality
equality_from all place [] = None
equality_from all place (r ∷ rs) =
    found_at place (negation_place r all) (equality_from all (place + 1) rs)

abbrev pub equality_of : List Derivation → Option Equality
equality_of rs = equality_from rs 0 rs

-- the place is one of the two
abbrev pub is_side : Equality → ℕ → Bool
is_side e place = (place == e.first) || (place == e.second)

-- where there is an equality, a combination is made with one of its two sides alone
abbrev pub is_made : Option Equality → ℕ → ℕ → Bool
is_made None i j = true
is_made (Some e) i j = is_side e i || is_side e j

-- two inequalities to be combined
pub record Match : Type 0 where
  pub positive : Derivation
  pub negative : Derivation

-- those of one with a positive factor: with each with a negative factor, in order
abbrev pub matches_of : Var → Option Equality → ℕ → Derivation → ℕ → List Derivation → List Match
matches_of y e i p j [] = []
matches_of y e i p j (n ∷ ns) =
    if has_negative y n && is_made e i j then record { positive = p; negative = n } ∷ matches_of y e i p (j + 1) ns
    else matches_of y e i p (j + 1) ns

-- those of each with a positive factor, in order
abbrev pub matches_from : Var → Option Equality → List Derivation → ℕ → List Derivation → List Match
matches_from y e all i [] = []
matches_from y e all i (p ∷ ps) =
    (if has_positive y p then matches_of y e i p 0 all else []) ++ matches_from y e all (i + 1) ps

abbrev pub matches : Var → List Derivation → List Match
matches y rs = matches_from y (equality_of rs) rs 0 rs

abbrev pub combined : Var → List Match → List Derivation
combined y [] = []
combined y (m ∷ ms) = combination y m.positive m.negative ∷ combined y ms

abbrev pub matches_fit : Var → List Match → Bool
matches_fit y [] = true
matches_fit y (m ∷ ms) = combination_fits y m.positive m.negative && matches_fit y ms

-- the rows of a step: those without the variable, and all combinations that it makes
abbrev pub candidates : Var → List Derivation → List Derivation
candidates y rs = without y rs ++ combined y (matches y (with_var y rs))

-- the terms are the same
abbrev pub are_same : List RowTerm → List RowTerm → Bool
are_same [] [] = true
are_same [] (u ∷ us) = false
are_same (t ∷ ts) [] = false
are_same (t ∷ ts) (u ∷ us) = is_eq (var_cmp t.var u.var) && int_eq t.factor u.factor && are_same ts us

-- the left side is the same
abbrev pub is_alike : Derivation → Derivation → Bool
is_alike r s = are_same r.terms s.terms && int_eq r.last s.last

-- some inequality has the left side and a constant at most as large
abbrev pub is_covered : List Derivation → Derivation → Bool
is_covered [] r = false
is_covered (s ∷ ss) r = (is_alike s r && int_le s.constant r.constant) || is_covered ss r

-- those with another left side
abbrev pub without_alike : Derivation → List Derivation → List Derivation
without_alike r [] = []
without_alike r (s ∷ ss) = if is_alike s r then without_alike r ss else s ∷ without_alike r ss

abbrev pub has_no_terms : List RowTerm → Bool
has_no_terms [] = true
has_no_terms (t ∷ ts) = false

-- it says nothing: no terms, and a constant of at least 0
abbrev pub is_plain : Derivation → Bool
is_plain r = has_no_terms r.terms && is_zero r.last && int_le (pos 0) r.constant

-- no terms and no multiple of the last variable, and a negative constant
abbrev pub is_absurd : Derivation → Bool
is_absurd r = has_no_terms r.terms && is_zero r.last && int_lt r.constant (pos 0)

-- it bounds the last variable from above, or from below
abbrev pub bounds_last : Bool → Derivation → Bool
bounds_last true r = has_no_terms r.terms && int_lt (pos 0) r.last
bounds_last false r = has_no_terms r.terms && int_lt r.last (pos 0)

-- with one more: of those with one left side the least constant stays, the first of equal ones, and what
-- says nothing is left out
abbrev pub with_one : List Derivation → Derivation → List Derivation
with_one rs r =
    if is_plain r then rs else (if is_covered rs r then rs else without_alike r rs ++ r ∷ [])

abbrev pub with_each : List Derivation → List Derivation → List Derivation
with_each rs [] = rs
with_each rs (s ∷ ss) = with_each (with_one rs s) ss

-- the inequalities that are left when a variable is eliminated
abbrev pub eliminated : Var → List Derivation → List Derivation
eliminated y rs = with_each [] (candidates y rs)

-- a step has at most 4,096 rows
abbrev pub step_fits : Var → List Derivation → Bool
step_fits y rs = matches_fit y (matches y (with_var y rs)) && nat_le (length (candidates y rs)) 4096

-- the inequalities that are left when some variables are eliminated, one after another
abbrev pub run : List Var → List Derivation → List Derivation
run [] rs = rs
run (y ∷ ys) rs = run ys (eliminated y rs)

abbrev pub run_fits : List Var → List Derivation → Bool
run_fits [] rs = true
run_fits (y ∷ ys) rs = step_fits y rs && run_fits ys (eliminated y rs)
