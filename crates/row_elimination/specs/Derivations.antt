-- Inequalities derived from given ones by Fourier and Motzkin's elimination. Besides the variables they may
-- have one more, the last, which stands for the left side of a row that is tested.
use Rattle.std.specs.Prelude.{ℕ, ◌+◌, max, ℤ, pos, negsuc, ◌+ℤ◌, ◌*ℤ◌, ◌≤ℤ◌, unsigned_abs, List, [], ◌∷◌, Bool, ◌&&◌}
use Rattle.linear_rows.specs.declared.rows.Var.{Var}
use Rattle.linear_rows.specs.declared.rows.RowTerm.{RowTerm}
use Rattle.linear_rows.specs.Rows.{Inequality, Valuation, sum_at}
use Rattle.linear_rows.specs.Terms.{IsCollected, scaled_terms, factor_of}
use Rattle.linear_rows.specs.Forms.{weighted_terms, weighted_constant, terms_stay_small, constants_stay_small}
use Rattle.linear_rows.specs.NormalForm.{gcd, common_divisor, divided, floor}
use Rattle.row_elimination.specs.declared.weights.Support.{Support}
use Rattle.row_elimination.specs.Weights.{combined_support, supports_fit}

-- the terms plus a multiple of the last variable are at most the constant, and what supports that
pub record Derivation : Type 0 where
  pub terms : List RowTerm
  pub last : ℤ
  pub constant : ℤ
  pub support : Support

-- the inequality of a place of the given list
abbrev pub given : ℕ → Inequality → Derivation
given place row = record {
  terms = row.terms;
  last = pos 0;
  constant = row.constant;
  support = record { multipliers = record { row = place; factor = 1 } ∷ []; divisor = 1 };
}

abbrev pub given_from : ℕ → List Inequality → List Derivation
given_from place [] = []
given_from place (row ∷ rows) = given place row ∷ given_from (place + 1) rows

abbrev pub no_support : Support
no_support = record { multipliers = []; divisor = 1 }

-- the terms are at most the last variable
abbrev pub at_most_last : List RowTerm → Derivation
at_most_last terms = record { terms = terms; last = negsuc 0; constant = pos 0; support = no_support }

-- the last variable is at most the terms
abbrev pub at_least_last : List RowTerm → Derivation
at_least_last terms = record { terms = scaled_terms (negsuc 0) terms; last = pos 1; constant = pos 0; support = no_support }

-- the greatest common divisor of all its numbers, 1 where they are all 0
abbrev pub divisor_of_all : List RowTerm → ℤ → ℤ → ℕ
divisor_of_all terms last constant = max (common_divisor (gcd (unsigned_abs last) (unsigned_abs constant)) terms) 1

-- a times one plus b times another, before the division by g
abbrev pub sum_terms : ℕ → Derivation → ℕ → Derivation → List RowTerm
sum_terms a p b n = weighted_terms (pos a) p.terms (pos b) n.terms

abbrev pub sum_last : ℕ → Derivation → ℕ → Derivation → ℤ
sum_last a p b n = weighted_constant (pos a) p.last (pos b) n.last

abbrev pub sum_constant : ℕ → Derivation → ℕ → Derivation → ℤ
sum_constant a p b n = weighted_constant (pos a) p.constant (pos b) n.constant

abbrev pub sum_divisor : ℕ → Derivation → ℕ → Derivation → ℕ
sum_divisor a p b n = divisor_of_all (sum_terms a p b n) (sum_last a p b n) (sum_constant a p b n)

-- a times one plus b times another, divided by the greatest common divisor of all numbers of the sum
abbrev pub weighted_sum : ℕ → Derivation → ℕ → Derivation → Derivation
weighted_sum a p b n = record {
  terms = divided (sum_divisor a p b n) (sum_terms a p b n);
  last = floor (sum_last a p b n) (sum_divisor a p b n);
  constant = floor (sum_constant a p b n) (sum_divisor a p b n);
  support = combined_support a p.support b n.support (sum_divisor a p b n);
}

-- all numbers of which it is made have magnitudes below the limit
abbrev pub sum_stays_small : ℕ → Derivation → ℕ → Derivation → Bool
sum_stays_small a p b n =
    terms_stay_small (pos a) p.terms (pos b) n.terms
    && constants_stay_small (pos a) p.last (pos b) n.last
    && constants_stay_small (pos a) p.constant (pos b) n.constant
    && supports_fit a p.support b n.support (sum_divisor a p b n)

-- the magnitude of a variable's factor
abbrev pub size_of : Var → Derivation → ℕ
size_of y r = unsigned_abs (factor_of y r.terms)

-- the combination of two without y, where the one has a positive and the other a negative factor of it
abbrev pub combination : Var → Derivation → Derivation → Derivation
combination y p n = weighted_sum (size_of y n) p (size_of y p) n

abbrev pub combination_fits : Var → Derivation → Derivation → Bool
combination_fits y p n = sum_stays_small (size_of y n) p (size_of y p) n

-- what is at most the constant, times the divisor of a point: the last variable has the number z there
abbrev pub left_at : Valuation → ℤ → Derivation → ℤ
left_at v z r = sum_at v r.terms +ℤ (r.last *ℤ z)

abbrev pub HoldsAt : Valuation → ℤ → ℤ → Derivation → Type 0
HoldsAt v z d r = left_at v z r ≤ℤ (r.constant *ℤ d)

abbrev pub EachHoldsAt : Valuation → ℤ → ℤ → List Derivation → Type 0
EachHoldsAt v z d [] = Unit {0}
EachHoldsAt v z d (r ∷ rs) = HoldsAt v z d r × EachHoldsAt v z d rs

-- like terms are collected in each
abbrev pub EachCollected : List Derivation → Type 0
EachCollected [] = Unit {0}
EachCollected (r ∷ rs) = IsCollected r.terms × EachCollected rs
