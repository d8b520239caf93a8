-- One step of adding two lists of terms.
use Rattle.std.specs.Prelude.{◌≡◌, ℕ, ◌+◌, ◌<◌, ℤ, pos, neg_ℤ, List, ◌∷◌, length, Bool, if◌then◌else◌}
use Rattle.linear_rows.specs.declared.rows.Var.{Var}
use Rattle.linear_rows.specs.declared.rows.RowTerm.{RowTerm}
use Rattle.linear_rows.specs.Terms.{IsAscending, scaled_terms, summed_terms}
use Rattle.linear_rows.specs.Forms.{terms_stay_small}

-- a magnitude with its sign
abbrev pub signed : Bool → ℕ → ℤ
signed is_negative magnitude = if is_negative then neg_ℤ (pos magnitude) else pos magnitude

-- the first term of a times one list plus b times another, and what is left of the two
pub record TakesFirst (a : ℤ) (xs : List RowTerm) (b : ℤ) (ys : List RowTerm) (var : Var) (factor : ℤ) (xs' ys' : List RowTerm) : Type 0 where
  pub sum : summed_terms (scaled_terms a xs) (scaled_terms b ys)
      ≡ record { var = var; factor = factor } ∷ summed_terms (scaled_terms a xs') (scaled_terms b ys')
  pub small : terms_stay_small a xs b ys ≡ terms_stay_small a xs' b ys'
  pub left_ascends : IsAscending xs'
  pub right_ascends : IsAscending ys'
  pub fewer : length xs' + length ys' < length xs + length ys
