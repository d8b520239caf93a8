-- What shows that inequalities entail another one, or that no rational point meets them all: Farkas'
-- multipliers, or a point.
use Rattle.std.specs.Prelude.{◌≡◌, ℕ, ◌<◌, ℤ, pos, ◌*ℤ◌, ◌≤ℤ◌, ◌<ℤ◌, List, [], ◌∷◌, length, slice_index_or, ◌⊎◌}
use Rattle.linear_rows.specs.declared.rows.RowTerm.{RowTerm}
use Rattle.linear_rows.specs.Rows.{Inequality}
use Rattle.linear_rows.specs.Terms.{scaled_terms}
use Rattle.linear_rows.specs.Forms.{weighted_terms, weighted_constant}
use Rattle.row_elimination.specs.declared.weights.Multiplier.{Multiplier}
use Rattle.farkas.specs.declared.answers.RationalPoint.{RationalPoint}
use Rattle.farkas.specs.Points.{MeetsEach, Breaks, valuation_of, IsPoint}

-- `0 ≤ 0`
abbrev pub nothing : Inequality
nothing = record { terms = []; constant = pos 0 }

-- the inequality at a place, `0 ≤ 0` after the end
abbrev pub row_at : List Inequality → ℕ → Inequality
row_at rows place = slice_index_or rows place nothing

-- the sum of the multiplied inequalities: its left side, variable by variable and without zeros
abbrev pub combined_terms : List Inequality → List Multiplier → List RowTerm
combined_terms rows [] = []
combined_terms rows (m ∷ ms) = weighted_terms (pos m.factor) (row_at rows m.row).terms (pos 1) (combined_terms rows ms)

-- and its constant
abbrev pub combined_constant : List Inequality → List Multiplier → ℤ
combined_constant rows [] = pos 0
combined_constant rows (m ∷ ms) = weighted_constant (pos m.factor) (row_at rows m.row).constant (pos 1) (combined_constant rows ms)

-- each multiplier names an inequality of the list
abbrev pub EachNamed : List Inequality → List Multiplier → Type 0
EachNamed rows [] = Unit {0}
EachNamed rows (m ∷ ms) = (m.row < length rows) × EachNamed rows ms

-- the sum, divided by the divisor, has the inequality's left side and a constant at most as large
abbrev pub Shows : List Inequality → Inequality → List Multiplier → ℕ → Type 0
Shows rows row ms divisor =
    (combined_terms rows ms ≡ scaled_terms (pos divisor) row.terms)
    × (combined_constant rows ms ≤ℤ (pos divisor *ℤ row.constant))

-- the sum has no terms and a negative constant
abbrev pub ShowsEmpty : List Inequality → List Multiplier → Type 0
ShowsEmpty rows ms = (combined_terms rows ms ≡ []) × (combined_constant rows ms <ℤ pos 0)

-- what is shown with an answer that inequalities entail one
pub record IsProof (rows : List Inequality) (row : Inequality) (ms : List Multiplier) (divisor : ℕ) : Type 0 where
  pub positive : 0 < divisor
  pub named : EachNamed rows ms
  pub shown : Shows rows row ms divisor ⊎ ShowsEmpty rows ms

-- what is shown with an answer that no rational point meets them all
pub record IsEmptyProof (rows : List Inequality) (ms : List Multiplier) : Type 0 where
  pub named : EachNamed rows ms
  pub shown : ShowsEmpty rows ms

-- what is shown with an answer that they don't entail it
pub record IsRefutation (rows : List Inequality) (row : Inequality) (p : RationalPoint) : Type 0 where
  pub point : IsPoint p
  pub meets : MeetsEach (valuation_of p) p.divisor rows
  pub breaks : Breaks (valuation_of p) p.divisor row

-- what is shown with an answer that a point meets them all
pub record IsWitness (rows : List Inequality) (p : RationalPoint) : Type 0 where
  pub point : IsPoint p
  pub meets : MeetsEach (valuation_of p) p.divisor rows
