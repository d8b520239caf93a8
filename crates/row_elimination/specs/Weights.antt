-- How a derived inequality follows from the given ones: multipliers, and what their sum is divided by.
use Rattle.std.specs.Prelude.{ℕ, ◌+◌, ◌*◌, ◌/◌, ◌^◌, ◌==◌, nat_lt, max, List, [], ◌∷◌, Bool, true, ◌&&◌, Option, Some, None, if◌then◌else◌}
use Rattle.linear_rows.specs.NormalForm.{gcd}
use Rattle.row_elimination.specs.declared.weights.Multiplier.{Multiplier}
use Rattle.row_elimination.specs.declared.weights.Support.{Support}

-- the number is below 2^127, the limit on all numbers of a run
abbrev pub is_below : ℕ → Bool
is_below n = nat_lt n (2 ^ 127)

abbrev pub scaled_multipliers : ℕ → List Multiplier → List Multiplier
scaled_multipliers a [] = []
scaled_multipliers a (m ∷ ms) = record { row = m.row; factor = a * m.factor } ∷ scaled_multipliers a ms

-- with one more multiplier: its factor is added to that of its row, or it goes to its place
abbrev pub with_multiplier : Multiplier → List Multiplier → List Multiplier
with_multiplier m [] = m ∷ []
with_multiplier m (x ∷ xs) =
    if nat_lt x.row m.row then x ∷ with_multiplier m xs
    else (if x.row == m.row then record { row = m.row; factor = x.factor + m.factor } ∷ xs else m ∷ x ∷ xs)

-- how many multipliers stand before the place of a row
abbrev pub before_row : ℕ → List Multiplier → ℕ
before_row row [] = 0
before_row row (x ∷ xs) = if nat_lt x.row row then before_row row xs + 1 else 0

-- the factor of a row's multiplier, where it has one
abbrev pub found_factor : ℕ → List Multiplier → Option ℕ
found_factor row [] = None
found_factor row (x ∷ xs) =
    if nat_lt x.row row then found_factor row xs else (if x.row == row then Some x.factor else None)

-- the sum of two lists, row by row
abbrev pub summed_multipliers : List Multiplier → List Multiplier → List Multiplier
summed_multipliers [] ns = ns
summed_multipliers (m ∷ ms) ns = summed_multipliers ms (with_multiplier m ns)

abbrev pub weighted_multipliers : ℕ → List Multiplier → ℕ → List Multiplier → List Multiplier
weighted_multipliers a ms b ns = summed_multipliers (scaled_multipliers a ms) (scaled_multipliers b ns)

-- each product is below the limit
abbrev pub products_fit : ℕ → List Multiplier → Bool
products_fit a [] = true
products_fit a (m ∷ ms) = is_below (a * m.factor) && products_fit a ms

-- the sum that is made for a row is below the limit
abbrev pub sum_fits : Multiplier → List Multiplier → Bool
sum_fits m [] = true
sum_fits m (x ∷ xs) =
    if nat_lt x.row m.row then sum_fits m xs else (if x.row == m.row then is_below (x.factor + m.factor) else true)

abbrev pub sums_fit : List Multiplier → List Multiplier → Bool
sums_fit [] ns = true
sums_fit (m ∷ ms) ns = sum_fits m ns && sums_fit ms (with_multiplier m ns)

abbrev pub multipliers_fit : ℕ → List Multiplier → ℕ → List Multiplier → Bool
multipliers_fit a ms b ns =
    products_fit a ms && products_fit b ns && sums_fit (scaled_multipliers a ms) (scaled_multipliers b ns)

-- the greatest common divisor of a number and of the factors
abbrev pub common_factor : ℕ → List Multiplier → ℕ
common_factor d [] = d
common_factor d (m ∷ ms) = common_factor (gcd d m.factor) ms

abbrev pub divided_multipliers : ℕ → List Multiplier → List Multiplier
divided_multipliers d [] = []
divided_multipliers d (m ∷ ms) = record { row = m.row; factor = m.factor / d } ∷ divided_multipliers d ms

-- the numbers divided by the greatest common divisor of them all
abbrev pub lowest_support : Support → Support
lowest_support s = record {
  multipliers = divided_multipliers (max (common_factor s.divisor s.multipliers) 1) s.multipliers;
  divisor = s.divisor / max (common_factor s.divisor s.multipliers) 1;
}

-- what supports 1/g of a times one inequality plus b times another, before any division
abbrev pub weighted_support : ℕ → Support → ℕ → Support → ℕ → Support
weighted_support a p b n g = record {
  multipliers = weighted_multipliers (a * n.divisor) p.multipliers (b * p.divisor) n.multipliers;
  divisor = p.divisor * n.divisor * g;
}

abbrev pub combined_support : ℕ → Support → ℕ → Support → ℕ → Support
combined_support a p b n g = lowest_support (weighted_support a p b n g)

-- all numbers of which it is made are below the limit
abbrev pub supports_fit : ℕ → Support → ℕ → Support → ℕ → Bool
supports_fit a p b n g =
    is_below (a * n.divisor) && is_below (b * p.divisor)
    && multipliers_fit (a * n.divisor) p.multipliers (b * p.divisor) n.multipliers
    && is_below (p.divisor * n.divisor) && is_below (p.divisor * n.divisor * g)
