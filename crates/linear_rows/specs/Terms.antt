-- Lists of terms: their order, their sums variable by variable, and one variable's factor.
use Rattle.std.specs.Prelude.{◌≡◌, ◌≢◌, ℤ, pos, ◌+ℤ◌, ◌*ℤ◌, List, [], ◌∷◌, Bool, if◌then◌else◌}
use Rattle.std.specs.Ordering.{match_ordering, is_eq, int_eq}
use Rattle.std.specs.declared.cmp.Ordering.TheVariants.{Less}
use Rattle.linear_rows.specs.declared.rows.Var.{Var}
use Rattle.linear_rows.specs.declared.rows.RowTerm.{RowTerm}
use Rattle.linear_rows.specs.Variables.{var_cmp}

-- each term's variable comes after this one
abbrev pub Follows : Var → List RowTerm → Type 0
Follows var [] = Unit {0}
Follows var (t ∷ ts) = (var_cmp var t.var ≡ Less) × Follows var ts

-- the variables ascend, none twice
abbrev pub IsAscending : List RowTerm → Type 0
IsAscending [] = Unit {0}
IsAscending (t ∷ ts) = Follows t.var ts × IsAscending ts

-- no factor is 0
abbrev pub HasNoZero : List RowTerm → Type 0
HasNoZero [] = Unit {0}
HasNoZero (t ∷ ts) = (t.factor ≢ pos 0) × HasNoZero ts

-- the term's variable comes before that of the first of some terms
abbrev pub ComesBefore : RowTerm → List RowTerm → Type 0
ComesBefore t [] = Unit {0}
ComesBefore t (u ∷ us) = var_cmp t.var u.var ≡ Less

-- like terms are collected: variables in ascending order, none twice, no factor 0
pub record IsCollected (terms : List RowTerm) : Type 0 where
  pub ascending : IsAscending terms
  pub nonzero : HasNoZero terms

-- the factors times a number
abbrev pub scaled_term : ℤ → RowTerm → RowTerm
scaled_term a t = record { var = t.var; factor = a *ℤ t.factor }

abbrev pub scaled_terms : ℤ → List RowTerm → List RowTerm
scaled_terms a [] = []
scaled_terms a (t ∷ ts) = scaled_term a t ∷ scaled_terms a ts

-- with one more term: its factor is added to that of its variable, or it goes to its place
abbrev pub with_term : RowTerm → List RowTerm → List RowTerm
with_term x [] = x ∷ []
with_term x (t ∷ ts) =
    match_ordering (var_cmp x.var t.var)
    (x ∷ t ∷ ts)
    (record { var = t.var; factor = x.factor +ℤ t.factor } ∷ ts)
    (t ∷ with_term x ts)

-- the sum of two lists, variable by variable; a factor may be 0
abbrev pub summed_terms : List RowTerm → List RowTerm → List RowTerm
summed_terms [] ts = ts
summed_terms (x ∷ xs) ts = with_term x (summed_terms xs ts)

abbrev pub is_zero : ℤ → Bool
is_zero z = int_eq z (pos 0)

-- the terms with a factor other than 0
abbrev pub without_zeros : List RowTerm → List RowTerm
without_zeros [] = []
without_zeros (t ∷ ts) = if is_zero t.factor then without_zeros ts else t ∷ without_zeros ts

-- the factor of a variable, 0 where it has no term
abbrev pub factor_of : Var → List RowTerm → ℤ
factor_of var [] = pos 0
factor_of var (t ∷ ts) = if is_eq (var_cmp var t.var) then t.factor else factor_of var ts

-- the terms of all other variables
abbrev pub without_var : Var → List RowTerm → List RowTerm
without_var var [] = []
without_var var (t ∷ ts) = if is_eq (var_cmp var t.var) then without_var var ts else t ∷ without_var var ts
