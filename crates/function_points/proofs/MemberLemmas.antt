-- Members of lists, by their places.
use Rattle.std.proofs.Common.{◌≡◌, refl, zero, suc, ◌⊎◌, inl, inr, List, [], ◌∷◌, arith}
use Rattle.std.specs.Prelude.{Contains}

pub here : {A : Type 0} (x : A) (xs : List A) → Contains (x ∷ xs) x
here x xs = (0, omega arith, refl)

pub there : {A : Type 0} (x y : A) (xs : List A) → Contains xs y → Contains (x ∷ xs) y
there x y xs w = let lt = w.1 in (suc w.0, omega (arith, lt), w.2)

pub first_or_rest : {A : Type 0} (x y : A) (xs : List A) → Contains (x ∷ xs) y → (x ≡ y) ⊎ Contains xs y
first_or_rest x y xs (zero, lt, e) = inl e
first_or_rest x y xs (suc k, lt, e) = inr (k, omega (arith, lt), e)

pub in_none : {A : Type 0} (y : A) → Contains [] y → ⊥
in_none y w = let lt = w.1 in omega (arith, lt)
