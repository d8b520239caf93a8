-- Lists without repetition, by a test of equality.
use Rattle.std.specs.Prelude.{◌≡◌, ℕ, ◌+◌, ◌<◌, Bool, true, false, ◌||◌, if◌then◌else◌, List, [], ◌∷◌, ◌++◌, length}

-- a test that is true exactly of equal items
pub record Equality (A : Type 0) : Type 0 where
  pub same : A → A → Bool
  pub exact : (a b : A) → same a b ≡ true → a ≡ b
  pub itself : (a : A) → same a a ≡ true

-- the item stands in the list
abbrev pub holds : {A : Type 0} → (A → A → Bool) → A → List A → Bool
holds same a [] = false
holds same a (x ∷ xs) = same a x || holds same a xs

-- no item stands in the list twice
abbrev pub Distinct : {A : Type 0} → (A → A → Bool) → List A → Type 0
Distinct same [] = Unit {0}
Distinct same (x ∷ xs) = (holds same x xs ≡ false) × Distinct same xs

-- the list with one item more at its end, unless it stands there already
abbrev pub added : {A : Type 0} → (A → A → Bool) → List A → A → List A
added same xs x = if holds same x xs then xs else xs ++ x ∷ []

-- the list with further items, one after another
abbrev pub added_all : {A : Type 0} → (A → A → Bool) → List A → List A → List A
added_all same xs [] = xs
added_all same xs (y ∷ ys) = added_all same (added same xs y) ys

-- more than n items have a property
abbrev pub MoreThan : {A : Type 0} → (A → A → Bool) → ℕ → (A → Type 0) → Type 0
MoreThan {A} same n P = (xs : List A) × Distinct same xs × ((x : A) → holds same x xs ≡ true → P x) × (n < length xs)
