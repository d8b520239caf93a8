-- Pieces of a run, as visits of blocks, and what bounds their cost.
use Rattle.std.specs.Prelude.{◌≡◌, ℕ, zero, suc, ◌+◌, ◌*◌, ◌≤◌, ◌⊎◌, Bool, if◌then◌else◌, nat_eq, List, [], ◌∷◌, ◌++◌}
use Rattle.std.specs.Prelude.{length}
use Rattle.std.specs.List.{AllByRecursion}
use Rattle.wsym_terms.specs.Extents.{Extent, IsWithin}
use Rattle.wsym_terms.specs.declared.trees.Use.{Use}
use Rattle.interval_loops.specs.Trails.{Visit}

-- the sum of a weight over the visits of a piece, and of some pieces
abbrev pub over : (Visit → ℕ) → List Visit → ℕ
over w [] = 0
over w (v ∷ vs) = w v + over w vs

abbrev pub over_all : (Visit → ℕ) → List (List Visit) → ℕ
over_all w [] = 0
over_all w (x ∷ xs) = over w x + over_all w xs

abbrev pub total : List (List Visit) → ℕ
total = over_all (λ v. v.spent)

-- 1 for a visit that misses the use k, and for another of block b that does so in the entry e of the use's scope
abbrev pub misses_at : ℕ → Visit → ℕ
misses_at k v = if v.missed k then 1 else 0

abbrev pub hits : (ℕ → ℕ → ℕ) → ℕ → ℕ → ℕ → Visit → ℕ
hits scopes b k e v = if nat_eq v.block b then (if nat_eq (v.entry (scopes b k)) e then misses_at k v else 0) else 0

-- no use of a block misses twice in an entry of its scope
abbrev pub AtMostOnce : (ℕ → ℕ → ℕ) → List (List Visit) → Type 0
AtMostOnce scopes xs = (b k e : ℕ) → over_all (hits scopes b k e) xs ≤ 1

-- 1 for a visit with another entry at depth d
abbrev pub differs : ℕ → ℕ → Visit → ℕ
differs d e v = if nat_eq (v.entry d) e then 0 else 1

-- all visits have one entry at depth d
abbrev pub Same : ℕ → List (List Visit) → Type 0
Same d xs = (e : ℕ) × (over_all (differs d e) xs ≡ 0)

-- Languages: a piece of one and then of another, and a piece of either.
abbrev pub Then : (List Visit → Type 0) → (List Visit → Type 0) → List Visit → Type 0
Then P Q x = (y : List Visit) × (z : List Visit) × P y × Q z × (x ≡ y ++ z)

abbrev pub Or : (List Visit → Type 0) → (List Visit → Type 0) → List Visit → Type 0
Or P Q x = P x ⊎ Q x

-- n pieces of a language cost at most what the value gives for n
abbrev pub IsBoundOf : (ℕ → ℕ → ℕ) → ℕ → (ℕ → Extent) → (List Visit → Type 0) → Type 0
IsBoundOf scopes scope value P = (xs : List (List Visit)) → AllByRecursion P xs → AtMostOnce scopes xs →
    ((d : ℕ) → d ≤ scope → Same d xs) → IsWithin (total xs) (value (length xs))

-- how many of the first k uses missed
abbrev pub misses : ℕ → Visit → ℕ
misses zero v = 0
misses (suc k) v = misses_at k v + misses k v

-- one visit of a block with some uses
abbrev pub Once : ℕ → ℕ → ℕ → ℕ → List Visit → Type 0
Once miss block base uses x = (v : Visit) × (x ≡ v ∷ []) × (v.block ≡ block) × (v.spent ≤ base + miss * misses uses v)

abbrev pub flat : List (List Visit) → List Visit
flat [] = []
flat (x ∷ xs) = x ++ flat xs

-- one entry of a loop: its turns within a bound, and the way out
abbrev pub Entry : Extent → ℕ → (List Visit → Type 0) → (List Visit → Type 0) → List Visit → Type 0
Entry bound depth B E x = (ys : List (List Visit)) × (z : List Visit) × AllByRecursion B ys × E z × IsWithin
    (length ys) bound × (x ≡ flat ys ++ z) × ((d : ℕ) → d ≤ depth + 1 → Same d (x ∷ []))

-- the scope of the use at a place
abbrev pub scope_at : List Use → ℕ → ℕ
scope_at [] k = 0
scope_at (u ∷ uses) zero = u.scope
scope_at (u ∷ uses) (suc k) = scope_at uses k
