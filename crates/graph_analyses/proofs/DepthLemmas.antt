-- The depth of the innermost loop round a block is the number of loops round it.
use Rattle.std.proofs.Common.{◌≡◌, ◌≢◌, ◌⊎◌, inl, inr, ℕ, zero, suc, ◌+◌, ◌<◌, ◌≤◌, List, [], ◌∷◌, length, refl, sym, ap, ◌∙◌, subst, true}
use Rattle.std.proofs.Common.{arith}
use Rattle.std.specs.Prelude.{nat_eq, slice_index_or}
use Rattle.graph_search.specs.NodeLists.{holds}
use Rattle.graph_search.specs.Orders.{Rising}
use Rattle.graph_search.proofs.ListLemmas.{holds_first, holds_right, nat_equality}
use Rattle.interval_loops.specs.Rounds.{last_or}

pub last_held : (x : ℕ) (xs : List ℕ) → holds nat_eq (last_or 0 (x ∷ xs)) (x ∷ xs) ≡ true
last_held x [] = holds_first ℕ nat_equality x []
last_held x (y ∷ xs) = holds_right ℕ nat_equality (last_or 0 (y ∷ xs)) (x ∷ []) (y ∷ xs) (last_held y xs)

at_held : (xs : List ℕ) (i : ℕ) → i < length xs → holds nat_eq (slice_index_or xs i 0) xs ≡ true
at_held [] i lt = absurd (omega (arith, lt))
at_held (x ∷ xs) zero lt = holds_first ℕ nat_equality x xs
at_held (x ∷ xs) (suc i) lt =
    holds_right ℕ nat_equality (slice_index_or xs i 0) (x ∷ []) xs (at_held xs i (omega (arith, lt)))

-- in a rising list the last item stands at the last place alone
last_alone : (rank : ℕ → ℕ) (xs : List ℕ) (i : ℕ) → Rising rank xs → i < length xs → slice_index_or xs i 0 ≡ last_or 0 xs
    → suc i ≡ length xs
last_alone rank [] i r lt e = absurd (omega (arith, lt))
last_alone rank (x ∷ []) zero r lt e = refl
last_alone rank (x ∷ []) (suc i) r lt e = absurd (omega (arith, lt))
last_alone rank (x ∷ y ∷ xs) zero r lt e =
    let low = r.0 (last_or 0 (y ∷ xs)) (last_held y xs) in
    let same = ap rank e in
    absurd (omega (arith, low, same))
last_alone rank (x ∷ y ∷ xs) (suc i) r lt e = ap suc (last_alone rank (y ∷ xs) i r.1 (omega (arith, lt)) e)

past_last : (xs : List ℕ) (i : ℕ) → length xs ≤ i → slice_index_or xs i 0 ≡ 0
past_last [] i le = refl
past_last (x ∷ xs) zero le = absurd (omega (arith, le))
past_last (x ∷ xs) (suc i) le = past_last xs i (omega (arith, le))

-- the last of the loops round a block stands at the place that is their number, and nowhere else
pub place_of_last : (rank : ℕ → ℕ) (xs : List ℕ) (k : ℕ) → Rising rank xs → ((d : ℕ) → holds nat_eq d xs ≡ true → d ≢ 0)
    → slice_index_or (0 ∷ xs) k 0 ≡ last_or 0 xs → (xs ≡ [] → k ≡ 0) → k ≡ length xs
place_of_last rank [] k r some e none = none refl
place_of_last rank (x ∷ xs) zero r some e none = absurd (some (last_or 0 (x ∷ xs)) (last_held x xs) (sym e))
place_of_last rank (x ∷ xs) (suc k) r some e none = by_side (side k (length (x ∷ xs)))
  where
    side : (i n : ℕ) → (i < n) ⊎ (n ≤ i)
    side i zero = inr (omega arith)
    side zero (suc n) = inl (omega arith)
    side (suc i) (suc n) =
        elim (side i n) as (λ _. (suc i < suc n) ⊎ (suc n ≤ suc i)) [
          | inl lt ↦ inl (omega (arith, lt))
          | inr le ↦ inr (omega (arith, le))
        ]

    by_side : (k < length (x ∷ xs)) ⊎ (length (x ∷ xs) ≤ k) → suc k ≡ length (x ∷ xs)
    by_side s =
        elim s as (λ _. suc k ≡ length (x ∷ xs)) [
          | inl lt ↦ last_alone rank (x ∷ xs) k r lt e
          | inr le ↦ absurd (some (last_or 0 (x ∷ xs)) (last_held x xs) (sym e ∙ past_last (x ∷ xs) k le))
        ]
