-- What bounds a leaf, members one after another, one of several, and a loop.
use Rattle.std.proofs.Common.{◌≡◌, ℕ, zero, suc, ◌+◌, ◌-◌, ◌*◌, ◌≤◌, ◌<◌, max, List, [], ◌∷◌, length, refl, sym, ap, subst, arith}
use Rattle.std.proofs.Common.{mul-le-mul_left}
use Rattle.std.proofs.lemmas.Bool.Decides.{nat_tests}
use Rattle.std.specs.List.{AllByRecursion}
use Rattle.wsym_terms.specs.Extents.{Extent, Finite, plus, if_any, IsWithin}
use Rattle.wsym_terms.specs.Trees.{best}
use Rattle.wsym_terms.proofs.SplitLaws.{best_at_least}
use Rattle.interval_loops.specs.Trails.{Visit}
use Rattle.tree_law.specs.Pieces.{over, over_all, total, misses_at, misses, hits, differs, Then, Or, Once, IsBoundOf}
use Rattle.tree_law.proofs.SumLemmas.{within_plus, within_at_most, once_among, same_among, Divided, Chosen, first_among, second_among}
use Rattle.tree_law.proofs.SumLemmas.{divide, choose}

module _ (scopes : ℕ → ℕ → ℕ) where
  -- no pieces cost nothing
  pub if_any_bound : (scope : ℕ) (f : ℕ → Extent) (P : List Visit → Type 0) → IsBoundOf scopes scope f P → IsBoundOf scopes scope
      (if_any f) P
  if_any_bound scope f P b [] all once same = omega arith
  if_any_bound scope f P b (x ∷ xs) all once same = b (x ∷ xs) all once same

  pub members_bound : (s t : ℕ) (f g : ℕ → Extent) (P Q : List Visit → Type 0) → IsBoundOf scopes s f P → IsBoundOf scopes t g Q
      → IsBoundOf scopes (max s t) (λ n. plus (f n) (g n)) (Then P Q)
  members_bound s t f g P Q b c xs all once same = by_parts (divide P Q xs all)
    where
      by_parts : Divided P Q xs → IsWithin (total xs) (plus (f (length xs)) (g (length xs)))
      by_parts d =
          let left = first_among P Q xs d.shared in
          let right = second_among P Q xs d.shared in
          let one : IsWithin (total d.shared.first) (f (length xs)) = subst (λ (n : ℕ). IsWithin (total d.shared.first) (f n)) d.firsts
          (b d.shared.first d.shared.all_first (once_among scopes d.shared.first xs left once)
          (λ k h. same_among d.shared.first xs left k (same k (omega arith)))) in
          let two : IsWithin (total d.shared.second) (g (length xs)) = subst (λ (n : ℕ). IsWithin (total d.shared.second) (g n)) d.seconds
          (c d.shared.second d.shared.all_second (once_among scopes d.shared.second xs right once)
          (λ k h. same_among d.shared.second xs right k (same k (omega arith)))) in
          subst (λ (n : ℕ). IsWithin n (plus (f (length xs)) (g (length xs)))) (sym (d.shared.sums (λ v. v.spent)))
          (within_plus (total d.shared.first) (total d.shared.second) (f (length xs)) (g (length xs)) one two)

  pub choices_bound : (s t : ℕ) (f g : ℕ → Extent) (P Q : List Visit → Type 0) → IsBoundOf scopes s f P → IsBoundOf scopes t g Q
      → IsBoundOf scopes (max s t) (λ n. best f g n n) (Or P Q)
  choices_bound s t f g P Q b c xs all once same = by_kinds (choose P Q xs all)
    where
      by_kinds : Chosen P Q xs → IsWithin (total xs) (best f g (length xs) (length xs))
      by_kinds d =
          let left = first_among P Q xs d.shared in
          let right = second_among P Q xs d.shared in
          let i : ℕ = length d.shared.first in
          let others : length d.shared.second ≡ length xs - i = omega (arith, d.together) in
          let one : IsWithin (total d.shared.first) (f i) =
          b d.shared.first d.shared.all_first (once_among scopes d.shared.first xs left once)
          (λ k h. same_among d.shared.first xs left k (same k (omega arith))) in
          let two : IsWithin (total d.shared.second) (g (length xs - i)) = subst (λ (n : ℕ). IsWithin (total d.shared.second) (g n)) others
          (c d.shared.second d.shared.all_second (once_among scopes d.shared.second xs right once)
          (λ k h. same_among d.shared.second xs right k (same k (omega arith)))) in
          let both : IsWithin (total xs) (plus (f i) (g (length xs - i))) = subst (λ (n : ℕ). IsWithin n (plus (f i) (g (length xs - i))))
          (sym (d.shared.sums (λ v. v.spent)))
          (within_plus (total d.shared.first) (total d.shared.second) (f i) (g (length xs - i)) one two) in
          within_at_most (total xs) (plus (f i) (g (length xs - i))) (best f g (length xs) (length xs)) both
          (best_at_least f g i (length xs) (length xs) (omega (arith, d.together)))

  -- A leaf: the base for each piece, and a miss for each use.
  leaf_total : (miss block base uses : ℕ) (xs : List (List Visit)) → AllByRecursion (Once miss block base uses) xs
      → total xs ≤ length xs * base + miss * over_all (misses uses) xs
  leaf_total miss block base uses [] all = omega arith
  leaf_total miss block base uses (x ∷ xs) all =
      let rest = leaf_total miss block base uses xs all.1 in
      let v : Visit = all.0.0 in
      let spent : over (λ v. v.spent) x ≡ v.spent + 0 = ap (over (λ v. v.spent)) all.0.1 in
      let missed : over (misses uses) x ≡ misses uses v + 0 = ap (over (misses uses)) all.0.1 in
      let cost : v.spent ≤ base + miss * misses uses v = all.0.3 in
      leaf_step (over (λ v. v.spent) x) (total xs) (length xs) base miss (over (misses uses) x) (over_all (misses uses) xs)
      (misses uses v) v.spent spent missed cost rest
    where
      leaf_step : (a t n base miss m r mv sv : ℕ) → a ≡ sv + 0 → m ≡ mv + 0 → sv ≤ base + miss * mv → t ≤ n * base + miss * r
          → a + t ≤ suc n * base + miss * (m + r)
      leaf_step a t n base miss m r mv sv p q h k = omega (arith, p, ap (λ (z : ℕ). miss * z) q, h, k)

  -- each use at most once: those of the block in one entry of the use's scope
  missed_or_differs : (b k e : ℕ) (v : Visit) → v.block ≡ b → misses_at k v ≤ hits scopes b k e v + differs (scopes b k) e v
  missed_or_differs b k e v h = grind (arith, nat_tests)

  use_once : (miss block base uses k e : ℕ) (xs : List (List Visit)) → AllByRecursion (Once miss block base uses) xs → over_all
      (misses_at k) xs ≤ over_all (hits scopes block k e) xs + over_all (differs (scopes block k) e) xs
  use_once miss block base uses k e [] all = omega arith
  use_once miss block base uses k e (x ∷ xs) all =
      omega (
        arith,
        use_once miss block base uses k e xs all.1,
        ap (over (misses_at k)) all.0.1,
        ap
            (over (hits scopes block k e)) all.0.1,
        ap
            (over (differs (scopes block k) e)) all.0.1,
        missed_or_differs block k e all.0.0 all.0.2,
      )

  over_misses : (uses : ℕ) (x : List Visit) → over (misses (suc uses)) x ≡ over (misses_at uses) x + over (misses uses) x
  over_misses uses [] = refl
  over_misses uses (v ∷ x) = omega (arith, over_misses uses x)

  over_all_misses : (uses : ℕ) (xs : List (List Visit)) → over_all (misses (suc uses)) xs ≡ over_all (misses_at uses) xs + over_all
      (misses uses) xs
  over_all_misses uses [] = refl
  over_all_misses uses (x ∷ xs) = omega (arith, over_all_misses uses xs, over_misses uses x)

  over_none : (x : List Visit) → over (misses zero) x ≡ 0
  over_none [] = refl
  over_none (v ∷ x) = omega (arith, over_none x)

  over_all_none : (xs : List (List Visit)) → over_all (misses zero) xs ≡ 0
  over_all_none [] = refl
  over_all_none (x ∷ xs) = omega (arith, over_none x, over_all_none xs)

  few_misses : (uses : ℕ) (xs : List (List Visit)) → ((k : ℕ) → k < uses → over_all (misses_at k) xs ≤ 1) → over_all (misses uses) xs ≤ uses
  few_misses zero xs each = omega (arith, over_all_none xs)
  few_misses (suc uses) xs each = omega (
    arith,
    over_all_misses uses xs,
    few_misses uses xs (λ k h. each k (omega arith)),
    each uses
        (omega arith),
  )

  pub leaf_bound : (miss block base uses scope : ℕ) → ((k : ℕ) → k < uses → scopes block k ≤ scope) → IsBoundOf scopes scope
      (λ n. Finite (n * base + miss * uses)) (Once miss block base uses)
  leaf_bound miss block base uses scope inside xs all once same =
      let few : over_all (misses uses) xs ≤ uses = few_misses uses xs (λ k h.
      (let s = same (scopes block k) (inside k h) in omega (arith, use_once miss block base uses k s.0 xs all, s.1, once block k s.0))) in
      omega (arith, leaf_total miss block base uses xs all, mul-le-mul_left miss few)
