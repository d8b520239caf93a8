-- The triples of a set with one first number.
use Rattle.std.proofs.Common.{◌≡◌, subst, ℕ, ◌≤◌, true, false, List, [], ◌∷◌, ◌++◌, arith}
use Rattle.std.specs.Prelude.{IfSome, slice_get}
use Rattle.std.specs.Ordering.{is_gt, is_lt}
use Rattle.std.specs.declared.ops.Bound.{Bound}
use Rattle.std.specs.BTreeMap.Range.{IsLeBy}
use Rattle.std.specs.BTreeSet as tree
use Rattle.std.specs.BTreeSet.{BTreeSet}
use Rattle.std.proofs.lemmas.Bool.Decides.{nat_tests}
use Rattle.graph_reduction.specs.Sets.{edge_cmp}

low_first : (v a b c : ℕ) → is_gt (edge_cmp (v, 0, 0) (a, b, c)) ≡ false → v ≤ a
low_first v a b c h = grind (arith, nat_tests)

high_first : (v m a b c : ℕ) → is_gt (edge_cmp (a, b, c) (v, m, m)) ≡ false → a ≤ v
high_first v m a b c h = grind (arith, nat_tests)

low_from : (v b c : ℕ) → is_gt (edge_cmp (v, 0, 0) (v, b, c)) ≡ false
low_from v b c = grind (arith, nat_tests)

high_from : (v m b c : ℕ) → b ≤ m → c ≤ m → is_gt (edge_cmp (v, b, c) (v, m, m)) ≡ false
high_from v m b c h k = grind (arith, nat_tests)

middle_le : (v a b c d : ℕ) → is_gt (edge_cmp (v, a, b) (v, c, d)) ≡ false → a ≤ c
middle_le v a b c d h = grind (arith, nat_tests)

not_lt : (v a b c d : ℕ) → is_lt (edge_cmp (v, a, b) (v, c, d)) ≡ false → c ≤ a
not_lt v a b c d h = grind (arith, nat_tests)

module _ (s : BTreeSet (ℕ × ℕ × ℕ)) (v m : ℕ) where
  abbrev pub IsRow : List (ℕ × ℕ × ℕ) → Type 0
  IsRow r = tree.IsKeyRangeOf edge_cmp (Bound.Included (v, 0, 0)) (Bound.Included (v, m, m)) s r

  first_inside : (r rest : List (ℕ × ℕ × ℕ)) (e : ℕ × ℕ × ℕ) → IsRow r → r ≡ e ∷ rest → tree.IsKeyInRange edge_cmp
      (Bound.Included (v, 0, 0)) (Bound.Included (v, m, m)) s e
  first_inside r rest e h is = subst (λ (xs : List (ℕ × ℕ × ℕ)). IfSome (slice_get xs 0)
      (tree.IsKeyInRange edge_cmp (Bound.Included (v, 0, 0)) (Bound.Included (v, m, m)) s)) is h.1

  at_v : (e : ℕ × ℕ × ℕ) → tree.IsKeyInRange edge_cmp (Bound.Included (v, 0, 0)) (Bound.Included (v, m, m)) s e → e.0 ≡ v
  at_v e f = let low = low_first v e.0 e.1 e.2 f.0.0 in let high = high_first v m e.0 e.1 e.2 f.0.1 in omega (arith, low, high)

  pub first_held : (r rest : List (ℕ × ℕ × ℕ)) (e : ℕ × ℕ × ℕ) → IsRow r → r ≡ e ∷ rest → (u : ℕ) ×
      (tree.contains edge_cmp s (v, e.1, u) ≡ true)
  first_held r rest e h is =
      let f = first_inside r rest e h is in
      (e.2, subst (λ a. tree.contains edge_cmp s (a, e.1, e.2) ≡ true) (at_v e f) f.1)

  pub first_least : (r rest : List (ℕ × ℕ × ℕ)) (e : ℕ × ℕ × ℕ) → IsRow r → r ≡ e ∷ rest → (n u : ℕ) → n ≤ m → u ≤ m
      → tree.contains edge_cmp s (v, n, u) ≡ true → e.1 ≤ n
  first_least r rest e h is n u a b held =
      let l : IsLeBy edge_cmp e (v, n, u) = subst (λ (xs : List (ℕ × ℕ × ℕ)). IfSome (slice_get xs 0) (λ k. IsLeBy edge_cmp k (v, n, u))) is
      (h.2 (v, n, u) (low_from v n u, high_from v m n u a b) held) in
      middle_le v e.1 e.2 n u (subst (λ a. IsLeBy edge_cmp (a, e.1, e.2) (v, n, u)) (at_v e (first_inside r rest e h is)) l)

  pub none_held : (r : List (ℕ × ℕ × ℕ)) → IsRow r → r ≡ [] → (n u : ℕ) → n ≤ m → u ≤ m → tree.contains edge_cmp s (v, n, u) ≡ false
  none_held r h is n u a b = h.5 is (v, n, u) (low_from v n u, high_from v m n u a b)

  -- a row by the bounds that a range was made of
  pub row_of : (lo hi : ℕ × ℕ × ℕ) (r : List (ℕ × ℕ × ℕ)) → lo ≡ (v, 0, 0) → hi ≡ (v, m, m) → tree.IsKeyRangeOf edge_cmp (Bound.Included lo)
      (Bound.Included hi) s r → IsRow r
  row_of lo hi r l h k =
      subst (λ (a : ℕ × ℕ × ℕ). tree.IsKeyRangeOf edge_cmp (Bound.Included (v, 0, 0)) (Bound.Included a) s r) h
      (subst (λ (a : ℕ × ℕ × ℕ). tree.IsKeyRangeOf edge_cmp (Bound.Included a) (Bound.Included hi) s r) l k)

  last_inside : (r front : List (ℕ × ℕ × ℕ)) (e : ℕ × ℕ × ℕ) → IsRow r → r ≡ front ++ e ∷ [] → tree.IsKeyInRange edge_cmp
      (Bound.Included (v, 0, 0)) (Bound.Included (v, m, m)) s e
  last_inside r front e h is = h.3 e front is

  pub last_held : (r front : List (ℕ × ℕ × ℕ)) (e : ℕ × ℕ × ℕ) → IsRow r → r ≡ front ++ e ∷ [] → (u : ℕ) ×
      (tree.contains edge_cmp s (v, e.1, u) ≡ true)
  last_held r front e h is =
      let f = last_inside r front e h is in
      (e.2, subst (λ a. tree.contains edge_cmp s (a, e.1, e.2) ≡ true) (at_v e f) f.1)

  pub last_most : (r front : List (ℕ × ℕ × ℕ)) (e : ℕ × ℕ × ℕ) → IsRow r → r ≡ front ++ e ∷ [] → (n u : ℕ) → n ≤ m → u ≤ m
      → tree.contains edge_cmp s (v, n, u) ≡ true → n ≤ e.1
  last_most r front e h is n u a b held =
      not_lt v e.1 e.2 n u (subst (λ a. is_lt (edge_cmp (a, e.1, e.2) (v, n, u)) ≡ false) (at_v e (last_inside r front e h is))
      (h.4 e front is (v, n, u) (low_from v n u, high_from v m n u a b) held))
