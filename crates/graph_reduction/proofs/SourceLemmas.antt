-- The triples of a set with the same first two numbers.
use Rattle.std.proofs.Common.{◌≡◌, sym, ap, ◌∙◌, subst, ℕ, ◌≤◌, Bool, true, false, List, [], ◌∷◌, arith}
use Rattle.std.specs.Prelude.{◌&&◌, ◌==◌, cond, IfSome, slice_get}
use Rattle.std.specs.Ordering.{is_gt}
use Rattle.std.specs.declared.ops.Bound.{Bound}
use Rattle.std.specs.BTreeMap.{is_at}
use Rattle.std.specs.BTreeSet as tree
use Rattle.std.specs.BTreeSet.{BTreeSet}
use Rattle.std.proofs.lemmas.Bool.{cond-false, false≢true}
use Rattle.std.proofs.lemmas.Bool.Decides.{nat_tests}
use Rattle.graph_reduction.specs.Sets.{edge_cmp, in_set}
use Rattle.graph_reduction.proofs.MoveLemmas.{edge_at}

between : (v n m a b c : ℕ) → is_gt (edge_cmp (v, n, 0) (a, b, c)) ≡ false → is_gt (edge_cmp (a, b, c) (v, n, m)) ≡ false → (a ≡ v) ×
    (b ≡ n)
between v n m a b c h k = (first v n m a b c h k, second v n m a b c h k)
  where
    first : (v n m a b c : ℕ) → is_gt (edge_cmp (v, n, 0) (a, b, c)) ≡ false → is_gt (edge_cmp (a, b, c) (v, n, m)) ≡ false → a ≡ v
    first v n m a b c h k = grind (arith, nat_tests)

    second : (v n m a b c : ℕ) → is_gt (edge_cmp (v, n, 0) (a, b, c)) ≡ false → is_gt (edge_cmp (a, b, c) (v, n, m)) ≡ false → b ≡ n
    second v n m a b c h k = grind (arith, nat_tests)

low_from : (v n c : ℕ) → is_gt (edge_cmp (v, n, 0) (v, n, c)) ≡ false
low_from v n c = grind (arith, nat_tests)

high_from : (v n m c : ℕ) → c ≤ m → is_gt (edge_cmp (v, n, c) (v, n, m)) ≡ false
high_from v n m c k = grind (arith, nat_tests)

module _ (s : BTreeSet (ℕ × ℕ × ℕ)) (v n m : ℕ) where
  abbrev pub IsPart : List (ℕ × ℕ × ℕ) → Type 0
  IsPart r = tree.IsKeyRangeOf edge_cmp (Bound.Included (v, n, 0)) (Bound.Included (v, n, m)) s r

  pub part_held : (r rest : List (ℕ × ℕ × ℕ)) (e : ℕ × ℕ × ℕ) → IsPart r → r ≡ e ∷ rest → tree.contains edge_cmp s (v, n, e.2) ≡ true
  part_held r rest e h is =
      let f = subst (λ (xs : List (ℕ × ℕ × ℕ)). IfSome (slice_get xs 0)
      (tree.IsKeyInRange edge_cmp (Bound.Included (v, n, 0)) (Bound.Included (v, n, m)) s)) is h.1 in
      let b = between v n m e.0 e.1 e.2 f.0.0 f.0.1 in
      subst (λ a. tree.contains edge_cmp s (a, n, e.2) ≡ true) b.0 (subst (λ a. tree.contains edge_cmp s (e.0, a, e.2) ≡ true) b.1 f.1)

  pub part_empty : (r : List (ℕ × ℕ × ℕ)) → IsPart r → r ≡ [] → (u : ℕ) → u ≤ m → tree.contains edge_cmp s (v, n, u) ≡ false
  part_empty r h is u b = h.5 is (v, n, u) (low_from v n u, high_from v n m u b)

  pub part_of : (lo hi : ℕ × ℕ × ℕ) (r : List (ℕ × ℕ × ℕ)) → lo ≡ (v, n, 0) → hi ≡ (v, n, m) → tree.IsKeyRangeOf edge_cmp
      (Bound.Included lo) (Bound.Included hi) s r → IsPart r
  part_of lo hi r l h k =
      subst (λ (a : ℕ × ℕ × ℕ). tree.IsKeyRangeOf edge_cmp (Bound.Included (v, n, 0)) (Bound.Included a) s r) h
      (subst (λ (a : ℕ × ℕ × ℕ). tree.IsKeyRangeOf edge_cmp (Bound.Included a) (Bound.Included hi) s r) l k)

else_true : (b c : Bool) → cond b false c ≡ true → c ≡ true
else_true true c e = absurd (false≢true e)
else_true false c e = e

-- a set without one triple more
pub row_less : (l m s : BTreeSet (ℕ × ℕ × ℕ)) (t n u : ℕ)
    → ((q : ℕ × ℕ × ℕ) → tree.contains edge_cmp m q ≡ cond (is_at (edge_cmp (t, n, u)) q) false (tree.contains edge_cmp l q))
    → ((x a w : ℕ) → in_set l x a w ≡ true → in_set s x a w ≡ true)
    → (x a w : ℕ) → in_set m x a w ≡ true → in_set s x a w ≡ true
row_less l m s t n u out less x a w e = less x a w (else_true (is_at (edge_cmp (t, n, u)) (x, a, w)) (in_set l x a w)
    (sym (out (x, a, w)) ∙ e))

pub row_others : (l m s : BTreeSet (ℕ × ℕ × ℕ)) (t n u : ℕ)
    → ((q : ℕ × ℕ × ℕ) → tree.contains edge_cmp m q ≡ cond (is_at (edge_cmp (t, n, u)) q) false (tree.contains edge_cmp l q))
    → ((x a w : ℕ) → ((x == t) && (a == n)) ≡ false → in_set l x a w ≡ in_set s x a w)
    → (x a w : ℕ) → ((x == t) && (a == n)) ≡ false → in_set m x a w ≡ in_set s x a w
row_others l m s t n u out others x a w e =
    out (x, a, w)
    ∙ (cond-false (is_at (edge_cmp (t, n, u)) (x, a, w)) false (in_set l x a w) (edge_at t n u x a w ∙ ap (λ b. b && (w == u)) e)
    ∙ others x a w e)
