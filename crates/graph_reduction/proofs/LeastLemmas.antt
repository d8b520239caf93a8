-- The least number of a set is the least that passes.
use Rattle.std.proofs.Common.{◌≡◌, refl, sym, ap, ◌∙◌, subst, ℕ, zero, suc, ◌<◌, ◌≤◌, ◌⊎◌, inl, inr, Bool, true, false, List, [], ◌∷◌}
use Rattle.std.proofs.Common.{length, arith}
use Rattle.std.specs.Prelude.{◌↔◌, if◌then◌else◌, Option, Some, None, is_some, IfSome, IsSome, IsTrue}
use Rattle.std.specs.Ordering.{nat_cmp}
use Rattle.std.specs.List.{list_any}
use Rattle.std.specs.BTreeMap.{is_at}
use Rattle.std.specs.BTreeSet as tree
use Rattle.std.specs.BTreeSet.{BTreeSet}
use Rattle.std.proofs.lemmas.Bool.{cond-true, cond-false, false≢true, false_from_ne_true}
use Rattle.std.proofs.lemmas.Map.Keys.{le_from_not_gt}
use Rattle.graph_reduction.specs.Reduction.{or_else, first_below}
use Rattle.graph_reduction.specs.Sets.{HasExactly}

pub none_below : (P : ℕ → Bool) (n : ℕ) → ((q : ℕ) → q < n → P q ≡ false) → first_below P n ≡ None
none_below P zero h = refl
none_below P (suc n) h =
    ap (λ o. or_else o (if P n then Some n else None)) (none_below P n (λ q l. h q (omega (arith, l))))
    ∙ cond-false (P n) (Some n) None (h n (omega arith))

below_next : (u n : ℕ) → u < suc n → (u ≡ n) ⊎ (u < n)
below_next u n h = grind arith

pub least_below : (P : ℕ → Bool) (k n : ℕ) → P k ≡ true → k < n → ((q : ℕ) → P q ≡ true → k ≤ q) → first_below P n ≡ Some k
least_below P k zero t l h = absurd (omega (arith, l))
least_below P k (suc n) t l h =
    elim (below_next k n l) as (λ _. first_below P (suc n) ≡ Some k) [
      | inl e ↦
          ap (λ o. or_else o (if P n then Some n else None)) (none_below P n
          (λ q m. false_from_ne_true (P q) (λ p. let le = h q p in omega (arith, le, m, e))))
          ∙ cond-true (P n) (Some n) None (subst (λ y. P y ≡ true) e t) ∙ ap Some (sym e)
      | inr m ↦ ap (λ o. or_else o (if P n then Some n else None)) (least_below P k n t m h)
    ]

none_held : (test : ℕ → Bool) (ks : List ℕ) → (0 < length ks → ⊥) → list_any test ks ≡ false
none_held test [] e = refl
none_held test (k ∷ ks) e = absurd (e (omega arith))

pub least_found : (s : BTreeSet ℕ) (o : Option ℕ) → (IsSome o ↔ (0 < length s.keys)) → IfSome o (λ k. IsTrue (tree.contains nat_cmp s k))
    → IfSome o (tree.IsLowerBound nat_cmp s)
    → (test : ℕ → Bool) (n : ℕ) → HasExactly s test n → o ≡ first_below test n
least_found s None v m l test n h =
    sym (none_below test n (λ q b. sym (h.is q) ∙ none_held (is_at (nat_cmp q)) s.keys (λ some. false≢true (v.1 some))))
least_found s (Some k) v m l test n h =
    let t : test k ≡ true = sym (h.is k) ∙ m in
    sym (least_below test k n t (h.below k t) (λ q p. le_from_not_gt k q (l q (h.is q ∙ p))))

pub least_some : (s : BTreeSet ℕ) (k : ℕ) → IsTrue (tree.contains nat_cmp s k) → tree.IsLowerBound nat_cmp s k
    → (test : ℕ → Bool) (n : ℕ) → HasExactly s test n → ◌≡◌ {A = Option ℕ} (Some k) (first_below test n)
least_some s k m l test n h =
    let t : test k ≡ true = sym (h.is k) ∙ m in
    sym (least_below test k n t (h.below k t) (λ q p. le_from_not_gt k q (l q (h.is q ∙ p))))

pub least_none : (s : BTreeSet ℕ) → (0 < length s.keys → ⊥)
    → (test : ℕ → Bool) (n : ℕ) → HasExactly s test n → ◌≡◌ {A = Option ℕ} None (first_below test n)
least_none s v test n h =
    sym (none_below test n (λ q b. sym (h.is q) ∙ none_held (is_at (nat_cmp q)) s.keys v))

pub some_below : (P : ℕ → Bool) (u n : ℕ) → P u ≡ true → u < n → is_some (first_below P n) ≡ true
some_below P u zero t l = absurd (omega (arith, l))
some_below P u (suc n) t l =
    elim (below_next u n l) as (λ _. is_some (first_below P (suc n)) ≡ true) [
      | inl e ↦
          ap (λ b. is_some (or_else (first_below P n) (if b then Some n else None))) (subst (λ y. P y ≡ true) e t)
          ∙ last_some (first_below P n) n
      | inr m ↦ first_some (first_below P n) (if P n then Some n else None) (some_below P u n t m)
    ]
  where
    last_some : (o : Option ℕ) (n : ℕ) → is_some (or_else o (Some n)) ≡ true
    last_some None n = refl
    last_some (Some k) n = refl

    first_some : (o r : Option ℕ) → is_some o ≡ true → is_some (or_else o r) ≡ true
    first_some None r h = absurd (false≢true h)
    first_some (Some k) r h = refl
