-- The order of taking out names exactly the nodes that it is made from.
use Rattle.std.proofs.Common.{◌≡◌, ◌≢◌, ℕ, zero, suc, ◌+◌, ◌<◌, ◌≤◌, ◌⊎◌, inl, inr, Bool, true, false, if◌then◌else◌, nat_eq, nat_le, List}
use Rattle.std.proofs.Common.{[], ◌∷◌, length, refl, sym, ap, subst, ◌∙◌, arith}
use Rattle.std.specs.Prelude.{Option, Some, None}
use Rattle.std.proofs.lemmas.Bool.Decides.{nat_tests}
use Rattle.std.specs.List.{AllByRecursion}
use Rattle.wsym_terms.specs.declared.trees.Tree.{Tree}
use Rattle.tree_law.specs.Ways.{taken_out, IsIn}
use Rattle.tree_law.specs.NodeOrders.{without, lesser, first_least, first_then, order_in, order_of, weight_after}

-- the first least of a list is in it
pub least_is_in : (f : ℕ → ℕ) (vs : List ℕ) (v : ℕ) → first_least f vs ≡ Some v → IsIn v vs
least_is_in f [] v e = absurd (cc)
least_is_in f (u ∷ us) v e = by_rest (first_least f us) (least_is_in f us) e
  where
    by_rest : (o : Option ℕ) → ((w : ℕ) → o ≡ Some w → IsIn w us) → lesser f u o ≡ Some v → IsIn v (u ∷ us)
    by_rest None ih e = inl cc
    by_rest (Some w) ih e = by_test (nat_le (f u) (f w)) e
      where
        by_test : (b : Bool) → (if b then Some u else Some w) ≡ Some v → IsIn v (u ∷ us)
        by_test true e = inl cc
        by_test false e = inr (ih v e)

-- and there is one in each list but the empty one
pub none_is_least : (f : ℕ → ℕ) (v : ℕ) (vs : List ℕ) → first_least f (v ∷ vs) ≡ None → ⊥
none_is_least f v vs e = by_rest (first_least f vs) e
  where
    by_rest : (o : Option ℕ) → lesser f v o ≡ None → ⊥
    by_rest None e = cc
    by_rest (Some w) e = by_test (nat_le (f v) (f w)) e
      where
        by_test : (b : Bool) → (if b then Some v else Some w) ≡ None → ⊥
        by_test true e = cc
        by_test false e = cc

shorter_step : (u v : ℕ) (us : List ℕ) (n : ℕ) → length (without v us) ≤ n → length (without v (u ∷ us)) ≤ suc n
shorter_step u v us n h = by_test (nat_eq u v)
  where
    by_test : (b : Bool) → length (if b then without v us else u ∷ without v us) ≤ suc n
    by_test true = omega (arith, h)
    by_test false = omega (arith, h)

no_longer : (v : ℕ) (us : List ℕ) → length (without v us) ≤ length us
no_longer v [] = omega arith
no_longer v (u ∷ us) = shorter_step u v us (length us) (no_longer v us)

pub shorter : (v : ℕ) (us : List ℕ) → IsIn v us → length (without v us) < length us
shorter v [] i = absurd i
shorter v (u ∷ us) i = by_test (shorter v us) (nat_eq u v) refl
  where
    later : nat_eq u v ≡ false → (v ≡ u) ⊎ IsIn v us → IsIn v us
    later e (inl same) = absurd (grind (arith, nat_tests))
    later e (inr j) = j

    by_test : (IsIn v us → length (without v us) < length us) → (b : Bool) → nat_eq u v ≡ b → length
        (if b then without v us else u ∷ without v us) < suc (length us)
    by_test ih true e = (let h = no_longer v us in omega (arith, h))
    by_test ih false e = (let h = ih (later e i) in omega (arith, h))

-- what all have, all that are left have
pub all_without : (P : ℕ → Type 0) (v : ℕ) (us : List ℕ) → AllByRecursion P us → AllByRecursion P (without v us)
all_without P v [] all = tt
all_without P v (u ∷ us) all = by_test (all_without P v us all.1) (nat_eq u v)
  where
    by_test : AllByRecursion P (without v us) → (b : Bool) → AllByRecursion P (if b then without v us else u ∷ without v us)
    by_test rest true = rest
    by_test rest false = (all.0, rest)

pub in_without : (v u : ℕ) (us : List ℕ) → IsIn u us → (u ≡ v) ⊎ IsIn u (without v us)
in_without v u [] i = absurd i
in_without v u (w ∷ us) i = by_place (in_without v u us) (nat_eq w v) refl i
  where
    later : (u ≡ v) ⊎ IsIn u (without v us) → (u ≡ v) ⊎ IsIn u (w ∷ without v us)
    later (inl same) = inl same
    later (inr k) = inr (inr k)

    by_place : (IsIn u us → (u ≡ v) ⊎ IsIn u (without v us)) → (b : Bool) → nat_eq w v ≡ b → (u ≡ w) ⊎ IsIn u us → (u ≡ v) ⊎ IsIn u
        (if b then without v us else w ∷ without v us)
    by_place ih true e (inl same) = inl (grind (arith, nat_tests))
    by_place ih false e (inl same) = inr (inl same)
    by_place ih true e (inr j) = ih j
    by_place ih false e (inr j) = later (ih j)

at : (P : ℕ → Type 0) (v : ℕ) (us : List ℕ) → AllByRecursion P us → IsIn v us → P v
at P v [] all i = absurd i
at P v (u ∷ us) all (inl e) = subst P (sym e) all.0
at P v (u ∷ us) all (inr i) = at P v us all.1 i

module _ (tree : ℕ → Tree) (s t : ℕ) where
  order_all : (P : ℕ → Type 0) (n : ℕ) (ways : ℕ → ℕ → List (List Tree)) (left : List ℕ) → AllByRecursion P left → AllByRecursion P
      (order_in tree s t n ways left)
  order_all P zero ways left all = tt
  order_all P (suc n) ways left all = by_first (λ v. order_all P n (taken_out tree v ways) (without v left) (all_without P v left all))
      (first_least (weight_after tree s t ways left) left) refl
    where
      by_first : ((v : ℕ) → AllByRecursion P (order_in tree s t n (taken_out tree v ways) (without v left))) → (o : Option ℕ) → first_least
          (weight_after tree s t ways left) left ≡ o → AllByRecursion P
          (first_then (λ v. order_in tree s t n (taken_out tree v ways) (without v left)) o)
      by_first ih None e = tt
      by_first ih (Some v) e = (at P v left all (least_is_in (weight_after tree s t ways left) left v e), ih v)

  order_has : (n : ℕ) (ways : ℕ → ℕ → List (List Tree)) (left : List ℕ) (u : ℕ) → length left ≤ n → IsIn u left → IsIn u
      (order_in tree s t n ways left)
  order_has zero ways [] u h i = absurd i
  order_has zero ways (v ∷ vs) u h i = absurd (omega (arith, h))
  order_has (suc n) ways [] u h i = absurd i
  order_has (suc n) ways (v ∷ vs) u h i = by_first (λ w. order_has n (taken_out tree w ways) (without w (v ∷ vs)) u)
      (first_least (weight_after tree s t ways (v ∷ vs)) (v ∷ vs)) refl
    where
      left : List ℕ
      left = v ∷ vs

      by_first : ((w : ℕ) → length (without w left) ≤ n → IsIn u (without w left) → IsIn u
          (order_in tree s t n (taken_out tree w ways) (without w left))) → (o : Option ℕ) → first_least
          (weight_after tree s t ways left) left ≡ o → IsIn u (first_then
          (λ v. order_in tree s t n (taken_out tree v ways) (without v left)) o)
      by_first ih None e = absurd (none_is_least (weight_after tree s t ways left) v vs e)
      by_first ih (Some w) e = by_place (in_without w u left i)
        where
          fits : length (without w left) ≤ n
          fits = (let l = shorter w left (least_is_in (weight_after tree s t ways left) left w e) in omega (arith, h, l))

          by_place : (u ≡ w) ⊎ IsIn u (without w left) → IsIn u (w ∷ order_in tree s t n (taken_out tree w ways) (without w left))
          by_place (inl same) = inl same
          by_place (inr j) = inr (ih w fits j)

  -- what holds of the nodes holds of those of the order
  pub all_of_order : (P : ℕ → Type 0) (ways : ℕ → ℕ → List (List Tree)) (left : List ℕ) → AllByRecursion P left → AllByRecursion P
      (order_of tree s t ways left)
  all_of_order P ways left = order_all P (length left) ways left

  -- and the order has each of them
  pub order_has_all : (ways : ℕ → ℕ → List (List Tree)) (left : List ℕ) (u : ℕ) → IsIn u left → IsIn u (order_of tree s t ways left)
  order_has_all ways left u i = order_has (length left) ways left u (omega arith) i
