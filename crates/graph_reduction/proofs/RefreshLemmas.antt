-- Tests of more and more blocks.
use Rattle.std.proofs.Common.{◌≡◌, refl, sym, ap, ◌∙◌, ℕ, ◌<◌, Bool, true, false, inl, inr, ◌≤◌, arith}
use Rattle.std.specs.Prelude.{◌||◌, ◌==◌, if◌then◌else◌}
use Rattle.std.specs.Ordering.{nat_cmp}
use Rattle.std.specs.BTreeSet as tree
use Rattle.std.specs.BTreeSet.{BTreeSet}
use Rattle.std.proofs.lemmas.Bool.{cases_Bool, cond-true, cond-false}
use Rattle.graph_search.specs.Flows.{Flow}
use Rattle.graph_reduction.specs.Nodes.{Retests, Refreshes}
use Rattle.graph_reduction.specs.Reduction.{State, fits_one, fits_two}

or_true : (p q : Bool) → q ≡ true → (p || q) ≡ true
or_true true q e = refl
or_true false q e = e

or_false : (p q : Bool) → q ≡ false → (p || q) ≡ p
or_false true q e = refl
or_false false q e = e

retests : (P R S : ℕ → Bool) (test : ℕ → Bool) (old mid new : BTreeSet ℕ) → Retests P test old mid → Retests R test mid new →
    ((q : ℕ) → S q ≡ (P q || R q)) → Retests S test old new
retests P R S test old mid new a b e q =
    elim (cases_Bool (R q)) as (λ _. tree.contains nat_cmp new q ≡ (if S q then test q else tree.contains nat_cmp old q)) [
      | inl t ↦ b q ∙ (cond-true (R q) (test q) (tree.contains nat_cmp mid q) t ∙ sym
          (cond-true (S q) (test q) (tree.contains nat_cmp old q) (e q ∙ or_true (P q) (R q) t)))
      | inr f ↦ b q ∙ (cond-false (R q) (test q) (tree.contains nat_cmp mid q) f ∙
          (a q ∙ ap (λ c. if c then test q else tree.contains nat_cmp old q) (sym (e q ∙ or_false (P q) (R q) f))))
    ]

pub refreshes : (flow : Flow) (s : State) (P R S : ℕ → Bool) (o m n o' m' n' : BTreeSet ℕ) → Refreshes flow s P o m o' m'
    → Refreshes flow s R m n m' n' → ((q : ℕ) → S q ≡ (P q || R q)) → Refreshes flow s S o n o' n'
refreshes flow s P R S o m n o' m' n' a b e =
    record { one = retests P R S (fits_one flow s) o m n a.one b.one e; two = retests P R S (fits_two flow s) o' m' n' a.two b.two e }

at_one : (test : ℕ → Bool) (x : ℕ) (old new : BTreeSet ℕ) → ((q : ℕ) → tree.contains nat_cmp new q ≡
    (if q == x then test q else tree.contains nat_cmp old q)) → Retests (λ q. q == x) test old new
at_one test x old new h q = h q

pub nothing_yet : (flow : Flow) (s : State) (o o' : BTreeSet ℕ) → Refreshes flow s (λ q. false) o o o' o'
nothing_yet flow s o o' = record { one = λ q. refl; two = λ q. refl }

pub le_from_not : (i n : ℕ) → (i < n → ⊥) → n ≤ i
le_from_not i n h = grind arith
