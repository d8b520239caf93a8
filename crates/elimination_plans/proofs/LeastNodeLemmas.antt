-- The least of a set of pairs of gains and nodes is the node that comes next.
use Rattle.std.proofs.Common.{◌≡◌, ℕ, zero, suc, ◌+◌, ◌*◌, ◌<◌, ◌≤◌, ◌⊎◌, inl, inr, Bool, true, false, if◌then◌else◌, nat_eq, nat_le, List}
use Rattle.std.proofs.Common.{[], ◌∷◌, refl, sym, ap, ◌∙◌, arith}
use Rattle.std.specs.Prelude.{Option, Some, None}
use Rattle.std.specs.List.{AllByRecursion}
use Rattle.std.proofs.lemmas.Bool.Decides.{nat_tests}
use Rattle.wsym_terms.specs.declared.trees.Tree.{Tree}
use Rattle.tree_law.specs.Ways.{IsIn}
use Rattle.tree_law.specs.NodeOrders.{leaves_of, lesser, first_least, weight, weight_after, without}
use Rattle.tree_law.proofs.NodeOrderLemmas.{least_is_in}
use Rattle.elimination_plans.specs.Weights.{Only, into_count, out_count, into_leaves, out_leaves, gain}
use Rattle.elimination_plans.proofs.WeightLemmas.{weight_changes}

abbrev pub Rising : List ℕ → Type 0
Rising [] = Unit {0}
Rising (x ∷ xs) = AllByRecursion (λ y. x < y) xs × Rising xs

pub later : (x v : ℕ) (xs : List ℕ) → AllByRecursion (λ y. x < y) xs → IsIn v xs → x < v
later x v [] all i = absurd i
later x v (y ∷ ys) all (inl e) = (let a = all.0 in omega (arith, a, e))
later x v (y ∷ ys) all (inr i) = later x v ys all.1 i

pub least_found : (g : ℕ → ℕ) (left : List ℕ) (v : ℕ) → Rising left → IsIn v left
    → ((u : ℕ) → IsIn u left → (g v < g u) ⊎ ((g v ≡ g u) × (v ≤ u))) → first_least g left ≡ Some v
least_found g [] v r i h = absurd i
least_found g (x ∷ xs) v r (inl e) h = by_rest (first_least g xs) refl
  where
    first : (u : ℕ) → (g v < g u) ⊎ ((g v ≡ g u) × (v ≤ u)) → g x ≤ g u
    first u (inl l) = (let s : g v ≡ g x = ap g e in omega (arith, l, s))
    first u (inr l) = (let s : g v ≡ g x = ap g e in let m = l.0 in omega (arith, m, s))

    by_rest : (o : Option ℕ) → first_least g xs ≡ o → lesser g x o ≡ Some v
    by_rest None f = ap Some (sym e)
    by_rest (Some u) f =
        let l : g x ≤ g u = first u (h u (inr (least_is_in g xs u f))) in
        let t : nat_le (g x) (g u) ≡ true = grind (arith, nat_tests) in
        ap (λ (b : Bool). if b then Some x else Some u) t ∙ ap Some (sym e)
least_found g (x ∷ xs) v r (inr i) h =
    let ih : first_least g xs ≡ Some v = least_found g xs v r.1 i (λ u j. h u (inr j)) in
    let l : g v < g x = more (h x (inl refl)) in
    let t : nat_le (g x) (g v) ≡ false = grind (arith, nat_tests) in
    ap (lesser g x) ih ∙ ap (λ (b : Bool). if b then Some x else Some v) t
  where
    more : (g v < g x) ⊎ ((g v ≡ g x) × (v ≤ x)) → g v < g x
    more (inl l) = l
    more (inr k) = (let a = later x v xs r.0 i in let b = k.1 in absurd (omega (arith, a, b)))

-- with the same weight before, the least weight is the least gain
pub same_least : (f g : ℕ → ℕ) (w : ℕ) (left : List ℕ) → AllByRecursion (λ v. f v ≡ w + g v) left → first_least f left ≡ first_least g left
same_least f g w [] all = refl
same_least f g w (x ∷ xs) all = ap (lesser f x) (same_least f g w xs all.1) ∙ by_rest (first_least g xs) refl
  where
    each : (u : ℕ) (us : List ℕ) → AllByRecursion (λ v. f v ≡ w + g v) us → IsIn u us → f u ≡ w + g u
    each u [] a i = absurd i
    each u (y ∷ ys) a (inl e) = ap f e ∙ a.0 ∙ ap (λ z. w + g z) (sym e)
    each u (y ∷ ys) a (inr i) = each u ys a.1 i

    tests : (a b c d : ℕ) → a ≡ w + c → b ≡ w + d → nat_le a b ≡ nat_le c d
    tests a b c d e h = grind (arith, nat_tests)

    by_rest : (o : Option ℕ) → first_least g xs ≡ o → lesser f x o ≡ lesser g x o
    by_rest None e = refl
    by_rest (Some u) e = ap (λ (b : Bool). if b then Some x else Some u)
        (tests (f x) (f u) (g x) (g u) all.0 (each u xs all.1 (least_is_in g xs u e)))

at_least : (o A : ℕ) → 1 ≤ o → A ≤ o * A
at_least zero A h = absurd (omega (arith, h))
at_least (suc o) A h = (let m : suc o * A ≡ A + o * A = grind arith in omega (arith, m))

pub weight_is : (tree : ℕ → Tree) (ways : ℕ → ℕ → List (List Tree)) (s t v : ℕ) (left : List ℕ) → nat_eq s v ≡ false → nat_eq t v ≡ false
    → Only v left → ways v v ≡ [] → 1 ≤ into_count ways v (s ∷ t ∷ without v left) → 1 ≤ out_count ways v (s ∷ t ∷ without v left)
    → weight_after tree s t ways left v ≡ weight tree s t ways left + gain (into_count ways v (s ∷ t ∷ without v left))
    (out_count ways v (s ∷ t ∷ without v left)) (into_leaves ways v (s ∷ t ∷ without v left))
    (out_leaves ways v (s ∷ t ∷ without v left)) (leaves_of (tree v))
weight_is tree ways s t v left a b only none hi ho =
    let i : ℕ = into_count ways v (s ∷ t ∷ without v left) in
    let o : ℕ = out_count ways v (s ∷ t ∷ without v left) in
    let A : ℕ = into_leaves ways v (s ∷ t ∷ without v left) in
    let B : ℕ = out_leaves ways v (s ∷ t ∷ without v left) in
    let n : ℕ = leaves_of (tree v) in
    let c = weight_changes tree ways v s t left a b only none in
    let p : A ≤ o * A = at_least o A ho in
    let q : n ≤ o * n = at_least o n ho in
    let r : o * n + B ≤ i * (o * n + B) = at_least i (o * n + B) hi in
    omega (arith, c, p, q, r)
