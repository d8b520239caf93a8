-- How the weight of a level changes when a node is taken out.
use Rattle.std.proofs.Common.{◌≡◌, ℕ, suc, ◌+◌, ◌*◌, inl, inr, Bool, true, false, if◌then◌else◌, ◌||◌, nat_eq, List, [], ◌∷◌, ◌++◌, map}
use Rattle.std.proofs.Common.{refl, sym, ap, subst, ◌∙◌, arith}
use Rattle.std.specs.Prelude.{◌&&◌}
use Rattle.std.specs.List.{AllByRecursion}
use Rattle.std.proofs.lemmas.Bool.Decides.{nat_tests}
use Rattle.std.proofs.Math.Nat.{mul-add}
use Rattle.wsym_terms.specs.declared.trees.Tree.{Tree, fold-roll-Tree}
use Rattle.wsym_terms.specs.declared.trees.Tree.TheOpen.{Tree-F}
use Rattle.wsym_terms.specs.declared.trees.Tree.TheVariants.{Seq, Alt}
use Rattle.wsym_terms.specs.declared.trees.Tree.TheVariants as t
use Rattle.tree_law.specs.Ways.{members, through, taken_out}
use Rattle.tree_law.specs.NodeOrders.{leaves_of, level_leaves, leaves_of_ways, sum_over, over_pairs, weight, weight_after, without}
use Rattle.elimination_plans.specs.PlanSteps.{some}
use Rattle.elimination_plans.specs.Weights.{leaves_through, one_if, Only, into_count, out_count, into_leaves, out_leaves}
use Rattle.elimination_plans.proofs.PlanStepLemmas.{ap2}

pub sum_append : {A : Type 0} (f : A → ℕ) (xs ys : List A) → sum_over f (xs ++ ys) ≡ sum_over f xs + sum_over f ys
sum_append f [] ys = omega arith
sum_append f (x ∷ xs) ys = (let r = sum_append f xs ys in omega (arith, r))

pub sum_map : {A : Type 0} (f : A → ℕ) (xs : List A) → sum_over (λ (n : ℕ). n) (map f xs) ≡ sum_over f xs
sum_map f [] = refl
sum_map f (x ∷ xs) = (let r = sum_map f xs in omega (arith, r))

pub seq_leaves : (ts : List Tree) → leaves_of (Seq ts) ≡ sum_over leaves_of ts
seq_leaves ts = ap leaves_of (sym (t.rolls-Seq ts)) ∙ fold-roll-Tree ℕ level_leaves (Tree-F.Seq ts) ∙ sum_map leaves_of ts

alt_leaves : (ts : List Tree) → leaves_of (Alt ts) ≡ sum_over leaves_of ts
alt_leaves ts = ap leaves_of (sym (t.rolls-Alt ts)) ∙ fold-roll-Tree ℕ level_leaves (Tree-F.Alt ts) ∙ sum_map leaves_of ts

choices_leaves : (ws : List (List Tree)) → sum_over leaves_of (map Seq ws) ≡ leaves_of_ways ws
choices_leaves [] = refl
choices_leaves (w ∷ ws) = (let a = seq_leaves w in let b = choices_leaves ws in omega (arith, a, b))

pub members_leaves : (ws : List (List Tree)) → sum_over leaves_of (members ws) ≡ leaves_of_ways ws
members_leaves [] = refl
members_leaves (w ∷ []) = omega arith
members_leaves (w ∷ u ∷ ws) = (let a = alt_leaves (map Seq (w ∷ u ∷ ws)) in let b = choices_leaves (w ∷ u ∷ ws) in omega (arith, a, b))

through_leaves : (a : List (List Tree)) (x : Tree) (b : List (List Tree))
    → leaves_of_ways (through a x b) ≡ leaves_through a (leaves_of x) b
through_leaves [] x b = refl
through_leaves (a ∷ into) x [] = refl
through_leaves (a ∷ into) x (b ∷ out) =
    let f : sum_over leaves_of (members (a ∷ into)) ≡ leaves_of_ways (a ∷ into) = members_leaves (a ∷ into) in
    let g : sum_over leaves_of (members (b ∷ out)) ≡ leaves_of_ways (b ∷ out) = members_leaves (b ∷ out) in
    let h : sum_over leaves_of (members (a ∷ into) ++ x ∷ members (b ∷ out)) ≡ sum_over leaves_of (members (a ∷ into)) + sum_over leaves_of
    (x ∷ members (b ∷ out)) = sum_append leaves_of (members (a ∷ into)) (x ∷ members (b ∷ out)) in
    omega (arith, f, g, h)

-- ---- sums

pub sum_same : (f g : ℕ → ℕ) (xs : List ℕ) → AllByRecursion (λ x. f x ≡ g x) xs → sum_over f xs ≡ sum_over g xs
sum_same f g [] all = refl
sum_same f g (x ∷ xs) all = (let a = all.0 in let b = sum_same f g xs all.1 in omega (arith, a, b))

pub sum_two : (f g : ℕ → ℕ) (xs : List ℕ) → sum_over (λ x. f x + g x) xs ≡ sum_over f xs + sum_over g xs
sum_two f g [] = refl
sum_two f g (x ∷ xs) = (let b = sum_two f g xs in omega (arith, b))

pub without_none : (v : ℕ) (us : List ℕ) → AllByRecursion (λ w. nat_eq w v ≡ false) us → without v us ≡ us
without_none v [] all = refl
without_none v (u ∷ us) all = ap (λ (b : Bool). if b then without v us else u ∷ without v us) all.0
    ∙ ap (λ l. u ∷ l) (without_none v us all.1)

pub others : (v : ℕ) (us : List ℕ) → AllByRecursion (λ w. nat_eq w v ≡ false) (without v us)
others v [] = tt
others v (u ∷ us) = by_test (others v us) (nat_eq u v) refl
  where
    by_test : AllByRecursion (λ w. nat_eq w v ≡ false) (without v us) → (b : Bool) → nat_eq u v ≡ b
        → AllByRecursion (λ w. nat_eq w v ≡ false) (if b then without v us else u ∷ without v us)
    by_test rest true e = rest
    by_test rest false e = (e, rest)

pub sum_out : (f : ℕ → ℕ) (v : ℕ) (us : List ℕ) → Only v us → sum_over f us ≡ f v + sum_over f (without v us)
sum_out f v [] o = absurd o
sum_out f v (u ∷ us) (inl o) =
    let same : u ≡ v = (let e = o.0 in grind (arith, nat_tests)) in
    let rest : without v (u ∷ us) ≡ us = ap (λ (b : Bool). if b then without v us else u ∷ without v us) o.0 ∙ without_none v us o.1 in
    ap (λ z. f z + sum_over f us) same ∙ ap (λ l. f v + sum_over f l) (sym rest)
sum_out f v (u ∷ us) (inr o) =
    let ih : sum_over f us ≡ f v + sum_over f (without v us) = sum_out f v us o.1 in
    let rest : sum_over f (without v (u ∷ us)) ≡ f u + sum_over f (without v us) = ap
    (λ (b : Bool). sum_over f (if b then without v us else u ∷ without v us)) o.0 in
    omega (arith, ih, rest)

pub every : (P : ℕ → Type 0) (us : List ℕ) → ((u : ℕ) → P u) → AllByRecursion P us
every P [] h = tt
every P (u ∷ us) h = (h u, every P us h)

pub pairs_out : (f : ℕ → ℕ → ℕ) (v : ℕ) (us : List ℕ) → Only v us → over_pairs f us ≡ f v v + sum_over (f v) (without v us) +
    (sum_over (λ p. f p v) (without v us) + over_pairs f (without v us))
pairs_out f v us o =
    let a : over_pairs f us ≡ sum_over (f v) us + sum_over (λ p. sum_over (f p) us) (without v us) = sum_out (λ p. sum_over (f p) us) v us o
    in
    let b : sum_over (f v) us ≡ f v v + sum_over (f v) (without v us) = sum_out (f v) v us o in
    let c : sum_over (λ p. sum_over (f p) us) (without v us) ≡ sum_over (λ p. f p v + sum_over (f p) (without v us)) (without v us)
    = sum_same (λ p. sum_over (f p) us) (λ p. f p v + sum_over (f p) (without v us)) (without v us)
    (every (λ p. sum_over (f p) us ≡ f p v + sum_over (f p) (without v us)) (without v us) (λ p. sum_out (f p) v us o)) in
    let d : sum_over (λ p. f p v + sum_over (f p) (without v us)) (without v us) ≡ sum_over (λ p. f p v) (without v us) + over_pairs f
    (without v us) = sum_two (λ p. f p v) (λ p. sum_over (f p) (without v us)) (without v us) in
    omega (arith, a, b, c, d)

-- ---- the ways through a node

-- along one edge into it
pub row_sum : (x : ℕ) (k : ℕ → Bool) (b : ℕ → ℕ) → ((q : ℕ) → k q ≡ false → b q ≡ 0) → (qs : List ℕ)
    → sum_over (λ q. if k q then x + b q else 0) qs ≡ sum_over (λ q. one_if (k q)) qs * x + sum_over b qs
row_sum x k b none [] = grind arith
row_sum x k b none (q ∷ qs) = by_test (row_sum x k b none qs) (k q) refl
  where
    o : ℕ
    o = sum_over (λ q. one_if (k q)) qs

    more : suc o * x ≡ x + o * x
    more = grind arith

    by_test : sum_over (λ q. if k q then x + b q else 0) qs ≡ o * x + sum_over b qs → (c : Bool) → k q ≡ c
        → (if c then x + b q else 0) + sum_over (λ q. if k q then x + b q else 0) qs ≡ (one_if c + o) * x + (b q + sum_over b qs)
    by_test ih true e = omega (arith, ih, more)
    by_test ih false e = (let z = none q e in omega (arith, ih, z))

-- along each
pub rows_sum : (h : ℕ → Bool) (a : ℕ → ℕ) → ((p : ℕ) → h p ≡ false → a p ≡ 0) → (o n B : ℕ) (ps : List ℕ)
    → sum_over (λ p. if h p then o * (a p + n) + B else 0) ps ≡ o * sum_over a ps + sum_over (λ p. one_if (h p)) ps * (o * n + B)
rows_sum h a none o n B [] = grind arith
rows_sum h a none o n B (p ∷ ps) = by_test (rows_sum h a none o n B ps) (h p) refl
  where
    i : ℕ
    i = sum_over (λ p. one_if (h p)) ps

    all : ℕ
    all = sum_over a ps

    more : suc i * (o * n + B) ≡ (o * n + B) + i * (o * n + B)
    more = grind arith

    split : o * (a p + n) ≡ o * a p + o * n
    split = mul-add o (a p) n

    joined : o * (a p + all) ≡ o * a p + o * all
    joined = mul-add o (a p) all

    by_test : sum_over (λ p. if h p then o * (a p + n) + B else 0) ps ≡ o * all + i * (o * n + B) → (c : Bool) → h p ≡ c
        → (if c then o * (a p + n) + B else 0) + sum_over (λ p. if h p then o * (a p + n) + B else 0) ps ≡ o * (a p + all) + (one_if c + i)
        * (o * n + B)
    by_test ih true e = omega (arith, ih, more, split, joined)
    by_test ih false e =
        let z : a p ≡ 0 = none p e in
        let w : a p + all ≡ all = omega (arith, z) in
        let y : o * (a p + all) ≡ o * all = ap (λ x. o * x) w in
        omega (arith, ih, y)

-- ---- the weight

pub no_leaves : (ws : List (List Tree)) → some ws ≡ false → leaves_of_ways ws ≡ 0
no_leaves [] e = refl
no_leaves (w ∷ ws) e = absurd (cc)

module _ (tree : ℕ → Tree) (ways : ℕ → ℕ → List (List Tree)) (v : ℕ) where
  abbrev L : ℕ → ℕ → ℕ
  L p q = leaves_of_ways (ways p q)

  abbrev n : ℕ
  n = leaves_of (tree v)

  -- the leaves of the new ways between some nodes
  pub new_leaves : (us : List ℕ) → over_pairs (λ p q. leaves_through (ways p v) n (ways v q)) us ≡ out_count ways v us * into_leaves ways v
      us + into_count ways v us * (out_count ways v us * n + out_leaves ways v us)
  new_leaves us =
      sum_same (λ p. sum_over (λ q. leaves_through (ways p v) n (ways v q)) us) (λ p. if some (ways p v) then o * (L p v + n) + B else 0) us
      (every _ us row)
      ∙ rows_sum (λ p. some (ways p v)) (λ p. L p v) (λ p e. no_leaves (ways p v) e) o n B us
    where
      o : ℕ
      o = out_count ways v us

      B : ℕ
      B = out_leaves ways v us

      nothing : (qs : List ℕ) → sum_over (λ (q : ℕ). 0) qs ≡ 0
      nothing [] = refl
      nothing (q ∷ qs) = (let r = nothing qs in omega (arith, r))

      by_test : (b : Bool) (p : ℕ) → sum_over (λ q. if b && some (ways v q) then L p v + n + L v q else 0) us ≡
          (if b then o * (L p v + n) + B else 0)
      by_test true p = row_sum (L p v + n) (λ q. some (ways v q)) (L v) (λ q e. no_leaves (ways v q) e) us
      by_test false p = nothing us

      row : (p : ℕ) → sum_over (λ q. leaves_through (ways p v) n (ways v q)) us ≡ (if some (ways p v) then o * (L p v + n) + B else 0)
      row p = by_test (some (ways p v)) p

  ways_leaves : (p q : ℕ) → nat_eq p v ≡ false → nat_eq q v ≡ false → leaves_of_ways (taken_out tree v ways p q) ≡ L p q + leaves_through
      (ways p v) n (ways v q)
  ways_leaves p q a b =
      ap2 (λ (x y : Bool). leaves_of_ways (if x || y then [] else ways p q ++ through (ways p v) (tree v) (ways v q))) a b
      ∙ sum_append (sum_over leaves_of) (ways p q) (through (ways p v) (tree v) (ways v q))
      ∙ ap (λ x. L p q + x) (through_leaves (ways p v) (tree v) (ways v q))

  left_leaves : (us : List ℕ) → AllByRecursion (λ u. nat_eq u v ≡ false) us
      → over_pairs (λ p q. leaves_of_ways (taken_out tree v ways p q)) us ≡ over_pairs L us + over_pairs
      (λ p q. leaves_through (ways p v) n (ways v q)) us
  left_leaves us all =
      sum_same (λ p. sum_over (λ q. leaves_of_ways (taken_out tree v ways p q)) us)
      (λ p. sum_over (L p) us + sum_over (λ q. leaves_through (ways p v) n (ways v q)) us) us (rows us all)
      ∙ sum_two (λ p. sum_over (L p) us) (λ p. sum_over (λ q. leaves_through (ways p v) n (ways v q)) us) us
    where
      cells : (p : ℕ) → nat_eq p v ≡ false → (qs : List ℕ) → AllByRecursion (λ u. nat_eq u v ≡ false) qs
          → AllByRecursion (λ q. leaves_of_ways (taken_out tree v ways p q) ≡ L p q + leaves_through (ways p v) n (ways v q)) qs
      cells p a [] all = tt
      cells p a (q ∷ qs) all = (ways_leaves p q a all.0, cells p a qs all.1)

      rows : (ps : List ℕ) → AllByRecursion (λ u. nat_eq u v ≡ false) ps
          → AllByRecursion (λ p. sum_over (λ q. leaves_of_ways (taken_out tree v ways p q)) us ≡ sum_over (L p) us + sum_over
          (λ q. leaves_through (ways p v) n (ways v q)) us) ps
      rows [] each = tt
      rows (p ∷ ps) each = (
        sum_same _ _ us (cells p each.0 us all) ∙ sum_two (L p) (λ q. leaves_through (ways p v) n (ways v q)) us,
        rows
            ps each.1,
      )

  -- how the weight changes: with the ends and the other nodes as us
  pub weight_changes : (s t : ℕ) (left : List ℕ) → nat_eq s v ≡ false → nat_eq t v ≡ false → Only v left → ways v v ≡ []
      → weight_after tree s t ways left v + (into_leaves ways v (s ∷ t ∷ without v left) + out_leaves ways v (s ∷ t ∷ without v left) + n)
      ≡ weight tree s t ways left + (out_count ways v (s ∷ t ∷ without v left) * into_leaves ways v (s ∷ t ∷ without v left)
      + into_count ways v (s ∷ t ∷ without v left) * (out_count ways v (s ∷ t ∷ without v left) * n + out_leaves ways v
      (s ∷ t ∷ without v left)))
  weight_changes s t left a b only none =
      let us : List ℕ = s ∷ t ∷ without v left in
      let same : without v (s ∷ t ∷ left) ≡ s ∷ t ∷ without v left = ap2
      (λ (x y : Bool). if x then (if y then without v left else t ∷ without v left) else s ∷
      (if y then without v left else t ∷ without v left)) a b in
      let out : over_pairs L (s ∷ t ∷ left) ≡ L v v + sum_over (L v) (s ∷ t ∷ without v left) +
      (sum_over (λ p. L p v) (s ∷ t ∷ without v left) + over_pairs L (s ∷ t ∷ without v left))
      = subst (λ l. over_pairs L (s ∷ t ∷ left) ≡ L v v + sum_over (L v) l + (sum_over (λ p. L p v) l + over_pairs L l)) same
      (pairs_out L v (s ∷ t ∷ left) (inr (a, inr (b, only)))) in
      let own : L v v ≡ 0 = ap leaves_of_ways none in
      let trees : sum_over (λ u. leaves_of (tree u)) left ≡ n + sum_over (λ u. leaves_of (tree u)) (without v left) = sum_out
      (λ u. leaves_of (tree u)) v left only in
      let new : over_pairs (λ p q. leaves_of_ways (taken_out tree v ways p q)) (s ∷ t ∷ without v left) ≡ over_pairs L
      (s ∷ t ∷ without v left) + over_pairs (λ p q. leaves_through (ways p v) n (ways v q)) (s ∷ t ∷ without v left) = left_leaves
      (s ∷ t ∷ without v left) (a, (b, others v left)) in
      let made = new_leaves (s ∷ t ∷ without v left) in
      omega (arith, out, own, trees, new, made)
