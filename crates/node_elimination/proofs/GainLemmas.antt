-- The set of gains while sums change and nodes are taken out.
use Rattle.std.proofs.Common.{◌≡◌, ℕ, ◌<◌, ◌≤◌, ◌⊎◌, inl, inr, Bool, true, false, if◌then◌else◌, nat_eq, List, [], ◌∷◌, length, refl, sym}
use Rattle.std.proofs.Common.{ap, subst, ◌∙◌, arith}
use Rattle.std.specs.Prelude.{◌&&◌, cond}
use Rattle.std.specs.Ordering.{is_gt}
use Rattle.std.specs.List.{list_any}
use Rattle.std.specs.BTreeMap.{is_at}
use Rattle.std.specs.BTreeSet as keys
use Rattle.std.specs.BTreeSet.{BTreeSet}
use Rattle.std.proofs.lemmas.Bool.Decides.{nat_tests}
use Rattle.elimination_plans.specs.Plans.{pair_cmp}
use Rattle.elimination_plans.proofs.PlanStepLemmas.{ap2}
use Rattle.node_elimination.specs.declared.tally.Sums.{Sums}
use Rattle.node_elimination.specs.declared.tally.Tally.{Tally}
use Rattle.node_elimination.specs.Tables.{sums_at, leaves_at, gain_by, gain_at, Gains, Before, without_node}
use Rattle.node_elimination.proofs.CellChangeLemmas.{pair_at, self_eq, same_number}

both : (b c : Bool) → (b && c) ≡ true → (b ≡ true) × (c ≡ true)
both true c e = (refl, e)
both false c e = absurd (cc)

first_le : (a b c d : ℕ) → is_gt (pair_cmp (a, b) (c, d)) ≡ false → a ≤ c
first_le a b c d h = grind (arith, nat_tests)

second_le : (a b d : ℕ) → is_gt (pair_cmp (a, b) (a, d)) ≡ false → b ≤ d
second_le a b d h = grind (arith, nat_tests)

before : (a b c d : ℕ) → is_gt (pair_cmp (a, b) (c, d)) ≡ false → (a < c) ⊎ ((a ≡ c) × (b ≤ d))
before a b c d h = by_test (nat_eq a c) refl
  where
    by_test : (t : Bool) → nat_eq a c ≡ t → (a < c) ⊎ ((a ≡ c) × (b ≤ d))
    by_test true e =
        let same : a ≡ c = same_number a c e in
        inr (same, second_le a b d (subst (λ (x : ℕ). is_gt (pair_cmp (a, b) (x, d)) ≡ false) (sym same) h))
    by_test false e = (let l = first_le a b c d h in inl (grind (arith, nat_tests)))

held : (live : ℕ → Bool) (t : Tally) → Gains live t → (u : ℕ) → keys.contains pair_cmp t.gains (gain_at t u, u) ≡ live u
held live t h u = h (gain_at t u) u ∙ ap (λ (b : Bool). live u && b) (self_eq (gain_at t u)) ∙ and_true (live u)
  where
    and_true : (b : Bool) → (b && true) ≡ b
    and_true true = refl
    and_true false = refl

pub least_live : (t : Tally) (g v : ℕ) → keys.contains pair_cmp t.gains (g, v) ≡ true → keys.IsLowerBound pair_cmp t.gains (g, v)
    → (live : ℕ → Bool) → Gains live t → (live v ≡ true) × ((u : ℕ) → live u ≡ true → Before t v u)
least_live t g v member low live h =
    let b = both (live v) (nat_eq g (gain_at t v)) (sym (h g v) ∙ member) in
    let same : g ≡ gain_at t v = same_number g (gain_at t v) b.1 in (
      b.0,
      λ u l. before (gain_at t v) v (gain_at t u) u (subst (λ (x : ℕ). is_gt (pair_cmp (x, v) (gain_at t u, u)) ≡ false) same
          (low (gain_at t u, u) (held live t h u ∙ l))),
    )

pub rest_live : (t : Tally) (new : BTreeSet (ℕ × ℕ)) (g v : ℕ) → keys.contains pair_cmp t.gains (g, v) ≡ true
    → ((k : ℕ × ℕ) → keys.contains pair_cmp new k ≡ cond (is_at (pair_cmp (g, v)) k) false (keys.contains pair_cmp t.gains k))
    → (live : ℕ → Bool) → Gains live t → (h u : ℕ) → keys.contains pair_cmp new (h, u) ≡ (without_node v live u && nat_eq h (gain_at t u))
rest_live t new g v member out live held h u =
    out (h, u) ∙ ap2 (λ (c o : Bool). cond c false o) (pair_at g v h u) (held h u) ∙ by_test (nat_eq u v) refl
  where
    same : g ≡ gain_at t v
    same = same_number g (gain_at t v) (both (live v) (nat_eq g (gain_at t v)) (sym (held g v) ∙ member)).1

    by_gain : (a b l : Bool) → a ≡ b → (if a && true then false else l && b) ≡ false
    by_gain true b l e = refl
    by_gain false true l e = absurd (cc)
    by_gain false false true e = refl
    by_gain false false false e = refl

    none : (a : Bool) (x : Bool) → (if a && false then false else x) ≡ x
    none true x = refl
    none false x = refl

    by_test : (b : Bool) → nat_eq u v ≡ b → (if nat_eq h g && b then false else live u && nat_eq h (gain_at t u)) ≡
        ((if b then false else live u) && nat_eq h (gain_at t u))
    by_test true e = by_gain (nat_eq h g) (nat_eq h (gain_at t u)) (live u)
        (ap (nat_eq h) (same ∙ ap (gain_at t) (sym (same_number u v e))))
    by_test false e = none (nat_eq h g) (live u && nat_eq h (gain_at t u))

none_held : (test : ℕ × ℕ → Bool) (ks : List (ℕ × ℕ)) → (0 < length ks → ⊥) → list_any test ks ≡ false
none_held test [] e = refl
none_held test (k ∷ ks) e = absurd (e (omega arith))

pub none_live : (t : Tally) → (0 < length t.gains.keys → ⊥) → (live : ℕ → Bool) → Gains live t → (u : ℕ) → live u ≡ false
none_live t e live h u = sym (held live t h u) ∙ none_held (is_at (pair_cmp (gain_at t u, u))) t.gains.keys e

-- ---- a node with other sums

pub set_gains : (t : Tally) (node : ℕ) (value : Sums) (list : List Sums) (a b : ℕ) → a ≡ gain_at t node
    → b ≡ gain_by value (leaves_at t.leaves.items node) → ((q : ℕ) → sums_at list q ≡
    (if nat_eq q node then value else sums_at t.sums.items q))
    → (test : Bool) (mid new : BTreeSet (ℕ × ℕ)) (leaves : List ℕ) → test ≡ keys.contains pair_cmp t.gains (a, node)
    → ((k : ℕ × ℕ) → keys.contains pair_cmp mid k ≡ cond (is_at (pair_cmp (a, node)) k) false (keys.contains pair_cmp t.gains k))
    → ((test ≡ true) × ((k : ℕ × ℕ) → keys.contains pair_cmp new k ≡ cond (is_at (pair_cmp (b, node)) k) true
    (keys.contains pair_cmp mid k))) ⊎ ((test ≡ false) × (new ≡ mid))
    → leaves ≡ t.leaves.items → (live : ℕ → Bool) → Gains live t → (g u : ℕ)
    → keys.contains pair_cmp new (g, u) ≡ (live u && nat_eq g (gain_by (sums_at list u) (leaves_at leaves u)))
set_gains t node value list a b old is put test mid new leaves was out into l live h g u = by_test (nat_eq u node) refl into
  where
    live_is : live node ≡ test
    live_is = sym (held live t h node) ∙ ap (λ (x : ℕ). keys.contains pair_cmp t.gains (x, node)) (sym old) ∙ sym was

    end : (nat_eq u node ≡ true) → nat_eq g (gain_by (sums_at list u) (leaves_at leaves u)) ≡ nat_eq g b
    end e =
        ap (nat_eq g)
        (ap2 gain_by (put u ∙ ap (λ (c : Bool). if c then value else sums_at t.sums.items u) e) (ap2 leaves_at l (same_number u node e))
        ∙ sym is)

    other : (nat_eq u node ≡ false) → nat_eq g (gain_by (sums_at list u) (leaves_at leaves u)) ≡ nat_eq g (gain_at t u)
    other e = ap (nat_eq g) (ap2 gain_by (put u ∙ ap (λ (c : Bool). if c then value else sums_at t.sums.items u) e)
        (ap (λ (xs : List ℕ). leaves_at xs u) l))

    mid_is : keys.contains pair_cmp mid (g, u) ≡ cond (nat_eq g a && nat_eq u node) false (live u && nat_eq g (gain_at t u))
    mid_is = out (g, u) ∙ ap2 (λ (c o : Bool). cond c false o) (pair_at a node g u) (h g u)

    -- of the node itself nothing is left after the removal
    gone : (x y m : Bool) → y ≡ x → cond (x && true) false (m && y) ≡ false
    gone true y m e = refl
    gone false true m e = absurd (cc)
    gone false false true e = refl
    gone false false false e = refl

    no_more : nat_eq u node ≡ true → keys.contains pair_cmp mid (g, u) ≡ false
    no_more e =
        mid_is ∙ ap (λ (c : Bool). cond (nat_eq g a && c) false (live u && nat_eq g (gain_at t u))) e
        ∙ gone (nat_eq g a) (nat_eq g (gain_at t u)) (live u) (ap (nat_eq g) (ap (gain_at t) (same_number u node e) ∙ sym old))

    same_live : nat_eq u node ≡ true → live u ≡ test
    same_live e = ap live (same_number u node e) ∙ live_is

    keep : (x m : Bool) → cond (x && false) false m ≡ m
    keep true m = refl
    keep false m = refl

    still : nat_eq u node ≡ false → keys.contains pair_cmp mid (g, u) ≡ (live u && nat_eq g (gain_at t u))
    still e = mid_is ∙ ap (λ (c : Bool). cond (nat_eq g a && c) false (live u && nat_eq g (gain_at t u))) e
        ∙ keep (nat_eq g a) (live u && nat_eq g (gain_at t u))

    there : (x : Bool) → cond (x && true) true false ≡ (true && x)
    there true = refl
    there false = refl

    keep_true : (x m : Bool) → cond (x && false) true m ≡ m
    keep_true true m = refl
    keep_true false m = refl

    by_test : (c : Bool) → nat_eq u node ≡ c → ((test ≡ true) × ((k : ℕ × ℕ)
        → keys.contains pair_cmp new k ≡ cond (is_at (pair_cmp (b, node)) k) true (keys.contains pair_cmp mid k))) ⊎
        ((test ≡ false) × (new ≡ mid))
        → keys.contains pair_cmp new (g, u) ≡ (live u && nat_eq g (gain_by (sums_at list u) (leaves_at leaves u)))
    by_test true e (inl (was_there, add)) =
        add (g, u)
        ∙ ap2 (λ (c o : Bool). cond c true o) (pair_at b node g u ∙ ap (λ (c : Bool). nat_eq g b && c) e) (no_more e)
        ∙ there (nat_eq g b)
        ∙ ap2 (λ (x y : Bool). x && y) (sym (same_live e ∙ was_there)) (sym (end e))
    by_test true e (inr (absent, same)) =
        ap (λ (s : BTreeSet (ℕ × ℕ)). keys.contains pair_cmp s (g, u)) same ∙ no_more e
        ∙ ap (λ (x : Bool). x && nat_eq g (gain_by (sums_at list u) (leaves_at leaves u))) (sym (same_live e ∙ absent))
    by_test false e (inl (was_there, add)) =
        add (g, u)
        ∙ ap2 (λ (c o : Bool). cond c true o) (pair_at b node g u ∙ ap (λ (c : Bool). nat_eq g b && c) e) (still e)
        ∙ keep_true (nat_eq g b) (live u && nat_eq g (gain_at t u))
        ∙ ap (λ (x : Bool). live u && x) (sym (other e))
    by_test false e (inr (absent, same)) =
        ap (λ (s : BTreeSet (ℕ × ℕ)). keys.contains pair_cmp s (g, u)) same ∙ still e ∙ ap (λ (x : Bool). live u && x) (sym (other e))

pub kept_live : (t : Tally) (new : BTreeSet (ℕ × ℕ)) → new.keys ≡ t.gains.keys → (live : ℕ → Bool) → Gains live t → (g u : ℕ)
    → keys.contains pair_cmp new (g, u) ≡ (live u && nat_eq g (gain_at t u))
kept_live t new e live h g u = ap (λ (ks : List (ℕ × ℕ)). keys.contains pair_cmp (record { keys = ks }) (g, u)) e ∙ h g u
