-- Graphs whose blocks are all reached, and leaves without uses.
use Rattle.std.proofs.Common.{◌≡◌, ◌≢◌, ℕ, zero, suc, ◌+◌, ◌<◌, ◌≤◌, ◌⊎◌, inl, inr, Bool, true, false, List, [], ◌∷◌, ◌++◌, length, nat_eq, ◌||◌}
use Rattle.std.proofs.Common.{refl, sym, ap, subst, ◌∙◌, arith}
use Rattle.std.specs.Prelude.{◌==◌, nat_lt, Option, Some, None, slice_get}
use Rattle.std.specs.List.{list_any}
use Rattle.std.proofs.lemmas.Bool.{and_from, cases_eq, false≢true, lt-ltb}
use Rattle.std.proofs.lemmas.Bool.Decides.{nat_tests}
use Rattle.wsym_terms.specs.declared.trees.BlockUses.{BlockUses}
use Rattle.wsym_terms.specs.Trees.{greatest_scope}
use Rattle.graph_search.specs.Flows.{Flow, GraphRows, edge, flow_of, leads}
use Rattle.interval_loops.specs.declared.nest.LoopNest.{LoopNest}
use Rattle.level_tables.specs.FlowLevels.{AreUsesIn}
use Rattle.graph_search.specs.NodeLists.{holds}
use Rattle.graph_search.specs.Rows.{row_in}
use Rattle.graph_search.specs.Searches.{steps_to}
use Rattle.graph_search.specs.Walks.{Reached}
use Rattle.graph_search.proofs.WalkLemmas.{weaker}

pub next_held : (b k : ℕ) (xs : List ℕ) → holds nat_eq k xs ≡ true → ((b : ℕ) → b < k → holds nat_eq b xs ≡ true) → b < k + 1
    → holds nat_eq b xs ≡ true
next_held b k xs h before l =
    elim (cases_eq b k) as (λ _. holds nat_eq b xs ≡ true) [
      | inl e ↦ subst (λ x. holds nat_eq x xs ≡ true) (sym e) h
      | inr ne ↦ before b (less b k l ne)
    ]
  where
    less : (b k : ℕ) → b < k + 1 → b ≢ k → b < k
    less b k l ne = grind arith

any_is_held : (c : ℕ) (xs : List ℕ) → list_any (λ y. y == c) xs ≡ holds nat_eq c xs
any_is_held c [] = refl
any_is_held c (x ∷ xs) = ap (λ b. b || list_any (λ y. y == c) xs) (turned x c) ∙ ap (λ b. nat_eq c x || b) (any_is_held c xs)
  where
    turned : (x c : ℕ) → (x == c) ≡ nat_eq c x
    turned x c = grind (arith, nat_tests)

row_within : (rows : List (List ℕ)) (u v : ℕ) → holds nat_eq v (row_in rows u) ≡ true → u < length rows
row_within [] zero v h = absurd (false≢true h)
row_within [] (suc u) v h = absurd (false≢true h)
row_within (r ∷ rows) zero v h = omega arith
row_within (r ∷ rows) (suc u) v h = (let l = row_within rows u v h in omega (arith, l))

pub all_reached : (rows : List (List ℕ)) (entry : ℕ) (xs : List ℕ) → ((x : ℕ) → holds nat_eq x xs ≡ true
    → Reached (steps_to nat_eq (row_in rows)) entry x) → (n : ℕ) → n ≡ length rows → ((b : ℕ) → b < n → holds nat_eq b xs ≡ true)
    → (returns : List Bool) (b : ℕ) → b < length rows
    → Reached (leads (edge (flow_of (record { rows = rows; entry = entry; returns = returns })))) entry b
all_reached rows entry xs found n e all returns b l =
    let r = found b (all b (subst (λ k. b < k) (sym e) l)) in (
      r.0,
      weaker (steps_to nat_eq (row_in rows)) (leads (edge (flow_of (record { rows = rows; entry = entry; returns = returns })))) led
          entry b r.0 r.1,
    )
  where
    led : (u v : ℕ) → steps_to nat_eq (row_in rows) u v
        → leads (edge (flow_of (record { rows = rows; entry = entry; returns = returns }))) u v
    led u v h = and_from (nat_lt u (length rows)) (list_any (λ x. x == v) (row_in rows u)) (lt-ltb u (length rows) (row_within rows u v h))
        (any_is_held v (row_in rows u) ∙ h)

pub leaf_added : (xs ys : List BlockUses) (x : BlockUses) → ys ≡ xs ++ x ∷ [] → x.uses ≡ []
    → ((b : ℕ) (u : BlockUses) → slice_get xs b ≡ Some u → u.uses ≡ [])
    → (b : ℕ) (u : BlockUses) → slice_get ys b ≡ Some u → u.uses ≡ []
leaf_added xs ys x e none before b u g = last xs before b (ap (λ zs. slice_get zs b) (sym e) ∙ g)
  where
    same : (a b : BlockUses) → ◌≡◌ {A = Option BlockUses} (Some a) (Some b) → a ≡ b
    same a b e = ap unwrapped e
      where
        unwrapped : Option BlockUses → BlockUses
        unwrapped None = a
        unwrapped (Some x) = x

    last : (xs : List BlockUses) → ((b : ℕ) (u : BlockUses) → slice_get xs b ≡ Some u → u.uses ≡ []) → (b : ℕ)
        → slice_get (xs ++ x ∷ []) b ≡ Some u → u.uses ≡ []
    last [] before zero g = subst (λ (y : BlockUses). y.uses ≡ []) (same x u g) none
    last [] before (suc b) g = absurd (cc)
    last (y ∷ xs) before zero g = before 0 u g
    last (y ∷ xs) before (suc b) g = last xs (λ c v h. before (suc c) v h) b g

pub size_more : (xs ys : List BlockUses) (x : BlockUses) (n : ℕ) → ys ≡ xs ++ x ∷ [] → length xs ≡ n → length ys ≡ n + 1
size_more xs ys x n e l = ap length e ∙ one_more xs ∙ ap (λ m. m + 1) l
  where
    one_more : (zs : List BlockUses) → length (zs ++ x ∷ []) ≡ length zs + 1
    one_more [] = refl
    one_more (z ∷ zs) = (let r = one_more zs in omega (arith, r))

pub uses_in : (flow : Flow) (n : LoopNest) (uses : List BlockUses) → length uses ≡ flow.count
    → ((b : ℕ) (u : BlockUses) → slice_get uses b ≡ Some u → u.uses ≡ []) → AreUsesIn flow n uses
uses_in flow n uses all none =
    record {
      all = all;
      scopes = λ b u e. (let z : greatest_scope u.uses ≡ 0 = ap greatest_scope (none b u e) in omega (arith, z));
    }

pub graph_reached : (g : GraphRows) (made rows : List (List ℕ)) (entry : ℕ) (returns : List Bool)
    → g ≡ record { rows = made; entry = entry; returns = returns } → made ≡ rows
    → ((flags : List Bool) (b : ℕ) → b < length rows
    → Reached (leads (edge (flow_of (record { rows = rows; entry = entry; returns = flags })))) entry b)
    → (b : ℕ) → b < length g.rows → Reached (leads (edge (flow_of g))) g.entry b
graph_reached g made rows entry returns is same all =
    subst (λ (x : GraphRows). (b : ℕ) → b < length x.rows → Reached (leads (edge (flow_of x))) x.entry b) (sym is)
    (subst (λ (m : List (List ℕ)). (b : ℕ) → b < length m
    → Reached (leads (edge (flow_of (record { rows = m; entry = entry; returns = returns })))) entry b) (sym same) (all returns))
