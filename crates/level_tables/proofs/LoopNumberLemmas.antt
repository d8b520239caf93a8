-- The numbers of loops, and the blocks of levels by them.
use Rattle.std.proofs.Common.{◌≡◌, ◌≢◌, ℕ, zero, suc, ◌+◌, ◌<◌, ◌≤◌, ◌⊎◌, inl, inr, Bool, true, false, List, [], ◌∷◌, ◌++◌, length, nat_eq, ◌||◌}
use Rattle.std.proofs.Common.{refl, sym, ap, subst, ◌∙◌, arith}
use Rattle.std.specs.Prelude.{◌&&◌, ◌==◌, if◌then◌else◌, nat_lt, Option, Some, None, slice_get, slice_set}
use Rattle.std.specs.List.{list_any}
use Rattle.std.proofs.lemmas.Bool.{false≢true, lt-ltb, ne_eqb}
use Rattle.std.proofs.lemmas.Bool.Decides.{nat_tests}
use Rattle.std.proofs.lemmas.List.{get_or-set_same, get_or-set_other}
use Rattle.graph_search.specs.Flows.{Flow, IsBounded}
use Rattle.graph_search.specs.NodeLists.{holds}
use Rattle.graph_search.specs.Rows.{row_in}
use Rattle.graph_search.proofs.RowLemmas.{holds_end}
use Rattle.interval_loops.specs.declared.nest.LoopInfo.{LoopInfo}
use Rattle.interval_loops.specs.declared.nest.LoopNest.{LoopNest}
use Rattle.interval_loops.specs.Nests.{IsNestOf, around_of, header_of, header_or}
use Rattle.interval_loops.specs.Rounds.{within_by}
use Rattle.interval_loops.proofs.ClosingLemmas.{closes}
use Rattle.flow_tree.specs.declared.tables.LevelRows.{LevelRows}
use Rattle.level_tables.specs.LevelRows.{AreLevelsIn, IsLevelIn}

pub next_block : (u b : ℕ) (xs ys : List ℕ) → ys ≡ xs ++ b ∷ [] → holds nat_eq u xs ≡ nat_lt u b → holds nat_eq u ys ≡ nat_lt u (b + 1)
next_block u b xs ys e h = ap (holds nat_eq u) e ∙ (holds_end u b xs ∙ (ap (λ t. nat_eq u b || t) h ∙ one_more u b))
  where
    one_more : (u b : ℕ) → (nat_eq u b || nat_lt u b) ≡ nat_lt u (b + 1)
    one_more u b = grind (arith, nat_tests)

any_is_held : (c : ℕ) (xs : List ℕ) → list_any (λ y. y == c) xs ≡ holds nat_eq c xs
any_is_held c [] = refl
any_is_held c (x ∷ xs) = ap (λ b. b || list_any (λ y. y == c) xs) (turned x c) ∙ ap (λ b. nat_eq c x || b) (any_is_held c xs)
  where
    turned : (x c : ℕ) → (x == c) ≡ nat_eq c x
    turned x c = grind (arith, nat_tests)

inside : {A : Type 0} (xs : List A) (i : ℕ) (x : A) → slice_get xs i ≡ Some x → i < length xs
inside [] i x e = absurd (cc)
inside (y ∷ xs) zero x e = omega arith
inside (y ∷ xs) (suc i) x e = (let r = inside xs i x e in omega (arith, r))

outside : {A : Type 0} (xs : List A) (i : ℕ) → slice_get xs i ≡ None → length xs ≤ i
outside [] i e = omega arith
outside (y ∷ xs) zero e = absurd (cc)
outside (y ∷ xs) (suc i) e = (let r = outside xs i e in omega (arith, r))

module _ (flow : Flow) (bounded : IsBounded flow) (n : LoopNest) (is : IsNestOf flow n) where
  -- numbers round a block are those of loops
  number_low : (c b : ℕ) → holds nat_eq c (around_of n b) ≡ true → c < length n.loops + 1
  number_low zero b h = omega arith
  number_low (suc e) b h = by_place (slice_get n.loops e) refl
    where
      by_place : (p : Option LoopInfo) → slice_get n.loops e ≡ p → suc e < length n.loops + 1
      by_place (Some i) g = (let l = inside n.loops e i g in omega (arith, l))
      by_place None g =
          let round = is.2.round in
          let l = round.blocks (suc e) b h in
          let name : header_of flow n (suc e) ≡ flow.count = ap (header_or flow.count) g in
          let ends = closes flow is.0 is.1 is.2.reduced is.2.rises in
          elim (round.inside (suc e) b h).1 as (λ _. suc e < length n.loops + 1) [
            | inl q ↦ let same : b ≡ flow.count = q ∙ name in absurd (omega (arith, l, same))
            | inr q ↦ let m = bounded.below q.0 (header_of flow n (suc e)) (ends.edges q.0 (header_of flow n (suc e)) q.2) in absurd
                (omega (arith, m, name))
          ]

  pub numbers_low : (rows : List (List ℕ)) → rows ≡ n.around → (u c : ℕ) → list_any (λ y. y == c) (row_in rows u) ≡ true
      → c < length n.loops + 1
  numbers_low rows e u c h =
      number_low c u (sym (any_is_held c (around_of n u)) ∙ (ap (λ rs. list_any (λ y. y == c) (row_in rs u)) (sym e) ∙ h))

  beyond : (rows : List (List ℕ)) (u : ℕ) → (u < length rows → ⊥) → row_in rows u ≡ []
  beyond [] zero h = refl
  beyond [] (suc u) h = refl
  beyond (r ∷ rows) zero h = absurd (h (omega arith))
  beyond (r ∷ rows) (suc u) h = beyond rows u (λ l. h (omega (arith, l)))

  members : (c u : ℕ) → (nat_lt u (length n.around) && list_any (λ y. y == c) (row_in n.around u)) ≡ holds nat_eq c (around_of n u)
  members c u = by_test (nat_lt u (length n.around)) refl
    where
      by_test : (b : Bool) → nat_lt u (length n.around) ≡ b
          → (b && list_any (λ y. y == c) (row_in n.around u)) ≡ holds nat_eq c (around_of n u)
      by_test true e = any_is_held c (around_of n u)
      by_test false e = ap (holds nat_eq c) (sym (beyond n.around u (λ l. false≢true (sym e ∙ lt-ltb u (length n.around) l))))

  in_loop : (c b : ℕ) → within_by flow (around_of n) (suc c) b ≡ holds nat_eq (suc c) (around_of n b)
  in_loop c b = ap (λ t. if t then nat_lt b flow.count else holds nat_eq (suc c) (around_of n b))
      (ne_eqb (suc c) 0 (λ z. omega (arith, z)))

  -- the rows of loops' blocks, with all blocks in the first
  pub level_blocks : (around : List (List ℕ)) → around ≡ n.around → (rows : List (List ℕ)) (all : List ℕ) (count : ℕ) → count ≡ flow.count
      → ((u : ℕ) → holds nat_eq u all ≡ nat_lt u count)
      → ((c u : ℕ) → holds nat_eq u (row_in rows c) ≡ (nat_lt u (length around) && list_any (λ y. y == c) (row_in around u)))
      → 0 < length rows → (c u : ℕ) → holds nat_eq u (row_in (slice_set rows 0 all) c) ≡ within_by flow (around_of n) c u
  level_blocks around e rows all count k whole exact some zero u =
      ap (holds nat_eq u) (get_or-set_same rows 0 all [] some) ∙ (whole u ∙ ap (nat_lt u) k)
  level_blocks around e rows all count k whole exact some (suc c) u =
      ap (holds nat_eq u) (get_or-set_other rows 0 (suc c) all [] (λ z. omega (arith, z)))
      ∙ (exact (suc c) u ∙ (ap (λ (rs : List (List ℕ)). nat_lt u (length rs) && list_any (λ y. y == suc c) (row_in rs u)) e
      ∙ (members (suc c) u ∙ sym (in_loop c u))))

  pub are_levels : (rows : List LevelRows) → length n.loops + 1 ≤ length rows
      → ((c : ℕ) (r : LevelRows) → slice_get rows c ≡ Some r → IsLevelIn flow n c r) → AreLevelsIn flow n rows
  are_levels rows long some = record { some = some; none = none }
    where
      none : (c b : ℕ) → slice_get rows c ≡ None → (c ≢ 0) × (within_by flow (around_of n) c b ≡ false)
      none zero b e = (let l = outside rows 0 e in absurd (omega (arith, l, long)))
      none (suc c) b e = ((λ z. omega (arith, z)), by_test (holds nat_eq (suc c) (around_of n b)) refl)
        where
          by_test : (t : Bool) → holds nat_eq (suc c) (around_of n b) ≡ t → within_by flow (around_of n) (suc c) b ≡ false
          by_test false t = in_loop c b ∙ t
          by_test true t =
              let l = outside rows (suc c) e in
              let m = number_low (suc c) b t in
              absurd (omega (arith, l, long, m))

-- one more level
more_rows : (xs : List LevelRows) (r k : LevelRows) (c : ℕ) → slice_get (xs ++ r ∷ []) c ≡ Some k
    → (slice_get xs c ≡ Some k) ⊎ ((c ≡ length xs) × (r ≡ k))
more_rows [] r k zero e = inr (refl, some_same r k e)
  where
    some_same : (a b : LevelRows) → ◌≡◌ {A = Option LevelRows} (Some a) (Some b) → a ≡ b
    some_same a b e = ap unwrapped e
      where
        unwrapped : Option LevelRows → LevelRows
        unwrapped None = a
        unwrapped (Some x) = x
more_rows [] r k (suc c) e = absurd (cc)
more_rows (x ∷ xs) r k zero e = inl e
more_rows (x ∷ xs) r k (suc c) e = elim (more_rows xs r k c e) as (λ _. (slice_get (x ∷ xs) (suc c) ≡ Some k) ⊎ ((suc c ≡ suc (length xs)) × (r ≡ k))) [
  | inl a ↦ inl a
  | inr b ↦ inr (ap suc b.0, b.1)
]

pub level_added : (flow : Flow) (n : LoopNest) (xs ys : List LevelRows) (level i : ℕ) → level ≡ i → length xs ≡ i
    → ((r : LevelRows) × IsLevelIn flow n level r × (ys ≡ xs ++ r ∷ []))
    → ((c : ℕ) (r : LevelRows) → slice_get xs c ≡ Some r → IsLevelIn flow n c r)
    → (length ys ≡ i + 1) × ((c : ℕ) (r : LevelRows) → slice_get ys c ≡ Some r → IsLevelIn flow n c r)
level_added flow n xs ys level i e l (r, is, more) some = (ap length more ∙ (one_more xs ∙ ap (λ m. m + 1) l), all)
  where
    one_more : (zs : List LevelRows) → length (zs ++ r ∷ []) ≡ length zs + 1
    one_more [] = refl
    one_more (z ∷ zs) = (let k = one_more zs in omega (arith, k))

    all : (c : ℕ) (k : LevelRows) → slice_get ys c ≡ Some k → IsLevelIn flow n c k
    all c k g =
        elim (more_rows xs r k c (ap (λ zs. slice_get zs c) (sym more) ∙ g)) as (λ _. IsLevelIn flow n c k) [
          | inl a ↦ some c k a
          | inr b ↦ subst (λ x. IsLevelIn flow n c x) b.1 (subst (λ m. IsLevelIn flow n m r) (e ∙ (sym l ∙ sym b.0)) is)
        ]

pub size_some : (a b : ℕ) → a ≡ b + 1 → 0 < a
size_some a b e = omega (arith, e)
