-- What follows a point is a point.
use Rattle.std.proofs.Common.{◌≡◌, ◌⊎◌, inl, inr, ℕ, zero, suc, ◌+◌, ◌<◌, ◌≤◌, ◌^◌, Bool, true, false, ◌&&◌, ◌||◌, List, [], ◌∷◌}
use Rattle.std.proofs.Common.{◌++◌, length, get_or, refl, sym, ap, subst, arith}
use Rattle.std.specs.Prelude.{Contains, ◌==◌, Some, slice_get, nat_eq, nat_lt}
use Rattle.std.specs.List.{AllByRecursion, list_any}
use Rattle.std.proofs.lemmas.Bool.{eqb-true, false≢true}
use Rattle.std.proofs.lemmas.Bool.Decides.{nat_tests}
use Rattle.graph_search.specs.Flows.{GraphRows, IsBounded, edge, flow_of}
use Rattle.graph_search.specs.NodeLists.{holds}
use Rattle.graph_search.specs.Rows.{row_in}
use Rattle.function_points.proofs.MemberLemmas.{here, there}
use Rattle.flow_graph.specs.declared.graph.Block.{Block}
use Rattle.block_points.specs.Numbering.{firsts_at, firsts_from, following, next_from, total_of}
use Rattle.block_points.specs.Tables.{AreLinked}
use Rattle.block_points.proofs.PlaceLemmas.{block_inside, first_is, next_length}

abbrev pub AllBelow : ℕ → List ℕ → Type 0
AllBelow n = AllByRecursion (λ k. k < n)

pub following_below : (i n m : ℕ) (after : List ℕ) → i + n ≤ m → AllBelow m after → AllByRecursion (AllBelow m) (following i n after)
following_below i zero m after le all = tt
following_below i (suc zero) m after le all = (all, tt)
following_below i (suc (suc n)) m after le all = ((omega (arith, le), tt), following_below (i + 1) (suc n) m after (omega (arith, le)) all)

all_both : (P : List ℕ → Type 0) (xs ys : List (List ℕ)) → AllByRecursion P xs → AllByRecursion P ys → AllByRecursion P (xs ++ ys)
all_both P [] ys a b = b
all_both P (x ∷ xs) ys a b = (a.0, all_both P xs ys a.1 b)

pub next_below : (firsts : List ℕ) (bs : List Block) (i m : ℕ) → i + total_of bs ≤ m
    → AllByRecursion (λ (b : Block). AllBelow m (firsts_at firsts b.next)) bs → AllByRecursion (AllBelow m) (next_from firsts i bs)
next_below firsts [] i m le all = tt
next_below firsts (x ∷ bs) i m le all =
    all_both (AllBelow m) (following i (length x.points) (firsts_at firsts x.next)) (next_from firsts (i + length x.points) bs)
    (following_below i (length x.points) m (firsts_at firsts x.next) (omega (arith, le)) all.0)
    (next_below firsts bs (i + length x.points) m (omega (arith, le)) all.1)

all_indexed : {A : Type 0} (P : A → Type 0) (xs : List A) → ((j : ℕ) (x : A) → slice_get xs j ≡ Some x → P x) → AllByRecursion P xs
all_indexed P [] h = tt
all_indexed P (x ∷ xs) h = (h 0 x refl, all_indexed P xs (λ j y e. h (suc j) y e))

targets_below : (m : ℕ) (firsts next : List ℕ) → ((k : ℕ) → Contains next k → get_or firsts k 0 < m) → AllBelow m (firsts_at firsts next)
targets_below m firsts [] h = tt
targets_below m firsts (k ∷ next) h = (h k (here k next), targets_below m firsts next (λ j i. h j (there k j next i)))

some_at : {A : Type 0} (xs : List A) (k : ℕ) → k < length xs → (x : A) × (slice_get xs k ≡ Some x)
some_at [] k lt = absurd (omega (arith, lt))
some_at (x ∷ xs) zero lt = (x, refl)
some_at (x ∷ xs) (suc k) lt = some_at xs k (omega (arith, lt))

first_below : (bs : List Block) → AreLinked bs → (k : ℕ) → k < length bs → get_or (firsts_from 0 bs) k 0 < total_of bs
first_below bs linked k lt =
    let b = some_at bs k lt in
    let some = linked.some k b.0 b.1 in
    let inside = block_inside bs k b.0 b.1 in
    let is = first_is bs 0 k lt in
    omega (arith, some, inside, is)

pub all_below : (bs : List Block) → AreLinked bs → AllByRecursion (AllBelow (total_of bs)) (next_from (firsts_from 0 bs) 0 bs)
all_below bs linked =
    next_below (firsts_from 0 bs) bs 0 (total_of bs) (omega arith)
    (all_indexed (λ (b : Block). AllBelow (total_of bs) (firsts_at (firsts_from 0 bs) b.next)) bs
    (λ j b e. targets_below (total_of bs) (firsts_from 0 bs) b.next (λ k i. first_below bs linked k (linked.inside j k b e i))))

-- ---- the rows as a graph

row_all : (P : List ℕ → Type 0) → P [] → (rows : List (List ℕ)) (u : ℕ) → AllByRecursion P rows → P (row_in rows u)
row_all P none [] u all = none
row_all P none (x ∷ rows) zero all = all.0
row_all P none (x ∷ rows) (suc u) all = row_all P none rows u all.1

or_true : (a b : Bool) → a || b ≡ true → (a ≡ true) ⊎ (b ≡ true)
or_true true b e = inl refl
or_true false b e = inr e

any_below : (m v : ℕ) (row : List ℕ) → AllBelow m row → list_any (λ x. x == v) row ≡ true → v < m
any_below m v [] all e = absurd (false≢true e)
any_below m v (x ∷ row) all e =
    elim (or_true (x == v) (list_any (λ y. y == v) row) e) as (λ _. v < m) [
      | inl h ↦ subst (λ (k : ℕ). k < m) (eqb-true x v h) all.0
      | inr h ↦ any_below m v row all.1 h
    ]

and_second : (a b : Bool) → a && b ≡ true → b ≡ true
and_second true b e = e
and_second false b e = absurd (false≢true e)

-- the points' number is below 2^32, and there are some
pub points_bounded : (bs : List Block) → AreLinked bs → total_of bs < 2 ^ 32 → 0 < length bs
    → IsBounded (flow_of (record { rows = next_from (firsts_from 0 bs) 0 bs; entry = 0; returns = [] }))
points_bounded bs linked few some = record { below = below; few = less; starts = starts }
  where
    size : length (next_from (firsts_from 0 bs) 0 bs) ≡ total_of bs
    size = next_length (firsts_from 0 bs) bs 0

    below : (u v : ℕ) → edge (flow_of (record { rows = next_from (firsts_from 0 bs) 0 bs; entry = 0; returns = [] })) u v ≡ true
        → v < length (next_from (firsts_from 0 bs) 0 bs)
    below u v e =
        let row = row_all (AllBelow (total_of bs)) tt (next_from (firsts_from 0 bs) 0 bs) u (all_below bs linked) in
        let low = any_below (total_of bs) v (row_in (next_from (firsts_from 0 bs) 0 bs) u) row
        (and_second (nat_lt u (length (next_from (firsts_from 0 bs) 0 bs)))
        (list_any (λ x. x == v) (row_in (next_from (firsts_from 0 bs) 0 bs) u)) e) in
        let s = size in
        omega (arith, low, s)

    less : length (next_from (firsts_from 0 bs) 0 bs) < 2 ^ 32
    less = (let s = size in omega (arith, s, few))

    starts : 0 < length (next_from (firsts_from 0 bs) 0 bs)
    starts =
        let b = some_at bs 0 some in
        let one = linked.some 0 b.0 b.1 in
        let inside = block_inside bs 0 b.0 b.1 in
        let s = size in
        omega (arith, one, inside, s)

turned_test : (v x : ℕ) → nat_eq v x ≡ (x == v)
turned_test v x = grind (arith, nat_tests)

holds_any : (v : ℕ) (row : List ℕ) → holds nat_eq v row ≡ list_any (λ x. x == v) row
holds_any v [] = refl
holds_any v (x ∷ row) =
    two (nat_eq v x) (x == v) (holds nat_eq v row) (list_any (λ y. y == v) row) (turned_test v x) (holds_any v row)
  where
    two : (a b c d : Bool) → a ≡ b → c ≡ d → a || c ≡ b || d
    two a b c d e f = cc

past_end : (rows : List (List ℕ)) (u : ℕ) → nat_lt u (length rows) ≡ false → row_in rows u ≡ []
past_end [] u e = refl
past_end (x ∷ rows) zero e = absurd (grind (arith, nat_tests))
past_end (x ∷ rows) (suc u) e = past_end rows u (grind (arith, nat_tests))

-- the edges of the rows are what the rows hold
pub edge_is_held : (g : GraphRows) (u v : ℕ) → edge (flow_of g) u v ≡ holds nat_eq v (row_in g.rows u)
edge_is_held g u v = by_test g.rows (nat_lt u (length g.rows)) refl
  where
    by_test : (rows : List (List ℕ)) (t : Bool) → nat_lt u (length rows) ≡ t
        → t && list_any (λ x. x == v) (row_in rows u) ≡ holds nat_eq v (row_in rows u)
    by_test rows true e = sym (holds_any v (row_in rows u))
    by_test rows false e = ap (holds nat_eq v) (sym (past_end rows u e))

pub blocks_few : (bs : List Block) → AreLinked bs → length bs ≤ total_of bs
blocks_few bs linked = each bs linked.some
  where
    each : (bs : List Block) → ((j : ℕ) (b : Block) → slice_get bs j ≡ Some b → 0 < length b.points) → length bs ≤ total_of bs
    each [] h = omega arith
    each (y ∷ bs) h = (let r = each bs (λ j b e. h (suc j) b e) in let s = h 0 y refl in omega (arith, r, s))
