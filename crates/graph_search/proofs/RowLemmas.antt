-- Tables of rows, and marks that a search sets.
use Rattle.std.proofs.Common.{◌≡◌, refl, sym, ap, ◌∙◌, subst, ℕ, zero, suc, ◌+◌, ◌-◌, ◌<◌, ◌≤◌, inl, inr, Bool, true}
use Rattle.std.proofs.Common.{false, List, [], ◌∷◌, ◌++◌, length, take, get_or, arith}
use Rattle.std.specs.Prelude.{◌≢◌, ◌||◌, ◌&&◌, ◌==◌, nat_eq, nat_lt, if◌then◌else◌, slice_set, slice_get, Some}
use Rattle.std.specs.List.{list_any}
use Rattle.std.proofs.lemmas.Bool.{cases_eq, or_cases, or_left, or_right, or_from, and_from, lt-ltb, cond-true}
use Rattle.std.proofs.lemmas.Bool.{cond-false, eqb-true, eq-eqb, ne_eqb, false≢true}
use Rattle.std.proofs.lemmas.Bool.Decides.{nat_tests}
use Rattle.std.proofs.lemmas.List.{get_or-set_same, get_or-set_other, take_all}
use Rattle.std.proofs.lemmas.List.Folds.{list_any_more}
use Rattle.graph_search.specs.NodeLists.{holds, Distinct, added, added_all}
use Rattle.graph_search.proofs.ListLemmas.{nat_equality, holds_one, holds_first, from_all}
use Rattle.graph_search.proofs.SearchLemmas.{holds_at, take_next, start_searched}
use Rattle.graph_search.specs.Searches.{Searched}
use Rattle.graph_search.specs.Flows.{Flow, IsBounded}
use Rattle.std.proofs.Math.Numerals.{add-one}
use Rattle.graph_search.proofs.BelowLemmas.{few_below}
use Rattle.graph_search.specs.Rows.{row_in}

pub row_set : (rows : List (List ℕ)) (place number : ℕ) → place < length rows → (new : List (List ℕ)) → new
    ≡ slice_set rows place (row_in rows place ++ number ∷ []) → (q : ℕ) → row_in new q ≡
    (if nat_eq q place then row_in rows q ++ number ∷ [] else row_in rows q)
row_set rows place number lt new is q =
    ap (λ ys. row_in ys q) is ∙ elim (cases_eq q place) as (λ _. row_in
    (slice_set rows place (row_in rows place ++ number ∷ [])) q ≡
    (if nat_eq q place then row_in rows q ++ number ∷ [] else row_in rows q)) [
      | inl e ↦
          subst (λ x. row_in (slice_set rows place (row_in rows place ++ number ∷ [])) x ≡
          (if nat_eq x place then row_in rows x ++ number ∷ [] else row_in rows x)) (sym e)
          (get_or-set_same rows place (row_in rows place ++ number ∷ []) [] lt ∙ sym
          (cond-true (nat_eq place place) (row_in rows place ++ number ∷ []) (row_in rows place)
          (eq-eqb place place refl)))
      | inr ne ↦
          get_or-set_other rows place q (row_in rows place ++ number ∷ []) [] ne ∙ sym
          (cond-false (nat_eq q place) (row_in rows q ++ number ∷ []) (row_in rows q) (ne_eqb q place ne))
    ]

-- empty rows
pub row_empty : (rows : List (List ℕ)) → ((q : ℕ) → row_in rows q ≡ []) → (q : ℕ) → row_in (rows ++ [] ∷ []) q ≡ []
row_empty [] h zero = refl
row_empty [] h (suc q) = refl
row_empty (r ∷ rows) h zero = h 0
row_empty (r ∷ rows) h (suc q) = row_empty rows (λ k. h (suc k)) q

-- what a row with one number more has
pub holds_end : (u p : ℕ) (xs : List ℕ) → holds nat_eq u (xs ++ p ∷ []) ≡ (nat_eq u p || holds nat_eq u xs)
holds_end u p [] = grind (arith, nat_tests)
holds_end u p (x ∷ xs) = ap (λ b. nat_eq u x || b) (holds_end u p xs) ∙ swapped (nat_eq u x) (nat_eq u p)
    (holds nat_eq u xs)
  where
    swapped : (a b c : Bool) → (a || (b || c)) ≡ (b || (a || c))
    swapped true true c = refl
    swapped true false c = refl
    swapped false true c = refl
    swapped false false c = refl

source_bits : (a e s o : Bool) → (if e then (s || ((a && s) || o)) else ((a && s) || o)) ≡ (((a || e) && s) || o)
source_bits true true true o = refl
source_bits true true false o = refl
source_bits true false s o = refl
source_bits false true true o = refl
source_bits false true false o = refl
source_bits false false s o = refl

turned : (n b : ℕ) → nat_eq n b ≡ (b == n)
turned n b = grind (arith, nat_tests)

pub sources_next : (row : List ℕ) (k source : ℕ) → k < length row → (old rows new : List (List ℕ))
    → ((q u : ℕ) → holds nat_eq u (row_in rows q) ≡ ((list_any (λ y. y == q) (take k row) && nat_eq u source)
    || holds nat_eq u (row_in old q)))
    → ((q : ℕ) → row_in new q ≡ (if nat_eq q (get_or row k 0) then row_in rows q ++ source ∷ [] else row_in rows q))
    → (q u : ℕ) → holds nat_eq u (row_in new q) ≡ ((list_any (λ y. y == q) (take (k + 1) row) && nat_eq u source)
    || holds nat_eq u (row_in old q))
sources_next row k source lt old rows new before now q u =
    ap (holds nat_eq u) (now q) ∙ (picked (nat_eq q (get_or row k 0))
    ∙ (ap (λ b. if nat_eq q (get_or row k 0) then (nat_eq u source || b) else b) (before q u)
    ∙ (source_bits (list_any (λ y. y == q) (take k row)) (nat_eq q (get_or row k 0)) (nat_eq u source)
    (holds nat_eq u (row_in old q))
    ∙ (ap (λ b. ((list_any (λ y. y == q) (take k row) || b) && nat_eq u source) || holds nat_eq u (row_in old q))
    (turned q (get_or row k 0))
    ∙ ap (λ b. (b && nat_eq u source) || holds nat_eq u (row_in old q))
    (sym (list_any_more (λ y. y == q) row k 0 lt))))))
  where
    picked : (b : Bool) → holds nat_eq u (if b then row_in rows q ++ source ∷ [] else row_in rows q) ≡
        (if b then (nat_eq u source || holds nat_eq u (row_in rows q)) else holds nat_eq u (row_in rows q))
    picked true = holds_end u source (row_in rows q)
    picked false = refl

row_bits : (l l' e a : Bool) → (e ≡ true → l ≡ false) → (e ≡ true → l' ≡ true) → (e ≡ false → l ≡ l') →
    ((a && e) || (l && a)) ≡ (l' && a)
row_bits l l' true a p q r = ap (λ b. (a && true) || (b && a)) (p refl) ∙ both a ∙ ap (λ b. b && a) (sym (q refl))
  where
    both : (a : Bool) → ((a && true) || (false && a)) ≡ (true && a)
    both true = refl
    both false = refl
row_bits l l' false a p q r = none a l ∙ ap (λ b. b && a) (r refl)
  where
    none : (a l : Bool) → ((a && false) || (l && a)) ≡ (l && a)
    none true l = refl
    none false l = refl

pub edges_next : (next : ℕ → List ℕ) (row : List ℕ) (i : ℕ) → row ≡ next i → (rows new : List (List ℕ))
    → ((q u : ℕ) → holds nat_eq u (row_in rows q) ≡ (nat_lt u i && list_any (λ x. x == q) (next u)))
    → ((q u : ℕ) → holds nat_eq u (row_in new q) ≡ ((list_any (λ y. y == q) row && nat_eq u i) || holds nat_eq u
    (row_in rows q)))
    → (q u : ℕ) → holds nat_eq u (row_in new q) ≡ (nat_lt u (i + 1) && list_any (λ x. x == q) (next u))
edges_next next row i is rows new before now q u =
    now q u ∙ (ap (λ b. (list_any (λ y. y == q) row && nat_eq u i) || b) (before q u)
    ∙ elim (cases_eq u i) as (λ _. ((list_any (λ y. y == q) row && nat_eq u i) ||
    (nat_lt u i && list_any (λ x. x == q) (next u))) ≡ (nat_lt u (i + 1) && list_any (λ x. x == q) (next u))) [
      | inl e ↦
          ap (λ (ys : List ℕ). (list_any (λ y. y == q) ys && nat_eq u i) ||
          (nat_lt u i && list_any (λ x. x == q) (next u))) (is ∙ ap next (sym e))
          ∙ row_bits (nat_lt u i) (nat_lt u (i + 1)) (nat_eq u i) (list_any (λ x. x == q) (next u))
          (λ t. not_below u i e) (λ t. is_below u i e) (λ f. absurd (false≢true (sym f ∙ eq-eqb u i e)))
      | inr ne ↦ row_bits_off (list_any (λ y. y == q) row) (nat_eq u i) (nat_lt u i) (list_any (λ x. x == q) (next u))
          (ne_eqb u i ne) ∙ ap (λ b. b && list_any (λ x. x == q) (next u)) (sym (below_more u i ne))
    ])
  where
    not_below : (u i : ℕ) → u ≡ i → nat_lt u i ≡ false
    not_below u i e = grind (arith, nat_tests)

    is_below : (u i : ℕ) → u ≡ i → nat_lt u (i + 1) ≡ true
    is_below u i e = grind (arith, nat_tests)

    below_more : (u i : ℕ) → u ≢ i → nat_lt u (i + 1) ≡ nat_lt u i
    below_more u i ne = grind (arith, nat_tests)

    row_bits_off : (r e l a : Bool) → e ≡ false → ((r && e) || (l && a)) ≡ (l && a)
    row_bits_off true e l a f = ap (λ b. b || (l && a)) f
    row_bits_off false e l a f = refl

-- ---- the ends of these loops

pub any_at : (row : List ℕ) (k : ℕ) → k < length row → list_any (λ y. y == get_or row k 0) row ≡ true
any_at [] k lt = absurd (omega (arith, lt))
any_at (x ∷ row) zero lt = or_left (x == x) (list_any (λ y. y == x) row) (eq-eqb x x refl)
any_at (x ∷ row) (suc k) lt = or_right (x == get_or row k 0) (list_any (λ y. y == get_or row k 0) row)
    (any_at row k (omega (arith, lt)))

pub held_at : (row : List ℕ) (k : ℕ) → k < length row → holds nat_eq (get_or row k 0) row ≡ true
held_at [] k lt = absurd (omega (arith, lt))
held_at (x ∷ row) zero lt = holds_first ℕ nat_equality x row
held_at (x ∷ row) (suc k) lt = or_right (nat_eq (get_or row k 0) x) (holds nat_eq (get_or row k 0) row)
    (held_at row k (omega (arith, lt)))

pub sources_all : (row : List ℕ) (k source : ℕ) → length row ≤ k → (old rows : List (List ℕ))
    → ((q u : ℕ) → holds nat_eq u (row_in rows q) ≡ ((list_any (λ y. y == q) (take k row) && nat_eq u source)
    || holds nat_eq u (row_in old q)))
    → (q u : ℕ) → holds nat_eq u (row_in rows q) ≡ ((list_any (λ y. y == q) row && nat_eq u source) || holds nat_eq u
    (row_in old q))
sources_all row k source past old rows before q u =
    before q u ∙ ap (λ (ys : List ℕ). (list_any (λ y. y == q) ys && nat_eq u source) || holds nat_eq u (row_in old q))
    (take_all k row past)

pub edges_none : (next : ℕ → List ℕ) (rows : List (List ℕ)) → ((q : ℕ) → row_in rows q ≡ []) → (q u : ℕ)
    → holds nat_eq u (row_in rows q) ≡ (nat_lt u 0 && list_any (λ x. x == q) (next u))
edges_none next rows e q u = ap (holds nat_eq u) (e q) ∙ sym (ap (λ b. b && list_any (λ x. x == q) (next u)) (none u))
  where
    none : (u : ℕ) → nat_lt u 0 ≡ false
    none u = grind (arith, nat_tests)

pub row_below : (flow : Flow) → IsBounded flow → (i : ℕ) (row : List ℕ) → i < flow.count → row ≡ flow.next i →
    (rows : List (List ℕ)) → length rows ≡ flow.count → (h : ℕ) → list_any (λ y. y == h) row ≡ true → h < length rows
row_below flow b i row lt is rows size h t =
    subst (λ n. h < n) (sym size) (b.below i h (and_from (nat_lt i flow.count) (list_any (λ x. x == h) (flow.next i))
    (lt-ltb i flow.count lt) (subst (λ (ys : List ℕ). list_any (λ y. y == h) ys ≡ true) is t)))

-- ---- marks

pub one_searched : (step : ℕ → List ℕ) (start : ℕ) (none one : List ℕ) → none ≡ [] → one ≡ added nat_eq none start
    → Searched nat_eq step start 0 one
one_searched step start none one e is = subst (λ ys. Searched nat_eq step start 0 ys)
    (sym (is ∙ ap (λ ys. added nat_eq ys start) e)) (start_searched ℕ nat_equality step start)

pub one_inside : (count start : ℕ) (none one : List ℕ) → none ≡ [] → one ≡ added nat_eq none start → start < count →
    (q : ℕ) → holds nat_eq q one ≡ true → q < count
one_inside count start none one e is lt q h =
    subst (λ x. x < count) (sym (holds_one ℕ nat_equality q start
    (subst (λ ys. holds nat_eq q ys ≡ true) (is ∙ ap (λ ys. added nat_eq ys start) e) h))) lt

pub inside_at : (count at p : ℕ) (ps : List ℕ) → ((q : ℕ) → holds nat_eq q ps ≡ true → q < count) → slice_get ps at
    ≡ Some p → p < count
inside_at count at p ps all g = all p (holds_at ℕ nat_equality ps at p g)

pub two_inside : (n m at p : ℕ) (ps : List ℕ) → ((q : ℕ) → holds nat_eq q ps ≡ true → q < m) → slice_get ps at ≡ Some p
    → n ≡ m → (p < n) × (p < m)
two_inside n m at p ps all g e = let l = inside_at m at p ps all g in (omega (arith, l, e), l)

pub nearer : (count at : ℕ) (ps : List ℕ) → Distinct nat_eq ps → ((q : ℕ) → holds nat_eq q ps ≡ true → q < count)
    → at < length ps → count - (at + 1) < count - at
nearer count at ps d all lt = let few = few_below count ps d all in omega (arith, few, lt)

pub all_inside : (count : ℕ) (ps qs new : List ℕ) → ((q : ℕ) → holds nat_eq q ps ≡ true → q < count) →
    ((q : ℕ) → holds nat_eq q new ≡ true → q < count) → qs ≡ added_all nat_eq ps new → (q : ℕ) → holds nat_eq q qs
    ≡ true → q < count
all_inside count ps qs new old more is q h =
    elim (from_all ℕ nat_equality q ps new (subst (λ (ys : List ℕ). holds nat_eq q ys ≡ true) is h)) as
    (λ _. q < count) [
      | inl a ↦ old q a
      | inr b ↦ more q b
    ]
