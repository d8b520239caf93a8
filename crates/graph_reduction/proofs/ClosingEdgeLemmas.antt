-- The closing edges of the blocks, one after another.
use Rattle.std.proofs.Common.{◌≡◌, refl, sym, ap, ◌∙◌, subst, ℕ, ◌+◌, ◌<◌, inl, inr, Bool, true, false, List, length, take, get_or, arith}
use Rattle.std.specs.Prelude.{◌≢◌, ◌&&◌, ◌||◌, not, ◌==◌, nat_lt, cond}
use Rattle.std.specs.List.{list_any}
use Rattle.std.specs.BTreeMap.{is_at}
use Rattle.std.specs.BTreeSet as tree
use Rattle.std.specs.BTreeSet.{BTreeSet}
use Rattle.std.proofs.lemmas.Bool.{cases_eq, cases_Bool, cond-true, cond-false, eq-eqb, eqb-true, ne_eqb, false≢true}
use Rattle.std.proofs.lemmas.Bool.Decides.{nat_tests}
use Rattle.std.proofs.lemmas.List.Folds.{list_any_more}
use Rattle.graph_reduction.specs.ClosingEdges.{closing_added, closings_added, FirstClosings}
use Rattle.graph_search.specs.Flows.{Flow}
use Rattle.graph_reduction.specs.Sets.{edge_cmp, in_set}
use Rattle.graph_reduction.proofs.MoveLemmas.{edge_at}

eq_turned : (n b : ℕ) → (n == b) ≡ (b == n)
eq_turned n b = grind (arith, nat_tests)

-- the target's test, whose edge closes
added_bits : (a e n u z o : Bool) → (e ≡ true → n ≡ true) → cond (e && u && z) true (((a && n) && u && z) || o) ≡
    ((((a || e) && n) && u && z) || o)
added_bits true false n u z o h = refl
added_bits false false n u z o h = refl
added_bits a true false u z o h = absurd (false≢true (h refl))
added_bits true true true true true o h = refl
added_bits true true true true false o h = refl
added_bits true true true false z o h = refl
added_bits false true true true true o h = refl
added_bits false true true true false o h = refl
added_bits false true true false z o h = refl

-- and one whose edge doesn't
left_bits : (a e n u z o : Bool) → (e ≡ true → n ≡ false) → (((a && n) && u && z) || o) ≡ ((((a || e) && n) && u && z) || o)
left_bits true false n u z o h = refl
left_bits false false n u z o h = refl
left_bits a true true u z o h = absurd (false≢true (sym (h refl)))
left_bits true true false u z o h = refl
left_bits false true false u z o h = refl

module _ (row : List ℕ) (held : ℕ → Bool) (k i : ℕ) (lt : k < length row) (f : ℕ → ℕ → ℕ → Bool) where
  in_row : (h u z : ℕ) → ((((list_any (λ y. y == h) (take k row) || (h == get_or row k 0)) && not (held h)) && (u == i) && (z == 0))
      || f h u z) ≡ closings_added (take (k + 1) row) held i f h u z
  in_row h u z =
      ap (λ b. (((list_any (λ y. y == h) (take k row) || b) && not (held h)) && (u == i) && (z == 0)) || f h u z)
      (eq_turned h (get_or row k 0))
      ∙ ap (λ b. ((b && not (held h)) && (u == i) && (z == 0)) || f h u z) (sym (list_any_more (λ y. y == h) row k 0 lt))

  pub closing_next : (l m : BTreeSet (ℕ × ℕ × ℕ))
      → ((h u z : ℕ) → in_set l h u z ≡ closings_added (take k row) held i f h u z)
      → ((h u z : ℕ) → in_set m h u z ≡ closing_added (get_or row k 0) i (held (get_or row k 0)) (in_set l) h u z)
      → (h u z : ℕ) → in_set m h u z ≡ closings_added (take (k + 1) row) held i f h u z
  closing_next l m before now h u z =
      now h u z ∙ elim (cases_Bool (held (get_or row k 0))) as (λ _. closing_added (get_or row k 0) i (held (get_or row k 0))
      (in_set l) h u z ≡ closings_added (take (k + 1) row) held i f h u z) [
        | inl has ↦
            cond-true (held (get_or row k 0)) (in_set l h u z) (cond ((h == get_or row k 0) && (u == i) && (z == 0)) true
            (in_set l h u z)) has
            ∙ (before h u z ∙ (left_bits (list_any (λ y. y == h) (take k row)) (h == get_or row k 0) (not (held h)) (u == i) (z == 0)
            (f h u z)
            (λ t. ap (λ y. not (held y)) (eqb-true h (get_or row k 0) t) ∙ ap not has)
            ∙ in_row h u z))
        | inr out ↦
            cond-false (held (get_or row k 0)) (in_set l h u z) (cond ((h == get_or row k 0) && (u == i) && (z == 0)) true
            (in_set l h u z)) out
            ∙ (ap (λ b. cond ((h == get_or row k 0) && (u == i) && (z == 0)) true b) (before h u z)
            ∙ (added_bits (list_any (λ y. y == h) (take k row)) (h == get_or row k 0) (not (held h)) (u == i) (z == 0) (f h u z)
            (λ t. ap (λ y. not (held y)) (eqb-true h (get_or row k 0) t) ∙ ap not out)
            ∙ in_row h u z))
      ]

pub left_out : (s : BTreeSet (ℕ × ℕ × ℕ)) (t i : ℕ) (held : Bool) → held ≡ true → (h u z : ℕ) → in_set s h u z ≡ closing_added t i held
    (in_set s) h u z
left_out s t i held e h u z = sym (cond-true held (in_set s h u z) (cond ((h == t) && (u == i) && (z == 0)) true (in_set s h u z)) e)

pub put_in : (s m : BTreeSet (ℕ × ℕ × ℕ)) (t i : ℕ) (held : Bool) → held ≡ false
    → ((q : ℕ × ℕ × ℕ) → tree.contains edge_cmp m q ≡ cond (is_at (edge_cmp (t, i, 0)) q) true (tree.contains edge_cmp s q))
    → (h u z : ℕ) → in_set m h u z ≡ closing_added t i held (in_set s) h u z
put_in s m t i held e into h u z =
    into (h, u, z) ∙ (ap (λ b. cond b true (in_set s h u z)) (edge_at t i 0 h u z) ∙ sym
    (cond-false held (in_set s h u z) (cond ((h == t) && (u == i) && (z == 0)) true (in_set s h u z)) e))

below_more : (u i : ℕ) → u ≢ i → nat_lt u (i + 1) ≡ nat_lt u i
below_more u i ne = grind (arith, nat_tests)

not_below : (i : ℕ) → nat_lt i i ≡ false
not_below i = grind (arith, nat_tests)

is_below : (i : ℕ) → nat_lt i (i + 1) ≡ true
is_below i = grind (arith, nat_tests)

here_bits : (a n z b : Bool) → (((a && n) && true && z) || ((false && b && n) && z)) ≡ ((true && a && n) && z)
here_bits true true true b = refl
here_bits true true false b = refl
here_bits true false z b = refl
here_bits false n z b = refl

other_bits : (a z o : Bool) → ((a && false && z) || o) ≡ o
other_bits true z o = refl
other_bits false z o = refl

pub closings_more : (flow : Flow) (label : ℕ → ℕ) (into old new : BTreeSet (ℕ × ℕ × ℕ)) (row : List ℕ) (i node : ℕ) → row ≡ flow.next i
    → node ≡ label i → FirstClosings flow label into i old
    → ((h u z : ℕ) → in_set new h u z ≡ closings_added row (λ t. in_set into t node i) i (in_set old) h u z) → FirstClosings flow label into
    (i + 1) new
closings_more flow label into old new row i node is mine before now h u z =
    elim (cases_eq u i) as (λ _. in_set new h u z ≡ ((nat_lt u (i + 1) && list_any (λ y. y == h) (flow.next u) && not
    (in_set into h (label u) u)) && (z == 0))) [
      | inl e ↦
          subst (λ (y : ℕ). in_set new h y z ≡ ((nat_lt y (i + 1) && list_any (λ x. x == h) (flow.next y) && not
          (in_set into h (label y) y)) && (z == 0))) (sym e)
          (now h i z
          ∙ (ap (λ (xs : List ℕ). ((list_any (λ y. y == h) xs && not (in_set into h node i)) && (i == i) && (z == 0))
          || in_set old h i z) is
          ∙ (ap (λ n. ((list_any (λ y. y == h) (flow.next i) && not (in_set into h n i)) && (i == i) && (z == 0)) || in_set old h i z) mine
          ∙ (ap (λ b. ((list_any (λ y. y == h) (flow.next i) && not (in_set into h (label i) i)) && b && (z == 0)) || in_set old h i z)
          (eq-eqb i i refl)
          ∙ (ap (λ b. ((list_any (λ y. y == h) (flow.next i) && not (in_set into h (label i) i)) && true && (z == 0)) || b) (before h i z)
          ∙ (ap (λ b. ((list_any (λ y. y == h) (flow.next i) && not (in_set into h (label i) i)) && true && (z == 0)) ||
          ((b && list_any (λ y. y == h) (flow.next i) && not (in_set into h (label i) i)) && (z == 0))) (not_below i)
          ∙ (here_bits (list_any (λ y. y == h) (flow.next i)) (not (in_set into h (label i) i)) (z == 0)
          (list_any (λ y. y == h) (flow.next i))
          ∙ ap (λ b. (b && list_any (λ y. y == h) (flow.next i) && not (in_set into h (label i) i)) && (z == 0)) (sym (is_below i)))))))))
      | inr ne ↦
          now h u z
          ∙ (ap (λ b. ((list_any (λ y. y == h) row && not (in_set into h node i)) && b && (z == 0)) || in_set old h u z) (ne_eqb u i ne)
          ∙ (other_bits (list_any (λ y. y == h) row && not (in_set into h node i)) (z == 0) (in_set old h u z)
          ∙ (before h u z ∙ ap (λ b. (b && list_any (λ y. y == h) (flow.next u) && not (in_set into h (label u) u)) && (z == 0))
          (sym (below_more u i ne)))))
    ]
