-- One block more comes to another node.
use Rattle.std.proofs.Common.{◌≡◌, refl, sym, ap, ◌∙◌, subst, ℕ, ◌<◌, ◌≤◌, ◌^◌, ◌⊎◌, inl, inr, Bool, true, false, List, [], ◌∷◌, ◌++◌}
use Rattle.std.proofs.Common.{length, arith}
use Rattle.std.specs.Prelude.{◌≢◌, ◌&&◌, ◌||◌, ◌==◌, nat_lt, if◌then◌else◌, cond}
use Rattle.std.specs.List.{list_any}
use Rattle.std.specs.Option.{unwrap_or}
use Rattle.std.specs.BTreeMap.{is_at}
use Rattle.std.specs.BTreeSet as tree
use Rattle.std.specs.BTreeSet.{BTreeSet}
use Rattle.std.proofs.lemmas.Bool.{cases_eq, cases_Bool, and_parts, and_from, eqb-true, eq-eqb, ne_eqb, cond-true, cond-false, false≢true}
use Rattle.std.proofs.lemmas.Bool.{false_from_ne_true}
use Rattle.std.proofs.lemmas.Bool.Decides.{nat_tests}
use Rattle.std.proofs.lemmas.Option.{slice_get_past}
use Rattle.graph_search.specs.Flows.{Flow}
use Rattle.graph_reduction.specs.Moves.{HasMoved}
use Rattle.graph_reduction.specs.Nodes.{number_in, AreHeld, AreMembers}
use Rattle.graph_reduction.specs.Sets.{edge_cmp, in_set, row_moved}
use Rattle.graph_reduction.proofs.EndLemmas.{count_below, count_less}
use Rattle.graph_reduction.proofs.MoveLemmas.{edge_at, any_last, exact_moved}

pub past_end : (xs : List ℕ) (w : ℕ) → length xs ≤ w → number_in xs w ≡ w
past_end xs w h = ap (λ o. unwrap_or o w) (slice_get_past xs w h)

below : (w n : ℕ) → nat_lt w n ≡ true → w < n
below w n e = grind (arith, nat_tests)

is_below : (w n : ℕ) → w < n → nat_lt w n ≡ true
is_below w n e = grind (arith, nat_tests)

below_or : (w n : ℕ) → (w < n) ⊎ (n ≤ w)
below_or w n = grind arith

eq_turned : (n b : ℕ) → (n == b) ≡ (b == n)
eq_turned n b = grind (arith, nat_tests)

or_true : (p q : Bool) → q ≡ true → (p || q) ≡ true
or_true true q e = refl
or_true false q e = e

or_false : (p q : Bool) → q ≡ false → (p || q) ≡ p
or_false true q e = refl
or_false false q e = e

second_false : (p q : Bool) → q ≡ false → (p && q) ≡ false
second_false true q e = e
second_false false q e = refl

two_tests : (a b z : Bool) → cond (a && true && z) true (cond (b && true && z) false (true && b && z)) ≡ (true && a && z)
two_tests true true true = refl
two_tests true true false = refl
two_tests true false true = refl
two_tests true false false = refl
two_tests false true true = refl
two_tests false true false = refl
two_tests false false true = refl
two_tests false false false = refl

module _ (flow : Flow) (from to : ℕ) (apart : from ≢ to) (before label label' moved moved' : List ℕ)
    (old into into' members m members' : BTreeSet (ℕ × ℕ × ℕ)) (u : ℕ)
    (h : HasMoved flow from to before label moved old into members)
    (more : moved' ≡ moved ++ u ∷ [])
    (found : (z : ℕ) × (tree.contains edge_cmp members (from, u, z) ≡ true)) where
  at_u : (nat_lt u flow.count ≡ true) × (number_in label u ≡ from)
  at_u =
      let p = and_parts (nat_lt u flow.count && (number_in label u == from)) (found.0 == 0) (sym (h.here from u found.0) ∙ found.1) in
      let q = and_parts (nat_lt u flow.count) (number_in label u == from) p.0 in
      (q.0, eqb-true (number_in label u) from q.1)

  pub u_below : u < flow.count
  u_below = below u flow.count at_u.0

  not_moved : list_any (λ y. y == u) moved ≡ false
  not_moved = false_from_ne_true (list_any (λ y. y == u) moved) (λ t.
      apart (sym at_u.1 ∙ (h.labels u ∙ cond-true (list_any (λ y. y == u) moved) to (number_in before u) t)))

  -- what the call that moves a row wants
  pub only_from : (y n : ℕ) → n ≢ from → in_set into y n u ≡ false
  only_from y n ne =
      h.held.exact y n u
      ∙ second_false (in_set into y (number_in label u) u) (number_in label u == n)
      (ne_eqb (number_in label u) n (λ e. ne (sym e ∙ at_u.1)))

  module _ (size : length label' ≡ length label) (now : (q : ℕ) → number_in label' q ≡ (if q == u then to else number_in label q)) where
    at_u' : number_in label' u ≡ to
    at_u' = now u ∙ cond-true (u == u) to (number_in label u) (eq-eqb u u refl)

    not_u : (w : ℕ) → w ≢ u → number_in label' w ≡ number_in label w
    not_u w ne = now w ∙ cond-false (w == u) to (number_in label w) (ne_eqb w u ne)

    pub fewer : count_below (λ w. number_in label' w == from) flow.count < count_below (λ w. number_in label w == from) flow.count
    fewer =
        count_less (λ w. number_in label' w == from) (λ w. number_in label w == from) u flow.count
        (λ w t. elim (cases_eq w u) as (λ _. (number_in label w == from) ≡ true) [
          | inl e ↦ ap (λ y. number_in label y == from) e ∙ eq-eqb (number_in label u) from at_u.1
          | inr ne ↦ ap (λ y. y == from) (sym (not_u w ne)) ∙ t
        ]) u_below (ne_eqb (number_in label' u) from (λ e. apart (sym e ∙ at_u'))) (eq-eqb (number_in label u) from at_u.1)

    any_now : (w : ℕ) → list_any (λ y. y == w) moved' ≡ (list_any (λ y. y == w) moved || (u == w))
    any_now w = ap (list_any (λ y. y == w)) more ∙ any_last w u moved

    any_other : (w : ℕ) → w ≢ u → list_any (λ y. y == w) moved' ≡ list_any (λ y. y == w) moved
    any_other w ne = any_now w ∙ or_false (list_any (λ y. y == w) moved) (u == w) (ne_eqb u w (λ e. ne (sym e)))

    any_u : (w : ℕ) → w ≡ u → list_any (λ y. y == w) moved' ≡ true
    any_u w e = any_now w ∙ or_true (list_any (λ y. y == w) moved) (u == w) (eq-eqb u w (sym e))

    labels_now : (w : ℕ) → number_in label' w ≡ (if list_any (λ y. y == w) moved' then to else number_in before w)
    labels_now w =
        elim (cases_eq w u) as (λ _. number_in label' w ≡ (if list_any (λ y. y == w) moved' then to else number_in before w)) [
          | inl e ↦ ap (number_in label') e ∙ (at_u' ∙ sym (cond-true (list_any (λ y. y == w) moved') to (number_in before w) (any_u w e)))
          | inr ne ↦ not_u w ne ∙ (h.labels w ∙ ap (λ b. if b then to else number_in before w) (sym (any_other w ne)))
        ]

    were_now : (w : ℕ) → list_any (λ y. y == w) moved' ≡ true → (number_in before w ≡ from) × (w < flow.count)
    were_now w t =
        elim (cases_eq w u) as (λ _. (number_in before w ≡ from) × (w < flow.count)) [
          | inl e ↦ (
            ap (number_in before) e ∙ (sym (h.labels u ∙ cond-false (list_any (λ y. y == u) moved) to (number_in before u) not_moved)
                ∙ at_u.1),
            subst (λ y. y < flow.count) (sym e) u_below,
          )
          | inr ne ↦ h.were w (sym (any_other w ne) ∙ t)
        ]

    module _ (row : List ℕ) (is_row : row ≡ flow.next u)
        (moves : (x n w : ℕ) → in_set into' x n w ≡ row_moved row u from to (in_set into) x n w) where
      in_row : (t : ℕ) → list_any (λ y. y == t) row ≡ false → in_set into t (number_in label u) u ≡ false
      in_row t none = false_from_ne_true (in_set into t (number_in label u) u) (λ i.
          let e = and_parts (nat_lt u flow.count) (list_any (λ y. y == t) (flow.next u)) (h.held.edges t (number_in label u) u i) in
          false≢true (sym none ∙ (ap (list_any (λ y. y == t)) is_row ∙ e.1)))

      all_now : (t n w : ℕ) → in_set into' t n w ≡ (in_set into t (number_in label w) w && (number_in label' w == n))
      all_now = exact_moved (λ w t. in_set into t (number_in label w) w) row u from to (number_in label) (number_in label') (in_set into)
          (in_set into') at_u.1 at_u' not_u in_row h.held.exact moves

      same_open : (t w : ℕ) → in_set into' t (number_in label' w) w ≡ in_set into t (number_in label w) w
      same_open t w = all_now t (number_in label' w) w ∙ ap (λ b. in_set into t (number_in label w) w && b)
          (eq-eqb (number_in label' w) (number_in label' w) refl) ∙ and_one (in_set into t (number_in label w) w)
        where
          and_one : (b : Bool) → (b && true) ≡ b
          and_one true = refl
          and_one false = refl

      held_now : AreHeld flow (number_in label') into'
      held_now =
          record {
            edges = λ t n w i. h.held.edges t (number_in label w) w (and_parts (in_set into t (number_in label w) w)
                (number_in label' w == n) (sym (all_now t n w) ∙ i)).0;
            exact = λ t n w. all_now t n w ∙ ap (λ b. b && (number_in label' w == n)) (sym (same_open t w));
          }

      module _ (out : (q : ℕ × ℕ × ℕ) → tree.contains edge_cmp m q ≡ cond (is_at (edge_cmp (from, u, 0)) q) false
          (tree.contains edge_cmp members q))
          (back : (q : ℕ × ℕ × ℕ) → tree.contains edge_cmp members' q ≡ cond (is_at (edge_cmp (to, u, 0)) q) true
          (tree.contains edge_cmp m q)) where
        both : (n w z : ℕ) → in_set members' n w z ≡ cond ((n == to) && (w == u) && (z == 0)) true
            (cond ((n == from) && (w == u) && (z == 0)) false (nat_lt w flow.count && (number_in label w == n) && (z == 0)))
        both n w z =
            back (n, w, z) ∙ (ap (λ c. cond c true (in_set m n w z)) (edge_at to u 0 n w z)
            ∙ ap (λ c. cond ((n == to) && (w == u) && (z == 0)) true c) (out (n, w, z)
            ∙ (ap (λ c. cond c false (in_set members n w z)) (edge_at from u 0 n w z)
            ∙ ap (λ c. cond ((n == from) && (w == u) && (z == 0)) false c) (h.here n w z))))

        here_now : AreMembers flow (number_in label') members'
        here_now n w z =
            elim (cases_eq w u) as (λ _. in_set members' n w z ≡ (nat_lt w flow.count && (number_in label' w == n) && (z == 0))) [
              | inr ne ↦
                  let none : (a : Bool) → (a && (w == u) && (z == 0)) ≡ false = λ a. ap (λ b. b && (z == 0))
                  (second_false a (w == u) (ne_eqb w u ne)) in
                  both n w z
                  ∙ (cond-false ((n == to) && (w == u) && (z == 0)) true
                  (cond ((n == from) && (w == u) && (z == 0)) false (nat_lt w flow.count && (number_in label w == n) && (z == 0)))
                  (none (n == to))
                  ∙ (cond-false ((n == from) && (w == u) && (z == 0)) false (nat_lt w flow.count && (number_in label w == n) && (z == 0))
                  (none (n == from))
                  ∙ ap (λ y. nat_lt w flow.count && (y == n) && (z == 0)) (sym (not_u w ne))))
              | inl e ↦
                  subst (λ (y : ℕ). in_set members' n y z ≡ (nat_lt y flow.count && (number_in label' y == n) && (z == 0))) (sym e)
                  (both n u z
                  ∙ (ap (λ c. cond ((n == to) && c && (z == 0)) true (cond ((n == from) && c && (z == 0)) false
                  (nat_lt u flow.count && (number_in label u == n) && (z == 0)))) (eq-eqb u u refl)
                  ∙ (ap (λ c. cond ((n == to) && true && (z == 0)) true
                  (cond ((n == from) && true && (z == 0)) false (c && (number_in label u == n) && (z == 0)))) at_u.0
                  ∙ (ap (λ c. cond ((n == to) && true && (z == 0)) true
                  (cond ((n == from) && true && (z == 0)) false (true && c && (z == 0)))) (ap (λ y. y == n) at_u.1 ∙ eq_turned from n)
                  ∙ (two_tests (n == to) (n == from) (z == 0)
                  ∙ (ap (λ c. true && c && (z == 0)) (eq_turned n to ∙ ap (λ y. y == n) (sym at_u'))
                  ∙ ap (λ c. c && (number_in label' u == n) && (z == 0)) (sym at_u.0)))))))
            ]

        pub one_more : HasMoved flow from to before label' moved' old into' members'
        one_more =
            record {
              size = size ∙ h.size;
              labels = labels_now;
              were = were_now;
              held = held_now;
              opens = λ t w. same_open t w ∙ h.opens t w;
              here = here_now;
            }

-- at the end no block has the old number
module _ (flow : Flow) (from to : ℕ) (before label moved : List ℕ) (old into members : BTreeSet (ℕ × ℕ × ℕ))
    (h : HasMoved flow from to before label moved old into members) (few : flow.count < 2 ^ 32) (is_from : from < flow.count)
    (size : length before ≡ flow.count)
    (none : (m u : ℕ) → m < 2 ^ 32 → u < 2 ^ 32 → tree.contains edge_cmp members (from, m, u) ≡ false) where
  left : (w : ℕ) → w < flow.count → number_in label w ≢ from
  left w l e =
      false≢true (sym (none w 0 (omega (arith, l, few)) (omega arith)) ∙ (h.here from w 0
      ∙ and_from (nat_lt w flow.count && (number_in label w == from)) (0 == 0)
      (and_from (nat_lt w flow.count) (number_in label w == from) (is_below w flow.count l) (eq-eqb (number_in label w) from e))
      (eq-eqb 0 0 refl)))

  pub all_moved : (w : ℕ) → number_in before w ≡ from → w < flow.count → list_any (λ u. u == w) moved ≡ true
  all_moved w e l =
      elim (cases_Bool (list_any (λ u. u == w) moved)) as (λ _. list_any (λ u. u == w) moved ≡ true) [
        | inl t ↦ t
        | inr f ↦ absurd (left w l (h.labels w ∙ (cond-false (list_any (λ u. u == w) moved) to (number_in before w) f ∙ e)))
      ]

  pub relabels : (w : ℕ) → number_in label w ≡ (if number_in before w == from then to else number_in before w)
  relabels w =
      elim (cases_eq (number_in before w) from) as (λ _. number_in label w ≡
      (if number_in before w == from then to else number_in before w)) [
        | inl e ↦
            elim (below_or w flow.count) as (λ _. number_in label w ≡ (if number_in before w == from then to else number_in before w)) [
              | inl l ↦
                  h.labels w ∙ (cond-true (list_any (λ u. u == w) moved) to (number_in before w) (all_moved w e l)
                  ∙ sym (cond-true (number_in before w == from) to (number_in before w) (eq-eqb (number_in before w) from e)))
              | inr p ↦
                  let far : number_in before w ≡ w = past_end before w (omega (arith, p, size)) in
                  absurd (omega (arith, p, far, e, is_from))
            ]
        | inr ne ↦
            h.labels w ∙ (cond-false (list_any (λ u. u == w) moved) to (number_in before w)
            (false_from_ne_true (list_any (λ u. u == w) moved) (λ t. ne (h.were w t).0))
            ∙ sym (cond-false (number_in before w == from) to (number_in before w) (ne_eqb (number_in before w) from ne)))
      ]
