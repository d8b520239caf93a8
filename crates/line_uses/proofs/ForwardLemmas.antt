-- The search forward from the points of a line meets what follows the line.
use Rattle.std.proofs.Common.{◌≡◌, ◌≢◌, ℕ, zero, suc, ◌+◌, ◌<◌, ◌⊎◌, inl, inr, Bool, true, false, List, [], ◌∷◌, ◌++◌, length}
use Rattle.std.proofs.Common.{drop, get_or, refl, sym, ap, ◌∙◌, subst, arith}
use Rattle.std.specs.Prelude.{nat_eq, ◌&&◌, if◌then◌else◌, Option, Some, unwrap_or}
use Rattle.std.specs.List.{filter}
use Rattle.std.proofs.lemmas.Bool.{cases_Bool, or_cases, or_left, or_right, eqb-true, eq-eqb, cond-true, cond-false, false≢true}
use Rattle.std.proofs.lemmas.Bool.Decides.{eqb_tells}
use Rattle.std.proofs.lemmas.List.{append-nil, drop_more}
use Rattle.graph_search.specs.NodeLists.{added, added_all, holds}
use Rattle.graph_search.specs.Searches.{steps_to}
use Rattle.graph_search.specs.Walks.{Reached, Walk}
use Rattle.persistence.specs.Searches.{IsForward, TestsFollowing}
use Rattle.persistence.specs.PointRows.{line_at}
use Rattle.graph_search.specs.Rows.{row_in}
use Rattle.persistence.proofs.RowLemmas.{filter_sound, filter_complete}
use Rattle.persistence.proofs.StrongLemmas.{is_other_complete, is_other_sound}
use Rattle.persistence.proofs.TraceLemmas.{reached_follow}
use Rattle.line_uses.specs.PointMaps.{ArePointMaps, HasLine, PointMaps, code_of, inside}
use Rattle.line_uses.specs.SearchSteps.{after_line, forward_step, other, picks}
use Rattle.line_uses.proofs.DepthLemmas.{inside_below, other_below}

pub added_on : (ps xs ys : List ℕ) → added_all nat_eq ps (xs ++ ys) ≡ added_all nat_eq (added_all nat_eq ps xs) ys
added_on ps [] ys = refl
added_on ps (x ∷ xs) ys = added_on (added nat_eq ps x) xs ys

pub first_next : (m : PointMaps) (line i : ℕ) (xs ps qs base : List ℕ) → i < length xs
    → qs ≡ added_all nat_eq ps (after_line m line (get_or xs i 0 ∷ [])) → added_all nat_eq ps (after_line m line (drop i xs)) ≡ base
    → added_all nat_eq qs (after_line m line (drop (i + 1) xs)) ≡ base
first_next m line i xs ps qs base lt is whole =
    let x = get_or xs i 0 in
    let own : List ℕ = if nat_eq (line_at m.lines x) line && inside m 0 x then filter (other m 0 line) (row_in m.next x) else [] in
    let first : qs ≡ added_all nat_eq ps own = is ∙ ap (added_all nat_eq ps) (append-nil own) in
    ap (λ (zs : List ℕ). added_all nat_eq zs (after_line m line (drop (i + 1) xs))) first
    ∙ sym (added_on ps own (after_line m line (drop (i + 1) xs)))
    ∙ ap (λ (zs : List ℕ). added_all nat_eq ps (after_line m line zs)) (sym (drop_more xs i 0 lt)) ∙ whole

both : (a b : Bool) → a && b ≡ true → (a ≡ true) × (b ≡ true)
both true true h = (refl, refl)
both true false h = absurd (false≢true h)
both false b h = absurd (false≢true h)

both_so : (a b : Bool) → a ≡ true → b ≡ true → a && b ≡ true
both_so true true h k = refl
both_so true false h k = k
both_so false b h k = h

in_parts : (q : ℕ) (xs ys : List ℕ) → holds nat_eq q (xs ++ ys) ≡ true → (holds nat_eq q xs ≡ true) ⊎ (holds nat_eq q ys ≡ true)
in_parts q [] ys h = inr h
in_parts q (x ∷ xs) ys h =
    elim (or_cases (nat_eq q x) (holds nat_eq q (xs ++ ys)) h) as (λ _. (holds nat_eq q (x ∷ xs) ≡ true) ⊎ (holds nat_eq q ys ≡ true)) [
      | inl a ↦ inl (or_left (nat_eq q x) (holds nat_eq q xs) a)
      | inr b ↦
          elim (in_parts q xs ys b) as (λ _. (holds nat_eq q (x ∷ xs) ≡ true) ⊎ (holds nat_eq q ys ≡ true)) [
            | inl k ↦ inl (or_right (nat_eq q x) (holds nat_eq q xs) k)
            | inr k ↦ inr k
          ]
    ]

in_left : (q : ℕ) (xs ys : List ℕ) → holds nat_eq q xs ≡ true → holds nat_eq q (xs ++ ys) ≡ true
in_left q [] ys h = absurd (false≢true h)
in_left q (x ∷ xs) ys h =
    elim (or_cases (nat_eq q x) (holds nat_eq q xs) h) as (λ _. holds nat_eq q (x ∷ xs ++ ys) ≡ true) [
      | inl a ↦ or_left (nat_eq q x) (holds nat_eq q (xs ++ ys)) a
      | inr b ↦ or_right (nat_eq q x) (holds nat_eq q (xs ++ ys)) (in_left q xs ys b)
    ]

in_right : (q : ℕ) (xs ys : List ℕ) → holds nat_eq q ys ≡ true → holds nat_eq q (xs ++ ys) ≡ true
in_right q [] ys h = h
in_right q (x ∷ xs) ys h = or_right (nat_eq q x) (holds nat_eq q (xs ++ ys)) (in_right q xs ys h)

module _ (m : PointMaps) (line : ℕ) where
  abbrev starts : ℕ → Bool
  starts a = nat_eq (line_at m.lines a) line && inside m 0 a

  abbrev Starts : ℕ → ℕ → Type 0
  Starts q a = (line_at m.lines a ≡ line) × (inside m 0 a ≡ true) × (holds nat_eq q (row_in m.next a) ≡ true)

  after_sound : (q : ℕ) (xs : List ℕ) → holds nat_eq q (after_line m line xs) ≡ true → (other m 0 line q ≡ true) × ((a : ℕ) × Starts q a)
  after_sound q [] h = absurd (false≢true h)
  after_sound q (a ∷ rest) h =
      elim (in_parts q (if starts a then filter (other m 0 line) (row_in m.next a) else []) (after_line m line rest) h) as
      (λ _. (other m 0 line q ≡ true) × ((a : ℕ) × Starts q a)) [
        | inl k ↦ here (cases_Bool (starts a)) k
        | inr k ↦ after_sound q rest k
      ]
    where
      here : (starts a ≡ true) ⊎ (starts a ≡ false) → holds nat_eq q (if starts a then filter (other m 0 line) (row_in m.next a) else []) ≡
          true → (other m 0 line q ≡ true) × ((a : ℕ) × Starts q a)
      here (inl t) k =
          let f = filter_sound (other m 0 line) q (row_in m.next a) (subst (λ (ys : List ℕ). holds nat_eq q ys ≡ true)
          (cond-true (starts a) (filter (other m 0 line) (row_in m.next a)) [] t) k) in
          let b = both (nat_eq (line_at m.lines a) line) (inside m 0 a) t in
          (f.0, (a, (eqb-true (line_at m.lines a) line b.0, b.1, f.1)))
      here (inr t) k = absurd (false≢true (subst (λ (ys : List ℕ). holds nat_eq q ys ≡ true)
          (cond-false (starts a) (filter (other m 0 line) (row_in m.next a)) [] t) k))

  after_complete : (q a : ℕ) (xs : List ℕ) → holds nat_eq a xs ≡ true → Starts q a → other m 0 line q ≡ true
      → holds nat_eq q (after_line m line xs) ≡ true
  after_complete q a [] h s o = absurd (false≢true h)
  after_complete q a (x ∷ rest) h s o =
      elim (or_cases (nat_eq a x) (holds nat_eq a rest) h) as (λ _. holds nat_eq q (after_line m line (x ∷ rest)) ≡ true) [
        | inl k ↦ in_left q (if starts x then filter (other m 0 line) (row_in m.next x) else []) (after_line m line rest)
            (here (eqb-true a x k))
        | inr k ↦ in_right q (if starts x then filter (other m 0 line) (row_in m.next x) else []) (after_line m line rest)
            (after_complete q a rest k s o)
      ]
    where
      here : a ≡ x → holds nat_eq q (if starts x then filter (other m 0 line) (row_in m.next x) else []) ≡ true
      here e =
          let t : starts x ≡ true = subst (λ (y : ℕ). starts y ≡ true) e (both_so (nat_eq (line_at m.lines a) line) (inside m 0 a)
          (eq-eqb (line_at m.lines a) line s.0) s.1) in
          let f : holds nat_eq q (filter (other m 0 line) (row_in m.next x)) ≡ true = filter_complete (other m 0 line) q (row_in m.next x) o
          (subst (λ (y : ℕ). holds nat_eq q (row_in m.next y) ≡ true) e s.2) in
          subst (λ (ys : List ℕ). holds nat_eq q ys ≡ true) (sym (cond-true (starts x) (filter (other m 0 line) (row_in m.next x)) [] t)) f

  after_below : (q : ℕ) (xs : List ℕ) → holds nat_eq q (after_line m line xs) ≡ true → q < length m.home
  after_below q xs h = other_below m 0 line q (after_sound q xs h).0

  pub forward_below : (peers : List ℕ) (r q : ℕ) → holds nat_eq q (forward_step m peers line r) ≡ true → q < length m.home + 1
  forward_below peers r q h = by_test (eqb_tells r (length m.home))
    where
      by_test : ((nat_eq r (length m.home) ≡ true) × (r ≡ length m.home)) ⊎ ((nat_eq r (length m.home) ≡ false) × (r ≢ length m.home))
          → q < length m.home + 1
      by_test (inl t) =
          let a = after_below q peers (subst (λ (ys : List ℕ). holds nat_eq q ys ≡ true)
          (cond-true (nat_eq r (length m.home)) (after_line m line peers) (filter (other m 0 line) (row_in m.next r)) t.0) h) in
          omega (arith, a)
      by_test (inr t) =
          let f = filter_sound (other m 0 line) q (row_in m.next r) (subst (λ (ys : List ℕ). holds nat_eq q ys ≡ true)
          (cond-false (nat_eq r (length m.home)) (after_line m line peers) (filter (other m 0 line) (row_in m.next r)) t.0) h) in
          let a = other_below m 0 line q f.0 in
          omega (arith, a)

  first_step : (peers : List ℕ) → forward_step m peers line (length m.home) ≡ after_line m line peers
  first_step peers = cond-true (nat_eq (length m.home) (length m.home)) (after_line m line peers)
      (filter (other m 0 line) (row_in m.next (length m.home))) (eq-eqb (length m.home) (length m.home) refl)

  later_step : (peers : List ℕ) (r : ℕ) → r ≢ length m.home → forward_step m peers line r ≡ filter (other m 0 line) (row_in m.next r)
  later_step peers r ne =
      elim (eqb_tells r (length m.home)) as (λ _. forward_step m peers line r ≡ filter (other m 0 line) (row_in m.next r)) [
        | inl t ↦ absurd (ne t.1)
        | inr t ↦ cond-false (nat_eq r (length m.home)) (after_line m line peers) (filter (other m 0 line) (row_in m.next r)) t.0
      ]

  goes_forward : (peers : List ℕ) → ArePointMaps m → HasLine m line peers
      → IsForward (code_of m) (inside m 0) line (length m.home) (forward_step m peers line)
  goes_forward peers maps all =
      record {
        first_sound = λ q h.
            let s = after_sound q peers (subst (λ (ys : List ℕ). holds nat_eq q ys ≡ true) (first_step peers) h) in
            let o = is_other_sound (code_of m) (inside m 0) line q s.0 in
            (o.0, o.1, (s.1.0, s.1.1.0, s.1.1.1, sym (maps.forth s.1.0 q) ∙ s.1.1.2));
        first_complete = λ a q l w e i ne.
            let there : holds nat_eq a peers ≡ true = all a (inside_below m 0 a w) l in
            subst (λ (ys : List ℕ). holds nat_eq q ys ≡ true) (sym (first_step peers))
            (after_complete q a peers there (l, w, maps.forth a q ∙ e) (is_other_complete (code_of m) (inside m 0) line q i ne));
        sound = λ r q ne h.
            let f = filter_sound (other m 0 line) q (row_in m.next r) (subst (λ (ys : List ℕ). holds nat_eq q ys ≡ true)
            (later_step peers r ne) h) in
            let o = is_other_sound (code_of m) (inside m 0) line q f.0 in
            (o.0, o.1, sym (maps.forth r q) ∙ f.1);
        complete = λ r q ne e i l.
            subst (λ (ys : List ℕ). holds nat_eq q ys ≡ true) (sym (later_step peers r ne))
            (filter_complete (other m 0 line) q (row_in m.next r) (is_other_complete (code_of m) (inside m 0) line q i l)
            (maps.forth r q ∙ e));
        apart = λ q i e. let b = inside_below m 0 q i in omega (arith, b, e);
      }

  -- what is marked is other than the start where it is in the graph
  pub all_following : (peers met : List ℕ) → ArePointMaps m → HasLine m line peers
      → ((q : ℕ) → holds nat_eq q met ≡ true → Reached (steps_to nat_eq (forward_step m peers line)) (length m.home) q)
      → ((q : ℕ) → Reached (steps_to nat_eq (forward_step m peers line)) (length m.home) q → holds nat_eq q met ≡ true)
      → TestsFollowing (code_of m) (inside m 0) line (picks m 0 line met)
  all_following peers met maps there found all =
      let opens = reached_follow (code_of m) (inside m 0) line (length m.home) (forward_step m peers line)
      (λ q. holds nat_eq q met && inside m 0 q) (goes_forward peers maps there)
      (λ q h. let b = both (holds nat_eq q met) (inside m 0 q) h in (
        (λ e. let l = inside_below m 0 q b.1 in omega (arith, l, e)),
        found
            q b.0,
      ))
      (λ q ne r. both_so (holds nat_eq q met) (inside m 0 q) (all q r) (met_inside q ne r)) in
      record {
        sound = λ q h.
            let b = both (other m 0 line q) (holds nat_eq q met) h in
            opens.sound q (both_so (holds nat_eq q met) (inside m 0 q) b.1 (is_other_sound (code_of m) (inside m 0) line q b.0).0);
        complete = λ q b.
            both_so (other m 0 line q) (holds nat_eq q met) (is_other_complete (code_of m) (inside m 0) line q b.0 b.1)
            (both (holds nat_eq q met) (inside m 0 q) (opens.complete q b)).0;
      }
    where
      last_inside : (r q : ℕ) → holds nat_eq q (forward_step m peers line r) ≡ true → inside m 0 q ≡ true
      last_inside r q h =
          elim (eqb_tells r (length m.home)) as (λ _. inside m 0 q ≡ true) [
            | inl t ↦
                let s = after_sound q peers (subst (λ (ys : List ℕ). holds nat_eq q ys ≡ true)
                (cond-true (nat_eq r (length m.home)) (after_line m line peers) (filter (other m 0 line) (row_in m.next r)) t.0) h) in
                (is_other_sound (code_of m) (inside m 0) line q s.0).0
            | inr t ↦
                let f = filter_sound (other m 0 line) q (row_in m.next r) (subst (λ (ys : List ℕ). holds nat_eq q ys ≡ true)
                (later_step peers r t.1) h) in
                (is_other_sound (code_of m) (inside m 0) line q f.0).0
          ]

      by_walk : (q n : ℕ) → q ≢ length m.home → Walk (steps_to nat_eq (forward_step m peers line)) (length m.home) q n → inside m 0 q ≡ true
      by_walk q zero ne w = absurd (ne (sym w))
      by_walk q (suc n) ne w = last_inside w.0 q w.2

      met_inside : (q : ℕ) → q ≢ length m.home → Reached (steps_to nat_eq (forward_step m peers line)) (length m.home) q
          → inside m 0 q ≡ true
      met_inside q ne r = by_walk q r.0 ne r.1

pub same_line : (a b : ℕ) → Some a ≡ Some b → a ≡ b
same_line a b e = ap (λ (o : Option ℕ). unwrap_or o a) e
