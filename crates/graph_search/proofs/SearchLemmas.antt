-- A search finds what is reached and nothing else.
use Rattle.std.proofs.Common.{◌≡◌, refl, sym, ap, ◌∙◌, subst, ℕ, zero, suc, ◌+◌, ◌<◌, ◌≤◌, ◌⊎◌, inl, inr, Bool, true}
use Rattle.std.proofs.Common.{false, List, [], ◌∷◌, ◌++◌, length, take, drop, get_or, arith}
use Rattle.std.specs.Prelude.{nat_eq, ◌||◌, Option, Some, None, slice_get, if◌then◌else◌}
use Rattle.std.proofs.lemmas.Bool.{cases_Bool, or_cases, or_left, or_right, cond-true, cond-false, false≢true}
use Rattle.std.proofs.lemmas.List.{append-nil, append_assoc, length-append, take-append-le, take_all}
use Rattle.graph_search.specs.NodeLists.{Equality, holds, Distinct, added, added_all, MoreThan}
use Rattle.graph_search.specs.Walks.{Walk, Reached}
use Rattle.graph_search.specs.Flows.{Flow, edge, leads}
use Rattle.graph_search.specs.Searches.{steps_to, Searched}
use Rattle.graph_search.proofs.ListLemmas.{holds_left, holds_right, holds_parts, holds_one, holds_first, kept_by_all}
use Rattle.graph_search.proofs.ListLemmas.{holds_all, from_all, distinct_all, all_go_on, no_more, nat_equality}
use Rattle.std.proofs.Math.Numerals.{add-one}
use Rattle.graph_search.proofs.WalkLemmas.{in_front}

pub take_next : {A : Type 0} (ps : List A) (at : ℕ) (p : A) → slice_get ps at ≡ Some p → take (suc at) ps ≡ take at ps
    ++ p ∷ []
take_next [] at p e = absurd (cc)
take_next (x ∷ ps) zero p e = let same : x ≡ p = cc in ap (λ y. y ∷ []) same
take_next (x ∷ ps) (suc at) p e = ap (λ ys. x ∷ ys) (take_next ps at p e)

pub get_within : {A : Type 0} (ps : List A) (at : ℕ) (p : A) → slice_get ps at ≡ Some p → at < length ps
get_within [] at p e = absurd (cc)
get_within (x ∷ ps) zero p e = omega arith
get_within (x ∷ ps) (suc at) p e = let r = get_within ps at p e in omega (arith, r)

module _ (A : Type 0) (q : Equality A) where
  pub holds_at : (ps : List A) (at : ℕ) (p : A) → slice_get ps at ≡ Some p → holds q.same p ps ≡ true
  holds_at [] at p e = absurd (cc)
  holds_at (x ∷ ps) zero p e = let same : x ≡ p = cc in subst (λ y. holds q.same p (y ∷ ps) ≡ true) (sym same)
      (holds_first A q p ps)
  holds_at (x ∷ ps) (suc at) p e = or_right (q.same p x) (holds q.same p ps) (holds_at ps at p e)

  pub holds_front : (x : A) (n : ℕ) (ps : List A) → holds q.same x (take n ps) ≡ true → holds q.same x ps ≡ true
  holds_front x zero ps h = absurd (false≢true h)
  holds_front x (suc n) [] h = h
  holds_front x (suc n) (p ∷ ps) h =
      elim (or_cases (q.same x p) (holds q.same x (take n ps)) h) as (λ _. holds q.same x (p ∷ ps) ≡ true) [
        | inl a ↦ or_left (q.same x p) (holds q.same x ps) a
        | inr b ↦ or_right (q.same x p) (holds q.same x ps) (holds_front x n ps b)
      ]

  module _ (step : A → List A) (start : A) where
    pub start_searched : Searched q.same step start 0 (start ∷ [])
    start_searched =
        record {
          within = omega arith;
          starts = holds_first A q start [];
          reached = λ p h. (0, sym (holds_one A q p start h));
          distinct = (refl, tt);
          closed = λ p x h k. absurd (false≢true h);
        }

    -- the next point's step is added
    pub step_kept : (at : ℕ) (ps qs : List A) (p : A) → Searched q.same step start at ps → slice_get ps at ≡ Some p → qs
        ≡ added_all q.same ps (step p) → Searched q.same step start (suc at) qs
    step_kept at ps qs p s get is =
        let more = all_go_on A q ps (step p) in
        let whole : qs ≡ ps ++ more.0 = is ∙ more.1 in
        let long = get_within ps at p get in
        let count : length qs ≡ length ps + length more.0 = ap length whole ∙ length-append ps more.0 in
        let front : take (suc at) qs ≡ take at ps ++ p ∷ [] =
        ap (take (suc at)) whole ∙ take-append-le (suc at) ps more.0 (omega (arith, long)) ∙ take_next ps at p get in
        subst (λ ys. Searched q.same step start (suc at) ys) (sym is) (record {
          within = subst (λ ys. suc at ≤ length ys) is (omega (arith, long, count));
          starts = kept_by_all A q start ps (step p) s.starts;
          reached = λ x h.
              elim (from_all A q x ps (step p) h) as (λ _. Reached (steps_to q.same step) start x) [
                | inl a ↦ s.reached x a
                | inr b ↦ let r = s.reached p (holds_at ps at p get) in (suc r.0, (p, r.1, b))
              ];
          distinct = distinct_all A q ps (step p) s.distinct;
          closed = λ x y h k.
              elim (holds_parts A q x (take at ps) (p ∷ []) (subst (λ ys. holds q.same x ys ≡ true) front
              (subst (λ ys. holds q.same x (take (suc at) ys) ≡ true) (sym is) h))) as
              (λ _. holds q.same y (added_all q.same ps (step p)) ≡ true) [
                | inl a ↦ kept_by_all A q y ps (step p) (s.closed x y a k)
                | inr b ↦ holds_all A q y ps (step p) (subst (λ z. holds q.same y (step z) ≡ true)
                    (holds_one A q x p b) k)
              ];
        })

    -- where the whole list is expanded, it has what is reached
    pub all_reached : (ps : List A) → Searched q.same step start (length ps) ps → (n : ℕ) (p : A) → Walk
        (steps_to q.same step) start p n → holds q.same p ps ≡ true
    all_reached ps s zero p w = subst (λ y. holds q.same y ps ≡ true) w s.starts
    all_reached ps s (suc n) p w =
        let before = all_reached ps s n w.0 w.1 in
        s.closed w.0 p (subst (λ ys. holds q.same w.0 ys ≡ true)
        (sym (take_all (length ps) ps (omega arith))) before) w.2

    -- a list that grows past a bound while it is searched shows that more are reached
    pub many_reached : (at most : ℕ) (ps : List A) → Searched q.same step start at ps → most < length ps
        → MoreThan q.same most (Reached (steps_to q.same step) start)
    many_reached at most ps s h = (ps, s.distinct, s.reached, h)

    -- and a finished list within the bound that no more are
    pub not_many : (most : ℕ) (ps : List A) → Searched q.same step start (length ps) ps → length ps ≤ most
        → MoreThan q.same most (Reached (steps_to q.same step) start) → ⊥
    not_many most ps s h more =
        let le = no_more A q more.0 ps more.1 (λ p k. let r = more.2 p k in all_reached ps s r.0 p r.1) in
        omega (arith, h, le, more.3)

  -- ---- what has a point before each of its points has a cycle

  -- the points of a chain, the newest first, each with a way from the newest
  record Chain (E : A → A → Type 0) (ps : List A) (c : A) (cs : List A) : Type 0 where
    distinct : Distinct q.same (c ∷ cs)
    among : (y : A) → holds q.same y (c ∷ cs) ≡ true → holds q.same y ps ≡ true
    led : (y : A) → holds q.same y (c ∷ cs) ≡ true → Reached E c y

  abbrev pub Cycle : (A → A → Type 0) → Type 0
  Cycle E = (x : A) × (n : ℕ) × Walk E x x (suc n)

  round : (E : A → A → Type 0) (x c : A) → E x c → Reached E c x → Cycle E
  round E x c e r = (c, r.0, (x, r.1, e))

  chain_cycle : (E : A → A → Type 0) (ps : List A) → ((p : A) → holds q.same p ps ≡ true → (x : A) ×
      (holds q.same x ps ≡ true) × E x p) → (k : ℕ) (c : A) (cs : List A) → Chain E ps c cs → length ps ≤ length cs + k
      → Cycle E
  chain_cycle E ps back zero c cs chain le =
      let few = no_more A q (c ∷ cs) ps chain.distinct chain.among in
      absurd (omega (arith, few, le))
  chain_cycle E ps back (suc k) c cs chain le =
      let b = back c (chain.among c (holds_first A q c cs)) in
      elim (cases_Bool (holds q.same b.0 (c ∷ cs))) as (λ _. Cycle E) [
        | inl t ↦ round E b.0 c b.2 (chain.led b.0 t)
        | inr f ↦
            chain_cycle E ps back k b.0 (c ∷ cs) (record {
              distinct = (f, chain.distinct);
              among = λ y h.
                  elim (or_cases (q.same y b.0) (holds q.same y (c ∷ cs)) h) as (λ _. holds q.same y ps ≡ true) [
                    | inl s ↦ subst (λ z. holds q.same z ps ≡ true) (sym (q.exact y b.0 s)) b.1
                    | inr o ↦ chain.among y o
                  ];
              led = λ y h.
                  elim (or_cases (q.same y b.0) (holds q.same y (c ∷ cs)) h) as (λ _. Reached E b.0 y) [
                    | inl s ↦ (0, sym (q.exact y b.0 s))
                    | inr o ↦ let r = chain.led y o in in_front E b.0 c y r.0 b.2 r.1
                  ];
            }) (omega (arith, le))
      ]

  pub back_steps_make_a_cycle : (E : A → A → Type 0) (p : A) (ps : List A) → holds q.same p ps ≡ true
      → ((x : A) → holds q.same x ps ≡ true → (y : A) × (holds q.same y ps ≡ true) × E y x) → Cycle E
  back_steps_make_a_cycle E p ps h back =
      chain_cycle E ps back (length ps) p [] (record {
        distinct = (refl, tt);
        among = λ y k. subst (λ z. holds q.same z ps ≡ true) (sym (holds_one A q y p k)) h;
        led = λ y k. (0, sym (holds_one A q y p k));
      }) (omega arith)

-- ---- the answers of a search over numbers

module _ (step : ℕ → List ℕ) (start : ℕ) where
  pub next_kept : (at : ℕ) (ps qs : List ℕ) (p : ℕ) → Searched nat_eq step start at ps → slice_get ps at ≡ Some p → qs
      ≡ added_all nat_eq ps (step p) → Searched nat_eq step start (at + 1) qs
  next_kept at ps qs p s get is = subst (λ n. Searched nat_eq step start n qs) (sym (add-one at))
      (step_kept ℕ nat_equality step start at ps qs p s get is)

  pub too_many : (at most : ℕ) (ps : List ℕ) (p : ℕ) → Searched nat_eq step start at ps → slice_get ps at ≡ Some p
      → most < length (added_all nat_eq ps (step p)) → MoreThan nat_eq most (Reached (steps_to nat_eq step) start)
  too_many at most ps p s get lt =
      many_reached ℕ nat_equality step start (suc at) most (added_all nat_eq ps (step p))
      (step_kept ℕ nat_equality step start at ps (added_all nat_eq ps (step p)) p s get refl) lt

  whole : (at : ℕ) (ps : List ℕ) → Searched nat_eq step start at ps → length ps ≤ at → Searched nat_eq step start
      (length ps) ps
  whole at ps s le = let e : at ≡ length ps = omega (arith, s.within, le) in subst
      (λ n. Searched nat_eq step start n ps) e s

  pub all_found : (at : ℕ) (ps : List ℕ) → Searched nat_eq step start at ps → length ps ≤ at → (p : ℕ) → Reached
      (steps_to nat_eq step) start p → holds nat_eq p ps ≡ true
  all_found at ps s le p r = all_reached ℕ nat_equality step start ps (whole at ps s le) r.0 p r.1

  pub no_more_reached : (at most : ℕ) (ps : List ℕ) → Searched nat_eq step start at ps → length ps ≤ at
      → length ps ≤ most → MoreThan nat_eq most (Reached (steps_to nat_eq step) start) → ⊥
  no_more_reached at most ps s le few = not_many ℕ nat_equality step start most ps (whole at ps s le) few

-- ---- a row is added node by node

drop_one : (row : List ℕ) (at : ℕ) → at < length row → drop at row ≡ get_or row at 0 ∷ drop (suc at) row
drop_one [] at l = absurd (omega (arith, l))
drop_one (x ∷ row) zero l = refl
drop_one (x ∷ row) (suc at) l = drop_one row at (omega (arith, l))

pub row_many : (most at : ℕ) (start points new row : List ℕ) → added_all nat_eq points (drop at row)
    ≡ added_all nat_eq start row → at < length row → new ≡ added nat_eq points (get_or row at 0) → most < length new
    → most < length (added_all nat_eq start row)
row_many most at start points new row same l is m =
    let rest = drop (suc at) row in
    let go = all_go_on ℕ nat_equality new rest in
    let long = ap length go.1 ∙ length-append new go.0 in
    let e : added_all nat_eq start row ≡ added_all nat_eq new rest = sym same ∙ ap (added_all nat_eq points)
    (drop_one row at l) ∙ ap (λ zs. added_all nat_eq zs rest) (sym is) in
    subst (λ zs. most < length zs) (sym e) (omega (arith, m, long))

-- ---- a flow graph

pub predecessors_cycle : (flow : Flow) (p : ℕ) (xs : List ℕ) → holds nat_eq p xs ≡ true
    → ((x : ℕ) → holds nat_eq x xs ≡ true → (y : ℕ) × (holds nat_eq y xs ≡ true) × (edge flow y x ≡ true))
    → (x : ℕ) × (n : ℕ) × Walk (leads (edge flow)) x x (suc n)
predecessors_cycle flow p xs h back = back_steps_make_a_cycle ℕ nat_equality (leads (edge flow)) p xs h back
