-- The loops round each block, one header after another.
use Rattle.std.proofs.Common.{◌≡◌, refl, sym, ap, ◌∙◌, subst, ℕ, zero, suc, ◌+◌, ◌<◌, ◌≤◌, inl, inr, Bool, true, false, List, [], ◌∷◌, ◌++◌}
use Rattle.std.proofs.Common.{length, arith}
use Rattle.std.specs.Prelude.{◌≢◌, nat_eq, if◌then◌else◌, Some, slice_get, slice_index_or}
use Rattle.std.proofs.lemmas.Bool.{cases_eq, cases_Bool, or_cases, or_left, or_right, cond-true, cond-false, eqb-true, eq-eqb, ne_eqb}
use Rattle.std.proofs.lemmas.Bool.{false≢true}
use Rattle.std.proofs.lemmas.List.{length-append, take_all}
use Rattle.graph_search.specs.NodeLists.{holds, Distinct}
use Rattle.graph_search.specs.Searches.{steps_to}
use Rattle.graph_search.specs.Walks.{Walk, Reached, aside}
use Rattle.graph_search.proofs.ListLemmas.{nat_equality, holds_left, holds_right, holds_parts, holds_one, holds_first, no_more}
use Rattle.graph_search.proofs.WalkLemmas.{in_front}
use Rattle.graph_search.proofs.SearchLemmas.{holds_at}
use Rattle.graph_search.specs.Flows.{Flow, edge, leads}
use Rattle.graph_reduction.specs.Loops.{InLoop}
use Rattle.graph_search.specs.Orders.{Rising}
use Rattle.interval_loops.specs.BlockOrders.{place}
use Rattle.graph_search.specs.Rows.{row_in}
use Rattle.interval_loops.specs.Tables.{back_step, closed_of, AreSources, AreAll, IsHeader, IsDeeper, AreNumbered, header_in, AreSoFar}
use Rattle.graph_search.proofs.OrderLemmas.{rising_end}
use Rattle.interval_loops.proofs.PlaceLemmas.{at_place, place_before}

-- a number of the list that isn't empty
pub some_held : (xs : List ℕ) → xs ≢ [] → (x : ℕ) × (holds nat_eq x xs ≡ true)
some_held [] ne = absurd (ne refl)
some_held (x ∷ xs) ne = (x, holds_first ℕ nat_equality x xs)

pub place_of : (xs : List ℕ) (at b : ℕ) → slice_get xs at ≡ Some b → Distinct nat_eq xs → place b xs ≡ at
place_of [] at b g d = absurd (cc)
place_of (x ∷ xs) zero b g d = let e : x ≡ b = cc in cond-true (nat_eq b x) 0 (suc (place b xs)) (eq-eqb b x (sym e))
place_of (x ∷ xs) (suc at) b g d =
    cond-false (nat_eq b x) 0 (suc (place b xs)) (ne_eqb b x (λ e. false≢true
    (sym d.0 ∙ subst (λ y. holds nat_eq y xs ≡ true) e (holds_at ℕ nat_equality xs at b g)))) ∙ ap suc (place_of xs at b g d.1)

-- ---- the numbers of a list under a function

abbrev pub images : (ℕ → ℕ) → List ℕ → List ℕ
images f [] = []
images f (x ∷ xs) = f x ∷ images f xs

pub images_length : (f : ℕ → ℕ) (xs : List ℕ) → length (images f xs) ≡ length xs
images_length f [] = refl
images_length f (x ∷ xs) = ap suc (images_length f xs)

image_of : (f : ℕ → ℕ) (y : ℕ) (xs : List ℕ) → holds nat_eq y (images f xs) ≡ true → (x : ℕ) × (holds nat_eq x xs ≡ true) × (y ≡ f x)
image_of f y [] h = absurd (false≢true h)
image_of f y (x ∷ xs) h =
    elim (or_cases (nat_eq y (f x)) (holds nat_eq y (images f xs)) h) as (λ _. (z : ℕ) × (holds nat_eq z (x ∷ xs) ≡ true) × (y ≡ f z)) [
      | inl a ↦ (x, holds_first ℕ nat_equality x xs, eqb-true y (f x) a)
      | inr b ↦ let r = image_of f y xs b in (r.0, or_right (nat_eq r.0 x) (holds nat_eq r.0 xs) r.1, r.2)
    ]

pub is_image : (f : ℕ → ℕ) (x : ℕ) (xs : List ℕ) → holds nat_eq x xs ≡ true → holds nat_eq (f x) (images f xs) ≡ true
is_image f x [] h = absurd (false≢true h)
is_image f x (z ∷ xs) h =
    elim (or_cases (nat_eq x z) (holds nat_eq x xs) h) as (λ _. holds nat_eq (f x) (images f (z ∷ xs)) ≡ true) [
      | inl a ↦ or_left (nat_eq (f x) (f z)) (holds nat_eq (f x) (images f xs)) (eq-eqb (f x) (f z) (ap f (eqb-true x z a)))
      | inr b ↦ or_right (nat_eq (f x) (f z)) (holds nat_eq (f x) (images f xs)) (is_image f x xs b)
    ]

images_distinct : (f rank : ℕ → ℕ) (xs : List ℕ) → Rising (λ x. rank (f x)) xs → Distinct nat_eq (images f xs)
images_distinct f rank [] r = tt
images_distinct f rank (x ∷ xs) r = (
  elim (cases_Bool (holds nat_eq (f x) (images f xs))) as (λ _. holds nat_eq (f x) (images f xs) ≡ false) [
    | inr n ↦ n
    | inl y ↦
        let i = image_of f (f x) xs y in
        let less = r.0 i.0 i.1 in
        let same : rank (f x) ≡ rank (f i.0) = ap rank i.2 in
        absurd (omega (arith, less, same))
  ],
  images_distinct f rank xs r.1,
)

module _ (flow : Flow) (closers before : List (List ℕ)) (s : AreSources flow closers before) where
  abbrev E : ℕ → ℕ → Type 0
  E = leads (edge flow)

  abbrev closed : ℕ → ℕ → Bool
  closed = closed_of closers

  -- ---- the search back from a header meets its loop

  step_edge : (h c x : ℕ) → c ≢ h → holds nat_eq x (back_step closers before h c) ≡ true → E x c
  step_edge h c x ne k = sym (s.all c x) ∙ subst (λ (ys : List ℕ). holds nat_eq x ys ≡ true)
      (cond-false (nat_eq c h) (row_in closers c) (row_in before c) (ne_eqb c h ne)) k

  step_closed : (h c x : ℕ) → c ≡ h → holds nat_eq x (back_step closers before h c) ≡ true → closed x h ≡ true
  step_closed h c x e k =
      subst (λ y. holds nat_eq x (row_in closers y) ≡ true) e (subst (λ (ys : List ℕ). holds nat_eq x ys ≡ true)
      (cond-true (nat_eq c h) (row_in closers c) (row_in before c) (eq-eqb c h e)) k)

  pub met_in_loop : (h x n : ℕ) → Walk (steps_to nat_eq (back_step closers before h)) h x n → InLoop E closed h x
  met_in_loop h x zero w = inl (sym w)
  met_in_loop h x (suc n) w =
      elim (cases_eq x h) as (λ _. InLoop E closed h x) [
        | inl e ↦ inl e
        | inr ne ↦
            elim (cases_eq w.0 h) as (λ _. InLoop E closed h x) [
              | inl e ↦ inr (x, 0, step_closed h w.0 x e w.2, (ne, refl))
              | inr d ↦
                  elim (met_in_loop h w.0 n w.1) as (λ _. InLoop E closed h x) [
                    | inl e ↦ absurd (d e)
                    | inr a ↦ let r = in_front (aside E h) x w.0 a.0 a.1 (step_edge h w.0 x d w.2, d) a.3.1 in inr
                        (a.0, r.0, a.2, (ne, r.1))
                  ]
            ]
      ]

  met_back : (h x v n : ℕ) → Walk (aside E h) x v n → Reached (steps_to nat_eq (back_step closers before h)) h v → Reached
      (steps_to nat_eq (back_step closers before h)) h x
  met_back h x v zero w r = subst (λ y. Reached (steps_to nat_eq (back_step closers before h)) h y) (sym w) r
  met_back h x v (suc n) w r =
      let e : holds nat_eq w.0 (back_step closers before h v) ≡ true =
      subst (λ (ys : List ℕ). holds nat_eq w.0 ys ≡ true) (sym (cond-false (nat_eq v h) (row_in closers v) (row_in before v)
      (ne_eqb v h w.2.1))) (s.all v w.0 ∙ w.2.0) in
      met_back h x w.0 n w.1 (suc r.0, (v, r.1, e))

  pub loop_is_met : (h x : ℕ) → InLoop E closed h x → Reached (steps_to nat_eq (back_step closers before h)) h x
  loop_is_met h x (inl e) = (0, sym e)
  loop_is_met h x (inr a) =
      met_back h x a.0 a.1 a.3.1 (
        1,
        (
          h,
          refl,
          subst (λ (ys : List ℕ). holds nat_eq a.0 ys ≡ true)
              (sym (cond-true (nat_eq h h) (row_in closers h) (row_in before h) (eq-eqb h h refl))) a.2,
        ),
      )

  pub steps_below : (h x q : ℕ) → holds nat_eq q (back_step closers before h x) ≡ true → q < length before
  steps_below h x q k =
      let size = s.before_size in
      elim (cases_eq x h) as (λ _. q < length before) [
        | inl e ↦ let l = (s.below q h (s.edges q h (step_closed h x q e k))).0 in omega (arith, l, size)
        | inr ne ↦ let l = (s.below q x (step_edge h x q ne k)).0 in omega (arith, l, size)
      ]

  -- ---- one header more

  module _ (order headers numbers : List ℕ) (o : AreAll flow order) (n : AreNumbered closers flow.count headers numbers) where
    abbrev header : ℕ → ℕ
    header = header_in headers flow.count

    header_at : (e h : ℕ) → slice_get headers e ≡ Some h → header (suc e) ≡ h
    header_at e h g = get_value headers e h g
      where
        get_value : (hs : List ℕ) (e h : ℕ) → slice_get hs e ≡ Some h → slice_index_or hs e flow.count ≡ h
        get_value [] e h g = absurd (cc)
        get_value (x ∷ hs) zero h g = cc
        get_value (x ∷ hs) (suc e) h g = get_value hs e h g

    placed : (at block h : ℕ) → slice_get order at ≡ Some block → h < flow.count → place h order ≡ at → h ≡ block
    placed at block h g l e =
        let a : slice_get order at ≡ Some h = ap (slice_get order) (sym e) ∙ at_place h order (o.all h l) in
        same_some (sym a ∙ g)
      where
        same_some : {x y : ℕ} → Some x ≡ Some y → x ≡ y
        same_some e = cc

    pub nothing_yet : (around : List (List ℕ)) → length around ≡ flow.count → ((q : ℕ) → row_in around q ≡ [])
        → AreSoFar flow closed order headers 0 around
    nothing_yet around size empty =
        record {
          size = size;
          inside = λ d b k. absurd (false≢true (sym (ap (holds nat_eq d) (empty b)) ∙ k));
          all = λ e h b g l i. absurd (omega (arith, l));
          rising = λ b. subst (λ (xs : List ℕ). Rising (λ d. place (header d) order) xs) (sym (empty b)) tt;
          few = λ b. let z : length (row_in around b) ≡ 0 = ap length (empty b) in omega (arith, z);
        }

    next_place : (p at : ℕ) → p < at + 1 → p ≢ at → p < at
    next_place p at l ne = grind arith

    pub no_header : (at block : ℕ) (around : List (List ℕ)) → slice_get order at ≡ Some block → slice_index_or numbers block 0 ≡ 0
        → AreSoFar flow closed order headers at around → AreSoFar flow closed order headers (at + 1) around
    no_header at block around g z a =
        record {
          size = a.size;
          inside = λ d b k. let r = a.inside d b k in let l = r.3 in (r.0, r.1, r.2, omega (arith, l), r.4);
          all = λ e h b k l i.
              elim (cases_eq (place h order) at) as (λ _. holds nat_eq (suc e) (row_in around b) ≡ true) [
                | inr ne ↦ a.all e h b k (next_place (place h order) at l ne) i
                | inl p ↦
                    let r = n.back e h k in
                    let same = placed at block h g r.2 p in
                    let v = subst (λ x. slice_index_or numbers x 0 ≡ suc e) same r.0 in
                    absurd (omega (arith, v, z))
              ];
          rising = a.rising;
          few = a.few;
        }

    pub one_header : (at block d : ℕ) (around more : List (List ℕ)) (ps : List ℕ) → slice_get order at ≡ Some block
        → slice_index_or numbers block 0 ≡ suc d → length more ≡ length around
        → ((x : ℕ) → holds nat_eq x ps ≡ true → InLoop E closed block x) → ((x : ℕ) → InLoop E closed block x → holds nat_eq x ps ≡ true)
        → ((q : ℕ) → row_in more q ≡ (if holds nat_eq q ps then row_in around q ++ suc d ∷ [] else row_in around q)) →
        ((q : ℕ) → holds nat_eq q ps ≡ true → length (row_in around q) < 16)
        → AreSoFar flow closed order headers at around → AreSoFar flow closed order headers (at + 1) more
    one_header at block d around more ps g v size sound complete now short a =
        let mine = n.some d block v in
        let name = header_at d block mine in
        let here = place_of order at block g o.distinct in
        let in_row : (q : ℕ) → holds nat_eq q ps ≡ true → row_in more q ≡ row_in around q ++ suc d ∷ [] =
        (λ q t. now q ∙ cond-true (holds nat_eq q ps) (row_in around q ++ suc d ∷ []) (row_in around q) t) in
        let no_row : (q : ℕ) → holds nat_eq q ps ≡ false → row_in more q ≡ row_in around q =
        (λ q t. now q ∙ cond-false (holds nat_eq q ps) (row_in around q ++ suc d ∷ []) (row_in around q) t) in
        let kept : (e b : ℕ) → holds nat_eq e (row_in around b) ≡ true → holds nat_eq e (row_in more b) ≡ true = (λ e b k.
        elim (cases_Bool (holds nat_eq b ps)) as (λ _. holds nat_eq e (row_in more b) ≡ true) [
          | inl t ↦ subst (λ (xs : List ℕ). holds nat_eq e xs ≡ true) (sym (in_row b t))
              (holds_left ℕ nat_equality e (row_in around b) (suc d ∷ []) k)
          | inr f ↦ subst (λ (xs : List ℕ). holds nat_eq e xs ≡ true) (sym (no_row b f)) k
        ]) in
        let old : (e b : ℕ) → holds nat_eq e (row_in around b) ≡ true → (c : ℕ) × (e ≡ suc c) × (slice_get headers c ≡ Some (header e)) ×
        (place (header e) order < at + 1) × InLoop E closed (header e) b = (λ e b k.
        let r = a.inside e b k in let l = r.3 in (r.0, r.1, r.2, omega (arith, l), r.4)) in
        record {
          size = size ∙ a.size;
          inside = λ e b k.
              elim (cases_Bool (holds nat_eq b ps)) as (λ _. (c : ℕ) × (e ≡ suc c) × (slice_get headers c ≡ Some (header e)) ×
              (place (header e) order < at + 1) × InLoop E closed (header e) b) [
                | inr f ↦ old e b (subst (λ (xs : List ℕ). holds nat_eq e xs ≡ true) (no_row b f) k)
                | inl t ↦
                    elim (holds_parts ℕ nat_equality e (row_in around b) (suc d ∷ [])
                    (subst (λ (xs : List ℕ). holds nat_eq e xs ≡ true) (in_row b t) k)) as
                    (λ _. (c : ℕ) × (e ≡ suc c) × (slice_get headers c ≡ Some (header e)) × (place (header e) order < at + 1)
                    × InLoop E closed (header e) b) [
                      | inl p ↦ old e b p
                      | inr p ↦
                          let same = holds_one ℕ nat_equality e (suc d) p in
                          let whose : header e ≡ block = ap header same ∙ name in
                          let there : place (header e) order ≡ at = ap (λ x. place x order) whose ∙ here in (
                            d,
                            same,
                            mine ∙ ap Some (sym whose),
                            omega (arith, there),
                            subst (λ x. InLoop E closed x b) (sym whose)
                                (sound b t),
                          )
                    ]
              ];
          all = λ e h b k l i.
              elim (cases_eq (place h order) at) as (λ _. holds nat_eq (suc e) (row_in more b) ≡ true) [
                | inr ne ↦ kept (suc e) b (a.all e h b k (next_place (place h order) at l ne) i)
                | inl p ↦
                    let r = n.back e h k in
                    let same = placed at block h g r.2 p in
                    let w = subst (λ x. slice_index_or numbers x 0 ≡ suc e) same r.0 in
                    let t = complete b (subst (λ x. InLoop E closed x b) same i) in
                    subst (λ (xs : List ℕ). holds nat_eq (suc e) xs ≡ true) (sym (in_row b t))
                    (holds_right ℕ nat_equality (suc e) (row_in around b) (suc d ∷ [])
                    (or_left (nat_eq (suc e) (suc d)) false (eq-eqb (suc e) (suc d) (sym w ∙ v))))
              ];
          rising = λ b.
              elim (cases_Bool (holds nat_eq b ps)) as (λ _. Rising (λ e. place (header e) order) (row_in more b)) [
                | inr f ↦ subst (λ (xs : List ℕ). Rising (λ e. place (header e) order) xs) (sym (no_row b f)) (a.rising b)
                | inl t ↦
                    subst (λ (xs : List ℕ). Rising (λ e. place (header e) order) xs) (sym (in_row b t))
                    (rising_end (λ e. place (header e) order) (row_in around b) (suc d) (a.rising b) (λ x k.
                    let l = (a.inside x b k).3 in
                    let there : place (header (suc d)) order ≡ at = ap (λ x. place x order) name ∙ here in
                    omega (arith, l, there)))
              ];
          few = λ b.
              elim (cases_Bool (holds nat_eq b ps)) as (λ _. length (row_in more b) ≤ 16) [
                | inr f ↦ subst (λ (xs : List ℕ). length xs ≤ 16) (sym (no_row b f)) (a.few b)
                | inl t ↦
                    let l = short b t in
                    let size : length (row_in more b) ≡ length (row_in around b) + 1 = ap length (in_row b t) ∙ length-append
                    (row_in around b) (suc d ∷ []) in
                    omega (arith, l, size)
              ];
        }

    is_header : (e h : ℕ) → slice_get headers e ≡ Some h → IsHeader closed h
    is_header e h g = some_held (row_in closers h) (n.back e h g).1

    -- a block with sixteen loops round it that is in one more
    pub too_deep : (at block d : ℕ) (around : List (List ℕ)) (q : ℕ) → slice_get order at ≡ Some block → slice_index_or numbers block 0
        ≡ suc d → InLoop E closed block q → 16 ≤ length (row_in around q) → AreSoFar flow closed order headers at around
        → IsDeeper flow closed 16
    too_deep at block d around q g v i long a =
        let mine = n.some d block v in
        let name = header_at d block mine in
        let here = place_of order at block g o.distinct in
        let there : place (header (suc d)) order ≡ at = ap (λ x. place x order) name ∙ here in
        let xs = row_in around q ++ suc d ∷ [] in
        let rise : Rising (λ e. place (header e) order) xs = rising_end (λ e. place (header e) order) (row_in around q) (suc d) (a.rising q)
        (λ x k. let l = (a.inside x q k).3 in omega (arith, l, there)) in
        let size = images_length header xs in
        let size2 = length-append (row_in around q) (suc d ∷ []) in (
          q,
          (
            images header xs,
            images_distinct header (λ x. place x order) xs rise,
            (λ p k.
                let m = image_of header p xs k in
                elim (holds_parts ℕ nat_equality m.0 (row_in around q) (suc d ∷ []) m.1) as (λ _. IsHeader closed p × InLoop E closed p q) [
                  | inl y ↦
                      let r = a.inside m.0 q y in (
                        subst (λ x. IsHeader closed x) (sym m.2) (is_header r.0 (header m.0) r.2),
                        subst (λ x. InLoop E closed x q)
                            (sym m.2) r.4,
                      )
                  | inr y ↦
                      let whose : p ≡ block = m.2 ∙ (ap header (holds_one ℕ nat_equality m.0 (suc d) y) ∙ name) in
                      (subst (λ x. IsHeader closed x) (sym whose) (is_header d block mine), subst (λ x. InLoop E closed x q) (sym whose) i)
                ]),
            omega (arith, size, size2, long),
          ),
        )

    -- each header has a number
    pub header_number : (u h : ℕ) → closed u h ≡ true → (e : ℕ) × (slice_get headers e ≡ Some h)
    header_number u h k = by_number (slice_index_or numbers h 0) refl
      where
        by_number : (v : ℕ) → slice_index_or numbers h 0 ≡ v → (e : ℕ) × (slice_get headers e ≡ Some h)
        by_number zero v =
            absurd (false≢true (sym (ap (holds nat_eq u) (n.none h (s.below u h (s.edges u h k)).1 v)) ∙ k))
        by_number (suc e) v = (e, n.some e h v)

    pub all_round : (around : List (List ℕ)) → AreSoFar flow closed order headers (length order) around → (u h b : ℕ) → closed u h ≡ true
        → InLoop E closed h b → (e : ℕ) × (holds nat_eq e (row_in around b) ≡ true) × (header e ≡ h)
    all_round around a u h b k i =
        let e = header_number u h k in
        let block = (s.below u h (s.edges u h k)).1 in
        let low = in_all h (o.all h block) in
        (suc e.0, a.all e.0 h b e.1 low i, header_at e.0 h e.1)
      where
        in_all : (h : ℕ) → holds nat_eq h order ≡ true → place h order < length order
        in_all h k = place_before h (length order) order (subst (λ (xs : List ℕ). holds nat_eq h xs ≡ true)
            (sym (take_all (length order) order (omega arith))) k)

    -- no block has more loops round it than its row has
    pub not_deeper : (around : List (List ℕ)) → AreSoFar flow closed order headers (length order) around → IsDeeper flow closed 16 → ⊥
    not_deeper around a deep =
        let b = deep.0 in
        let m = deep.1 in
        let le = no_more ℕ nat_equality m.0 (images header (row_in around b)) m.1 (λ p k.
        let r = m.2 p k in
        let t = all_round around a r.0.0 p b r.0.1 r.1 in
        subst (λ x. holds nat_eq x (images header (row_in around b)) ≡ true) t.2 (is_image header t.0 (row_in around b) t.1)) in
        let size = images_length header (row_in around b) in
        let few = a.few b in
        let many = m.3 in
        absurd (omega (arith, le, size, few, many))

    -- the same by the number that stands at the block
    pub next_number : (at block number : ℕ) (around more : List (List ℕ)) (ps : List ℕ) → slice_get order at ≡ Some block → number
        ≡ slice_index_or numbers block 0 → number ≢ 0 → length more ≡ length around
        → ((x : ℕ) → holds nat_eq x ps ≡ true → Reached (steps_to nat_eq (back_step closers before block)) block x) →
        ((x : ℕ) → Reached (steps_to nat_eq (back_step closers before block)) block x → holds nat_eq x ps ≡ true)
        → ((q : ℕ) → row_in more q ≡ (if holds nat_eq q ps then row_in around q ++ number ∷ [] else row_in around q)) →
        ((q : ℕ) → holds nat_eq q ps ≡ true → length (row_in around q) < 16)
        → AreSoFar flow closed order headers at around → AreSoFar flow closed order headers (at + 1) more
    next_number at block zero around more ps g v ne size found all now short a = absurd (ne refl)
    next_number at block (suc d) around more ps g v ne size found all now short a =
        one_header at block d around more ps g (sym v) size (λ x k. let r = found x k in met_in_loop block x r.0 r.1)
        (λ x i. all x (loop_is_met block x i)) now short a

    pub deep_number : (at block number : ℕ) (around : List (List ℕ)) (ps : List ℕ) → slice_get order at ≡ Some block → number
        ≡ slice_index_or numbers block 0 → number ≢ 0
        → ((x : ℕ) → holds nat_eq x ps ≡ true → Reached (steps_to nat_eq (back_step closers before block)) block x)
        → (q : ℕ) × (holds nat_eq q ps ≡ true) × (16 ≤ length (row_in around q)) → AreSoFar flow closed order headers at around
        → IsDeeper flow closed 16
    deep_number at block zero around ps g v ne found q a = absurd (ne refl)
    deep_number at block (suc d) around ps g v ne found q a = let r = found q.0 q.1 in too_deep at block d around q.0 g (sym v)
        (met_in_loop block q.0 r.0 r.1) q.2 a
