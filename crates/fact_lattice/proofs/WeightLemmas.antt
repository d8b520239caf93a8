-- Each join that changes a state makes it lighter.
use Rattle.std.proofs.Common.{◌≡◌, refl, sym, ap, subst, ℕ, zero, suc, ◌+◌, ◌-◌, ◌<◌, ◌≤◌, ◌⊎◌, inl, inr, Bool, true, false, ℤ, pos, negsuc}
use Rattle.std.proofs.Common.{◌+ℤ◌, ◌≤ℤ◌, List, [], ◌∷◌, arith}
use Rattle.std.specs.Prelude.{◌&&◌, if◌then◌else◌, int_le, Option, Some, None, IfSome, IsSomeAnd}
use Rattle.std.specs.Int.{int_max, int_min, int_gap}
use Rattle.std.specs.Ordering.{int_eq}
use Rattle.std.proofs.lemmas.Bool.{cases_eq, and_parts, or_cases}
use Rattle.std.proofs.lemmas.Int.{ints}
use Rattle.path_facts.specs.declared.origin.Origin.{Origin}
use Rattle.path_facts.specs.Facts.{Location, is_signed_word}
use Rattle.fact_lattice.specs.declared.cells.Range.{Range}
use Rattle.fact_lattice.specs.Cells.{AbstractState, Within, is_start_sp, joined, joined_cell, may_span, same_origin, shifted_cell}
use Rattle.fact_lattice.specs.Searches.{joined_at, merged}
use Rattle.fact_lattice.specs.Weights.{IsFormed, Member, total, weight_at, weight_below, weight_of, weight_of_cell, weight_of_mark}
use Rattle.fact_lattice.proofs.NumberLemmas.{le_true, eq_true, min_left, max_left}
use Rattle.fact_lattice.proofs.CoverLemmas.{within_right}
use Rattle.fact_lattice.proofs.SolvedLemmas.{merged_there, merged_away}

-- ---- one cell

same_range : (r : Range) (low high : ℤ) → low ≡ r.low → high ≡ r.high → record { origin = r.origin; low = low; high = high } ≡ r
same_range r low high e f = λ j. record { origin = r.origin; low = e j; high = f j }

gap_is : (a b : ℤ) → a ≤ℤ b → a +ℤ pos (int_gap a b) ≡ b
gap_is (pos a) (pos b) h = omega (arith, ints, h)
gap_is (pos a) (negsuc b) h = omega (arith, ints, h)
gap_is (negsuc a) (pos b) h = omega (arith, ints, h)
gap_is (negsuc a) (negsuc b) h = omega (arith, ints, h)

gaps : (top g k : ℕ) (a b low high : ℤ) → a +ℤ pos g ≡ b → low +ℤ pos k ≡ high → low ≤ℤ a → b ≤ℤ high → high ≤ℤ (low +ℤ pos top) →
    ((low ≡ a) × (high ≡ b)) ⊎ ((top - k) < (top - g))
gaps top g k a b low high e f l h t =
    elim (cases_eq g k) as (λ _. ((low ≡ a) × (high ≡ b)) ⊎ ((top - k) < (top - g))) [
      | inl s ↦ inl (omega (arith, ints, e, f, l, h, s), omega (arith, ints, e, f, l, h, s))
      | inr n ↦ inr (more (cut g k a b low high e f l h) n (short k low high top f t))
    ] where
      cut : (g k : ℕ) (a b low high : ℤ) → a +ℤ pos g ≡ b → low +ℤ pos k ≡ high → low ≤ℤ a → b ≤ℤ high → g ≤ k
      cut g k a b low high e f l h = omega (arith, ints, e, f, l, h)

      short : (k : ℕ) (low high : ℤ) (top : ℕ) → low +ℤ pos k ≡ high → high ≤ℤ (low +ℤ pos top) → k ≤ top
      short k low high top f t = omega (arith, ints, f, t)

      more : {g k top : ℕ} → g ≤ k → (g ≡ k → ⊥) → k ≤ top → (top - k) < (top - g)
      more a n b = grind arith

near_falls : (stack : ℕ) (r : Range) (low high : ℤ) → r.low ≤ℤ r.high → low ≤ℤ r.low → r.high ≤ℤ high → high ≤ℤ (low +ℤ pos (stack + 64))
    → (Some (record { origin = r.origin; low = low; high = high }) ≡ Some r) ⊎
    (suc (stack + 64 - int_gap low high) < suc (stack + 64 - int_gap r.low r.high))
near_falls stack r low high o l h t =
    elim (gaps (stack + 64) (int_gap r.low r.high) (int_gap low high) r.low r.high low high (gap_is r.low r.high o)
    (gap_is low high (omega (arith, ints, o, l, h))) l h t)
    as (λ _. (Some (record { origin = r.origin; low = low; high = high }) ≡ Some r) ⊎
    (suc (stack + 64 - int_gap low high) < suc (stack + 64 - int_gap r.low r.high))) [
      | inl e ↦ inl (ap Some (same_range r low high e.0 e.1))
      | inr m ↦ inr (omega (arith, m))
    ]

span_near : (stack : ℕ) (o : Origin) (low high : ℤ) → may_span stack o low high ≡ true → high ≤ℤ (low +ℤ pos (stack + 64))
span_near stack o low high e =
    elim (or_cases (int_eq low high) (is_start_sp o && int_le high (low +ℤ pos (stack + 64))) e) as
    (λ _. high ≤ℤ (low +ℤ pos (stack + 64))) [
      | inl s ↦ let t = eq_true low high s in omega (arith, ints, t)
      | inr n ↦ le_true high (low +ℤ pos (stack + 64)) (and_parts (is_start_sp o) (int_le high (low +ℤ pos (stack + 64))) n).1
    ]

range_falls : (stack : ℕ) (r : Range) (low high : ℤ) (a b : Bool) → b ≡ may_span stack r.origin low high → r.low ≤ℤ r.high → low ≤ℤ r.low
    → r.high ≤ℤ high
    → ((if a && b then Some (record { origin = r.origin; low = low; high = high }) else None) ≡ Some r)
    ⊎ (weight_of_cell stack (if a && b then Some (record { origin = r.origin; low = low; high = high }) else None) < weight_of_cell stack
    (Some r))
range_falls stack r low high true true t o l h = near_falls stack r low high o l h (span_near stack r.origin low high (sym t))
range_falls stack r low high true false t o l h = inr (omega arith)
range_falls stack r low high false b t o l h = inr (omega arith)

itself_le : (a : ℤ) → a ≤ℤ a
itself_le a = omega (arith, ints)

pub cell_falls : (stack : ℕ) (c d : Option Range) → IfSome c (λ r. r.low ≤ℤ r.high) → (joined_cell stack c d ≡ c) ⊎
    (weight_of_cell stack (joined_cell stack c d) < weight_of_cell stack c)
cell_falls stack None d o = inl refl
cell_falls stack (Some r) None o = inr (omega arith)
cell_falls stack (Some r) (Some q) o =
    range_falls stack r (int_min r.low q.low) (int_max r.high q.high) (same_origin r.origin q.origin)
    (may_span stack r.origin (int_min r.low q.low) (int_max r.high q.high)) refl o
    (min_left r.low q.low r.low (itself_le r.low)) (max_left r.high q.high r.high (itself_le r.high))

pub mark_falls : (b d : Bool) → ((b && d) ≡ b) ⊎ (weight_of_mark (b && d) < weight_of_mark b)
mark_falls true true = inl refl
mark_falls true false = inr (omega arith)
mark_falls false d = inl refl

-- ---- sums

module _ (A : Type 0) (B : Type 0) (f g : A → B) (w : B → ℕ) (falls : (x : A) → (f x ≡ g x) ⊎ (w (f x) < w (g x))) where
  falls_le : (x : A) → w (f x) ≤ w (g x)
  falls_le x =
      elim (falls x) as (λ _. w (f x) ≤ w (g x)) [
        | inl e ↦ let s : w (f x) ≡ w (g x) = ap w e in omega (arith, s)
        | inr l ↦ omega (arith, l)
      ]

  total_le : (xs : List A) → total (λ x. w (f x)) xs ≤ total (λ x. w (g x)) xs
  total_le [] = omega arith
  total_le (x ∷ xs) = let a = falls_le x in let b = total_le xs in omega (arith, a, b)

  -- all the same, or lighter
  pub total_falls : (xs : List A) → ((x : A) → Member x xs → f x ≡ g x) ⊎ (total (λ x. w (f x)) xs < total (λ x. w (g x)) xs)
  total_falls [] = inl (λ x h. absurd h)
  total_falls (x ∷ xs) =
      elim (falls x) as (λ _. ((y : A) → Member y (x ∷ xs) → f y ≡ g y) ⊎ (total (λ x. w (f x)) (x ∷ xs) < total (λ x. w (g x)) (x ∷ xs))) [
        | inl e ↦
            elim (total_falls xs) as
            (λ _. ((y : A) → Member y (x ∷ xs) → f y ≡ g y) ⊎ (total (λ x. w (f x)) (x ∷ xs) < total (λ x. w (g x)) (x ∷ xs))) [
              | inl s ↦ inl (λ y h. elim h as (λ _. f y ≡ g y) [ inl is ↦ subst (λ z. f z ≡ g z) (sym is) e | inr m ↦ s y m ])
              | inr l ↦ inr (let a = falls_le x in omega (arith, a, l))
            ]
        | inr l ↦ inr (let b = total_le xs in omega (arith, b, l))
      ]

-- ---- one state

pub state_falls : (stack : ℕ) (places : List Location) (words : List ℕ) (m n : AbstractState) → IsFormed places words m
    → (joined stack m n ≡ m) ⊎ (weight_of stack places words (joined stack m n) < weight_of stack places words m)
state_falls stack places words m n formed =
    let cells = λ (p : Location). cell_falls stack (m.cell p) (n.cell p) (formed.ordered p) in
    let marks = λ (k : ℕ). mark_falls (m.marked k) (n.marked k) in
    let cf = λ (p : Location). joined_cell stack (m.cell p) (n.cell p) in
    let mf = λ (k : ℕ). m.marked k && n.marked k in
    elim (total_falls Location (Option Range) cf m.cell (weight_of_cell stack) cells places)
    as (λ _. (joined stack m n ≡ m) ⊎ (weight_of stack places words (joined stack m n) < weight_of stack places words m)) [
      | inl c ↦
          elim (total_falls ℕ Bool mf m.marked weight_of_mark marks words)
          as (λ _. (joined stack m n ≡ m) ⊎ (weight_of stack places words (joined stack m n) < weight_of stack places words m)) [
            | inl k ↦ inl (same_state (joined stack m n) m
                (λ p. elim (formed.cells p) as
                (λ _. joined_cell stack (m.cell p) (n.cell p) ≡ m.cell p) [
                  | inl none ↦ subst (λ c. joined_cell stack c (n.cell p) ≡ c)
                      (sym none) refl
                  | inr there ↦ c p there
                ])
                (λ w. elim (formed.marks w) as
                (λ _. (m.marked w && n.marked w) ≡ m.marked w) [
                  | inl none ↦ subst (λ b. (b && n.marked w) ≡ b)
                      (sym none) refl
                  | inr there ↦ k w there
                ]))
            | inr l ↦ inr (let a = total_le Location (Option Range) cf m.cell (weight_of_cell stack) cells places in omega (arith, a, l))
          ]
      | inr l ↦ inr (let b = total_le ℕ Bool mf m.marked weight_of_mark marks words in omega (arith, b, l))
    ] where
      same_state : (m n : AbstractState) → ((p : Location) → m.cell p ≡ n.cell p) → ((k : ℕ) → m.marked k ≡ n.marked k) → m ≡ n
      same_state m n c k = λ j. record { cell = λ p. c p j; marked = λ x. k x j }

-- ---- all points

cell_within : (stack : ℕ) (c : Option Range) → weight_of_cell stack c ≤ suc (stack + 64)
cell_within stack None = omega arith
cell_within stack (Some r) = omega arith

mark_within : (b : Bool) → weight_of_mark b ≤ 1
mark_within true = omega arith
mark_within false = omega arith

total_within : {A : Type 0} (f g : A → ℕ) (xs : List A) → ((x : A) → f x ≤ g x) → total f xs ≤ total g xs
total_within f g [] h = omega arith
total_within f g (x ∷ xs) h = let a = h x in let b = total_within f g xs h in omega (arith, a, b)

reached_lighter : (stack : ℕ) (places : List Location) (words : List ℕ) (t : AbstractState) → weight_at stack places words
    (Some t) < weight_at stack places words None
reached_lighter stack places words t =
    let a = total_within (λ (p : Location). weight_of_cell stack (t.cell p)) (λ p. suc (stack + 64)) places
    (λ p. cell_within stack (t.cell p)) in
    let b = total_within (λ (k : ℕ). weight_of_mark (t.marked k)) (λ k. 1) words (λ k. mark_within (t.marked k)) in
    omega (arith, a, b)

-- what is joined in was within, or makes the point lighter
pub point_falls : (stack : ℕ) (places : List Location) (words : List ℕ) (o : Option AbstractState) (t : AbstractState) → IfSome o
    (IsFormed places words)
    → ((o ≡ Some (joined_at stack o t)) × IsSomeAnd o (Within t)) ⊎
    (weight_at stack places words (Some (joined_at stack o t)) < weight_at stack places words o)
point_falls stack places words None t formed = inr (reached_lighter stack places words t)
point_falls stack places words (Some n) t formed =
    elim (state_falls stack places words n t formed)
    as (λ _. ((Some n ≡ Some (joined stack n t)) × Within t n) ⊎
    (weight_of stack places words (joined stack n t) < weight_of stack places words n)) [
      | inl e ↦ inl (ap Some (sym e), subst (Within t) e (within_right stack n t))
      | inr l ↦ inr l
    ]

above_same : (stack : ℕ) (places : List Location) (words : List ℕ) (q : ℕ) (t : AbstractState) (map : ℕ → Option AbstractState) (n : ℕ)
    → n ≤ q
    → weight_below stack places words (merged stack q t map) n ≡ weight_below stack places words map n
above_same stack places words q t map zero l = refl
above_same stack places words q t map (suc n) l =
    let a = above_same stack places words q t map n (omega (arith, l)) in
    let b : weight_at stack places words (merged stack q t map n) ≡ weight_at stack places words (map n) = ap (weight_at stack places words)
    (merged_away stack q t map n (λ e. omega (arith, e, l))) in
    omega (arith, a, b)

below_next : (u n : ℕ) → u < suc n → (u ≡ n) ⊎ (u < n)
below_next u n h = grind arith

pub merged_lighter : (stack : ℕ) (places : List Location) (words : List ℕ) (q : ℕ) (t : AbstractState) (map : ℕ → Option AbstractState)
    (n : ℕ) → q < n
    → weight_at stack places words (Some (joined_at stack (map q) t)) < weight_at stack places words (map q)
    → weight_below stack places words (merged stack q t map) n < weight_below stack places words map n
merged_lighter stack places words q t map zero l h = absurd (omega (arith, l))
merged_lighter stack places words q t map (suc n) l h =
    elim (below_next q n l) as
    (λ _. weight_below stack places words (merged stack q t map) (suc n) < weight_below stack places words map (suc n)) [
      | inl e ↦
          let a = above_same stack places words q t map n (omega (arith, e)) in
          let b : weight_at stack places words (merged stack q t map n) ≡ weight_at stack places words
          (Some (joined_at stack (map q) t)) = ap (weight_at stack places words) (merged_there stack q t map n (sym e)) in
          let c : weight_at stack places words (map q) ≡ weight_at stack places words (map n) = ap
          (λ x. weight_at stack places words (map x)) e in
          omega (arith, a, b, c, h)
      | inr m ↦
          let a = merged_lighter stack places words q t map n m h in
          let b : weight_at stack places words (merged stack q t map n) ≡ weight_at stack places words (map n) = ap
          (weight_at stack places words) (merged_away stack q t map n (λ e. omega (arith, e, m))) in
          omega (arith, a, b)
    ]

-- ---- ranges stay in order

shifted_ordered : (r : Range) (by : ℤ) (b : Bool) → r.low ≤ℤ r.high → IfSome {T = Range}
    (if b then Some (record { origin = r.origin; low = r.low +ℤ by; high = r.high +ℤ by }) else None) (λ q. q.low ≤ℤ q.high)
shifted_ordered r by true h = omega (arith, ints, h)
shifted_ordered r by false h = tt

pub shift_ordered : (c : Option Range) (by : ℤ) → IfSome c (λ r. r.low ≤ℤ r.high) → IfSome (shifted_cell by c) (λ r. r.low ≤ℤ r.high)
shift_ordered None by h = tt
shift_ordered (Some r) by h = shifted_ordered r by (is_signed_word (r.low +ℤ by) && is_signed_word (r.high +ℤ by)) h

hull_ordered : (r q : Range) (b : Bool) → r.low ≤ℤ r.high → IfSome {T = Range}
    (if b then Some (record { origin = r.origin; low = int_min r.low q.low; high = int_max r.high q.high }) else None)
    (λ q. q.low ≤ℤ q.high)
hull_ordered r q true h = min_left r.low q.low (int_max r.high q.high) (max_left r.high q.high r.low h)
hull_ordered r q false h = tt

pub join_ordered : (stack : ℕ) (c d : Option Range) → IfSome c (λ r. r.low ≤ℤ r.high) → IfSome (joined_cell stack c d)
    (λ r. r.low ≤ℤ r.high)
join_ordered stack None d h = tt
join_ordered stack (Some r) None h = tt
join_ordered stack (Some r) (Some q) h = hull_ordered r q
    (same_origin r.origin q.origin && may_span stack r.origin (int_min r.low q.low) (int_max r.high q.high)) h
