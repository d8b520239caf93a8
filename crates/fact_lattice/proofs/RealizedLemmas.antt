-- What is realised before an instruction is realised after it.
use Rattle.std.proofs.Common.{◌≡◌, refl, sym, ◌∙◌, subst, ℕ, ◌+◌, ◌*◌, ◌⊎◌, inl, inr, Bool, true, false, ℤ, pos, ◌+ℤ◌, arith}
use Rattle.std.specs.Prelude.{◌≢◌, ◌<ℤ◌, ◌&&◌, ◌==◌, neg_ℤ, nat_le, if◌then◌else◌, int_le, Option, Some, None}
use Rattle.std.proofs.lemmas.Bool.{cases_Bool, and_cases, and_left, and_right, cond-true, cond-false, false≢true}
use Rattle.std.proofs.lemmas.Int.{ints}
use Rattle.path_facts.specs.declared.origin.Origin.{Origin}
use Rattle.path_facts.specs.declared.origin.Origin.TheVariants as origin
use Rattle.path_facts.specs.Facts.{Fact, Facts, Location, Source, fact_from, is_signed_word, offset_from, offset_in, plus}
use Rattle.path_facts.specs.Facts.Location.{Register, StackWord}
use Rattle.path_facts.specs.Facts.Source.{Nothing, Constant, Sum, Copy, IfMarked}
use Rattle.path_facts.specs.Histories.{is_above}
use Rattle.fact_lattice.specs.declared.cells.Range.{Range}
use Rattle.fact_lattice.specs.Cells.{AbstractState, Clash, Covers, Ends, Given, IsRealized, Step, after, all_above, cell_of, is_start_sp}
use Rattle.fact_lattice.specs.Cells.{only, shifted_cell, transferred}
use Rattle.fact_lattice.proofs.NumberLemmas.{stacks_same}

-- ---- the ends of a cell

pub ends_map : (stack : ℕ) (V W : Option Fact → Type 0) → ((v : Option Fact) → V v → W v) → (c : Option Range) → Ends stack V c
    → Ends stack W c
ends_map stack V W h None e = (e.0, e.1, h e.0 e.2, h e.1 e.3, e.4)
ends_map stack V W h (Some r) e =
    (h (Some (record { origin = r.origin; constant = r.low })) e.0, h (Some (record { origin = r.origin; constant = r.high })) e.1)

nothing_ends : (stack : ℕ) (W : Option Fact → Type 0) → W None → Ends stack W None
nothing_ends stack W w = (None, None, w, w, tt)

clash_nothing : (stack : ℕ) (v : Option Fact) → Clash stack v None
clash_nothing stack None = tt
clash_nothing stack (Some f) = tt

shifted_apart : (a b by : ℤ) → a ≢ b → (a +ℤ by) ≢ (b +ℤ by)
shifted_apart a b by h e = h (omega (arith, ints, e))

clash_moved : (stack : ℕ) (f g : Fact) (by : ℤ) (a b : Bool) → Clash stack (Some f) (Some g)
    → Clash stack (if a then Some (record { origin = f.origin; constant = f.constant +ℤ by }) else None)
    (if b then Some (record { origin = g.origin; constant = g.constant +ℤ by }) else None)
clash_moved stack f g by true true (inl o) = inl o
clash_moved stack f g by true true (inr (inl s)) = inr (inl (s.0, shifted_apart f.constant g.constant by s.1))
clash_moved stack f g by true true (inr (inr l)) = inr (inr (omega (arith, ints, l)))
clash_moved stack f g by true false h = tt
clash_moved stack f g by false b h = tt

pub clash_shifted : (stack : ℕ) (v w : Option Fact) (by : ℤ) → Clash stack v w → Clash stack (plus by v) (plus by w)
clash_shifted stack None w by h = tt
clash_shifted stack (Some f) None by h = clash_nothing stack (plus by (Some f))
clash_shifted stack (Some f) (Some g) by h = clash_moved stack f g by (is_signed_word (f.constant +ℤ by))
    (is_signed_word (g.constant +ℤ by)) h

-- a bound that doesn't fit is a path without a fact
moved_ends : (stack : ℕ) (W : Option Fact → Type 0) (r : Range) (by : ℤ) (a b : Bool)
    → W (if a then Some (record { origin = r.origin; constant = r.low +ℤ by }) else None)
    → W (if b then Some (record { origin = r.origin; constant = r.high +ℤ by }) else None)
    → Ends stack W (if a && b then Some (record { origin = r.origin; low = r.low +ℤ by; high = r.high +ℤ by }) else None)
moved_ends stack W r by true true l h = (l, h)
moved_ends stack W r by true false l h = nothing_ends stack W h
moved_ends stack W r by false b l h = nothing_ends stack W l

pub shifted_ends : (stack : ℕ) (V W : Option Fact → Type 0) (by : ℤ) → ((v : Option Fact) → V v → W (plus by v)) → (c : Option Range)
    → Ends stack V c → Ends stack W (shifted_cell by c)
shifted_ends stack V W by h None e = (plus by e.0, plus by e.1, h e.0 e.2, h e.1 e.3, clash_shifted stack e.0 e.1 by e.4)
shifted_ends stack V W by h (Some r) e =
    moved_ends stack W r by (is_signed_word (r.low +ℤ by)) (is_signed_word (r.high +ℤ by))
    (h (Some (record { origin = r.origin; constant = r.low })) e.0)
    (h (Some (record { origin = r.origin; constant = r.high })) e.1)

-- ---- a source

-- some facts are there, since each cell has ends
pub someone : (stack : ℕ) (T : Facts → Type 0) (p : Location) (c : Option Range) → Ends stack (Given T p) c → (f : Facts) × T f
someone stack T p None e = (e.2.0, e.2.1)
someone stack T p (Some r) e = (e.0.0, e.0.1)

constant_ends : (stack : ℕ) (W : Option Fact → Type 0) (c : ℤ) (b : Bool) → W
    (if b then Some (record { origin = origin.Zero; constant = c }) else None)
    → Ends stack W (if b then Some (only origin.Zero c) else None)
constant_ends stack W c true w = (w, w)
constant_ends stack W c false w = nothing_ends stack W w

pub source_ends : (stack : ℕ) (T : Facts → Type 0) (m : AbstractState) → IsRealized stack T m → (s : Source) (W : Option Fact → Type 0) →
    ((f : Facts) → T f → W (fact_from f s)) → Ends stack W (cell_of m s)
source_ends stack T m real Nothing W h =
    let t = someone stack T (Register 13) (m.cell (Register 13)) (real.cells (Register 13)) in nothing_ends stack W (h t.0 t.1)
source_ends stack T m real (Constant c) W h =
    let t = someone stack T (Register 13) (m.cell (Register 13)) (real.cells (Register 13)) in
    constant_ends stack W c (is_signed_word c) (h t.0 t.1)
source_ends stack T m real (Sum r by) W h =
    shifted_ends stack (Given T (Register r)) W by (λ v g. subst (λ x. W (plus by x)) g.2 (h g.0 g.1)) (m.cell (Register r))
    (real.cells (Register r))
source_ends stack T m real (Copy p) W h =
    ends_map stack (Given T p) W (λ v g. subst W g.2 (h g.0 g.1)) (m.cell p) (real.cells p)
source_ends stack T m real (IfMarked k) W h =
    elim (cases_Bool (m.marked k)) as (λ _. Ends stack W (if m.marked k then m.cell (StackWord k) else None)) [
      | inl t ↦
          subst (Ends stack W) (sym (cond-true (m.marked k) (m.cell (StackWord k)) None t))
          (ends_map stack (Given T (StackWord k)) W
          (λ v g. subst W (cond-true (g.0.marked k) (g.0.fact (StackWord k)) None ((real.covers g.0 g.1).marks k t) ∙ g.2) (h g.0 g.1))
          (m.cell (StackWord k)) (real.cells (StackWord k)))
      | inr f ↦
          let g = real.marks k f in
          subst (Ends stack W) (sym (cond-false (m.marked k) (m.cell (StackWord k)) None f))
          (nothing_ends stack W (subst W (cond-false (g.0.marked k) (g.0.fact (StackWord k)) None g.2) (h g.0 g.1)))
    ]

-- ---- marks

not_if : (stack k : ℕ) (b : Bool) (c : ℤ) → b ≡ false → is_above stack (if b then Some c else None) k ≡ false
not_if stack k true c e = absurd (false≢true (sym e))
not_if stack k false c e = refl

not_stack : (stack k : ℕ) (o : Origin) (c : ℤ) → is_start_sp o ≡ false → is_above stack (offset_from o c) k ≡ false
not_stack stack k origin.Zero c e = refl
not_stack stack k (origin.AtStart r) c e = not_if stack k (r == 13) c e

above_if : (stack k : ℕ) (b : Bool) (c : ℤ) → is_above stack (Some c) k ≡ false → is_above stack (if b then Some c else None) k ≡ false
above_if stack k true c e = e
above_if stack k false c e = refl

stack_above : (stack k : ℕ) (o : Origin) (c : ℤ) → is_above stack (Some c) k ≡ false → is_above stack (offset_from o c) k ≡ false
stack_above stack k origin.Zero c e = refl
stack_above stack k (origin.AtStart r) c e = above_if stack k (r == 13) c e

far_one : (stack k : ℕ) (a b : ℤ) → (a +ℤ pos (stack + 64)) <ℤ b → (is_above stack (Some a) k ≡ false) ⊎ (is_above stack (Some b) k ≡ false)
far_one stack k a b h = grind (arith, ints)

-- of two facts of r13 that clash one takes each mark
pub clash_takes : (stack k : ℕ) (v w : Option Fact) → Clash stack v w → (is_above stack (offset_in v) k ≡ false) ⊎
    (is_above stack (offset_in w) k ≡ false)
clash_takes stack k None w h = inl refl
clash_takes stack k (Some f) None h = inr refl
clash_takes stack k (Some f) (Some g) (inl o) =
    elim (cases_Bool (is_start_sp f.origin)) as
    (λ _. (is_above stack (offset_in (Some f)) k ≡ false) ⊎ (is_above stack (offset_in (Some g)) k ≡ false)) [
      | inl a ↦
          elim (cases_Bool (is_start_sp g.origin)) as
          (λ _. (is_above stack (offset_in (Some f)) k ≡ false) ⊎ (is_above stack (offset_in (Some g)) k ≡ false)) [
            | inl b ↦ absurd (o (stacks_same f.origin g.origin a b))
            | inr b ↦ inr (not_stack stack k g.origin g.constant b)
          ]
      | inr a ↦ inl (not_stack stack k f.origin f.constant a)
    ]
clash_takes stack k (Some f) (Some g) (inr (inl s)) = inl (not_stack stack k f.origin f.constant s.0)
clash_takes stack k (Some f) (Some g) (inr (inr l)) =
    elim (far_one stack k f.constant g.constant l) as
    (λ _. (is_above stack (offset_in (Some f)) k ≡ false) ⊎ (is_above stack (offset_in (Some g)) k ≡ false)) [
      | inl a ↦ inl (stack_above stack k f.origin f.constant a)
      | inr b ↦ inr (stack_above stack k g.origin g.constant b)
    ]

range_one : (stack k : ℕ) (low high : ℤ) →
    (int_le (neg_ℤ (pos stack)) low && int_le high (pos 64) && nat_le (4 * k) stack && int_le high (neg_ℤ (pos (4 * k)))) ≡ false
    → (is_above stack (Some low) k ≡ false) ⊎ (is_above stack (Some high) k ≡ false)
range_one stack k low high e = grind (arith, ints)

pub ends_take : (stack k : ℕ) (W : Option Fact → Type 0) (c : Option Range) → Ends stack W c → all_above stack c k ≡ false →
    (v : Option Fact) × W v × (is_above stack (offset_in v) k ≡ false)
ends_take stack k W None e h =
    elim (clash_takes stack k e.0 e.1 e.4) as (λ _. (v : Option Fact) × W v × (is_above stack (offset_in v) k ≡ false)) [
      | inl a ↦ (e.0, e.2, a)
      | inr b ↦ (e.1, e.3, b)
    ]
ends_take stack k W (Some r) e h =
    elim (and_cases (is_start_sp r.origin)
    (int_le (neg_ℤ (pos stack)) r.low && int_le r.high (pos 64) && nat_le (4 * k) stack && int_le r.high (neg_ℤ (pos (4 * k)))) h)
    as (λ _. (v : Option Fact) × W v × (is_above stack (offset_in v) k ≡ false)) [
      | inl a ↦ (Some (record { origin = r.origin; constant = r.low }), e.0, not_stack stack k r.origin r.low a)
      | inr b ↦
          elim (range_one stack k r.low r.high b) as (λ _. (v : Option Fact) × W v × (is_above stack (offset_in v) k ≡ false)) [
            | inl l ↦ (Some (record { origin = r.origin; constant = r.low }), e.0, stack_above stack k r.origin r.low l)
            | inr g ↦ (Some (record { origin = r.origin; constant = r.high }), e.1, stack_above stack k r.origin r.high g)
          ]
    ]

-- a mark that isn't there after an instruction isn't there on some path
mark_one : (stack : ℕ) (T : Facts → Type 0) (m : AbstractState) (k : ℕ) → IsRealized stack T m → (g : Bool → Bool) → g (m.marked k) ≡ false
    → (f : Facts) × T f × (g (f.marked k) ≡ false)
mark_one stack T m k real g e =
    elim (cases_Bool (m.marked k)) as (λ _. (f : Facts) × T f × (g (f.marked k) ≡ false)) [
      | inl there ↦
          let t = someone stack T (Register 13) (m.cell (Register 13)) (real.cells (Register 13)) in
          (t.0, t.1, subst (λ b. g b ≡ false) (there ∙ sym ((real.covers t.0 t.1).marks k there)) e)
      | inr away ↦ let t = real.marks k away in (t.0, t.1, subst (λ b. g b ≡ false) (away ∙ sym t.2) e)
    ]

pub mark_step : (stack : ℕ) (T : Facts → Type 0) (s : Step) (m : AbstractState) (k : ℕ) → IsRealized stack T m →
    (transferred stack s m).marked k ≡ false
    → (f : Facts) × T f × ((after stack s f).marked k ≡ false)
mark_step stack T s m k real e =
    elim (and_cases (all_above stack (cell_of m (s.source (Register 13))) k) (s.mark k (m.marked k)) e) as
    (λ _. (f : Facts) × T f × ((after stack s f).marked k ≡ false)) [
      | inl b ↦
          let W = λ (v : Option Fact). (f : Facts) × T f × (fact_from f (s.source (Register 13)) ≡ v) in
          let x = ends_take stack k W (cell_of m (s.source (Register 13)))
          (source_ends stack T m real (s.source (Register 13)) W (λ f t. (f, t, refl))) b in
          let g = x.1 in (
            g.0,
            g.1,
            and_left (is_above stack (offset_in (fact_from g.0 (s.source (Register 13)))) k) (s.mark k (g.0.marked k))
                (subst (λ v. is_above stack (offset_in v) k ≡ false) (sym g.2) x.2),
          )
      | inr a ↦
          let g = mark_one stack T m k real (s.mark k) a in
          (g.0, g.1, and_right (is_above stack (offset_in (fact_from g.0 (s.source (Register 13)))) k) (s.mark k (g.0.marked k)) g.2)
    ]

-- ---- the whole state

pub real_step : (stack : ℕ) (s : Step) (T U : Facts → Type 0) (m : AbstractState) → IsRealized stack T m
    → ((f : Facts) → U f → Covers (transferred stack s m) f)
    → ((f : Facts) → T f → U (after stack s f))
    → IsRealized stack U (transferred stack s m)
real_step stack s T U m real covers goes =
    record {
      covers = covers;
      cells = λ p. source_ends stack T m real (s.source p) (Given U p) (λ f t. (after stack s f, goes f t, refl));
      marks = λ k e. let g = mark_step stack T s m k real e in (after stack s g.0, goes g.0 g.1, g.2);
    }
