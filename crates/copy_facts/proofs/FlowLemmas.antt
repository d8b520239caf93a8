-- The flow of a function's points is regular, and what is known of them stays within the locations of the stack.
use Rattle.std.proofs.Common.{◌≡◌, refl, ap, ℕ, zero, suc, ◌<◌, ◌≤◌, ◌*◌, ◌/◌, ◌⊎◌, inl, inr, Bool, true, false, ℤ, ◌≤ℤ◌, List, arith}
use Rattle.std.specs.Prelude.{◌&&◌, nat_le, nat_lt, pos, slice_get, if◌then◌else◌, Option, Some, None, IfSome}
use Rattle.std.proofs.lemmas.Bool.{and_left, and_right, cases_Bool, cases_eq, cond-false}
use Rattle.std.proofs.lemmas.Bool.Decides.{nat_tests}
use Rattle.std.proofs.lemmas.Int.{ints}
use Rattle.path_facts.specs.declared.origin.Origin.TheVariants as origin
use Rattle.path_facts.specs.Facts.{Location, Source, is_signed_word}
use Rattle.path_facts.specs.Facts.Location.{Register, StackWord}
use Rattle.path_facts.specs.Facts.Source.{Nothing, Constant, Sum, Copy, IfMarked}
use Rattle.path_facts.specs.Histories.{start_facts}
use Rattle.path_facts.specs.Sources.{is_tracked, mark_of, source_of}
use Rattle.point_steps.proofs.AccessLemmas.{marks_even, marks_rise, sources_even}
use Rattle.fact_lattice.specs.declared.cells.Range.{Range}
use Rattle.fact_lattice.specs.Cells.{AbstractState, all_above, cell_of, joined, joined_cell, only, only_fact, state_of, transferred}
use Rattle.fact_lattice.specs.Flows.{IsRegular}
use Rattle.fact_lattice.specs.Weights.{IsFormed, Member}
use Rattle.fact_lattice.proofs.WeightLemmas.{join_ordered, shift_ordered}
use Rattle.copy_facts.specs.declared.sites.Site.{Site}
use Rattle.copy_facts.specs.Points.{accesses_in, flow_of, site_step, step_in}
use Rattle.copy_facts.specs.Searching.{locations_to, registers_to, stack_locations, stack_words, words_to}

-- ---- what the laws of fixed points ask

even_in : (stack : ℕ) (site : Option Site) (d : Bool) (o q : Option ℤ) → accesses_in site ≡ false → step_in stack site d o
    ≡ step_in stack site d q
even_in stack None d o q e = refl
even_in stack (Some site) true o q e =
    λ j. record {
      source = λ l. sources_even stack site.address site.literal o q site.insn.op l e j;
      mark = λ k b. marks_even stack o q site.insn.op k b e j;
    }
even_in stack (Some site) false o q e = refl

rises_in : (stack : ℕ) (site : Option Site) (d : Bool) (o : Option ℤ) (k : ℕ) → (step_in stack site d o).mark k false ≡ true →
    (step_in stack site d o).mark k true ≡ true
rises_in stack None d o k e = refl
rises_in stack (Some site) true o k e = marks_rise stack o site.insn.op k e
rises_in stack (Some site) false o k e = refl

pub regular : (stack start : ℕ) (sites : List Site) → IsRegular (flow_of stack start sites)
regular stack start sites = record {
  even = λ p d o q e. even_in stack (slice_get sites p) d o q e;
  rises = λ p d o k e. rises_in stack (slice_get sites p) d o k e;
}

-- ---- the locations of a stack

register_listed : (n r : ℕ) → r < n → Member (Register r) (registers_to n)
register_listed zero r l = absurd (omega (arith, l))
register_listed (suc n) r l =
    elim (cases_eq r n) as (λ _. Member (Register r) (registers_to (suc n))) [
      | inl e ↦ inl (ap (λ x. Register x) e)
      | inr d ↦ inr (register_listed n r (omega (arith, l, d)))
    ]

register_located : (n r : ℕ) → r < 15 → Member (Register r) (locations_to n)
register_located zero r l = register_listed 15 r l
register_located (suc n) r l = inr (register_located n r l)

word_located : (n k : ℕ) → 0 < k → k ≤ n → Member (StackWord k) (locations_to n)
word_located zero k a b = absurd (omega (arith, a, b))
word_located (suc n) k a b =
    elim (cases_eq k (suc n)) as (λ _. Member (StackWord k) (locations_to (suc n))) [
      | inl e ↦ inl (ap (λ x. StackWord x) e)
      | inr d ↦ inr (word_located n k a (less k n b d))
    ] where
      less : (k n : ℕ) → k ≤ suc n → (k ≡ suc n → ⊥) → k ≤ n
      less k n l d = grind arith

word_listed : (n k : ℕ) → 0 < k → k ≤ n → Member k (words_to n)
word_listed zero k a b = absurd (omega (arith, a, b))
word_listed (suc n) k a b =
    elim (cases_eq k (suc n)) as (λ _. Member k (words_to (suc n))) [
      | inl e ↦ inl e
      | inr d ↦ inr (word_listed n k a (less k n b d))
    ] where
      less : (k n : ℕ) → k ≤ suc n → (k ≡ suc n → ⊥) → k ≤ n
      less k n l d = grind arith

tracked_is : (stack k : ℕ) → is_tracked stack k ≡ true → (0 < k) × (k ≤ stack / 4)
tracked_is stack k e = (above k stack e, quarter stack k (below k stack e)) where
  above : (k stack : ℕ) → (nat_lt 0 k && nat_le (4 * k) stack) ≡ true → 0 < k
  above k stack e = grind (arith, nat_tests)

  below : (k stack : ℕ) → (nat_lt 0 k && nat_le (4 * k) stack) ≡ true → 4 * k ≤ stack
  below k stack e = grind (arith, nat_tests)

  quarter : (stack k : ℕ) → 4 * k ≤ stack → k ≤ stack / 4
  quarter stack k l = omega (arith, l)

-- ---- cells and marks stay there

if_ordered : (b : Bool) (c : Option Range) → IfSome c (λ r. r.low ≤ℤ r.high) → IfSome (if b then c else None) (λ r. r.low ≤ℤ r.high)
if_ordered true c h = h
if_ordered false c h = tt

constant_ordered : (c : ℤ) (b : Bool) → IfSome {T = Range} (if b then Some (only origin.Zero c) else None) (λ r. r.low ≤ℤ r.high)
constant_ordered c true = omega (arith, ints)
constant_ordered c false = tt

source_ordered : (m : AbstractState) → ((p : Location) → IfSome (m.cell p) (λ r. r.low ≤ℤ r.high)) → (s : Source) → IfSome (cell_of m s)
    (λ r. r.low ≤ℤ r.high)
source_ordered m h Nothing = tt
source_ordered m h (Constant c) = constant_ordered c (is_signed_word c)
source_ordered m h (Sum r by) = shift_ordered (m.cell (Register r)) by (h (Register r))
source_ordered m h (Copy p) = h p
source_ordered m h (IfMarked k) = if_ordered (m.marked k) (m.cell (StackWord k)) (h (StackWord k))

done_located : (stack : ℕ) (site : Site) (o : Option ℤ) (m : AbstractState) (p : Location)
    → (cell_of m (source_of stack site.address site.literal o site.insn.op p) ≡ None) ⊎ Member p (stack_locations stack)
done_located stack site o m (Register r) =
    elim (cases_Bool (nat_lt r 15)) as
    (λ _. (cell_of m (source_of stack site.address site.literal o site.insn.op (Register r)) ≡ None) ⊎ Member (Register r)
    (stack_locations stack)) [
      | inl t ↦ inr (register_located (stack / 4) r (below r t))
      | inr f ↦ inl (ap (cell_of m) (cond-false (nat_lt r 15) _ Nothing f))
    ] where
      below : (r : ℕ) → nat_lt r 15 ≡ true → r < 15
      below r t = grind (arith, nat_tests)
done_located stack site o m (StackWord k) =
    elim (cases_Bool (is_tracked stack k)) as
    (λ _. (cell_of m (source_of stack site.address site.literal o site.insn.op (StackWord k)) ≡ None) ⊎ Member (StackWord k)
    (stack_locations stack)) [
      | inl t ↦ let x = tracked_is stack k t in inr (word_located (stack / 4) k x.0 x.1)
      | inr f ↦ inl (ap (cell_of m) (cond-false (is_tracked stack k) _ Nothing f))
    ]

done_marked : (stack : ℕ) (site : Site) (o : Option ℤ) (b before : Bool) (k : ℕ) →
    ((b && mark_of stack o site.insn.op k before) ≡ false) ⊎ Member k (stack_words stack)
done_marked stack site o b before k =
    elim (cases_Bool (is_tracked stack k)) as (λ _. ((b && mark_of stack o site.insn.op k before) ≡ false) ⊎ Member k (stack_words stack)) [
      | inl t ↦ let x = tracked_is stack k t in inr (word_listed (stack / 4) k x.0 x.1)
      | inr f ↦ inl (and_right b (mark_of stack o site.insn.op k before) (cond-false (is_tracked stack k) _ false f))
    ]

skipped_marked : (b before : Bool) (k : ℕ) (ws : List ℕ) → (before ≡ false) ⊎ Member k ws → ((b && before) ≡ false) ⊎ Member k ws
skipped_marked b before k ws (inl e) = inl (and_right b before e)
skipped_marked b before k ws (inr m) = inr m

pub formed_stepped : (stack : ℕ) (site : Site) (done : Bool) (o : Option ℤ) (m : AbstractState) → IsFormed (stack_locations stack)
    (stack_words stack) m
    → IsFormed (stack_locations stack) (stack_words stack) (transferred stack (site_step stack site done o) m)
formed_stepped stack site true o m f = record {
  ordered = λ p. source_ordered m f.ordered (source_of stack site.address site.literal o site.insn.op p);
  cells = λ p. done_located stack site o m p;
  marks = λ k. done_marked stack site o
      (all_above stack (cell_of m (source_of stack site.address site.literal o site.insn.op (Register 13))) k) (m.marked k) k;
}
formed_stepped stack site false o m f = record {
  ordered = λ p. f.ordered p;
  cells = λ p. f.cells p;
  marks = λ k. skipped_marked (all_above stack (m.cell (Register 13)) k) (m.marked k) k (stack_words stack) (f.marks k);
}

pub formed_in : (stack : ℕ) (site : Option Site) (done : Bool) (o : Option ℤ) (m : AbstractState) → IsFormed (stack_locations stack)
    (stack_words stack) m
    → IsFormed (stack_locations stack) (stack_words stack) (transferred stack (step_in stack site done o) m)
formed_in stack None done o m f = record {
  ordered = λ p. f.ordered p;
  cells = λ p. f.cells p;
  marks = λ k. skipped_marked (all_above stack (m.cell (Register 13)) k) (m.marked k) k (stack_words stack) (f.marks k);
}
formed_in stack (Some site) done o m f = formed_stepped stack site done o m f

joined_none : (stack : ℕ) (c d : Option Range) (p : Location) (ls : List Location) → (c ≡ None) ⊎ Member p ls →
    (joined_cell stack c d ≡ None) ⊎ Member p ls
joined_none stack c d p ls (inl e) = inl (ap (λ x. joined_cell stack x d) e)
joined_none stack c d p ls (inr m) = inr m

joined_unmarked : (b before : Bool) (k : ℕ) (ws : List ℕ) → (b ≡ false) ⊎ Member k ws → ((b && before) ≡ false) ⊎ Member k ws
joined_unmarked b before k ws (inl e) = inl (and_left b before e)
joined_unmarked b before k ws (inr m) = inr m

pub formed_joined : (stack : ℕ) (ls : List Location) (ws : List ℕ) (m n : AbstractState) → IsFormed ls ws m → IsFormed ls ws
    (joined stack m n)
formed_joined stack ls ws m n f = record {
  ordered = λ p. join_ordered stack (m.cell p) (n.cell p) (f.ordered p);
  cells = λ p. joined_none stack (m.cell p) (n.cell p) p ls (f.cells p);
  marks = λ k. joined_unmarked (m.marked k) (n.marked k) k ws (f.marks k);
}

-- ---- the start

start_ordered : (r : ℕ) (b : Bool) → IfSome (only_fact (if b then Some (record { origin = origin.AtStart r; constant = pos 0 }) else None))
    (λ r. r.low ≤ℤ r.high)
start_ordered r true = omega (arith, ints)
start_ordered r false = tt

pub formed_start : (stack : ℕ) → IsFormed (stack_locations stack) (stack_words stack) (state_of start_facts)
formed_start stack = record {
  ordered = λ p. ordered p;
  cells = λ p. located p;
  marks = λ k. inl refl;
} where
  ordered : (p : Location) → IfSome ((state_of start_facts).cell p) (λ r. r.low ≤ℤ r.high)
  ordered (Register r) = start_ordered r (nat_lt r 15)
  ordered (StackWord k) = tt

  located : (p : Location) → ((state_of start_facts).cell p ≡ None) ⊎ Member p (stack_locations stack)
  located (Register r) =
      elim (cases_Bool (nat_lt r 15)) as
      (λ _. ((state_of start_facts).cell (Register r) ≡ None) ⊎ Member (Register r) (stack_locations stack)) [
        | inl t ↦ inr (register_located (stack / 4) r (below r t))
        | inr f ↦ inl (ap only_fact (cond-false (nat_lt r 15) _ None f))
      ] where
        below : (r : ℕ) → nat_lt r 15 ≡ true → r < 15
        below r t = grind (arith, nat_tests)
  located (StackWord k) = inl refl
