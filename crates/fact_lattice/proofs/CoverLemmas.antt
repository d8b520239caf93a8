-- What is covered before an instruction is covered after it, and what one state covers its joins cover.
use Rattle.std.proofs.Common.{◌≡◌, refl, sym, ◌∙◌, subst, ℕ, ◌*◌, Bool, true, false, ℤ, pos, ◌+ℤ◌, ◌≤ℤ◌, arith}
use Rattle.std.specs.Prelude.{neg_ℤ, nat_le, ◌==◌}
use Rattle.std.specs.Prelude.{◌&&◌, if◌then◌else◌, int_le, Option, Some, None}
use Rattle.std.specs.Int.{int_max, int_min}
use Rattle.std.proofs.lemmas.Bool.{and_parts, and_from, false≢true}
use Rattle.std.proofs.lemmas.Int.{ints}
use Rattle.path_facts.specs.declared.origin.Origin.{Origin}
use Rattle.path_facts.specs.declared.origin.Origin.TheVariants as origin
use Rattle.path_facts.specs.Facts.{Fact, Facts, Source, fact_from, is_signed_word, offset_from, offset_in, plus}
use Rattle.path_facts.specs.Facts.Location.{Register, StackWord}
use Rattle.path_facts.specs.Facts.Source.{Nothing, Constant, Sum, Copy, IfMarked}
use Rattle.path_facts.specs.Histories.{is_above}
use Rattle.fact_lattice.specs.declared.cells.Range.{Range}
use Rattle.fact_lattice.specs.Cells.{AbstractState, Covers, Lies, Step, Within, after, all_above, cell_of, is_start_sp, joined, joined_cell}
use Rattle.fact_lattice.specs.Cells.{may_span, only, same_origin, shifted_cell, transferred}
use Rattle.fact_lattice.proofs.NumberLemmas.{same_true, fits_between, min_left, min_right, max_left, max_right}

-- ---- after an instruction

if_lies : (b d : Bool) (c : Option Range) (v : Option Fact) → (b ≡ true → d ≡ true) → Lies c v → Lies (if b then c else None)
    (if d then v else None)
if_lies true true c v h l = l
if_lies true false c v h l = absurd (false≢true (h refl))
if_lies false d c v h l = tt

moved_lies : (r : Range) (f : Fact) (by : ℤ) (a b d : Bool) → (a ≡ true → b ≡ true → d ≡ true) → Lies (Some r) (Some f)
    → Lies (if a && b then Some (record { origin = r.origin; low = r.low +ℤ by; high = r.high +ℤ by }) else None)
    (if d then Some (record { origin = f.origin; constant = f.constant +ℤ by }) else None)
moved_lies r f by true true true h l = let low = l.1 in let high = l.2 in (l.0, omega (arith, ints), omega (arith, ints))
moved_lies r f by true true false h l = absurd (false≢true (h refl refl))
moved_lies r f by true false d h l = tt
moved_lies r f by false b d h l = tt

shifted_lies : (c : Option Range) (v : Option Fact) (by : ℤ) → Lies c v → Lies (shifted_cell by c) (plus by v)
shifted_lies None v by l = tt
shifted_lies (Some r) None by l = absurd l
shifted_lies (Some r) (Some f) by l =
    moved_lies r f by (is_signed_word (r.low +ℤ by)) (is_signed_word (r.high +ℤ by)) (is_signed_word (f.constant +ℤ by))
    (fits_between r.low r.high f.constant by l.1 l.2) l

constant_lies : (n : ℤ) (b : Bool) → Lies (if b then Some (only origin.Zero n) else None)
    (if b then Some (record { origin = origin.Zero; constant = n }) else None)
constant_lies n true = (refl, omega (arith, ints), omega (arith, ints))
constant_lies n false = tt

pub source_lies : (m : AbstractState) (f : Facts) → Covers m f → (s : Source) → Lies (cell_of m s) (fact_from f s)
source_lies m f c Nothing = tt
source_lies m f c (Constant n) = constant_lies n (is_signed_word n)
source_lies m f c (Sum r by) = shifted_lies (m.cell (Register r)) (f.fact (Register r)) by (c.facts (Register r))
source_lies m f c (Copy p) = c.facts p
source_lies m f c (IfMarked k) = if_lies (m.marked k) (f.marked k) (m.cell (StackWord k)) (f.fact (StackWord k)) (c.marks k)
    (c.facts (StackWord k))

-- what sets no mark that wasn't there where it takes one away keeps "marked on all paths"
mark_rises : (g : Bool → Bool) (b d : Bool) → (g false ≡ true → g true ≡ true) → (b ≡ true → d ≡ true) → g b ≡ true → g d ≡ true
mark_rises g true true r h e = e
mark_rises g true false r h e = absurd (false≢true (h refl))
mark_rises g false true r h e = r e
mark_rises g false false r h e = e

number_above : (stack k : ℕ) (low high c : ℤ) → low ≤ℤ c → c ≤ℤ high
    → (int_le (neg_ℤ (pos stack)) low && int_le high (pos 64) && nat_le (4 * k) stack && int_le high (neg_ℤ (pos (4 * k)))) ≡ true
    → (int_le (neg_ℤ (pos stack)) c && int_le c (pos 64) && nat_le (4 * k) stack && int_le c (neg_ℤ (pos (4 * k)))) ≡ true
number_above stack k low high c h l e = grind (arith, ints)

above_if : (stack k : ℕ) (b : Bool) (c : ℤ) → b ≡ true → is_above stack (Some c) k ≡ true → is_above stack (if b then Some c else None) k
    ≡ true
above_if stack k true c e h = h
above_if stack k false c e h = absurd (false≢true e)

origin_above : (stack k : ℕ) (o : Origin) (c : ℤ) → is_start_sp o ≡ true → is_above stack (Some c) k ≡ true → is_above stack
    (offset_from o c) k ≡ true
origin_above stack k origin.Zero c e h = absurd (false≢true e)
origin_above stack k (origin.AtStart r) c e h = above_if stack k (r == 13) c e h

pub lies_above : (stack k : ℕ) (c : Option Range) (v : Option Fact) → Lies c v → all_above stack c k ≡ true → is_above stack (offset_in v) k
    ≡ true
lies_above stack k None v l e = absurd (false≢true e)
lies_above stack k (Some r) None l e = absurd l
lies_above stack k (Some r) (Some f) l e =
    let p = and_parts (is_start_sp r.origin)
    (int_le (neg_ℤ (pos stack)) r.low && int_le r.high (pos 64) && nat_le (4 * k) stack && int_le r.high (neg_ℤ (pos (4 * k)))) e in
    origin_above stack k f.origin f.constant (subst (λ o. is_start_sp o ≡ true) (sym l.0) p.0)
    (number_above stack k r.low r.high f.constant l.1 l.2 p.1)

pub covers_step : (stack : ℕ) (s : Step) (m : AbstractState) (f : Facts) → ((k : ℕ) → s.mark k false ≡ true → s.mark k true ≡ true)
    → Covers m f
    → Covers (transferred stack s m) (after stack s f)
covers_step stack s m f rises c =
    record {
      facts = λ p. source_lies m f c (s.source p);
      marks = λ k e.
          let p = and_parts (all_above stack (cell_of m (s.source (Register 13))) k) (s.mark k (m.marked k)) e in
          and_from (is_above stack (offset_in (fact_from f (s.source (Register 13)))) k) (s.mark k (f.marked k))
          (lies_above stack k (cell_of m (s.source (Register 13))) (fact_from f (s.source (Register 13)))
          (source_lies m f c (s.source (Register 13))) p.0)
          (mark_rises (s.mark k) (m.marked k) (f.marked k) (rises k) (c.marks k) p.1);
    }

-- ---- joins

range_left : (r q : Range) (v : Option Fact) (b : Bool) → Lies (Some r) v → Lies
    (if b then Some (record { origin = r.origin; low = int_min r.low q.low; high = int_max r.high q.high }) else None) v
range_left r q None b l = absurd l
range_left r q (Some f) true l = (l.0, min_left r.low q.low f.constant l.1, max_left r.high q.high f.constant l.2)
range_left r q (Some f) false l = tt

range_right : (r q : Range) (v : Option Fact) (a b : Bool) → (a ≡ true → r.origin ≡ q.origin) → Lies (Some q) v → Lies
    (if a && b then Some (record { origin = r.origin; low = int_min r.low q.low; high = int_max r.high q.high }) else None) v
range_right r q None a b h l = absurd l
range_right r q (Some f) true true h l = (l.0 ∙ sym (h refl), min_right r.low q.low f.constant l.1, max_right r.high q.high f.constant l.2)
range_right r q (Some f) true false h l = tt
range_right r q (Some f) false b h l = tt

pub lies_left : (stack : ℕ) (c d : Option Range) (v : Option Fact) → Lies c v → Lies (joined_cell stack c d) v
lies_left stack None d v l = tt
lies_left stack (Some r) None v l = tt
lies_left stack (Some r) (Some q) v l = range_left r q v
    (same_origin r.origin q.origin && may_span stack r.origin (int_min r.low q.low) (int_max r.high q.high)) l

pub lies_right : (stack : ℕ) (c d : Option Range) (v : Option Fact) → Lies d v → Lies (joined_cell stack c d) v
lies_right stack None d v l = tt
lies_right stack (Some r) None v l = tt
lies_right stack (Some r) (Some q) v l =
    range_right r q v (same_origin r.origin q.origin) (may_span stack r.origin (int_min r.low q.low) (int_max r.high q.high))
    (same_true r.origin q.origin) l

pub within_left : (stack : ℕ) (m n : AbstractState) → Within m (joined stack m n)
within_left stack m n = record {
  facts = λ p v l. lies_left stack (m.cell p) (n.cell p) v l;
  marks = λ k e.
      (and_parts (m.marked k) (n.marked k) e).0;
}

pub within_right : (stack : ℕ) (m n : AbstractState) → Within n (joined stack m n)
within_right stack m n = record {
  facts = λ p v l. lies_right stack (m.cell p) (n.cell p) v l;
  marks = λ k e.
      (and_parts (m.marked k) (n.marked k) e).1;
}

pub within_itself : (m : AbstractState) → Within m m
within_itself m = record { facts = λ p v l. l; marks = λ k e. e }

pub within_trans : (l m n : AbstractState) → Within l m → Within m n → Within l n
within_trans l m n a b = record { facts = λ p v h. b.facts p v (a.facts p v h); marks = λ k e. a.marks k (b.marks k e) }

pub within_covers : (m n : AbstractState) (f : Facts) → Within m n → Covers m f → Covers n f
within_covers m n f w c = record { facts = λ p. w.facts p (f.fact p) (c.facts p); marks = λ k e. c.marks k (w.marks k e) }
