-- Words that a change doesn't name are left.
use Rattle.std.proofs.Common.{◌≡◌, ℕ, zero, suc, ℤ, pos, negsuc, ◌+◌, ◌-◌, ◌*◌, ◌/◌, ◌%◌, ◌^◌, ◌<◌, ◌≤◌, ◌⊎◌, Bool, true, false, cond, not}
use Rattle.std.proofs.Common.{◌&&◌, ◌||◌, ◌==◌, Option, Some, None, IfSome, List, [], ◌∷◌, length, ltb, inl, inr, refl, ap, ◌∙◌, arith}
use Rattle.std.proofs.lemmas.Bool.Decides.{nat_tests}
use Rattle.std.specs.Prelude.{nat_le, nat_lt}
use Rattle.arm_isa.specs.declared.instruction.Op.{Op}
use Rattle.arm_isa.specs.declared.instruction.Op.TheVariants as op
use Rattle.arm_isa.specs.declared.instruction.Index.{Index}
use Rattle.arm_isa.specs.declared.instruction.Offset.{Offset}
use Rattle.arm_isa.specs.declared.instruction.Offset.TheVariants as by
use Rattle.arm_isa.specs.declared.instruction.BlockTransfer.{BlockTransfer}
use Rattle.arm_isa.specs.Writes.{is_after}
use Rattle.arm_machine.specs.Access.{is_saved}
use Rattle.arm_machine.specs.Blocks.{is_push_block, registers_of}
use Rattle.arm_machine.specs.declared.transfers.Transfer.{Transfer}
use Rattle.arm_machine.specs.Transfers.{half_transfer, is_push, word_transfer}
use Rattle.path_facts.specs.Facts.{Source}
use Rattle.path_facts.specs.Facts.Location.{StackWord}
use Rattle.path_facts.specs.Facts.Source.{Nothing, Copy, IfMarked}
use Rattle.path_facts.specs.Sources.{access_offset, block_offset, bytes_store_source, indexed, is_at_word, is_tracked, mark_after}
use Rattle.path_facts.specs.Sources.{mark_after_store}
use Rattle.path_facts.specs.Sources.{mark_after_stores, mark_of, moved, residue, source_of, stack_source, stores_source, touches}
use Rattle.path_facts.specs.Sources.{word_store_source}
use Rattle.point_steps.specs.Changes.{IsShort, is_touched, mark_beside, source_beside, stack_change, stored_words, stores}
use Rattle.point_steps.specs.Changes.{touched_words}
use Rattle.point_steps.specs.declared.changes.StackChange.{StackChange}
use Rattle.point_steps.specs.declared.changes.StackChange.TheVariants as change
use Rattle.point_steps.proofs.Listed.{few_registers}

-- a block with registers stores its words
pub stored_some : (at : Option ℕ) (n : ℕ) → (n == 0) ≡ false → stored_words at n ≡ touched_words at (4 * n)
stored_some at zero off = absurd (grind (arith, nat_tests, off))
stored_some at (suc n) off = refl

-- ---- offsets are below 2^32

residue_small : (z : ℤ) → residue z < 2 ^ 32
residue_small (pos n) = omega arith
residue_small (negsuc n) = omega arith

abbrev IsSmall : Option ℕ → Type 0
IsSmall at = IfSome at (λ e. e < 2 ^ 32)

moved_small : (up : Bool) (e c : ℕ) → moved up e c < 2 ^ 32
moved_small true e c = omega arith
moved_small false e c = omega arith

indexed_small : (index : Index) (up : Bool) (e : ℕ) (offset : Offset) → e < 2 ^ 32 → IsSmall (indexed index up e offset)
indexed_small index up e (by.Value c) small = by_test (is_after index)
  where
    by_test : (b : Bool) → cond b e (moved up e c) < 2 ^ 32
    by_test true = small
    by_test false = moved_small up e c
indexed_small index up e (by.Shifted rm shift) small = tt

access_small : (offset : Option ℤ) (this : Transfer) → IsSmall (access_offset offset this)
access_small None this = tt
access_small (Some o) this = indexed_small this.index this.up (residue o) this.offset (residue_small o)

block_small : (offset : Option ℤ) (this : BlockTransfer) → IsSmall (block_offset offset this)
block_small None this = tt
block_small (Some o) this = by_test this.up _ _
  where
    by_test : (b : Bool) (m n : ℕ) → cond b (m % 2 ^ 32) (n % 2 ^ 32) < 2 ^ 32
    by_test true m n = omega arith
    by_test false m n = omega arith

-- ---- words beside some bytes

-- the bytes from an offset on stand above the word, or below it
abbrev IsOutside : ℕ → ℕ → ℕ → Type 0
IsOutside e bytes k = (4 * k + bytes ≤ 2 ^ 32 - e) ⊎ (2 ^ 32 - e + 4 ≤ 4 * k)

outside : (e bytes k : ℕ) → 0 < k → is_touched (touched_words (Some e) bytes) k ≡ false → IsOutside e bytes k
outside e bytes k some off = by_tests (nat_le ((2 ^ 32 - e - bytes) / 4 + 1) k) refl off
  where
    before : (m n : ℕ) → 0 < k → nat_le ((m - n) / 4 + 1) k ≡ false → 4 * k + n ≤ m
    before m n some off = grind (arith, nat_tests, some, off)

    after : (m : ℕ) → nat_le k ((m + 3) / 4) ≡ false → m + 4 ≤ 4 * k
    after m off = grind (arith, nat_tests, off)

    by_tests : (b : Bool) → nat_le ((2 ^ 32 - e - bytes) / 4 + 1) k ≡ b → b && nat_le k ((2 ^ 32 - e + 3) / 4) ≡ false → IsOutside e bytes k
    by_tests true on off = inr (after (2 ^ 32 - e) off)
    by_tests false on off = inl (before (2 ^ 32 - e) bytes some on)

-- how far the offset is above the word
above : (e bytes k : ℕ) → e < 2 ^ 32 → 0 < bytes → bytes ≤ 4 → 0 < k → 4 * k < 2 ^ 31 → IsOutside e bytes k
    → (4 ≤ (e + 4 * k) % 2 ^ 32) × ((e + 4 * k) % 2 ^ 32 + bytes ≤ 2 ^ 32)
above e bytes k word some few positive small (inl h) =
    let is : (e + 4 * k) % 2 ^ 32 ≡ e + 4 * k = omega (arith, word, some, h) in
    (omega (arith, is, positive), omega (arith, is, word, h))
above e bytes k word some few positive small (inr h) =
    let is : (e + 4 * k) % 2 ^ 32 + 2 ^ 32 ≡ e + 4 * k = omega (arith, word, small, h) in
    (omega (arith, is, word, h), omega (arith, is, word, few, small))

untouched : (e bytes k : ℕ) → e < 2 ^ 32 → 0 < bytes → bytes ≤ 4 → 0 < k → 4 * k < 2 ^ 31 → IsOutside e bytes k
    → touches e bytes k ≡ false
untouched e bytes k word some few positive small out = by_bounds ((e + 4 * k) % 2 ^ 32) (above e bytes k word some few positive small out)
  where
    by_bounds : (d : ℕ) → (4 ≤ d) × (d + bytes ≤ 2 ^ 32) → nat_lt d 4 || nat_lt (2 ^ 32) (d + bytes) ≡ false
    by_bounds d h = grind (arith, nat_tests, h.0, h.1)

elsewhere : (e bytes k : ℕ) → e < 2 ^ 32 → 0 < bytes → bytes ≤ 4 → 0 < k → 4 * k < 2 ^ 31 → IsOutside e bytes k
    → is_at_word e k ≡ false
elsewhere e bytes k word some few positive small out = by_bounds ((e + 4 * k) % 2 ^ 32) (above e bytes k word some few positive small out)
  where
    by_bounds : (d : ℕ) → (4 ≤ d) × (d + bytes ≤ 2 ^ 32) → (d == 0) ≡ false
    by_bounds d h = grind (arith, nat_tests, h.0)

-- ---- one store

module _ (k : ℕ) (positive : 0 < k) (small : 4 * k < 2 ^ 31) where
  register_leaves : (e q : ℕ) (before : Source) → e < 2 ^ 32 → IsOutside e 4 k → word_store_source (Some e) q k before ≡ before
  register_leaves e q before word out =
      rw (
        elsewhere e 4 k word (omega arith) (omega arith) positive small out,
        untouched e 4 k word (omega arith) (omega arith) positive small out,
      ) refl

  bytes_leave : (e bytes : ℕ) → e < 2 ^ 32 → 0 < bytes → bytes ≤ 4 → IsOutside e bytes k
      → bytes_store_source (Some e) bytes k ≡ Copy (StackWord k)
  bytes_leave e bytes word some few out = rw (untouched e bytes k word some few positive small out) refl

  mark_stays : (e bytes : ℕ) (saves before : Bool) → e < 2 ^ 32 → 0 < bytes → bytes ≤ 4 → IsOutside e bytes k
      → mark_after_store (Some e) bytes k saves before ≡ before
  mark_stays e bytes saves before word some few out =
      rw (elsewhere e bytes k word some few positive small out, untouched e bytes k word some few positive small out) refl

  -- by a place that may not be known
  word_beside : (at : Option ℕ) (q : ℕ) → IsSmall at → is_touched (touched_words at 4) k ≡ false
      → word_store_source at q k (Copy (StackWord k)) ≡ source_beside (touched_words at 4) k
  word_beside None q word off = refl
  word_beside (Some e) q word off = register_leaves e q (Copy (StackWord k)) word (outside e 4 k positive off)

  bytes_beside : (at : Option ℕ) (bytes : ℕ) → 0 < bytes → bytes ≤ 4 → IsSmall at
      → is_touched (touched_words at bytes) k ≡ false
      → bytes_store_source at bytes k ≡ source_beside (touched_words at bytes) k
  bytes_beside None bytes some few word off = refl
  bytes_beside (Some e) bytes some few word off = bytes_leave e bytes word some few (outside e bytes k positive off)

  mark_left : (at : Option ℕ) (bytes : ℕ) (saves before : Bool) → 0 < bytes → bytes ≤ 4 → IsSmall at
      → is_touched (touched_words at bytes) k ≡ false
      → mark_after_store at bytes k saves before ≡ mark_beside (touched_words at bytes) before
  mark_left None bytes saves before some few word off = refl
  mark_left (Some e) bytes saves before some few word off =
      mark_stays e bytes saves before word some few (outside e bytes k positive off)

  -- ---- several stores

  first_outside : (e n : ℕ) → IsOutside e (4 * suc n) k → IsOutside e 4 k
  first_outside e n (inl h) = inl (omega (arith, h))
  first_outside e n (inr h) = inr h

  next_outside : (e n : ℕ) → e < 2 ^ 32 → suc n ≤ 16 → IsOutside e (4 * suc n) k → IsOutside ((e + 4) % 2 ^ 32) (4 * n) k
  next_outside e n word few out = by_wrap (ltb (e + 4) (2 ^ 32)) refl out
    where
      plain : e + 4 < 2 ^ 32 → (e + 4) % 2 ^ 32 ≡ e + 4
      plain h = omega (arith, h)

      round : 2 ^ 32 ≤ e + 4 → (e + 4) % 2 ^ 32 + 2 ^ 32 ≡ e + 4
      round h = omega (arith, word, h)

      by_wrap : (b : Bool) → ltb (e + 4) (2 ^ 32) ≡ b → IsOutside e (4 * suc n) k → IsOutside ((e + 4) % 2 ^ 32) (4 * n) k
      by_wrap true on (inl h) =
          let lies : e + 4 < 2 ^ 32 = grind (arith, nat_tests, on) in
          let is = plain lies in
          inl (omega (arith, is, lies, h))
      by_wrap true on (inr h) =
          let lies : e + 4 < 2 ^ 32 = grind (arith, nat_tests, on) in
          let is = plain lies in
          inr (omega (arith, is, lies, h))
      by_wrap false off h =
          let lies : 2 ^ 32 ≤ e + 4 = grind (arith, nat_tests, off) in
          let is = round lies in
          inl (omega (arith, is, word, few, small))

  stores_leave : (rs : List ℕ) (e : ℕ) (before : Source) → e < 2 ^ 32 → length rs ≤ 16 → IsOutside e (4 * length rs) k
      → stores_source (Some e) rs k before ≡ before
  stores_leave [] e before word few out = refl
  stores_leave (q ∷ rs) e before word few out =
      stores_leave rs ((e + 4) % 2 ^ 32) (word_store_source (Some e) q k before) (omega arith) (omega (arith, few))
      (next_outside e (length rs) word few out)
      ∙ register_leaves e q before word (first_outside e (length rs) out)

  marks_stay_all : (rs : List ℕ) (e : ℕ) (saves before : Bool) → e < 2 ^ 32 → length rs ≤ 16 → IsOutside e (4 * length rs) k
      → mark_after_stores (Some e) rs k saves before ≡ before
  marks_stay_all [] e saves before word few out = refl
  marks_stay_all (q ∷ rs) e saves before word few out =
      marks_stay_all rs ((e + 4) % 2 ^ 32) saves (mark_after_store (Some e) 4 k (saves && is_saved q) before) (omega arith)
      (omega (arith, few)) (next_outside e (length rs) word few out)
      ∙ mark_stays e 4 (saves && is_saved q) before word (omega arith) (omega arith) (first_outside e (length rs) out)

  nothing_known : (rs : List ℕ) → stores_source None rs k Nothing ≡ Nothing
  nothing_known [] = refl
  nothing_known (q ∷ rs) = nothing_known rs

  none_marked : (rs : List ℕ) (saves : Bool) → mark_after_stores None rs k saves false ≡ false
  none_marked [] saves = refl
  none_marked (q ∷ rs) saves = none_marked rs saves

  stores_beside : (at : Option ℕ) (rs : List ℕ) → IsSmall at → length rs ≤ 16
      → is_touched (stored_words at (length rs)) k ≡ false
      → stores_source at rs k (Copy (StackWord k)) ≡ source_beside (stored_words at (length rs)) k
  stores_beside at [] word few off = refl
  stores_beside None (q ∷ rs) word few off = nothing_known rs
  stores_beside (Some e) (q ∷ rs) word few off =
      stores_leave (q ∷ rs) e (Copy (StackWord k)) word few (outside e (4 * suc (length rs)) k positive off)

  marks_beside : (at : Option ℕ) (rs : List ℕ) (saves before : Bool) → IsSmall at → length rs ≤ 16
      → is_touched (stored_words at (length rs)) k ≡ false
      → mark_after_stores at rs k saves before ≡ mark_beside (stored_words at (length rs)) before
  marks_beside at [] saves before word few off = refl
  marks_beside None (q ∷ rs) saves before word few off = none_marked rs saves
  marks_beside (Some e) (q ∷ rs) saves before word few off =
      marks_stay_all (q ∷ rs) e saves before word few (outside e (4 * suc (length rs)) k positive off)

  -- ---- loads, stores by other bases, and stores by r13

  abbrev chosen : Bool → Bool → StackChange → StackChange
  chosen load other placed = cond load change.Nothing (cond other change.Unmarked placed)

  by_form : (load other : Bool) (placed : StackChange) (s : Source)
      → (is_touched placed k ≡ false → s ≡ source_beside placed k) → is_touched (chosen load other placed) k ≡ false
      → cond load (Copy (StackWord k)) (cond other (IfMarked k) s) ≡ source_beside (chosen load other placed) k
  by_form true other placed s h off = refl
  by_form false true placed s h off = refl
  by_form false false placed s h off = h off

  mark_by_form : (load other : Bool) (placed : StackChange) (before mark : Bool)
      → (is_touched placed k ≡ false → mark ≡ mark_beside placed before) → is_touched (chosen load other placed) k ≡ false
      → cond load before (cond other before mark) ≡ mark_beside (chosen load other placed) before
  mark_by_form true other placed before mark h off = refl
  mark_by_form false true placed before mark h off = refl
  mark_by_form false false placed before mark h off = h off

  -- a word or a byte
  by_byte : (byte : Bool) (at : Option ℕ) (q : ℕ) → IsSmall at → is_touched (touched_words at (cond byte 1 4)) k ≡ false
      → cond byte (bytes_store_source at 1 k) (word_store_source at q k (Copy (StackWord k)))
      ≡ source_beside (touched_words at (cond byte 1 4)) k
  by_byte true at q word off = bytes_beside at 1 (omega arith) (omega arith) word off
  by_byte false at q word off = word_beside at q word off

  mark_by_byte : (byte : Bool) (at : Option ℕ) (saves before : Bool) → IsSmall at
      → is_touched (touched_words at (cond byte 1 4)) k ≡ false
      → cond byte (mark_after_store at 1 k false before) (mark_after_store at 4 k saves before)
      ≡ mark_beside (touched_words at (cond byte 1 4)) before
  mark_by_byte true at saves before word off = mark_left at 1 false before (omega arith) (omega arith) word off
  mark_by_byte false at saves before word off = mark_left at 4 saves before (omega arith) (omega arith) word off

  stack_stays : (offset : Option ℤ) (o : Op) → is_touched (stack_change offset o) k ≡ false
      → stack_source offset o k ≡ source_beside (stack_change offset o) k
  stack_stays offset (op.Word this) off =
      by_form this.load (not (this.rn == 13)) (touched_words (access_offset offset (word_transfer this)) (cond this.byte 1 4)) _
      (by_byte this.byte (access_offset offset (word_transfer this)) this.rd (access_small offset (word_transfer this))) off
  stack_stays offset (op.Half this) off =
      by_form this.load (not (this.rn == 13)) (touched_words (access_offset offset (half_transfer this)) 2) _
      (bytes_beside (access_offset offset (half_transfer this)) 2 (omega arith) (omega arith)
      (access_small offset (half_transfer this))) off
  stack_stays offset (op.Block this) off =
      by_form this.load (not (this.rn == 13)) (stored_words (block_offset offset this) (length (registers_of this.list))) _
      (stores_beside (block_offset offset this) (registers_of this.list) (block_small offset this) (few_registers this.list)) off
  stack_stays offset (op.Compute this) off = refl
  stack_stays offset (op.Multiply this) off = refl
  stack_stays offset (op.MultiplyLong this) off = refl
  stack_stays offset (op.Branch this) off = refl
  stack_stays offset (op.Exchange this) off = refl

  mark_is_left : (offset : Option ℤ) (o : Op) (before : Bool) → is_touched (stack_change offset o) k ≡ false
      → mark_after offset o k before ≡ mark_beside (stack_change offset o) before
  mark_is_left offset (op.Word this) before off =
      mark_by_form this.load (not (this.rn == 13))
      (touched_words (access_offset offset (word_transfer this)) (cond this.byte 1 4)) before _
      (mark_by_byte this.byte (access_offset offset (word_transfer this)) (is_push (word_transfer this)) before
      (access_small offset (word_transfer this))) off
  mark_is_left offset (op.Half this) before off =
      mark_by_form this.load (not (this.rn == 13)) (touched_words (access_offset offset (half_transfer this)) 2) before _
      (mark_left (access_offset offset (half_transfer this)) 2 false before (omega arith) (omega arith)
      (access_small offset (half_transfer this))) off
  mark_is_left offset (op.Block this) before off =
      mark_by_form this.load (not (this.rn == 13))
      (stored_words (block_offset offset this) (length (registers_of this.list))) before _
      (marks_beside (block_offset offset this) (registers_of this.list) (is_push_block this) before
      (block_small offset this) (few_registers this.list)) off
  mark_is_left offset (op.Compute this) before off = refl
  mark_is_left offset (op.Multiply this) before off = refl
  mark_is_left offset (op.MultiplyLong this) before off = refl
  mark_is_left offset (op.Branch this) before off = refl
  mark_is_left offset (op.Exchange this) before off = refl

-- ---- of tracked words

tracked : (stack k : ℕ) → stack < 2 ^ 31 → is_tracked stack k ≡ true → (0 < k) × (4 * k < 2 ^ 31)
tracked stack k small on = (positive, low)
  where
    positive : 0 < k
    positive = grind (arith, nat_tests, on)

    low : 4 * k < 2 ^ 31
    low = grind (arith, nat_tests, small, on)

pub sources_stay : (offset : Option ℤ) (o : Op) (stack a k : ℕ) (literal : Option ℕ) → stack < 2 ^ 31
    → is_tracked stack k ≡ true → is_touched (stack_change offset o) k ≡ false
    → source_of stack a literal offset o (StackWord k) ≡ source_beside (stack_change offset o) k
sources_stay offset o stack a k literal small on off =
    let b = tracked stack k small on in
    ap (λ (t : Bool). cond t (stack_source offset o k) Nothing) on ∙ stack_stays k b.0 b.1 offset o off

pub marks_stay : (offset : Option ℤ) (o : Op) (stack k : ℕ) (before : Bool) → stack < 2 ^ 31 → is_tracked stack k ≡ true
    → is_touched (stack_change offset o) k ≡ false → mark_of stack offset o k before ≡ mark_beside (stack_change offset o) before
marks_stay offset o stack k before small on off =
    let b = tracked stack k small on in
    ap (λ (t : Bool). cond t (mark_after offset o k before) false) on ∙ mark_is_left k b.0 b.1 offset o before off

-- ---- loads change none

by_load : (load : Bool) (c : StackChange) → not load ≡ false → cond load change.Nothing c ≡ change.Nothing
by_load true c is = refl
by_load false c is = cc

pub only_stores_change : (offset : Option ℤ) (o : Op) → stores o ≡ false → stack_change offset o ≡ change.Nothing
only_stores_change offset (op.Word this) none = by_load this.load _ none
only_stores_change offset (op.Half this) none = by_load this.load _ none
only_stores_change offset (op.Block this) none = by_load this.load _ none
only_stores_change offset (op.Compute this) none = refl
only_stores_change offset (op.Multiply this) none = refl
only_stores_change offset (op.MultiplyLong this) none = refl
only_stores_change offset (op.Branch this) none = refl
only_stores_change offset (op.Exchange this) none = refl

-- ---- few words are named

short_words : (at : Option ℕ) (bytes : ℕ) → bytes ≤ 64 → IsSmall at → IsShort (touched_words at bytes)
short_words None bytes few word = tt
short_words (Some e) bytes few word = bounds (2 ^ 32 - e) (omega arith)
  where
    bounds : (m : ℕ) → m ≤ 2 ^ 32 → (0 < (m - bytes) / 4 + 1) × ((m + 3) / 4 < (m - bytes) / 4 + 1 + 17) × ((m + 3) / 4 ≤ 2 ^ 30)
    bounds m most = (omega arith, omega (arith, few), omega (arith, most))

short_form : (load other : Bool) (placed : StackChange) → IsShort placed
    → IsShort (cond load change.Nothing (cond other change.Unmarked placed))
short_form true other placed h = tt
short_form false true placed h = tt
short_form false false placed h = h

short_stores : (at : Option ℕ) (n : ℕ) → n ≤ 16 → IsSmall at → IsShort (stored_words at n)
short_stores at zero few word = tt
short_stores at (suc n) few word = short_words at (4 * suc n) (omega (arith, few)) word

few_bytes : (byte : Bool) → cond byte 1 4 ≤ 64
few_bytes true = omega arith
few_bytes false = omega arith

pub changes_are_short : (offset : Option ℤ) (o : Op) → IsShort (stack_change offset o)
changes_are_short offset (op.Word this) =
    short_form this.load (not (this.rn == 13)) (touched_words (access_offset offset (word_transfer this)) (cond this.byte 1 4))
    (short_words (access_offset offset (word_transfer this)) (cond this.byte 1 4) (few_bytes this.byte)
    (access_small offset (word_transfer this)))
changes_are_short offset (op.Half this) =
    short_form this.load (not (this.rn == 13)) (touched_words (access_offset offset (half_transfer this)) 2)
    (short_words (access_offset offset (half_transfer this)) 2 (omega arith) (access_small offset (half_transfer this)))
changes_are_short offset (op.Block this) =
    short_form this.load (not (this.rn == 13)) (stored_words (block_offset offset this) (length (registers_of this.list)))
    (short_stores (block_offset offset this) (length (registers_of this.list)) (few_registers this.list)
    (block_small offset this))
changes_are_short offset (op.Compute this) = tt
changes_are_short offset (op.Multiply this) = tt
changes_are_short offset (op.MultiplyLong this) = tt
changes_are_short offset (op.Branch this) = tt
changes_are_short offset (op.Exchange this) = tt
