-- The marks of the facts are words that the machine keeps; STM by r13 stands in BlockLemmas.
use Rattle.std.proofs.Common.{◌≡◌, ◌≢◌, ℕ, ℤ, pos, negsuc, neg_ℤ, ◌+ℤ◌, ◌-ℤ◌, ◌≤ℤ◌, ◌<ℤ◌, ◌+◌, ◌-◌, ◌*◌, ◌%◌, ◌^◌, ◌<◌, ◌≤◌, ◌&&◌, ◌||◌}
use Rattle.std.proofs.Common.{not}
use Rattle.std.proofs.Common.{Bool, true, false, cond, Option, Some, None, IfSome, List, [], ◌∷◌, ◌++◌, eqb, filter, refl, sym, ap, ◌∙◌}
use Rattle.std.proofs.Common.{subst}
use Rattle.std.proofs.Common.{Result, Ok, Err, FitsSigned, arith}
use Rattle.std.proofs.lemmas.Bool.{eqb-true, eq-eqb, ne_eqb, false≢true}
use Rattle.std.proofs.lemmas.Int.{int_wrap_fits, ints}
use Rattle.std.proofs.lemmas.Map.Views.{any-filter_same}
use Rattle.std.proofs.Math.Facts.{to_z_pos}
use Rattle.std.specs.Prelude.{int_lt}
use Rattle.std.specs.List.{list_any}
use Rattle.std.specs.Int.{w32}
use Rattle.elf32_image.specs.Parts.{ImageValue}
use Rattle.arm_isa.specs.declared.instruction.BlockTransfer.{BlockTransfer}
use Rattle.arm_isa.specs.declared.instruction.Op.{Op}
use Rattle.arm_isa.specs.declared.instruction.Op.TheVariants as op
use Rattle.arm_isa.specs.Guarantees.{IsGuarded}
use Rattle.arm_isa.specs.Ranges.{IsOffset, IsOp}
use Rattle.arm_cpu.specs.declared.cpu.Cpu.{Cpu}
use Rattle.arm_cpu.specs.declared.stops.Stop.{Stop}
use Rattle.arm_cpu.specs.Registers.{read, signed_of}
use Rattle.arm_machine.specs.declared.access.Size.TheVariants as size
use Rattle.arm_machine.specs.declared.transfers.Transfer.{Transfer}
use Rattle.arm_machine.specs.States.{State}
use Rattle.arm_machine.specs.Access.{is_saved, marked, store_stop, stored, without_mark, word_holding}
use Rattle.arm_machine.specs.Blocks.{block_stop, is_push_block, loads_many, lowest, next_word, registers_of, stored_block, stores_many}
use Rattle.arm_machine.specs.Transfers.{accessed, half_transfer, is_push, loads, stores, with_cpu, word_transfer}
use Rattle.arm_machine.specs.Effects.{effect}
use Rattle.arm_machine.specs.Laws.{Holds, IfDone, Stays, is_store}
use Rattle.arm_machine.specs.Orderly.{AreWords}
use Rattle.arm_machine.specs.Steps.{is_below_stack, still_kept}
use Rattle.arm_machine.proofs.PcLemmas.{stopped}
use Rattle.arm_machine.proofs.StayLemmas.{if_weaker, stays}
use Rattle.arm_machine.proofs.StoreLemmas.{not_false}
use Rattle.path_facts.specs.Facts.{IsCongruent, word_address}
use Rattle.path_facts.specs.Sources.{access_offset, block_offset, is_at_word, mark_after, mark_after_store, mark_after_stores, touches}
use Rattle.path_facts.proofs.NumberLemmas.{apart, difference_of, word_is}
use Rattle.arm_machine.proofs.ReturnLemmas.{both}
use Rattle.path_facts.proofs.RegisterLemmas.{IsOffsetOfSp, access_is}
use Rattle.path_facts.proofs.StackLemmas.{not_true}

holds_left : (q : ℕ) (xs ys : List ℕ) → Holds q xs → Holds q (xs ++ ys)
holds_left q [] ys h = absurd (false≢true h)
holds_left q (x ∷ xs) ys h = at (eqb x q) (holds_left q xs ys) h
  where
    at : (b : Bool) → (Holds q xs → Holds q (xs ++ ys)) → b || list_any (λ w. eqb w q) xs ≡ true → b || list_any (λ w. eqb w q) (xs ++ ys)
        ≡ true
    at true again h = refl
    at false again h = again h

holds_right : (q : ℕ) (xs ys : List ℕ) → Holds q ys → Holds q (xs ++ ys)
holds_right q [] ys h = h
holds_right q (x ∷ xs) ys h = at (eqb x q) (holds_right q xs ys h)
  where
    at : (b : Bool) → Holds q (xs ++ ys) → b || list_any (λ w. eqb w q) (xs ++ ys) ≡ true
    at true h = refl
    at false h = h

-- a filter keeps what it passes
holds_filtered : (q : ℕ) (p : ℕ → Bool) (xs : List ℕ) → p q ≡ true → Holds q xs → Holds q (filter p xs)
holds_filtered q p xs passes h = any-filter_same (λ w. eqb w q) p true (λ w same. ap p (eqb-true w q same) ∙ passes) xs ∙ h

-- a store by r13 leaves other marks, and marks what it saves
abbrev re_marked : ℕ → Bool → List ℕ → List ℕ
re_marked a saves kept = without_mark a kept ++ cond saves (a ∷ []) []

stays_marked : (q a : ℕ) (saves : Bool) (kept : List ℕ) → q ≢ word_holding a → Holds q kept → Holds q (re_marked a saves kept)
stays_marked q a saves kept other h =
    holds_left q (without_mark a kept) _ (holds_filtered q (λ w. not (eqb w (word_holding a))) kept
    (ap not (ne_eqb q (word_holding a) other)) h)

becomes_marked : (q a : ℕ) (saves : Bool) (kept : List ℕ) → a ≡ q → saves ≡ true → Holds q (re_marked a saves kept)
becomes_marked q a saves kept here on =
    subst (λ (b : Bool). Holds q (re_marked a b kept)) (sym on)
    (holds_right q (without_mark a kept) (a ∷ []) (ap (λ (b : Bool). b || false) (eq-eqb a q here)))

marked_by_sp : (base : ℕ) (q a : ℕ) (saves : Bool) (kept : List ℕ) → eqb base 13 ≡ true → Holds q (re_marked a saves kept) → Holds q
    (marked base a saves kept)
marked_by_sp base q a saves kept is h = subst (λ (b : Bool). Holds q (cond b (re_marked a saves kept) kept)) (sym is) h

marked_by_other : (base : ℕ) (q a : ℕ) (saves : Bool) (kept : List ℕ) → eqb base 13 ≡ false → Holds q kept → Holds q
    (marked base a saves kept)
marked_by_other base q a saves kept other h = subst (λ (b : Bool). Holds q (cond b (re_marked a saves kept) kept)) (sym other) h

block_marked : (cpu : Cpu) (base q : ℕ) (saves : Bool) → eqb base 13 ≡ false → (rs : List ℕ) (t : State) (a : ℕ) → Holds q t.kept → Holds q
    (stored_block cpu t base a saves rs).kept
block_marked cpu base q saves other [] t a h = h
block_marked cpu base q saves other (r ∷ rs) t a h =
    block_marked cpu base q saves other rs (stored t base size.Word a (read cpu r) (saves && is_saved r)) (next_word a)
    (marked_by_other base q a (saves && is_saved r) t.kept other h)

-- only registers change
by_registers : (s : State) (outcome : Result Cpu Stop) (P : List ℕ → Type 0) → P s.kept → IfDone (with_cpu s outcome) (λ next. P next.kept)
by_registers s (Ok cpu) P h = h
by_registers s (Err why) P h = tt

module _ (sp k : ℕ) (small : 4 * k ≤ 2 ^ 32) where
  abbrev pub Mark : Bool → List ℕ → Type 0
  Mark b kept = b ≡ true → Holds (word_address sp k) kept

  pub mark_if : (b x y : Bool) (kept : List ℕ) → (b ≡ true → Mark x kept) → (b ≡ false → Mark y kept) → Mark (cond b x y) kept
  mark_if true x y kept h g = h refl
  mark_if false x y kept h g = g refl

  none : (kept : List ℕ) → Mark false kept
  none kept on = absurd (false≢true on)

  -- one store by r13
  pub mark_stored : (rn a bytes : ℕ) (sets saves before : Bool) (at : Option ℕ) (kept : List ℕ) → (sets ≡ true → saves ≡ true)
      → eqb rn 13 ≡ true → IfSome at (λ e. a ≡ (sp + e) % 2 ^ 32) → Mark before kept
      → Mark (mark_after_store at bytes k sets before) (marked rn a saves kept)
  mark_stored rn a bytes sets saves before None kept turn base at h = none _
  mark_stored rn a bytes sets saves before (Some e) kept turn base at h =
      mark_if (is_at_word e k && sets) true (cond (touches e bytes k) false before) _
      (λ is _. let parts = both (is_at_word e k) sets is in
      marked_by_sp rn _ a saves kept base (becomes_marked (word_address sp k) a saves kept (at ∙ word_is sp e k small
      (eqb-true _ 0 parts.0)) (turn parts.1)))
      (λ _. mark_if (touches e bytes k) false before _ (λ _. none _)
      (λ away on. marked_by_sp rn _ a saves kept base (stays_marked (word_address sp k) a saves kept
      (apart sp e k bytes a small away at) (h on))))

  module _ (s : State) (before : ℕ → Bool) (words : AreWords s.cpu) (sp_word : sp < 2 ^ 32) (offset : Option ℤ)
      (known : IsOffsetOfSp sp s before words offset) (marks : before k ≡ true → Holds (word_address sp k) s.kept) where
    at_sp : (this : Transfer) → eqb this.rn 13 ≡ true → IsOffset this.offset
        → IfSome (access_offset offset this) (λ e. accessed s.cpu this ≡ (sp + e) % 2 ^ 32)
    at_sp this base fits = access_is sp s before words sp_word offset this (eqb-true this.rn 13 base) fits known

    same_mark : (image : ImageValue) (o : Op) → is_store o ≡ false → IfDone (effect image s o) (λ next. Mark (before k) next.kept)
    same_mark image o calm =
        if_weaker (effect image s o) (Stays o s) _ (λ next st on. subst (Holds (word_address sp k)) (sym (st.kept calm)) (marks on))
        (stays image s o)

    transfer_mark : (image : ImageValue) (this : Transfer) (by_sp : Bool)
        → (eqb this.rn 13 ≡ true → Mark by_sp (marked this.rn (accessed s.cpu this) (is_push this) s.kept))
        → IfDone (stores image s this) (λ next. Mark (cond (not (eqb this.rn 13)) (before k) by_sp) next.kept)
    transfer_mark image this by_sp row =
        stopped (store_stop image s.memory s.kept this.rn this.size (accessed s.cpu this)) _
        (λ next. Mark (cond (not (eqb this.rn 13)) (before k) by_sp) next.kept)
        (λ may. mark_if (not (eqb this.rn 13)) (before k) by_sp (marked this.rn (accessed s.cpu this) (is_push this) s.kept)
        (λ other on. marked_by_other this.rn _ (accessed s.cpu this) (is_push this) s.kept (not_true _ other) (marks on))
        (λ base. row (not_false _ base)))

    by_byte : (byte : Bool) (this : Transfer) → eqb this.rn 13 ≡ true → IsOffset this.offset
        → Mark (cond byte (mark_after_store (access_offset offset this) 1 k false (before k))
        (mark_after_store (access_offset offset this) 4 k (is_push this) (before k)))
        (marked this.rn (accessed s.cpu this) (is_push this) s.kept)
    by_byte true this base fits =
        mark_stored this.rn (accessed s.cpu this) 1 false (is_push this) (before k) (access_offset offset this) s.kept
        (λ on. absurd (false≢true on)) base (at_sp this base fits) marks
    by_byte false this base fits =
        mark_stored this.rn (accessed s.cpu this) 4 (is_push this) (is_push this) (before k) (access_offset offset this) s.kept
        (λ on. on) base (at_sp this base fits) marks

    -- STM by r13
    abbrev pub BlockMarked : ImageValue → Type 0
    BlockMarked image = (this : BlockTransfer) → IsGuarded (op.Block this) → eqb this.rn 13 ≡ true
        → block_stop image s.memory s.kept this.rn (lowest s.cpu this) (registers_of this.list) ≡ None
        → Mark (mark_after_stores (block_offset offset this) (registers_of this.list) k (is_push_block this) (before k))
        (stored_block s.cpu s this.rn (lowest s.cpu this) (is_push_block this) (registers_of this.list)).kept

    -- each mark after an instruction
    pub mark_row : (image : ImageValue) → BlockMarked image → (o : Op) → IsOp o → IsGuarded o
        → IfDone (effect image s o) (λ next. Mark (mark_after offset o k (before k)) next.kept)
    mark_row image blocks (op.Compute this) fits guarded = same_mark image (op.Compute this) refl
    mark_row image blocks (op.Multiply this) fits guarded = same_mark image (op.Multiply this) refl
    mark_row image blocks (op.MultiplyLong this) fits guarded = same_mark image (op.MultiplyLong this) refl
    mark_row image blocks (op.Word this) fits guarded = by_load this.load
      where
        by_load : (load : Bool)
            → IfDone (cond load (with_cpu s (loads s.cpu s.memory (word_transfer this))) (stores image s (word_transfer this)))
            (λ next. Mark (cond load (before k) (cond (not (eqb this.rn 13)) (before k)
            (cond this.byte (mark_after_store (access_offset offset (word_transfer this)) 1 k false (before k))
            (mark_after_store (access_offset offset (word_transfer this)) 4 k (is_push (word_transfer this)) (before k))))) next.kept)
        by_load true = by_registers s (loads s.cpu s.memory (word_transfer this)) (Mark (before k)) marks
        by_load false = transfer_mark image (word_transfer this) _ (λ base. by_byte this.byte (word_transfer this) base fits.2)
    mark_row image blocks (op.Half this) fits guarded = by_load this.load
      where
        by_load : (load : Bool)
            → IfDone (cond load (with_cpu s (loads s.cpu s.memory (half_transfer this))) (stores image s (half_transfer this)))
            (λ next. Mark (cond load (before k) (cond (not (eqb this.rn 13)) (before k)
            (mark_after_store (access_offset offset (half_transfer this)) 2 k false (before k)))) next.kept)
        by_load true = by_registers s (loads s.cpu s.memory (half_transfer this)) (Mark (before k)) marks
        by_load false =
            transfer_mark image (half_transfer this) _ (λ base.
            mark_stored this.rn (accessed s.cpu (half_transfer this)) 2 false (is_push (half_transfer this)) (before k)
            (access_offset offset (half_transfer this)) s.kept (λ on. absurd (false≢true on)) base
            (at_sp (half_transfer this) base fits.2) marks)
    mark_row image blocks (op.Block this) fits guarded = by_load this.load
      where
        by_load : (load : Bool)
            → IfDone (cond load (with_cpu s (loads_many s.cpu s.memory this)) (stores_many image s this))
            (λ next. Mark (cond load (before k) (cond (not (eqb this.rn 13)) (before k)
            (mark_after_stores (block_offset offset this) (registers_of this.list) k (is_push_block this) (before k)))) next.kept)
        by_load true = by_registers s (loads_many s.cpu s.memory this) (Mark (before k)) marks
        by_load false =
            stopped (block_stop image s.memory s.kept this.rn (lowest s.cpu this) (registers_of this.list)) _
            (λ next. Mark (cond (not (eqb this.rn 13)) (before k)
            (mark_after_stores (block_offset offset this) (registers_of this.list) k (is_push_block this) (before k))) next.kept)
            (λ may. mark_if (not (eqb this.rn 13)) (before k)
            (mark_after_stores (block_offset offset this) (registers_of this.list) k (is_push_block this) (before k))
            (stored_block s.cpu s this.rn (lowest s.cpu this) (is_push_block this) (registers_of this.list)).kept
            (λ other on. block_marked s.cpu this.rn (word_address sp k) (is_push_block this) (not_true _ other) (registers_of this.list) s
            (lowest s.cpu this) (marks on))
            (λ base. blocks this guarded (not_false _ base) may))
    mark_row image blocks (op.Branch this) fits guarded = same_mark image (op.Branch this) refl
    mark_row image blocks (op.Exchange this) fits guarded = same_mark image (op.Exchange this) refl

-- A word that the facts know not to lie below r13 keeps its mark.
fits_word : (z : ℤ) → neg_ℤ (pos (2 ^ 31)) ≤ℤ z → z <ℤ pos (2 ^ 31) → FitsSigned w32 z
fits_word (pos n) low high = record { sfits = omega (arith, ints, high) }
fits_word (negsuc n) low high = record { sfits = omega (arith, ints, low) }

not_less : (a b : ℤ) → b ≤ℤ a → int_lt a b ≡ false
not_less a b h = grind (arith, ints, h)

-- the start's r13, the stack that lies below it, and r13 now
module _ (sp stack n k : ℕ) (o : ℤ) (sp_word : sp < 2 ^ 32) (below : (pos stack -ℤ pos (2 ^ 31)) ≤ℤ signed_of sp)
    (above : signed_of sp ≤ℤ pos (2 ^ 31 - 65)) (is : IsCongruent (signed_of sp +ℤ o) n) (low : neg_ℤ (pos stack) ≤ℤ o) (high : o ≤ℤ pos 64)
    (inside : 4 * k ≤ stack) (enough : stack < 2 ^ 31) where
  now_at : signed_of n ≡ signed_of sp +ℤ o
  now_at =
      is ∙ int_wrap_fits w32 (signed_of sp +ℤ o) (fits_word (signed_of sp +ℤ o) (omega (arith, ints, below, low)) (omega
      (arith, ints, above, high)))

  word_at : signed_of (word_address sp k) ≡ signed_of sp -ℤ pos (4 * k)
  word_at =
      subst (λ (z : ℤ). IsCongruent (signed_of sp +ℤ neg_ℤ z) (word_address sp k)) (to_z_pos w32 (omega (arith, inside, enough)))
      (difference_of sp (4 * k) sp_word (omega (arith, inside, enough)))
      ∙ int_wrap_fits w32 (signed_of sp -ℤ pos (4 * k)) (fits_word (signed_of sp -ℤ pos (4 * k)) (omega (arith, ints, below, inside)) (omega
      (arith, ints, above)))

  pub not_below : o ≤ℤ neg_ℤ (pos (4 * k)) → int_lt (signed_of (word_address sp k)) (signed_of n) ≡ false
  not_below up =
      not_less (signed_of (word_address sp k)) (signed_of n) (subst (λ (z : ℤ). signed_of n ≤ℤ z) (sym word_at)
      (subst (λ (z : ℤ). z ≤ℤ (signed_of sp -ℤ pos (4 * k))) (sym now_at) (omega (arith, ints, up))))

pub stays_kept : (s : State) (q : ℕ) → is_below_stack s q ≡ false → Holds q s.kept → Holds q (still_kept s)
stays_kept s q above h = holds_filtered q (λ w. not (is_below_stack s w)) s.kept (ap not above) h
