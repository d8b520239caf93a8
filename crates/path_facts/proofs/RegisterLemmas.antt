-- The sources of registers that an instruction writes are right; LDM and STM stand in BlockLemmas.
use Rattle.std.proofs.Common.{◌≡◌, ℕ, ℤ, pos, neg_ℤ, ◌+ℤ◌, ◌+◌, ◌-◌, ◌*◌, ◌%◌, ◌^◌, ◌<◌, ◌&&◌, ◌||◌, not, Bool, true, false, cond, Option}
use Rattle.std.proofs.Common.{Some}
use Rattle.std.proofs.Common.{None, IfSome, Result, Ok, Err, length, eqb, slice_index, slice_set, refl, sym, ap, ◌∙◌, subst, arith}
use Rattle.std.proofs.lemmas.Bool.{eqb-true, ne_eqb, false≢true}
use Rattle.std.proofs.lemmas.List.{get_or-set_same, length-set}
use Rattle.elf32_image.specs.Parts.{ImageValue}
use Rattle.arm_isa.specs.declared.conditions.Flags.{Flags}
use Rattle.arm_isa.specs.declared.instruction.BlockTransfer.{BlockTransfer}
use Rattle.arm_isa.specs.declared.instruction.WordTransfer.{WordTransfer}
use Rattle.arm_isa.specs.declared.instruction.Op.{Op}
use Rattle.arm_isa.specs.declared.instruction.Op.TheVariants as op
use Rattle.arm_isa.specs.declared.instruction.Operand.{Operand}
use Rattle.arm_isa.specs.declared.instruction.Operand.TheVariants as operand
use Rattle.arm_isa.specs.declared.instruction.Shift.{Shift}
use Rattle.arm_isa.specs.declared.instruction.Shift.TheVariants as shift
use Rattle.arm_isa.specs.declared.instruction.Offset.{Offset}
use Rattle.arm_isa.specs.declared.instruction.Offset.TheVariants as by
use Rattle.arm_isa.specs.declared.opcodes.Opcode.{Opcode}
use Rattle.arm_isa.specs.declared.opcodes.Opcode.TheVariants as opcode
use Rattle.arm_isa.specs.Guarantees.{IsGuarded}
use Rattle.arm_isa.specs.Opcodes.{is_test}
use Rattle.arm_isa.specs.Ranges.{IsOffset, IsOp, IsOperand}
use Rattle.arm_isa.specs.Writes.{is_after, keeps_address, op_writes}
use Rattle.arm_cpu.specs.declared.cpu.Cpu.{Cpu}
use Rattle.arm_cpu.specs.declared.stops.Stop.{Stop}
use Rattle.arm_cpu.specs.Registers.{advanced, jumped, next_pc, read, signed_of, with_register, written}
use Rattle.arm_cpu.specs.Shifts.{operand_carry, operand_value}
use Rattle.arm_cpu.specs.Sums.{computed, settled, with_flags}
use Rattle.arm_machine.specs.declared.access.Size.TheVariants as size
use Rattle.arm_machine.specs.declared.transfers.Transfer.{Transfer}
use Rattle.arm_machine.specs.States.{State}
use Rattle.arm_machine.specs.Access.{loaded, number_at, store_stop}
use Rattle.arm_machine.specs.Transfers.{accessed, changed_base, extended, half_transfer, loads, offset_value, rebased, stores, with_cpu}
use Rattle.arm_machine.specs.Transfers.{word_size, word_transfer}
use Rattle.arm_machine.specs.Effects.{effect}
use Rattle.arm_machine.specs.Laws.{IfDone}
use Rattle.arm_machine.specs.Orderly.{AreWords}
use Rattle.arm_machine.proofs.OrderLemmas.{loaded_is}
use Rattle.arm_machine.proofs.PcLemmas.{stopped}
use Rattle.arm_machine.proofs.StayLemmas.{if_any, if_then, if_weaker, written_keeps}
use Rattle.arm_machine.proofs.WordLemmas.{read_small}
use Rattle.path_facts.specs.Facts.{IsCongruent, Says, Source}
use Rattle.path_facts.specs.Facts.Source.{Nothing, Constant, Sum}
use Rattle.path_facts.specs.Sources.{access_offset, base_source, compute_source, constant_source, indexed, is_at_word, literal_source}
use Rattle.path_facts.specs.Sources.{load_source, loaded_source, moved, moved_source, register_source, residue, shifted_source}
use Rattle.path_facts.specs.Sources.{word_at_offset}
use Rattle.path_facts.specs.Sources.{written_source}
use Rattle.arm_machine.proofs.ReturnLemmas.{both, unshifted}
use Rattle.path_facts.proofs.NumberLemmas.{as_word, base_difference, base_sum, difference_form, difference_of, itself, itself_plain}
use Rattle.path_facts.proofs.NumberLemmas.{moved_is}
use Rattle.path_facts.proofs.NumberLemmas.{sum_form, sum_of, word_is}

pub read_at : (s : State) (r : ℕ) → r < 15 → read s.cpu r ≡ slice_index s.cpu.registers r
read_at s r small = ap (λ (b : Bool). cond b ((s.cpu.pc + 8) % 2 ^ 32) (slice_index s.cpu.registers r)) (ne_eqb r 15 (λ e. omega
    (arith, small, e)))

-- the word that an instruction loads
abbrev pub IsRead : State → Op → ℕ → Type 0
IsRead s (op.Word this) w = (number_at s.memory size.Word (accessed s.cpu (word_transfer this)) ≡ Some w) × (w < 2 ^ 32)
IsRead s _ w = Unit {0}

-- a register that is written has the value
pub written_gives : (cpu : Cpu) (rd v r : ℕ) → eqb r rd ≡ true → r < 15 → length cpu.registers ≡ 15
    → IfDone (written cpu rd v) (λ next. slice_index next.registers r ≡ v)
written_gives cpu rd v r is small all =
    let e = eqb-true r rd is in
    subst (λ (b : Bool). IfDone (cond {A = Result Cpu Stop} b (jumped cpu v) (Ok (advanced (with_register cpu rd v))))
    (λ next. slice_index next.registers r ≡ v)) (sym (ne_eqb rd 15 (λ at. omega (arith, small, e, at))))
    (subst (λ (q : ℕ). slice_index (slice_set cpu.registers rd v) q ≡ v) (sym e) (get_or-set_same cpu.registers rd v 0 (omega
    (arith, all, small, e))))

tested_gives : (test : Bool) (cpu : Cpu) (rd v r : ℕ) → not test && eqb r rd ≡ true → r < 15 → length cpu.registers ≡ 15
    → IfDone (cond {A = Result Cpu Stop} test (Ok (advanced cpu)) (written cpu rd v)) (λ next. slice_index next.registers r ≡ v)
tested_gives true cpu rd v r writes small all = absurd (false≢true writes)
tested_gives false cpu rd v r writes small all = written_gives cpu rd v r writes small all

pub through : (s : State) (outcome : Result Cpu Stop) (P : ℕ → Type 0) (r : ℕ) → IfDone outcome (λ cpu. P (slice_index cpu.registers r))
    → IfDone (with_cpu s outcome) (λ next. P (slice_index next.cpu.registers r))
through s (Ok cpu) P r h = h
through s (Err stop) P r h = tt

pub back_length : (back : Bool) (cpu : Cpu) (rn v : ℕ) → length (cond back (with_register cpu rn v) cpu).registers ≡ length cpu.registers
back_length true cpu rn v = length-set cpu.registers rn v
back_length false cpu rn v = refl

-- a base that is written back and not loaded
pub back_gives : (cpu : Cpu) (back : Bool) (rn v r : ℕ) → back && eqb r rn ≡ true → r < 15 → length cpu.registers ≡ 15 → slice_index
    (cond back (with_register cpu rn v) cpu).registers r ≡ v
back_gives cpu true rn v r writes small all =
    let e = eqb-true r rn writes in
    subst (λ (q : ℕ). slice_index (slice_set cpu.registers rn v) q ≡ v) (sym e) (get_or-set_same cpu.registers rn v 0 (omega
    (arith, all, small, e)))
back_gives cpu false rn v r writes small all = absurd (false≢true writes)

module _ (sp : ℕ) (s : State) (marked : ℕ → Bool) (words : AreWords s.cpu) where
  abbrev Gives : Source → ℕ → Type 0
  Gives source n = Says sp s marked source (Some n)

  gives_if : (b : Bool) (x y : Source) (n : ℕ) → (b ≡ true → Gives x n) → (b ≡ false → Gives y n) → Gives (cond b x y) n
  gives_if true x y n h g = h refl
  gives_if false x y n h g = g refl

  from_register : (r : ℕ) (by : ℤ) (n : ℕ) → IsCongruent (signed_of (read s.cpu r) +ℤ by) n → Gives (register_source s.cpu.pc r by) n
  from_register r by n = pick (eqb r 15)
    where
      pick : (b : Bool) → IsCongruent (signed_of (cond b ((s.cpu.pc + 8) % 2 ^ 32) (slice_index s.cpu.registers r)) +ℤ by) n → Gives
          (cond b (Constant (signed_of ((s.cpu.pc + 8) % 2 ^ 32) +ℤ by)) (Sum r by)) n
      pick true h = h
      pick false h = h

  -- data processing: what the source says of the result
  by_constant : (code : Opcode) (flags : Flags) (carry : Bool) (rn value : ℕ) → value < 2 ^ 32
      → Gives (constant_source s.cpu.pc code rn value) (computed code flags carry (read s.cpu rn) value).value
  by_constant opcode.Mov flags carry rn value small = itself value small
  by_constant opcode.Add flags carry rn value small =
      from_register rn (signed_of value) _ (subst (IsCongruent _) (sym (sum_form (read s.cpu rn) value)) (sum_of (read s.cpu rn) value
      (read_small s.cpu rn words) small))
  by_constant opcode.Sub flags carry rn value small =
      from_register rn (neg_ℤ (signed_of value)) _ (subst (IsCongruent _) (sym (difference_form (read s.cpu rn) value small))
      (difference_of (read s.cpu rn) value (read_small s.cpu rn words) small))
  by_constant _ flags carry rn value small = tt

  by_move : (code : Opcode) (flags : Flags) (carry : Bool) (rn rm n : ℕ) → n ≡ read s.cpu rm
      → Gives (moved_source s.cpu.pc code rm) (computed code flags carry (read s.cpu rn) n).value
  by_move opcode.Mov flags carry rn rm n is =
      from_register rm (pos 0) n (subst (IsCongruent (signed_of (read s.cpu rm) +ℤ pos 0)) (sym is) (itself_plain (read s.cpu rm)
      (read_small s.cpu rm words)))
  by_move _ flags carry rn rm n is = tt

  by_shift : (code : Opcode) (flags : Flags) (carry : Bool) (rn rm : ℕ) (kind : Shift)
      → Gives (shifted_source s.cpu.pc code rm kind)
      (computed code flags carry (read s.cpu rn) (operand_value s.cpu (operand.Shifted rm kind))).value
  by_shift code flags carry rn rm (shift.Lsl amount) =
      gives_if (eqb amount 0) (moved_source s.cpu.pc code rm) Nothing _ (λ on. by_move code flags carry rn rm
      (read s.cpu rm * 2 ^ amount % 2 ^ 32) (subst (λ (a : ℕ). read s.cpu rm * 2 ^ a % 2 ^ 32 ≡ read s.cpu rm)
      (sym (eqb-true amount 0 on)) (unshifted (read s.cpu rm) (read_small s.cpu rm words)))) (λ _. tt)
  by_shift code flags carry rn rm _ = tt

  computed_gives : (code : Opcode) (flags : Flags) (carry : Bool) (rn : ℕ) (operand : Operand) → IsOperand operand
      → Gives (compute_source s.cpu.pc code rn operand) (computed code flags carry (read s.cpu rn) (operand_value s.cpu operand)).value
  computed_gives code flags carry rn (operand.Value value rotated) fits = by_constant code flags carry rn value fits
  computed_gives code flags carry rn (operand.Shifted rm kind) fits = by_shift code flags carry rn rm kind
  computed_gives code flags carry rn (operand.ByRegister rm kind rs) fits = tt

  -- how far r13 is from its start, where it is known
  abbrev pub IsOffsetOfSp : Option ℤ → Type 0
  IsOffsetOfSp offset = IfSome offset (λ o. IsCongruent (signed_of sp +ℤ o) (slice_index s.cpu.registers 13))

  module _ (sp_word : sp < 2 ^ 32) where
    pub sp_at : (o : ℤ) → IsOffsetOfSp (Some o) → slice_index s.cpu.registers 13 ≡ (sp + residue o) % 2 ^ 32
    sp_at o is = as_word sp (slice_index s.cpu.registers 13) o sp_word (words.each 13) is

    -- an access by r13
    pub access_is : (offset : Option ℤ) (this : Transfer) → this.rn ≡ 13 → IsOffset this.offset → IsOffsetOfSp offset
        → IfSome (access_offset offset this) (λ e. accessed s.cpu this ≡ (sp + e) % 2 ^ 32)
    access_is None this base fits is = tt
    access_is (Some o) this base fits is = by_offset this.offset fits
      where
        by_index : (after up : Bool) (n c : ℕ) → n ≡ (sp + residue o) % 2 ^ 32 → c < 2 ^ 12
            → cond after n (cond up ((n + c) % 2 ^ 32) ((n + 2 ^ 32 - c) % 2 ^ 32))
            ≡ (sp + cond after (residue o) (moved up (residue o) c)) % 2 ^ 32
        by_index true up n c at small = at
        by_index false up n c at small = moved_is sp up n o c at small

        by_offset : (offset : Offset) → IsOffset offset
            → IfSome (indexed this.index this.up (residue o) offset) (λ e. cond (is_after this.index) (read s.cpu this.rn)
            (cond this.up ((read s.cpu this.rn + offset_value s.cpu offset) % 2 ^ 32)
            ((read s.cpu this.rn + 2 ^ 32 - offset_value s.cpu offset) % 2 ^ 32)) ≡ (sp + e) % 2 ^ 32)
        by_offset (by.Shifted rm kind) fits = tt
        by_offset (by.Value c) fits = by_index (is_after this.index) this.up (read s.cpu this.rn) c
            (ap (read s.cpu) base ∙ sp_at o is) fits

    pub load_gives : (at : Option ℕ) (a v : ℕ) → IfSome at (λ e. a ≡ (sp + e) % 2 ^ 32) → number_at s.memory size.Word a ≡ Some v
        → Gives (load_source at) v
    load_gives None a v there is = tt
    load_gives (Some e) a v there is =
        gives_if (is_at_word e (word_at_offset e)) _ _ _ (λ on. sym is ∙ ap (number_at s.memory size.Word) (there ∙ word_is sp e
        (word_at_offset e) (omega arith) (eqb-true _ 0 on))) (λ _. tt)

    -- a written-back base
    base_gives : (up : Bool) (rn : ℕ) (offset : Offset) → IsOffset offset → rn < 15 → Gives (base_source up rn offset)
        (cond up ((read s.cpu rn + offset_value s.cpu offset) % 2 ^ 32) ((read s.cpu rn + 2 ^ 32 - offset_value s.cpu offset) % 2 ^ 32))
    base_gives up rn (by.Shifted rm kind) fits other = tt
    base_gives true rn (by.Value c) fits other =
        subst (λ (n : ℕ). Gives (base_source true rn (by.Value c)) ((n + c) % 2 ^ 32)) (sym (read_at s rn other))
        (base_sum (slice_index s.cpu.registers rn) c (words.each rn) fits)
    base_gives false rn (by.Value c) fits other =
        subst (λ (n : ℕ). Gives (base_source false rn (by.Value c)) ((n + 2 ^ 32 - c) % 2 ^ 32)) (sym (read_at s rn other))
        (base_difference (slice_index s.cpu.registers rn) c (words.each rn) fits)

    based_row : (this : Transfer) (r : ℕ) → r < 15 → IsOffset this.offset → (keeps_address this.index ≡ true → this.rn < 15)
        → keeps_address this.index && eqb r this.rn ≡ true
        → Gives (base_source this.up this.rn this.offset) (slice_index (rebased s.cpu this).registers r)
    based_row this r small fits based writes =
        subst (Gives (base_source this.up this.rn this.offset))
        (sym (back_gives s.cpu (keeps_address this.index) this.rn (changed_base s.cpu this) r writes small words.all))
        (base_gives this.up this.rn this.offset fits (based (both (keeps_address this.index) (eqb r this.rn) writes).0))

    -- a load or store of one number, with what its own register gets
    transfer_row : (image : ImageValue) (this : Transfer) (own : Source) (r : ℕ) → r < 15 → IsOffset this.offset
        → (keeps_address this.index ≡ true → this.rn < 15)
        → (eqb r this.rd ≡ true → IfDone (loads s.cpu s.memory this) (λ next. Gives own (slice_index next.registers r)))
        → (load : Bool) → (load && eqb r this.rd) || (keeps_address this.index && eqb r this.rn) ≡ true
        → IfDone (cond load (with_cpu s (loads s.cpu s.memory this)) (stores image s this))
        (λ next. Gives (cond (load && eqb r this.rd) own (base_source this.up this.rn this.offset)) (slice_index next.cpu.registers r))
    transfer_row image this own r small fits based own_row false writes =
        stopped (store_stop image s.memory s.kept this.rn this.size (accessed s.cpu this)) _
        (λ next. Gives (base_source this.up this.rn this.offset) (slice_index next.cpu.registers r))
        (λ none. based_row this r small fits based writes)
    transfer_row image this own r small fits based own_row true writes =
        through s (loads s.cpu s.memory this) (Gives (cond (eqb r this.rd) own (base_source this.up this.rn this.offset))) r
        (by_same (eqb r this.rd) refl writes)
      where
        by_same : (b : Bool) → eqb r this.rd ≡ b → b || (keeps_address this.index && eqb r this.rn) ≡ true
            → IfDone (loads s.cpu s.memory this)
            (λ next. Gives (cond b own (base_source this.up this.rn this.offset)) (slice_index next.registers r))
        by_same true is writes = own_row is
        by_same false isnt writes =
            if_then _ (loaded s.memory this.size _) (λ _. Unit {0}) _ (if_any (loaded s.memory this.size _) _ (λ _. tt)) (λ v _.
            if_weaker (written (rebased s.cpu this) this.rd (extended this.kind v)) _ _ (λ next keeps.
            subst (Gives (base_source this.up this.rn this.offset)) (sym (keeps r isnt)) (based_row this r small fits based writes))
            (written_keeps (rebased s.cpu this) this.rd (extended this.kind v)))

    module _ (offset : Option ℤ) (known : IsOffsetOfSp offset) where
      literal_gives : (literal : Option ℕ) (a v : ℕ) → number_at s.memory size.Word a ≡ Some v
          → IfSome literal (λ w. (number_at s.memory size.Word a ≡ Some w) × (w < 2 ^ 32)) → Gives (literal_source literal) v
      literal_gives None a v there read_it = tt
      literal_gives (Some w) a v there read_it =
          subst (IsCongruent (signed_of w)) (same w v (sym read_it.0 ∙ there)) (itself w read_it.1)
        where
          same : (w v : ℕ) → ◌≡◌ {A = Option ℕ} (Some w) (Some v) → w ≡ v
          same w v e = cc

      abbrev there_is : WordTransfer → ℕ
      there_is this = accessed s.cpu (word_transfer this)

      loads_word : (literal : Option ℕ) (this : WordTransfer) (r : ℕ) → r < 15 → eqb r this.rd ≡ true → IsOffset this.offset
          → IfSome literal (IsRead s (op.Word this)) → IfDone (loads s.cpu s.memory (word_transfer this))
          (λ next. Gives (loaded_source literal (access_offset offset (word_transfer this)) this.byte this.rn)
          (slice_index next.registers r))
      loads_word literal this r small is fits read_it =
          if_then _ (loaded s.memory (word_size this.byte) (there_is this)) _ _ (loaded_is s.memory (word_size this.byte) (there_is this))
          (λ v there.
          if_weaker (written (rebased s.cpu (word_transfer this)) this.rd v) _ _
          (λ next e. subst (Gives (loaded_source literal (access_offset offset (word_transfer this)) this.byte this.rn)) (sym e)
          (value this.byte v there))
          (written_gives (rebased s.cpu (word_transfer this)) this.rd v r is small
          (back_length (keeps_address this.index) s.cpu this.rn (changed_base s.cpu (word_transfer this)) ∙ words.all)))
        where
          value : (byte : Bool) (v : ℕ) → number_at s.memory (word_size byte) (there_is this) ≡ Some v
              → Gives (loaded_source literal (access_offset offset (word_transfer this)) byte this.rn) v
          value true v there = tt
          value false v there =
              gives_if (eqb this.rn 15) (literal_source literal) _ v (λ _. literal_gives literal (there_is this) v there read_it) (λ _.
              gives_if (eqb this.rn 13) (load_source (access_offset offset (word_transfer this))) Nothing v (λ on.
              load_gives (access_offset offset (word_transfer this)) (there_is this) v
              (access_is offset (word_transfer this) (eqb-true this.rn 13 on) fits known) there) (λ _. tt))

      -- BL
      link_row : (link : Bool) (r : ℕ) → r < 15 → eqb r 15 || (link && eqb r 14) ≡ true
          → Gives (Constant (signed_of ((s.cpu.pc + 4) % 2 ^ 32)))
          (slice_index (cond link (with_register s.cpu 14 (next_pc s.cpu)) s.cpu).registers r)
      link_row link r small writes = at (eqb r 15) link refl writes
        where
          at : (b link : Bool) → eqb r 15 ≡ b → b || (link && eqb r 14) ≡ true
              → Gives (Constant (signed_of ((s.cpu.pc + 4) % 2 ^ 32)))
              (slice_index (cond link (with_register s.cpu 14 (next_pc s.cpu)) s.cpu).registers r)
          at true link is w = absurd (no_pc (eqb-true r 15 is))
            where
              no_pc : r ≡ 15 → ⊥
              no_pc e = omega (arith, small, e)
          at false true is w =
              subst (λ (q : ℕ). Gives (Constant (signed_of ((s.cpu.pc + 4) % 2 ^ 32)))
              (slice_index (with_register s.cpu 14 (next_pc s.cpu)).registers q)) (sym (eqb-true r 14 w))
              (subst (IsCongruent (signed_of (next_pc s.cpu))) (sym (get_or-set_same s.cpu.registers 14 (next_pc s.cpu) 0 (omega
              (arith, words.all)))) (itself (next_pc s.cpu) (omega arith)))
          at false false is w = absurd (false≢true w)

      any_nothing : (image : ImageValue) (o : Op) (r : ℕ) → IfDone (effect image s o)
          (λ next. Gives Nothing (slice_index next.cpu.registers r))
      any_nothing image o r = if_any (effect image s o) _ (λ _. tt)

      -- LDM and STM
      abbrev pub BlockRow : ImageValue → Type 0
      BlockRow image = (this : BlockTransfer) (r : ℕ) → r < 15 → IsOp (op.Block this) → IsGuarded (op.Block this)
          → IfDone (effect image s (op.Block this))
          (λ next. Gives (written_source s.cpu.pc None offset (op.Block this) r) (slice_index next.cpu.registers r))

      -- each register that an instruction writes
      pub written_row : (image : ImageValue) → BlockRow image → (literal : Option ℕ) (o : Op) (r : ℕ) → IfSome literal (IsRead s o)
          → r < 15 → IsOp o → IsGuarded o → op_writes o r ≡ true
          → IfDone (effect image s o) (λ next. Gives (written_source s.cpu.pc literal offset o r) (slice_index next.cpu.registers r))
      written_row image blocks literal (op.Compute this) r read_it small fits guarded writes =
          let sum = computed this.opcode s.cpu.flags (operand_carry s.cpu this.operand) (read s.cpu this.rn)
          (operand_value s.cpu this.operand) in
          through s (settled (with_flags this.set_flags s.cpu sum) this.opcode this.rd sum)
          (Gives (compute_source s.cpu.pc this.opcode this.rn this.operand)) r
          (if_weaker (settled (with_flags this.set_flags s.cpu sum) this.opcode this.rd sum) _ _
          (λ next e. subst (Gives (compute_source s.cpu.pc this.opcode this.rn this.operand)) (sym e)
          (computed_gives this.opcode s.cpu.flags (operand_carry s.cpu this.operand) this.rn this.operand fits.2))
          (tested_gives (is_test this.opcode) (with_flags this.set_flags s.cpu sum) this.rd sum.value r writes small words.all))
      written_row image blocks literal (op.Multiply this) r read_it small fits guarded writes = any_nothing image (op.Multiply this) r
      written_row image blocks literal (op.MultiplyLong this) r read_it small fits guarded writes =
          any_nothing image (op.MultiplyLong this) r
      written_row image blocks literal (op.Word this) r read_it small fits guarded writes =
          transfer_row image (word_transfer this) (loaded_source literal (access_offset offset (word_transfer this)) this.byte this.rn) r
          small fits.2 (λ keeps. (guarded.0 keeps).0) (λ is. loads_word literal this r small is fits.2 read_it) this.load writes
      written_row image blocks literal (op.Half this) r read_it small fits guarded writes =
          transfer_row image (half_transfer this) Nothing r small fits.2 (λ keeps. (guarded.0 keeps).0)
          (λ is. if_any (loads s.cpu s.memory (half_transfer this)) _ (λ _. tt)) this.load writes
      written_row image blocks literal (op.Block this) r read_it small fits guarded writes = blocks this r small fits guarded
      written_row image blocks literal (op.Branch this) r read_it small fits guarded writes = link_row this.link r small writes
      written_row image blocks literal (op.Exchange this) r read_it small fits guarded writes = any_nothing image (op.Exchange this) r
