-- What a return brings to pc has a source like a register, and a return whose fact is the wanted one goes where it must.
use Rattle.std.proofs.Common.{◌≡◌, ℕ, ℤ, ◌+◌, ◌%◌, ◌^◌, ◌<◌, ◌≤◌, ◌&&◌, not, Bool, true, false, cond, Option, Some, None}
use Rattle.std.proofs.Common.{IfSome, Ok, Err, List, [], ◌∷◌, eqb, slice_index, refl, sym, ap, ◌∙◌, subst}
use Rattle.std.specs.Prelude.{count_ones}
use Rattle.std.specs.Int.{int_wrap, w32}
use Rattle.std.proofs.lemmas.Bool.{eqb-true, eq-eqb, ne_eqb, eqb-false, false≢true}
use Rattle.std.proofs.Math.IntN.{+ℤ_idl, +ℤ_idr}
use Rattle.elf32_image.specs.Parts.{ImageValue}
use Rattle.arm_isa.specs.declared.instruction.BlockTransfer.{BlockTransfer}
use Rattle.arm_isa.specs.declared.instruction.WordTransfer.{WordTransfer}
use Rattle.arm_isa.specs.declared.instruction.Op.{Op}
use Rattle.arm_isa.specs.declared.instruction.Op.TheVariants as op
use Rattle.arm_isa.specs.Guarantees.{IsGuarded}
use Rattle.arm_isa.specs.Opcodes.{is_plain_move}
use Rattle.arm_isa.specs.Ranges.{IsOffset, IsOp}
use Rattle.arm_isa.specs.Writes.{is_after, is_link_register, is_listed, is_one_word, op_returns}
use Rattle.control_flow.specs.Ways.{return_place}
use Rattle.arm_cpu.specs.declared.cpu.Cpu.{Cpu}
use Rattle.arm_cpu.specs.declared.stops.Stop.TheVariants as stop
use Rattle.arm_cpu.specs.Registers.{advanced, jumped, read, signed_of, with_register, written}
use Rattle.arm_cpu.specs.Shifts.{operand_carry, operand_value}
use Rattle.arm_cpu.specs.Sums.{computed, settled, with_flags}
use Rattle.arm_machine.specs.declared.access.Size.TheVariants as size
use Rattle.arm_machine.specs.States.{State}
use Rattle.arm_machine.specs.Access.{loaded, number_at}
use Rattle.arm_machine.specs.Blocks.{landed, load_block, loads_many, lowest, next_word, placed, rebased_block, registers_of, stores_many}
use Rattle.arm_machine.specs.Transfers.{accessed, loads, rebased, stores, with_cpu, word_size, word_transfer}
use Rattle.arm_machine.specs.Effects.{effect}
use Rattle.arm_machine.specs.Laws.{IfDone}
use Rattle.arm_machine.specs.Orderly.{AreWords, IsOrderly}
use Rattle.arm_machine.proofs.ReturnLemmas.{both, is_false, jumped_pc, link_value, moved_pc, through_pc, written_pc}
use Rattle.arm_machine.proofs.OrderLemmas.{loaded_is, stays_orderly}
use Rattle.arm_machine.proofs.StayLemmas.{if_test, if_then, if_weaker}
use Rattle.path_facts.specs.Facts.{Fact, Facts, IsTrueOf, Says, Source, offset_of}
use Rattle.path_facts.specs.Facts.Location.{Register}
use Rattle.path_facts.specs.Facts.Source.{Nothing, Copy}
use Rattle.path_facts.specs.Histories.{FactsHold, HasStack, returned_fact, wanted_fact}
use Rattle.path_facts.specs.Routes.{IsAt}
use Rattle.path_facts.specs.Sources.{access_offset, block_offset, load_source, loads_source, next_offset, return_source}
use Rattle.path_facts.proofs.BlockLemmas.{lowest_is, next_at}
use Rattle.path_facts.proofs.FactLemmas.{says_true}
use Rattle.path_facts.proofs.NumberLemmas.{itself, same_word}
use Rattle.path_facts.proofs.RegisterLemmas.{IsOffsetOfSp, access_is, load_gives}
use Rattle.path_facts.proofs.StepLemmas.{both_done, offset_is}

module _ (sp : ℕ) (s : State) (before : ℕ → Bool) (words : AreWords s.cpu) (sp_word : sp < 2 ^ 32) (offset : Option ℤ)
    (known : IsOffsetOfSp sp s before words offset) where
  abbrev Gives : Source → ℕ → Type 0
  Gives source n = Says sp s before source (Some n)

  -- LDR r15,[r13],#4
  load_pc : (this : WordTransfer) → this.byte ≡ false → eqb this.rn 13 ≡ true → eqb this.rd 15 ≡ true → IsOffset this.offset
      → IfDone (loads s.cpu s.memory (word_transfer this))
      (λ next. Gives (load_source (access_offset offset (word_transfer this))) next.pc)
  load_pc this word base jumps fits =
      if_then _ (loaded s.memory (word_size this.byte) (accessed s.cpu (word_transfer this))) _ _
      (loaded_is s.memory (word_size this.byte) (accessed s.cpu (word_transfer this))) (λ v there.
      if_weaker (written (rebased s.cpu (word_transfer this)) this.rd v) _ _ (λ next e.
      subst (Gives (load_source (access_offset offset (word_transfer this)))) (sym e)
      (load_gives sp s before words sp_word (access_offset offset (word_transfer this)) (accessed s.cpu (word_transfer this)) v
      (access_is sp s before words sp_word offset (word_transfer this) (eqb-true this.rn 13 base) fits known)
      (subst (λ (b : Bool). number_at s.memory (word_size b) (accessed s.cpu (word_transfer this)) ≡ Some v) word there)))
      (written_pc (rebased s.cpu (word_transfer this)) this.rd v jumps))

  -- LDM with r15
  placed_pc : (cpu : Cpu) (q v a : ℕ) (at : Option ℕ) (old : Source) → IfSome at (λ e. a ≡ (sp + e) % 2 ^ 32)
      → number_at s.memory size.Word a ≡ Some v → Gives old cpu.pc → Gives (cond (eqb 15 q) (load_source at) old) (placed cpu q v).pc
  placed_pc cpu q v a at old there value h = by_same (eqb 15 q) refl
    where
      by_same : (b : Bool) → eqb 15 q ≡ b → Gives (cond b (load_source at) old) (placed cpu q v).pc
      by_same true is =
          subst (λ (b : Bool). Gives (load_source at) (cond b (record cpu { pc = v }) (with_register cpu q v)).pc)
          (sym (eq-eqb q 15 (sym (eqb-true 15 q is)))) (load_gives sp s before words sp_word at a v there value)
      by_same false isnt =
          subst (λ (b : Bool). Gives old (cond b (record cpu { pc = v }) (with_register cpu q v)).pc)
          (sym (ne_eqb q 15 (λ e. eqb-false 15 q isnt (sym e)))) h

  block_pc : (rs : List ℕ) (a : ℕ) (cpu : Cpu) (at : Option ℕ) (old : Source) → IfSome at (λ e. a ≡ (sp + e) % 2 ^ 32)
      → Gives old cpu.pc → IfDone (load_block s.memory a rs cpu) (λ next. Gives (loads_source at rs 15 old) next.pc)
  block_pc [] a cpu at old there h = h
  block_pc (q ∷ rs) a cpu at old there h =
      if_then _ (loaded s.memory size.Word a) _ _ (loaded_is s.memory size.Word a) (λ v value.
      block_pc rs (next_word a) (placed cpu q v) (next_offset at) (cond (eqb 15 q) (load_source at) old) (next_at sp a at there)
      (placed_pc cpu q v a at old there value h))

  loads_pc : (this : BlockTransfer) → eqb this.rn 13 ≡ true → count_ones this.list ≤ 16
      → IfDone (loads_many s.cpu s.memory this)
      (λ next. Gives (loads_source (block_offset offset this) (registers_of this.list) 15 Nothing) next.pc)
  loads_pc this base few =
      if_then (landed this.list) (load_block s.memory (lowest s.cpu this) (registers_of this.list) (advanced (rebased_block s.cpu this)))
      (λ next. Gives (loads_source (block_offset offset this) (registers_of this.list) 15 Nothing) next.pc) _
      (block_pc (registers_of this.list) (lowest s.cpu this) (advanced (rebased_block s.cpu this)) (block_offset offset this) Nothing
      (lowest_is sp s before words sp_word offset this (eqb-true this.rn 13 base) few known) tt)
      (λ next h. if_test (is_listed this.list 15 && not (eqb (next.pc % 4) 0)) (Err stop.Leaves) (Ok next) _ tt h)

  -- each instruction that returns
  pub return_row : (image : ImageValue) (o : Op) → IsOp o → IsGuarded o → op_returns o ≡ true
      → IfDone (effect image s o) (λ next. Gives (return_source offset o) next.cpu.pc)
  return_row image (op.Compute this) fits guarded form =
      let a = both ((is_plain_move this.opcode && not this.set_flags) && eqb this.rd 15) (is_link_register this.operand) form in
      let b = both (is_plain_move this.opcode && not this.set_flags) (eqb this.rd 15) a.0 in
      let c = both (is_plain_move this.opcode) (not this.set_flags) b.0 in
      let v = operand_value s.cpu this.operand in
      let sum = computed this.opcode s.cpu.flags (operand_carry s.cpu this.operand) (read s.cpu this.rn) v in
      through_pc s (settled (with_flags this.set_flags s.cpu sum) this.opcode this.rd sum) (Gives (Copy (Register 14)))
      (if_weaker (settled (with_flags this.set_flags s.cpu sum) this.opcode this.rd sum) _ _
      (λ next e. ap (λ (n : ℕ). Some n) (e ∙ link_value s this.operand words.each a.1))
      (moved_pc s.cpu this.opcode s.cpu.flags this.set_flags (operand_carry s.cpu this.operand) this.rd (read s.cpu this.rn) v c.0 b.1))
  return_row image (op.Multiply this) fits guarded form = absurd (false≢true form)
  return_row image (op.MultiplyLong this) fits guarded form = absurd (false≢true form)
  return_row image (op.Word this) fits guarded form =
      let a = both (this.load && not this.byte && is_after this.index && this.up && eqb this.rn 13 && eqb this.rd 15)
      (is_one_word this.offset) form in
      let b = both (this.load && not this.byte && is_after this.index && this.up && eqb this.rn 13) (eqb this.rd 15) a.0 in
      let c = both (this.load && not this.byte && is_after this.index && this.up) (eqb this.rn 13) b.0 in
      let d = both (this.load && not this.byte && is_after this.index) this.up c.0 in
      let e = both (this.load && not this.byte) (is_after this.index) d.0 in
      let f = both this.load (not this.byte) e.0 in
      by_load this.load f.0 (is_false this.byte f.1) c.1 b.1
    where
      by_load : (load : Bool) → load ≡ true → this.byte ≡ false → eqb this.rn 13 ≡ true → eqb this.rd 15 ≡ true
          → IfDone (cond load (with_cpu s (loads s.cpu s.memory (word_transfer this))) (stores image s (word_transfer this)))
          (λ next. Gives (load_source (access_offset offset (word_transfer this))) next.cpu.pc)
      by_load true on word base jumps =
          through_pc s (loads s.cpu s.memory (word_transfer this)) (Gives (load_source (access_offset offset (word_transfer this))))
          (load_pc this word base jumps fits.2)
      by_load false on word base jumps = absurd (false≢true on)
  return_row image (op.Half this) fits guarded form = absurd (false≢true form)
  return_row image (op.Block this) fits guarded form =
      let a = both (this.load && not this.before && this.up && this.write_back && eqb this.rn 13) (is_listed this.list 15) form in
      let b = both (this.load && not this.before && this.up && this.write_back) (eqb this.rn 13) a.0 in
      let c = both (this.load && not this.before && this.up) this.write_back b.0 in
      let d = both (this.load && not this.before) this.up c.0 in
      let e = both this.load (not this.before) d.0 in
      by_load this.load e.0 b.1
    where
      by_load : (load : Bool) → load ≡ true → eqb this.rn 13 ≡ true
          → IfDone (cond load (with_cpu s (loads_many s.cpu s.memory this)) (stores_many image s this))
          (λ next. Gives (loads_source (block_offset offset this) (registers_of this.list) 15 Nothing) next.cpu.pc)
      by_load true on base =
          through_pc s (loads_many s.cpu s.memory this)
          (Gives (loads_source (block_offset offset this) (registers_of this.list) 15 Nothing)) (loads_pc this base guarded.2)
      by_load false on base = absurd (false≢true on)
  return_row image (op.Branch this) fits guarded form = absurd (false≢true form)
  return_row image (op.Exchange this) fits guarded form =
      through_pc s (jumped s.cpu (read s.cpu this.rm)) (Gives (Copy (Register 14)))
      (if_weaker (jumped s.cpu (read s.cpu this.rm)) _ _
      (λ next e. ap (λ (n : ℕ). Some n) (e ∙ ap (read s.cpu) (eqb-true this.rm 14 form))) (jumped_pc s.cpu (read s.cpu this.rm)))

-- where the wanted fact is true of pc, pc is where the return leads
goes_to : (start : List ℕ) (last : Option ℕ) (returns : List ℕ) (pc : ℕ) → slice_index start 14 < 2 ^ 32 → pc < 2 ^ 32
    → IfSome last (λ r. r < 2 ^ 32) → IsTrueOf start (Some (wanted_fact last)) (Some pc)
    → IsAt (slice_index start 14) (return_place last returns) pc
goes_to start None returns pc home small last is =
    same_word pc (slice_index start 14) small home (is ∙ ap (int_wrap w32) (+ℤ_idr (signed_of (slice_index start 14)))
    ∙ sym (itself (slice_index start 14) home))
goes_to start (Some r) returns pc home small last is =
    same_word pc r small last (is ∙ ap (int_wrap w32) (+ℤ_idl (signed_of r)) ∙ sym (itself r last))

module _ (start : List ℕ) (stack : ℕ) (has : HasStack start stack) (home : slice_index start 14 < 2 ^ 32) where
  pub returns_home : (image : ImageValue) (f : Facts) (s : State) (o : Op) (last : Option ℕ) (returns : List ℕ) → IsOp o → IsGuarded o
      → op_returns o ≡ true → FactsHold start f s → IfSome last (λ r. r < 2 ^ 32) → returned_fact f o ≡ Some (wanted_fact last)
      → IfDone (effect image s o) (λ next. IsAt (slice_index start 14) (return_place last returns) next.cpu.pc)
  returns_home image f s o last returns fits guarded form h small wanted =
      if_weaker (effect image s o) _ _ (λ next m.
      goes_to start last returns next.cpu.pc home m.1.words.pc small
      (subst (λ (fact : Option Fact). IsTrueOf start fact (Some next.cpu.pc)) wanted
      (says_true start (slice_index start 13) s f (return_source (offset_of f) o) (Some next.cpu.pc) h.values m.0)))
      (both_done (effect image s o) _ IsOrderly
      (return_row (slice_index start 13) s f.marked h.orderly.words has.word (offset_of f)
      (offset_is start (f.fact (Register 13)) (slice_index s.cpu.registers 13) (h.values (Register 13))) image o fits guarded form)
      (stays_orderly image s h.orderly o fits))
