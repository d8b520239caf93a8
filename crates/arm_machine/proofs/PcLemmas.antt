-- After an instruction that doesn't write r15 the next one follows; B and BL go to their target.
use Rattle.std.proofs.Common.{◌≡◌, ℕ, ◌%◌, ◌&&◌, ◌||◌, not, Bool, true, false, cond, Option, Some, None, Result, Ok, Err, List, [], ◌∷◌}
use Rattle.std.proofs.Common.{eqb}
use Rattle.std.proofs.Common.{refl, sym, ap, ◌∙◌, subst}
use Rattle.std.proofs.lemmas.Bool.{eqb-true, eq-eqb, ne_eqb, false≢true}
use Rattle.elf32_image.specs.Parts.{ImageValue}
use Rattle.arm_isa.specs.declared.instruction.Op.{Op}
use Rattle.arm_isa.specs.declared.instruction.Op.TheVariants as op
use Rattle.arm_isa.specs.declared.instruction.BlockTransfer.{BlockTransfer}
use Rattle.arm_isa.specs.declared.instruction.HalfTransfer.{HalfTransfer}
use Rattle.arm_isa.specs.declared.instruction.WordTransfer.{WordTransfer}
use Rattle.arm_isa.specs.Opcodes.{is_test}
use Rattle.arm_isa.specs.Writes.{is_listed, keeps_address, op_writes}
use Rattle.arm_cpu.specs.declared.cpu.Cpu.{Cpu}
use Rattle.arm_cpu.specs.declared.stops.Stop.{Stop}
use Rattle.arm_cpu.specs.declared.stops.Stop.TheVariants as stop
use Rattle.arm_cpu.specs.Registers.{advanced, jumped, next_pc, read, with_register, written}
use Rattle.arm_cpu.specs.Shifts.{operand_carry, operand_value}
use Rattle.arm_cpu.specs.Sums.{computed, with_flags}
use Rattle.arm_machine.specs.declared.access.Size.TheVariants as size
use Rattle.arm_machine.specs.declared.transfers.Transfer.{Transfer}
use Rattle.arm_machine.specs.States.{Bytes, State}
use Rattle.arm_machine.specs.Access.{loaded, store_stop}
use Rattle.arm_machine.specs.Transfers.{accessed, changed_base, extended, half_transfer, loads, rebased, stores, transfers, unless_stopped}
use Rattle.arm_machine.specs.Transfers.{with_cpu}
use Rattle.arm_machine.specs.Transfers.{word_transfer}
use Rattle.arm_machine.specs.Blocks.{block_base, block_stop, landed, load_block, loads_many, lowest, next_word, placed, rebased_block}
use Rattle.arm_machine.specs.Blocks.{registers_of}
use Rattle.arm_machine.specs.Blocks.{stores_many, transfers_many}
use Rattle.arm_machine.specs.Effects.{effect}
use Rattle.arm_machine.specs.Laws.{IfDone}
use Rattle.arm_machine.proofs.StayLemmas.{AreListed, if_any, if_test, if_then, if_weaker, neither, registers_listed}
use Rattle.control_flow.specs.Points.{Jump, jump_of, target}

abbrev GoesOn : Bool → Cpu → Cpu → Type 0
GoesOn jumps cpu next = jumps ≡ false → next.pc ≡ next_pc cpu

-- where a store doesn't stop
pub stopped : (o : Option Stop) (next : State) (P : State → Type 0) → (o ≡ None → P next) → IfDone (unless_stopped o next) P
stopped None next P h = h refl
stopped (Some why) next P h = tt

written_on : (cpu : Cpu) (rd v : ℕ) → IfDone (written cpu rd v) (GoesOn (eqb 15 rd) cpu)
written_on cpu rd v = at (eqb rd 15) refl
  where
    at : (b : Bool) → eqb rd 15 ≡ b
        → IfDone (cond {A = Result Cpu Stop} b (jumped cpu v) (Ok (advanced (with_register cpu rd v)))) (GoesOn (eqb 15 rd) cpu)
    at true is = if_any (jumped cpu v) _ (λ next off. absurd (false≢true (sym off ∙ eq-eqb 15 rd (sym (eqb-true rd 15 is)))))
    at false is = λ off. refl

by_pc : (s : State) (outcome : Result Cpu Stop) (jumps : Bool) → IfDone outcome (GoesOn jumps s.cpu)
    → IfDone (with_cpu s outcome) (λ next. GoesOn jumps s.cpu next.cpu)
by_pc s (Ok cpu) jumps h = h
by_pc s (Err why) jumps h = tt

tested_on : (test : Bool) (cpu : Cpu) (rd v : ℕ)
    → IfDone (cond {A = Result Cpu Stop} test (Ok (advanced cpu)) (written cpu rd v)) (GoesOn (not test && eqb 15 rd) cpu)
tested_on true cpu rd v = λ off. refl
tested_on false cpu rd v = written_on cpu rd v

back_pc : (back : Bool) (cpu : Cpu) (rn v : ℕ) → next_pc (cond back (with_register cpu rn v) cpu) ≡ next_pc cpu
back_pc true cpu rn v = refl
back_pc false cpu rn v = refl

loads_on : (cpu : Cpu) (m : Bytes) (this : Transfer) (more : Bool) → IfDone (loads cpu m this) (GoesOn (eqb 15 this.rd || more) cpu)
loads_on cpu m this more =
    if_then _ (loaded m this.size (accessed cpu this)) (λ _. Unit {0}) _ (if_any (loaded m this.size (accessed cpu this)) _ (λ _. tt))
    (λ v _.
    if_weaker (written (rebased cpu this) this.rd (extended this.kind v)) _ _
    (λ next on off. on (neither (eqb 15 this.rd) more off).0 ∙ back_pc (keeps_address this.index) cpu this.rn (changed_base cpu this))
    (written_on (rebased cpu this) this.rd (extended this.kind v)))

placed_on : (cpu : Cpu) (q v : ℕ) → eqb q 15 ≡ false → (placed cpu q v).pc ≡ cpu.pc
placed_on cpu q v off = subst (λ (b : Bool). (cond b (record cpu { pc = v }) (with_register cpu q v)).pc ≡ cpu.pc) (sym off) refl

block_on : (m : Bytes) (list a : ℕ) (rs : List ℕ) (cpu : Cpu) → AreListed list rs
    → IfDone (load_block m a rs cpu) (λ next. is_listed list 15 ≡ false → next.pc ≡ cpu.pc)
block_on m list a [] cpu all = λ off. refl
block_on m list a (q ∷ rs) cpu all =
    if_then _ (loaded m size.Word a) (λ _. Unit {0}) _ (if_any (loaded m size.Word a) _ (λ _. tt)) (λ value _.
    if_weaker (load_block m (next_word a) rs (placed cpu q value)) _ _
    (λ next on off. on off ∙ placed_on cpu q value (ne_eqb q 15 (λ e. false≢true (sym off ∙ ap (is_listed list) (sym e) ∙ all.0))))
    (block_on m list (next_word a) rs (placed cpu q value) all.1))

loads_many_on : (cpu : Cpu) (m : Bytes) (this : BlockTransfer) (more : Bool)
    → IfDone (loads_many cpu m this) (GoesOn (is_listed this.list 15 || more) cpu)
loads_many_on cpu m this more =
    let based = advanced (rebased_block cpu this) in
    if_then (landed this.list) (load_block m (lowest cpu this) (registers_of this.list) based)
    (λ next. is_listed this.list 15 ≡ false → next.pc ≡ based.pc) _
    (block_on m this.list (lowest cpu this) (registers_of this.list) based (registers_listed this.list))
    (λ next on. if_test (is_listed this.list 15 && not (eqb (next.pc % 4) 0)) (Err stop.Leaves) (Ok next) _ tt
    (λ off. on (neither (is_listed this.list 15) more off).0 ∙ back_pc this.write_back cpu this.rn (block_base cpu this)))

module _ (image : ImageValue) (s : State) where
  one_on : (this : Transfer)
      → IfDone (transfers image s this) (λ next. GoesOn ((this.load && eqb 15 this.rd) ||
      (keeps_address this.index && eqb 15 this.rn)) s.cpu next.cpu)
  one_on this = by_load this.load
    where
      by_load : (load : Bool)
          → IfDone (cond load (with_cpu s (loads s.cpu s.memory this)) (stores image s this))
          (λ next. GoesOn ((load && eqb 15 this.rd) || (keeps_address this.index && eqb 15 this.rn)) s.cpu next.cpu)
      by_load true = by_pc s _ _ (loads_on s.cpu s.memory this (keeps_address this.index && eqb 15 this.rn))
      by_load false =
          stopped (store_stop image s.memory s.kept this.rn this.size (accessed s.cpu this)) _
          (λ next. GoesOn (keeps_address this.index && eqb 15 this.rn) s.cpu next.cpu)
          (λ none off. back_pc (keeps_address this.index) s.cpu this.rn (changed_base s.cpu this))

  many_on : (this : BlockTransfer)
      → IfDone (transfers_many image s this)
      (λ next. GoesOn ((this.load && is_listed this.list 15) || (this.write_back && eqb 15 this.rn)) s.cpu next.cpu)
  many_on this = by_load this.load
    where
      by_load : (load : Bool)
          → IfDone (cond load (with_cpu s (loads_many s.cpu s.memory this)) (stores_many image s this))
          (λ next. GoesOn ((load && is_listed this.list 15) || (this.write_back && eqb 15 this.rn)) s.cpu next.cpu)
      by_load true = by_pc s _ _ (loads_many_on s.cpu s.memory this (this.write_back && eqb 15 this.rn))
      by_load false =
          stopped (block_stop image s.memory s.kept this.rn (lowest s.cpu this) (registers_of this.list)) _
          (λ next. GoesOn (this.write_back && eqb 15 this.rn) s.cpu next.cpu)
          (λ none off. back_pc this.write_back s.cpu this.rn (block_base s.cpu this))

  -- after an instruction that doesn't write r15 the next one follows
  pub goes_on : (o : Op) → IfDone (effect image s o) (λ next. op_writes o 15 ≡ false → next.cpu.pc ≡ next_pc s.cpu)
  goes_on (op.Compute this) =
      let sum = computed this.opcode s.cpu.flags (operand_carry s.cpu this.operand) (read s.cpu this.rn)
      (operand_value s.cpu this.operand) in
      by_pc s _ _ (tested_on (is_test this.opcode) (with_flags this.set_flags s.cpu sum) this.rd sum.value)
  goes_on (op.Multiply this) = λ off. refl
  goes_on (op.MultiplyLong this) = λ off. refl
  goes_on (op.Word this) = one_on (word_transfer this)
  goes_on (op.Half this) = one_on (half_transfer this)
  goes_on (op.Block this) = many_on this
  goes_on (op.Branch this) = λ off. absurd (false≢true (sym off))
  goes_on (op.Exchange this) = if_any (effect image s (op.Exchange this)) _ (λ next off. absurd (false≢true (sym off)))

  some_none : {A : Type 0} (a : A) → ◌≡◌ {A = Option A} None (Some a) → ⊥
  some_none a h = cc

  some_same : {A : Type 0} (a b : A) → ◌≡◌ {A = Option A} (Some a) (Some b) → a ≡ b
  some_same a b h = cc

  -- B and BL go to their target
  pub jumps_to : (o : Op) (jump : Jump) → jump_of o ≡ Some jump
      → IfDone (effect image s o) (λ next. next.cpu.pc ≡ target s.cpu.pc jump.words)
  jumps_to (op.Compute this) jump is = absurd (some_none jump is)
  jumps_to (op.Multiply this) jump is = absurd (some_none jump is)
  jumps_to (op.MultiplyLong this) jump is = absurd (some_none jump is)
  jumps_to (op.Word this) jump is = absurd (some_none jump is)
  jumps_to (op.Half this) jump is = absurd (some_none jump is)
  jumps_to (op.Block this) jump is = absurd (some_none jump is)
  jumps_to (op.Branch this) jump is =
      ap (λ (j : Jump). target s.cpu.pc j.words) (some_same (record { link = this.link; words = this.words }) jump is)
  jumps_to (op.Exchange this) jump is = absurd (some_none jump is)
