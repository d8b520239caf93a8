-- A done instruction writes no register but those that it names, and no memory unless it stores.
use Rattle.std.proofs.Common.{◌≡◌, ℕ, zero, suc, ◌+◌, ◌%◌, ◌&&◌, ◌||◌, not, Bool, true, false, cond, Option, Some, None, Result, Ok, Err}
use Rattle.std.proofs.Common.{List, [], ◌∷◌, eqb, slice_index, slice_set, refl, sym, ap, ◌∙◌}
use Rattle.std.proofs.lemmas.Bool.{eqb-false, ne_eqb, false≢true}
use Rattle.std.proofs.lemmas.List.{get_or-set_other}
use Rattle.std.specs.List.{AllByRecursion}
use Rattle.elf32_image.specs.Parts.{ImageValue}
use Rattle.arm_isa.specs.declared.instruction.Op.{Op}
use Rattle.arm_isa.specs.declared.instruction.Op.TheVariants as op
use Rattle.arm_isa.specs.declared.instruction.BlockTransfer.{BlockTransfer}
use Rattle.arm_isa.specs.declared.instruction.HalfTransfer.{HalfTransfer}
use Rattle.arm_isa.specs.declared.instruction.WordTransfer.{WordTransfer}
use Rattle.arm_isa.specs.Opcodes.{is_test}
use Rattle.arm_isa.specs.Writes.{is_listed, keeps_address, op_writes}
use Rattle.arm_cpu.specs.declared.cpu.Cpu.{Cpu}
use Rattle.arm_cpu.specs.declared.stops.Stop.{Stop}
use Rattle.arm_cpu.specs.declared.stops.Stop.TheVariants as stop
use Rattle.arm_cpu.specs.Registers.{advanced, and_then, jumped, read, with_register, written}
use Rattle.arm_cpu.specs.Shifts.{operand_carry, operand_value}
use Rattle.arm_cpu.specs.Sums.{computed, with_flags}
use Rattle.arm_machine.specs.declared.access.Size.TheVariants as size
use Rattle.arm_machine.specs.declared.transfers.Transfer.{Transfer}
use Rattle.arm_machine.specs.States.{Bytes, State}
use Rattle.arm_machine.specs.Access.{is_saved, loaded, stored}
use Rattle.arm_machine.specs.Transfers.{accessed, changed_base, extended, half_transfer, loads, rebased, stores, transfers, unless_stopped}
use Rattle.arm_machine.specs.Transfers.{with_cpu}
use Rattle.arm_machine.specs.Transfers.{word_transfer}
use Rattle.arm_machine.specs.Blocks.{block_base, block_stop, is_push_block, landed, listed_from, load_block, loads_many, lowest, next_word}
use Rattle.arm_machine.specs.Blocks.{placed}
use Rattle.arm_machine.specs.Blocks.{rebased_block, registers_of, stored_block, stores_many, transfers_many}
use Rattle.arm_machine.specs.Effects.{effect}
use Rattle.arm_machine.specs.Laws.{IfDone, KeepsOthers, Stays, is_store}

pub neither : (x y : Bool) → x || y ≡ false → (x ≡ false) × (y ≡ false)
neither true y off = absurd (false≢true (sym off))
neither false y off = (refl, off)

-- what goes on after a part that may stop
pub if_then : {A B : Type 0} (f : A → Result B Stop) (o : Result A Stop) (Q : A → Type 0) (P : B → Type 0) → IfDone o Q
    → ((a : A) → Q a → IfDone (f a) P) → IfDone (and_then f o) P
if_then f (Ok a) Q P h g = g a h
if_then f (Err stop) Q P h g = tt

pub if_any : {A : Type 0} (o : Result A Stop) (P : A → Type 0) → ((a : A) → P a) → IfDone o P
if_any (Ok a) P all = all a
if_any (Err stop) P all = tt

pub if_weaker : {A : Type 0} (o : Result A Stop) (P Q : A → Type 0) → ((a : A) → P a → Q a) → IfDone o P → IfDone o Q
if_weaker (Ok a) P Q turn h = turn a h
if_weaker (Err stop) P Q turn h = tt

pub if_test : {A : Type 0} (b : Bool) (x y : Result A Stop) (P : A → Type 0) → IfDone x P → IfDone y P → IfDone (cond b x y) P
if_test true x y P h g = h
if_test false x y P h g = g

-- one register that is written
pub others_of_one : (cpu : Cpu) (rd v : ℕ) → KeepsOthers (λ r. eqb r rd) cpu (with_register cpu rd v)
others_of_one cpu rd v r off = get_or-set_other cpu.registers rd r v 0 (eqb-false r rd off)

others_after : (writes more : ℕ → Bool) (cpu mid next : Cpu) → KeepsOthers writes cpu mid → KeepsOthers more mid next
    → KeepsOthers (λ r. more r || writes r) cpu next
others_after writes more cpu mid next first second r off = let both = neither (more r) (writes r) off in second r both.0 ∙ first r both.1

pub jumped_keeps : (cpu : Cpu) (v : ℕ) (writes : ℕ → Bool) → IfDone (jumped cpu v) (KeepsOthers writes cpu)
jumped_keeps cpu v writes = if_test (eqb (v % 4) 0) (Ok (record cpu { pc = v })) (Err stop.Leaves) _ (λ r off. refl) tt

pub written_keeps : (cpu : Cpu) (rd v : ℕ) → IfDone (written cpu rd v) (KeepsOthers (λ r. eqb r rd) cpu)
written_keeps cpu rd v =
    if_test (eqb rd 15) (jumped cpu v) (Ok (advanced (with_register cpu rd v))) _ (jumped_keeps cpu v _) (others_of_one cpu rd v)

-- the same, for what only changes the registers
by_cpu : (o : Op) (s : State) (outcome : Result Cpu Stop) → IfDone outcome (KeepsOthers (op_writes o) s.cpu)
    → IfDone (with_cpu s outcome) (Stays o s)
by_cpu o s (Ok cpu) h = record { registers = h; memory = λ _. refl; kept = λ _. refl; sets = refl }
by_cpu o s (Err stop) h = tt

tested_keeps : (test : Bool) (s cpu : Cpu) (rd v : ℕ) → KeepsOthers (λ _. false) s cpu
    → IfDone (cond {A = Result Cpu Stop} test (Ok (advanced cpu)) (written cpu rd v)) (KeepsOthers (λ r. not test && eqb r rd) s)
tested_keeps true s cpu rd v same = λ r off. same r refl
tested_keeps false s cpu rd v same =
    if_weaker (written cpu rd v) _ _ (λ next keeps r off. keeps r off ∙ same r refl) (written_keeps cpu rd v)

pub back_keeps : (back : Bool) (cpu : Cpu) (rn v : ℕ) → KeepsOthers (λ r. back && eqb r rn) cpu (cond back (with_register cpu rn v) cpu)
back_keeps true cpu rn v = others_of_one cpu rn v
back_keeps false cpu rn v = λ r off. refl

loads_keep : (cpu : Cpu) (m : Bytes) (this : Transfer)
    → IfDone (loads cpu m this) (KeepsOthers (λ r. eqb r this.rd || (keeps_address this.index && eqb r this.rn)) cpu)
loads_keep cpu m this =
    if_then _ (loaded m this.size (accessed cpu this)) (λ _. Unit {0}) _ (if_any (loaded m this.size (accessed cpu this)) _ (λ _. tt))
    (λ value _.
    if_weaker (written (rebased cpu this) this.rd (extended this.kind value)) _ _
    (λ next. others_after _ (λ r. eqb r this.rd) cpu (rebased cpu this) next
    (back_keeps (keeps_address this.index) cpu this.rn (changed_base cpu this)))
    (written_keeps (rebased cpu this) this.rd (extended this.kind value)))

stores_keep : (o : Op) (s : State) (stop : Option Stop) (next : State) → is_store o ≡ true → KeepsOthers (op_writes o) s.cpu next.cpu
    → next.sets ≡ s.sets → IfDone (unless_stopped stop next) (Stays o s)
stores_keep o s None next store registers sets = record {
  registers = registers;
  memory = λ calm. absurd (false≢true (sym calm ∙ store));
  kept = λ calm. absurd (false≢true (sym calm ∙ store));
  sets = sets;
}
stores_keep o s (Some stop) next store registers sets = tt

-- all of these stand in the list
abbrev pub AreListed : ℕ → List ℕ → Type 0
AreListed list rs = AllByRecursion (λ r. is_listed list r ≡ true) rs

listed_ahead : (list r : ℕ) (rs : List ℕ) → AreListed list rs → AreListed list (cond (is_listed list r) (r ∷ rs) rs)
listed_ahead list r rs all = put (is_listed list r) refl
  where
    put : (b : Bool) → is_listed list r ≡ b → AreListed list (cond b (r ∷ rs) rs)
    put true on = (on, all)
    put false off = all

all_listed : (list r n : ℕ) → AreListed list (listed_from list r n)
all_listed list r zero = tt
all_listed list r (suc n) = listed_ahead list r (listed_from list (r + 1) n) (all_listed list (r + 1) n)

pub registers_listed : (list : ℕ) → AreListed list (registers_of list)
unfolding registers_of
registers_listed list = all_listed list 0 16

placed_keeps : (cpu : Cpu) (q v r : ℕ) → eqb r q ≡ false → slice_index (placed cpu q v).registers r ≡ slice_index cpu.registers r
placed_keeps cpu q v r off =
    elim (eqb q 15) as (λ (b : Bool). slice_index (cond b (record cpu { pc = v }) (with_register cpu q v)).registers r
    ≡ slice_index cpu.registers r) [
      | true ↦ refl
      | false ↦ others_of_one cpu q v r off
    ]

not_in : (list r q : ℕ) → is_listed list r ≡ false → is_listed list q ≡ true → eqb r q ≡ false
not_in list r q off on = ne_eqb r q (λ e. false≢true (sym off ∙ ap (is_listed list) e ∙ on))

block_keeps : (m : Bytes) (list a : ℕ) (rs : List ℕ) (cpu : Cpu) → AreListed list rs → IfDone (load_block m a rs cpu)
    (KeepsOthers (is_listed list) cpu)
block_keeps m list a [] cpu all = λ r off. refl
block_keeps m list a (q ∷ rs) cpu all =
    if_then _ (loaded m size.Word a) (λ _. Unit {0}) _ (if_any (loaded m size.Word a) _ (λ _. tt)) (λ value _.
    if_weaker (load_block m (next_word a) rs (placed cpu q value)) _ _
    (λ next keeps r off. keeps r off ∙ placed_keeps cpu q value r (not_in list r q off all.0))
    (block_keeps m list (next_word a) rs (placed cpu q value) all.1))

landed_keeps : (list : ℕ) (cpu next : Cpu) (writes : ℕ → Bool) → KeepsOthers writes cpu next → IfDone (landed list next)
    (KeepsOthers writes cpu)
landed_keeps list cpu next writes h = if_test (is_listed list 15 && not (eqb (next.pc % 4) 0)) (Err stop.Leaves) (Ok next) _ tt h

loads_many_keep : (cpu : Cpu) (m : Bytes) (this : BlockTransfer)
    → IfDone (loads_many cpu m this) (KeepsOthers (λ r. is_listed this.list r || (this.write_back && eqb r this.rn)) cpu)
loads_many_keep cpu m this =
    let based = advanced (rebased_block cpu this) in
    if_then (landed this.list) (load_block m (lowest cpu this) (registers_of this.list) based) (KeepsOthers (is_listed this.list) based) _
    (block_keeps m this.list (lowest cpu this) (registers_of this.list) based (registers_listed this.list))
    (λ next keeps.
    landed_keeps this.list cpu next _
    (others_after _ (is_listed this.list) cpu based next (back_keeps this.write_back cpu this.rn (block_base cpu this)) keeps))

block_cache : (cpu : Cpu) (s : State) (base a : ℕ) (saves : Bool) (rs : List ℕ) → (stored_block cpu s base a saves rs).sets ≡ s.sets
block_cache cpu s base a saves [] = refl
block_cache cpu s base a saves (r ∷ rs) = block_cache cpu (stored s base size.Word a (read cpu r) (saves && is_saved r)) base
    (next_word a) saves rs

linked_keeps : (link : Bool) (cpu : Cpu) (v : ℕ) → KeepsOthers (λ r. eqb r 15 || (link && eqb r 14)) cpu
    (cond link (with_register cpu 14 v) cpu)
linked_keeps true cpu v r off = others_of_one cpu 14 v r (neither (eqb r 15) (eqb r 14) off).1
linked_keeps false cpu v r off = refl

two_keep : (xs : List ℕ) (hi lo v w r : ℕ) → eqb r hi || eqb r lo ≡ false → slice_index (slice_set (slice_set xs hi v) lo w) r
    ≡ slice_index xs r
two_keep xs hi lo v w r off =
    let both = neither (eqb r hi) (eqb r lo) off in
    get_or-set_other (slice_set xs hi v) lo r w 0 (eqb-false r lo both.1) ∙ get_or-set_other xs hi r v 0 (eqb-false r hi both.0)

module _ (image : ImageValue) (s : State) where
  -- a load or store of one number, for an instruction that names the same registers
  one_keeps : (o : Op) (this : Transfer) → is_store o ≡ not this.load
      → ((r : ℕ) → op_writes o r ≡ ((this.load && eqb r this.rd) || (keeps_address this.index && eqb r this.rn)))
      → IfDone (transfers image s this) (Stays o s)
  one_keeps o this store names = by_load this.load store names
    where
      by_load : (load : Bool) → is_store o ≡ not load
          → ((r : ℕ) → op_writes o r ≡ ((load && eqb r this.rd) || (keeps_address this.index && eqb r this.rn)))
          → IfDone (cond load (with_cpu s (loads s.cpu s.memory this)) (stores image s this)) (Stays o s)
      by_load true store names =
          by_cpu o s (loads s.cpu s.memory this)
          (if_weaker (loads s.cpu s.memory this) _ _ (λ next keeps r off. keeps r (sym (names r) ∙ off)) (loads_keep s.cpu s.memory this))
      by_load false store names =
          stores_keep o s _ _ store (λ r off. back_keeps (keeps_address this.index) s.cpu this.rn (changed_base s.cpu this) r
          (sym (names r) ∙ off)) refl

  many_keeps : (this : BlockTransfer) (o : Op) → is_store o ≡ not this.load
      → ((r : ℕ) → op_writes o r ≡ ((this.load && is_listed this.list r) || (this.write_back && eqb r this.rn)))
      → IfDone (transfers_many image s this) (Stays o s)
  many_keeps this o store names = by_load this.load store names
    where
      by_load : (load : Bool) → is_store o ≡ not load
          → ((r : ℕ) → op_writes o r ≡ ((load && is_listed this.list r) || (this.write_back && eqb r this.rn)))
          → IfDone (cond load (with_cpu s (loads_many s.cpu s.memory this)) (stores_many image s this)) (Stays o s)
      by_load true store names =
          by_cpu o s (loads_many s.cpu s.memory this)
          (if_weaker (loads_many s.cpu s.memory this) _ _ (λ next keeps r off. keeps r (sym (names r) ∙ off))
          (loads_many_keep s.cpu s.memory this))
      by_load false store names =
          stores_keep o s _ _ store (λ r off. back_keeps this.write_back s.cpu this.rn (block_base s.cpu this) r (sym (names r) ∙ off))
          (block_cache s.cpu s this.rn (lowest s.cpu this) (is_push_block this) (registers_of this.list))

  -- a done instruction keeps what it doesn't name
  pub stays : (o : Op) → IfDone (effect image s o) (Stays o s)
  stays (op.Compute this) =
      let sum = computed this.opcode s.cpu.flags (operand_carry s.cpu this.operand) (read s.cpu this.rn)
      (operand_value s.cpu this.operand) in
      by_cpu _ s _ (tested_keeps (is_test this.opcode) s.cpu (with_flags this.set_flags s.cpu sum) this.rd sum.value (λ r off. refl))
  stays (op.Multiply this) = record { registers = others_of_one s.cpu this.rd _; memory = λ _. refl; kept = λ _. refl; sets = refl }
  stays (op.MultiplyLong this) = record {
    registers = two_keep s.cpu.registers this.rd_hi this.rd_lo _ _;
    memory = λ _. refl;
    kept = λ _. refl;
    sets = refl;
  }
  stays (op.Word this) = one_keeps (op.Word this) (word_transfer this) refl (λ r. refl)
  stays (op.Half this) = one_keeps (op.Half this) (half_transfer this) refl (λ r. refl)
  stays (op.Block this) = many_keeps this (op.Block this) refl (λ r. refl)
  stays (op.Branch this) = record { registers = linked_keeps this.link s.cpu _; memory = λ _. refl; kept = λ _. refl; sets = refl }
  stays (op.Exchange this) = by_cpu _ s _ (jumped_keeps s.cpu (read s.cpu this.rm) _)
