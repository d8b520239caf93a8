-- What an instruction that returns brings to pc.
use Rattle.std.proofs.Common.{◌≡◌, ℕ, zero, suc, ◌+◌, ◌-◌, ◌*◌, ◌%◌, ◌^◌, ◌<◌, ◌&&◌, not, Bool, true, false, cond, Option, Some, None}
use Rattle.std.proofs.Common.{Result, Ok, Err, List, [], ◌∷◌, ◌++◌, length, eqb, slice_index, refl, sym, ap, ◌∙◌, subst, arith}
use Rattle.std.proofs.lemmas.Bool.{eqb-true, false≢true}
use Rattle.std.proofs.lemmas.List.{length-append}
use Rattle.std.specs.Prelude.{count_ones}
use Rattle.elf32_image.specs.Parts.{ImageValue}
use Rattle.arm_isa.specs.declared.conditions.Flags.{Flags}
use Rattle.arm_isa.specs.declared.instruction.BlockTransfer.{BlockTransfer}
use Rattle.arm_isa.specs.declared.instruction.WordTransfer.{WordTransfer}
use Rattle.arm_isa.specs.declared.instruction.Op.{Op}
use Rattle.arm_isa.specs.declared.instruction.Op.TheVariants as op
use Rattle.arm_isa.specs.declared.instruction.Operand.{Operand}
use Rattle.arm_isa.specs.declared.instruction.Operand.TheVariants as operand
use Rattle.arm_isa.specs.declared.instruction.Shift.TheVariants as shift
use Rattle.arm_isa.specs.declared.opcodes.Opcode.{Opcode}
use Rattle.arm_isa.specs.declared.opcodes.Opcode.TheVariants as opcode
use Rattle.arm_isa.specs.Opcodes.{is_plain_move}
use Rattle.arm_isa.specs.Writes.{is_after, is_link_register, is_listed, is_one_word, op_returns}
use Rattle.arm_cpu.specs.declared.cpu.Cpu.{Cpu}
use Rattle.arm_cpu.specs.declared.stops.Stop.{Stop}
use Rattle.arm_cpu.specs.declared.stops.Stop.TheVariants as stop
use Rattle.arm_cpu.specs.Registers.{advanced, jumped, read, with_register, written}
use Rattle.arm_cpu.specs.Shifts.{operand_carry, operand_value}
use Rattle.arm_cpu.specs.Sums.{computed, settled, with_flags}
use Rattle.arm_machine.specs.declared.access.Size.TheVariants as size
use Rattle.arm_machine.specs.States.{Bytes, State}
use Rattle.arm_machine.specs.Access.{loaded, number_at}
use Rattle.arm_machine.specs.Blocks.{landed, listed_from, load_block, loads_many, lowest, next_word, placed, rebased_block, registers_of}
use Rattle.arm_machine.specs.Blocks.{stores_many}
use Rattle.arm_machine.specs.Transfers.{accessed, changed_base, loads, rebased, stores, with_cpu, word_size, word_transfer}
use Rattle.arm_machine.specs.Effects.{effect}
use Rattle.arm_machine.specs.Laws.{IfDone, brought, last_of_block}
use Rattle.arm_machine.specs.Orderly.{AreWords, IsOrderly}
use Rattle.arm_machine.proofs.OrderLemmas.{loaded_is}
use Rattle.arm_machine.proofs.StayLemmas.{if_test, if_then, if_weaker}

pub both : (x y : Bool) → x && y ≡ true → (x ≡ true) × (y ≡ true)
both true y on = (refl, on)
both false y on = absurd (false≢true on)

pub is_false : (x : Bool) → not x ≡ true → x ≡ false
is_false true on = absurd (false≢true on)
is_false false on = refl

pub jumped_pc : (cpu : Cpu) (v : ℕ) → IfDone (jumped cpu v) (λ next. next.pc ≡ v)
jumped_pc cpu v = if_test (eqb (v % 4) 0) (Ok (record cpu { pc = v })) (Err stop.Leaves) _ refl tt

pub written_pc : (cpu : Cpu) (rd v : ℕ) → eqb rd 15 ≡ true → IfDone (written cpu rd v) (λ next. next.pc ≡ v)
written_pc cpu rd v is =
    subst (λ (b : Bool). IfDone (cond {A = Result Cpu Stop} b (jumped cpu v) (Ok (advanced (with_register cpu rd v))))
    (λ next. next.pc ≡ v))
    (sym is) (jumped_pc cpu v)

pub through_pc : (s : State) (outcome : Result Cpu Stop) (P : ℕ → Type 0) → IfDone outcome (λ cpu. P cpu.pc)
    → IfDone (with_cpu s outcome) (λ next. P next.cpu.pc)
through_pc s (Ok cpu) P h = h
through_pc s (Err why) P h = tt

pub unshifted : (n : ℕ) → n < 2 ^ 32 → n * 2 ^ 0 % 2 ^ 32 ≡ n
unshifted n small = omega (arith, small)

-- MOV r15,r14
pub link_value : (s : State) (operand : Operand) → ((r : ℕ) → slice_index s.cpu.registers r < 2 ^ 32) → is_link_register operand ≡ true
    → operand_value s.cpu operand ≡ slice_index s.cpu.registers 14
link_value s (operand.Value value rotated) each link = absurd (false≢true link)
link_value s (operand.ByRegister rm kind rs) each link = absurd (false≢true link)
link_value s (operand.Shifted rm (shift.Lsl amount)) each link =
    let is = both (eqb rm 14) (eqb amount 0) link in
    subst (λ (q : ℕ). read s.cpu q * 2 ^ amount % 2 ^ 32 ≡ slice_index s.cpu.registers 14) (sym (eqb-true rm 14 is.0))
    (subst (λ (n : ℕ). slice_index s.cpu.registers 14 * 2 ^ n % 2 ^ 32 ≡ slice_index s.cpu.registers 14) (sym (eqb-true amount 0 is.1))
    (unshifted (slice_index s.cpu.registers 14) (each 14)))
link_value s (operand.Shifted rm (shift.Lsr amount)) each link = absurd (false≢true link)
link_value s (operand.Shifted rm (shift.Asr amount)) each link = absurd (false≢true link)
link_value s (operand.Shifted rm (shift.Ror amount)) each link = absurd (false≢true link)
link_value s (operand.Shifted rm shift.Rrx) each link = absurd (false≢true link)

pub moved_pc : (cpu : Cpu) (code : Opcode) (flags : Flags) (set_flags carry : Bool) (rd a v : ℕ) → is_plain_move code ≡ true
    → eqb rd 15 ≡ true → IfDone (settled (with_flags set_flags cpu (computed code flags carry a v)) code rd (computed code flags carry a v))
    (λ next. next.pc ≡ v)
moved_pc cpu opcode.Mov flags set_flags carry rd a v move is =
    written_pc (with_flags set_flags cpu (computed opcode.Mov flags carry a v)) rd v is
moved_pc cpu _ flags set_flags carry rd a v move is = absurd (false≢true move)

-- LDM: register 15 is the last of its list, and gets the last word
last_apart : (list r n q : ℕ) → q ≡ r + n → listed_from list r (suc n) ≡ listed_from list r n ++ listed_from list q 1
last_apart list r zero q at = ap (λ (k : ℕ). listed_from list k 1) (here r q at)
  where
    here : (r q : ℕ) → q ≡ r + 0 → r ≡ q
    here r q at = omega (arith, at)
last_apart list r (suc n) q at = by_bit (is_listed list r) (last_apart list (r + 1) n q (omega (arith, at)))
  where
    by_bit : (b : Bool) → listed_from list (r + 1) (suc n) ≡ listed_from list (r + 1) n ++ listed_from list q 1
        → cond b (r ∷ listed_from list (r + 1) (suc n)) (listed_from list (r + 1) (suc n))
        ≡ cond b (r ∷ listed_from list (r + 1) n) (listed_from list (r + 1) n) ++ listed_from list q 1
    by_bit true same = ap (λ (rs : List ℕ). r ∷ rs) same
    by_bit false same = same

with_pc : (list : ℕ) → is_listed list 15 ≡ true → registers_of list ≡ listed_from list 0 15 ++ (15 ∷ [])
unfolding registers_of
with_pc list listed =
    last_apart list 0 15 15 refl
    ∙ ap (λ (b : Bool). listed_from list 0 15 ++ cond b (15 ∷ []) []) listed

later : (a n : ℕ) → (next_word a + 4 * n) % 2 ^ 32 ≡ (a + 4 * suc n) % 2 ^ 32
later a n = omega arith

last_loaded : (m : Bytes) (rs : List ℕ) (a : ℕ) (cpu : Cpu) → a < 2 ^ 32 → IfDone (load_block m a (rs ++ (15 ∷ [])) cpu)
    (λ next. number_at m size.Word ((a + 4 * length rs) % 2 ^ 32) ≡ Some next.pc)
last_loaded m [] a cpu small =
    if_then _ (loaded m size.Word a) _ _ (loaded_is m size.Word a) (λ v there.
    subst (λ (b : ℕ). number_at m size.Word b ≡ Some v) (at_itself a small) there)
  where
    at_itself : (a : ℕ) → a < 2 ^ 32 → a ≡ (a + 4 * 0) % 2 ^ 32
    at_itself a small = omega (arith, small)
last_loaded m (r ∷ rs) a cpu small =
    if_then _ (loaded m size.Word a) _ _ (loaded_is m size.Word a) (λ v there.
    if_weaker (load_block m (next_word a) (rs ++ (15 ∷ [])) (placed cpu r v)) _ _ (λ next is.
    subst (λ (b : ℕ). number_at m size.Word b ≡ Some next.pc) (later a (length rs)) is)
    (last_loaded m rs (next_word a) (placed cpu r v) (omega arith)))

wrapped : (n c : ℕ) → ((n + 0) % 2 ^ 32 + 4 * c) % 2 ^ 32 ≡ (n + 4 * (c + 1 - 1)) % 2 ^ 32
wrapped n c = omega arith

-- the lowest word of LDMIA
lowest_up : (cpu : Cpu) (this : BlockTransfer) → this.up ≡ true → this.before ≡ false → lowest cpu this ≡ (read cpu this.rn + 0) % 2 ^ 32
lowest_up cpu this up before = by_tests this.up this.before up before
  where
    by_tests : (u b : Bool) → u ≡ true → b ≡ false
        → cond u ((read cpu this.rn + cond b 4 0) % 2 ^ 32) ((read cpu this.rn + 2 ^ 32 - 4 * count_ones this.list + cond b 0 4) % 2 ^ 32)
        ≡ (read cpu this.rn + 0) % 2 ^ 32
    by_tests true false on off = refl
    by_tests true true on off = absurd (false≢true (sym off))
    by_tests false b on off = absurd (false≢true on)

last_is : (pre : List ℕ) (n : ℕ) → ((n + 0) % 2 ^ 32 + 4 * length pre) % 2 ^ 32 ≡ last_of_block n (pre ++ (15 ∷ []))
last_is pre n = wrapped n (length pre) ∙ ap (λ (c : ℕ). (n + 4 * (c - 1)) % 2 ^ 32) (sym (length-append pre (15 ∷ [])))

block_brings : (s : State) (this : BlockTransfer) → this.up ≡ true → this.before ≡ false → this.rn ≡ 13 → is_listed this.list 15 ≡ true
    → IfDone (loads_many s.cpu s.memory this)
    (λ next. number_at s.memory size.Word (last_of_block (read s.cpu 13) (registers_of this.list)) ≡ Some next.pc)
block_brings s this up before base listed =
    if_then (landed this.list) (load_block s.memory (lowest s.cpu this) (registers_of this.list) (advanced (rebased_block s.cpu this)))
    Brings Brings (subst (λ (rs : List ℕ). IfDone (load_block s.memory (lowest s.cpu this) rs start) (λ next. At rs next.pc))
    (sym (with_pc this.list listed)) (subst (λ (a : ℕ). IfDone (load_block s.memory a (pre ++ (15 ∷ [])) start)
    (λ next. At (pre ++ (15 ∷ [])) next.pc)) (sym (lowest_up s.cpu this up before))
    (if_weaker (load_block s.memory ((read s.cpu this.rn + 0) % 2 ^ 32) (pre ++ (15 ∷ [])) start) _ _ (λ next is.
    subst (λ (b : ℕ). number_at s.memory size.Word b ≡ Some next.pc)
    (last_is pre (read s.cpu this.rn) ∙ ap (λ (r : ℕ). last_of_block (read s.cpu r) (pre ++ (15 ∷ []))) base) is)
    (last_loaded s.memory pre ((read s.cpu this.rn + 0) % 2 ^ 32) start (omega arith)))))
    (λ next is. if_test (is_listed this.list 15 && not (eqb (next.pc % 4) 0)) (Err stop.Leaves) (Ok next) _ tt is)
  where
    pre : List ℕ
    pre = listed_from this.list 0 15

    start : Cpu
    start = advanced (rebased_block s.cpu this)

    At : List ℕ → ℕ → Type 0
    At rs pc = number_at s.memory size.Word (last_of_block (read s.cpu 13) rs) ≡ Some pc

    Brings : Cpu → Type 0
    Brings next = At (registers_of this.list) next.pc

-- LDR r15,[r13],#4
word_brings : (s : State) (this : WordTransfer) → this.byte ≡ false → is_after this.index ≡ true → this.rn ≡ 13 → eqb this.rd 15 ≡ true
    → IfDone (loads s.cpu s.memory (word_transfer this)) (λ next. number_at s.memory size.Word (read s.cpu 13) ≡ Some next.pc)
word_brings s this word after base jumps =
    if_then _ (loaded s.memory (word_size this.byte) (accessed s.cpu (word_transfer this))) _ _
    (loaded_is s.memory (word_size this.byte) (accessed s.cpu (word_transfer this))) (λ v there.
    if_weaker (written (rebased s.cpu (word_transfer this)) this.rd v) _ _ (λ next is.
    subst (λ (n : ℕ). number_at s.memory size.Word (read s.cpu 13) ≡ Some n) (sym is)
    (subst (λ (a : ℕ). number_at s.memory size.Word a ≡ Some v) place
    (subst (λ (b : Bool). number_at s.memory (word_size b) (accessed s.cpu (word_transfer this)) ≡ Some v) word there)))
    (written_pc (rebased s.cpu (word_transfer this)) this.rd v jumps))
  where
    place : accessed s.cpu (word_transfer this) ≡ read s.cpu 13
    place =
        ap (λ (b : Bool). cond b (read s.cpu this.rn) (changed_base s.cpu (word_transfer this))) after ∙ ap (read s.cpu) base

pub return_brings : (image : ImageValue) (s : State) (o : Op) → IsOrderly s → op_returns o ≡ true
    → IfDone (effect image s o) (λ next. brought s o ≡ Some next.cpu.pc)
return_brings image s (op.Compute this) orderly form =
    let a = both ((is_plain_move this.opcode && not this.set_flags) && eqb this.rd 15) (is_link_register this.operand) form in
    let b = both (is_plain_move this.opcode && not this.set_flags) (eqb this.rd 15) a.0 in
    let c = both (is_plain_move this.opcode) (not this.set_flags) b.0 in
    let v = operand_value s.cpu this.operand in
    let sum = computed this.opcode s.cpu.flags (operand_carry s.cpu this.operand) (read s.cpu this.rn) v in
    through_pc s (settled (with_flags this.set_flags s.cpu sum) this.opcode this.rd sum) (λ n. Some (read s.cpu 14) ≡ Some n)
    (if_weaker (settled (with_flags this.set_flags s.cpu sum) this.opcode this.rd sum) _ _
    (λ next e. ap (λ (n : ℕ). Some n) (sym (e ∙ link_value s this.operand orderly.words.each a.1)))
    (moved_pc s.cpu this.opcode s.cpu.flags this.set_flags (operand_carry s.cpu this.operand) this.rd (read s.cpu this.rn) v c.0 b.1))
return_brings image s (op.Multiply this) orderly form = absurd (false≢true form)
return_brings image s (op.MultiplyLong this) orderly form = absurd (false≢true form)
return_brings image s (op.Word this) orderly form =
    let a = both (this.load && not this.byte && is_after this.index && this.up && eqb this.rn 13 && eqb this.rd 15)
    (is_one_word this.offset) form in
    let b = both (this.load && not this.byte && is_after this.index && this.up && eqb this.rn 13) (eqb this.rd 15) a.0 in
    let c = both (this.load && not this.byte && is_after this.index && this.up) (eqb this.rn 13) b.0 in
    let d = both (this.load && not this.byte && is_after this.index) this.up c.0 in
    let e = both (this.load && not this.byte) (is_after this.index) d.0 in
    let f = both this.load (not this.byte) e.0 in
    subst (λ (load : Bool). IfDone (cond load (with_cpu s (loads s.cpu s.memory (word_transfer this))) (stores image s (word_transfer this)))
    Brings) (sym f.0) (through_pc s (loads s.cpu s.memory (word_transfer this)) (λ n. number_at s.memory size.Word (read s.cpu 13) ≡ Some n)
    (word_brings s this (is_false this.byte f.1) e.1 (eqb-true this.rn 13 c.1) b.1))
  where
    Brings : State → Type 0
    Brings next = number_at s.memory size.Word (read s.cpu 13) ≡ Some next.cpu.pc
return_brings image s (op.Half this) orderly form = absurd (false≢true form)
return_brings image s (op.Block this) orderly form =
    let a = both (this.load && not this.before && this.up && this.write_back && eqb this.rn 13) (is_listed this.list 15) form in
    let b = both (this.load && not this.before && this.up && this.write_back) (eqb this.rn 13) a.0 in
    let c = both (this.load && not this.before && this.up) this.write_back b.0 in
    let d = both (this.load && not this.before) this.up c.0 in
    let e = both this.load (not this.before) d.0 in
    subst (λ (load : Bool). IfDone (cond load (with_cpu s (loads_many s.cpu s.memory this)) (stores_many image s this)) Brings)
    (sym e.0) (through_pc s (loads_many s.cpu s.memory this)
    (λ n. number_at s.memory size.Word (last_of_block (read s.cpu 13) (registers_of this.list)) ≡ Some n)
    (block_brings s this d.1 (is_false this.before e.1) (eqb-true this.rn 13 b.1) a.1))
  where
    Brings : State → Type 0
    Brings next = number_at s.memory size.Word (last_of_block (read s.cpu 13) (registers_of this.list)) ≡ Some next.cpu.pc
return_brings image s (op.Branch this) orderly form = absurd (false≢true form)
return_brings image s (op.Exchange this) orderly form =
    through_pc s (jumped s.cpu (read s.cpu this.rm)) (λ n. Some (read s.cpu 14) ≡ Some n)
    (if_weaker (jumped s.cpu (read s.cpu this.rm)) _ _
    (λ next e. ap (λ (n : ℕ). Some n) (sym (e ∙ ap (read s.cpu) (eqb-true this.rm 14 form)))) (jumped_pc s.cpu (read s.cpu this.rm)))
