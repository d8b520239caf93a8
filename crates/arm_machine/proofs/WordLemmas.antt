-- Data processing keeps words words.
use Rattle.std.proofs.Common.{ℕ, zero, suc, min, ◌+◌, ◌/◌, ◌%◌, ◌^◌, ◌<◌, ◌||◌, Bool, true, false, cond, Ok, Err, List, [], ◌∷◌, eqb, ltb}
use Rattle.std.proofs.Common.{slice_index, slice_set, ◌∙◌, arith, bit_and, bit_or, bit_xor}
use Rattle.std.specs.Int.Bits.{and_lt, or_lt, xor_lt}
use Rattle.std.proofs.lemmas.List.{length-set}
use Rattle.std.proofs.Math.Nat.{div-le_self}
use Rattle.std.specs.Int.{rotate_right, w32}
use Rattle.arm_isa.specs.declared.conditions.Flags.{Flags}
use Rattle.arm_isa.specs.declared.instruction.DataProcessing.{DataProcessing}
use Rattle.arm_isa.specs.declared.instruction.Operand.{Operand}
use Rattle.arm_isa.specs.declared.instruction.Operand.TheVariants as operand
use Rattle.arm_isa.specs.declared.instruction.Shift.{Shift}
use Rattle.arm_isa.specs.declared.instruction.Shift.TheVariants as shift
use Rattle.arm_isa.specs.declared.instruction.ShiftKind.{ShiftKind}
use Rattle.arm_isa.specs.declared.instruction.ShiftKind.TheVariants as kind
use Rattle.arm_isa.specs.declared.opcodes.Opcode.{Opcode}
use Rattle.arm_isa.specs.declared.opcodes.Opcode.TheVariants as opcode
use Rattle.arm_isa.specs.Opcodes.{is_test}
use Rattle.arm_isa.specs.Ranges.{IsDataProcessing, IsOperand}
use Rattle.arm_cpu.specs.declared.cpu.Cpu.{Cpu}
use Rattle.arm_cpu.specs.declared.stops.Stop.TheVariants as stop
use Rattle.arm_cpu.specs.declared.sums.Sum.{Sum}
use Rattle.arm_cpu.specs.Registers.{advanced, jumped, read, with_register, written}
use Rattle.arm_cpu.specs.Shifts.{inverted, operand_carry, operand_value, shift_value, sign, signed_to_the_right, to_the_right, value_by}
use Rattle.arm_cpu.specs.Sums.{computed, computes, with_flags}
use Rattle.arm_machine.specs.Laws.{IfDone}
use Rattle.arm_machine.specs.Orderly.{AreWords}
use Rattle.arm_machine.proofs.StayLemmas.{if_test}

set_below : (xs : List ℕ) (i v : ℕ) → ((r : ℕ) → slice_index xs r < 2 ^ 32) → v < 2 ^ 32 → (r : ℕ) → slice_index
    (slice_set xs i v) r < 2 ^ 32
set_below [] i v each small r = each r
set_below (x ∷ xs) zero v each small zero = small
set_below (x ∷ xs) zero v each small (suc r) = each (suc r)
set_below (x ∷ xs) (suc i) v each small zero = each zero
set_below (x ∷ xs) (suc i) v each small (suc r) = set_below xs i v (λ q. each (suc q)) small r

pub with_word : (cpu : Cpu) (r v : ℕ) → AreWords cpu → v < 2 ^ 32 → AreWords (with_register cpu r v)
with_word cpu r v words small =
    record { each = set_below cpu.registers r v words.each small; all = length-set cpu.registers r v ∙ words.all; pc = words.pc }

pub advanced_words : (cpu : Cpu) → AreWords cpu → AreWords (advanced cpu)
advanced_words cpu words = record { each = words.each; all = words.all; pc = omega arith }

pub jumped_words : (cpu : Cpu) (v : ℕ) → AreWords cpu → v < 2 ^ 32 → IfDone (jumped cpu v) AreWords
jumped_words cpu v words small =
    if_test (eqb (v % 4) 0) (Ok (record cpu { pc = v })) (Err stop.Leaves) _ (record { each = words.each; all = words.all; pc = small }) tt

pub written_words : (cpu : Cpu) (r v : ℕ) → AreWords cpu → v < 2 ^ 32 → IfDone (written cpu r v) AreWords
written_words cpu r v words small =
    if_test (eqb r 15) (jumped cpu v) (Ok (advanced (with_register cpu r v))) _ (jumped_words cpu v words small)
    (advanced_words (with_register cpu r v) (with_word cpu r v words small))

pub read_small : (cpu : Cpu) (r : ℕ) → AreWords cpu → read cpu r < 2 ^ 32
read_small cpu r words = pick (eqb r 15)
  where
    pick : (b : Bool) → cond b ((cpu.pc + 8) % 2 ^ 32) (slice_index cpu.registers r) < 2 ^ 32
    pick true = omega arith
    pick false = words.each r

-- the results of data processing
pub below : (b : Bool) (x y : ℕ) → x < 2 ^ 32 → y < 2 ^ 32 → cond b x y < 2 ^ 32
below true x y p q = p
below false x y p q = q

divided : (w d : ℕ) → w < 2 ^ 32 → w / d < 2 ^ 32
divided w d small = let less = div-le_self w d in omega (arith, less, small)

right_small : (w amount : ℕ) → w < 2 ^ 32 → to_the_right w amount < 2 ^ 32
right_small w amount small = below (eqb amount 32) 0 _ (omega arith) (divided w (2 ^ amount) small)

inverted_small : (w : ℕ) → inverted w < 2 ^ 32
inverted_small w = omega arith

signed_right_small : (w amount : ℕ) → w < 2 ^ 32 → signed_to_the_right w amount < 2 ^ 32
signed_right_small w amount small = below (sign w) _ _ (inverted_small (to_the_right (inverted w) amount)) (right_small w amount small)

rotated_small : (w by : ℕ) → w < 2 ^ 32 → rotate_right w32 w by < 2 ^ 32
rotated_small w by small = or_lt 32 _ _ (divided w (2 ^ (by % 32)) small) (omega arith)

shift_small : (carry : Bool) (w : ℕ) (by : Shift) → w < 2 ^ 32 → shift_value carry w by < 2 ^ 32
shift_small carry w (shift.Lsl amount) small = omega arith
shift_small carry w (shift.Lsr amount) small = right_small w amount small
shift_small carry w (shift.Asr amount) small = signed_right_small w amount small
shift_small carry w (shift.Ror amount) small = rotated_small w amount small
shift_small true w shift.Rrx small = omega (arith, small)
shift_small false w shift.Rrx small = omega (arith, small)

by_small : (by : ShiftKind) (w amount : ℕ) → w < 2 ^ 32 → value_by by w amount < 2 ^ 32
by_small kind.Lsl w amount small = below (ltb amount 32) _ 0 (omega arith) (omega arith)
by_small kind.Lsr w amount small = below (ltb amount 32) _ 0 (divided w (2 ^ amount) small) (omega arith)
by_small kind.Asr w amount small = signed_right_small w (min amount 32) small
by_small kind.Ror w amount small = rotated_small w amount small

operand_small : (cpu : Cpu) (operand : Operand) → IsOperand operand → AreWords cpu → operand_value cpu operand < 2 ^ 32
operand_small cpu (operand.Value value rotated) fits words = fits
operand_small cpu (operand.Shifted rm by) fits words = shift_small cpu.flags.c (read cpu rm) by (read_small cpu rm words)
operand_small cpu (operand.ByRegister rm by rs) fits words = by_small by (read cpu rm) (read cpu rs % 256) (read_small cpu rm words)

pub computed_small : (code : Opcode) (flags : Flags) (carry : Bool) (a b : ℕ) → a < 2 ^ 32 → b < 2 ^ 32
    → (computed code flags carry a b).value < 2 ^ 32
computed_small opcode.And flags carry a b p q = and_lt 32 a b p q
computed_small opcode.Eor flags carry a b p q = xor_lt 32 a b p q
computed_small opcode.Sub flags carry a b p q = omega arith
computed_small opcode.Rsb flags carry a b p q = omega arith
computed_small opcode.Add flags carry a b p q = omega arith
computed_small opcode.Adc flags carry a b p q = omega arith
computed_small opcode.Sbc flags carry a b p q = omega arith
computed_small opcode.Rsc flags carry a b p q = omega arith
computed_small opcode.Tst flags carry a b p q = and_lt 32 a b p q
computed_small opcode.Teq flags carry a b p q = xor_lt 32 a b p q
computed_small opcode.Cmp flags carry a b p q = omega arith
computed_small opcode.Cmn flags carry a b p q = omega arith
computed_small opcode.Orr flags carry a b p q = or_lt 32 a b p q
computed_small opcode.Mov flags carry a b p q = q
computed_small opcode.Bic flags carry a b p q = and_lt 32 a (inverted b) p (inverted_small b)
computed_small opcode.Mvn flags carry a b p q = inverted_small b

pub computes_words : (cpu : Cpu) (this : DataProcessing) → IsDataProcessing this → AreWords cpu → IfDone (computes cpu this) AreWords
computes_words cpu this fits words =
    let sum = computed this.opcode cpu.flags (operand_carry cpu this.operand) (read cpu this.rn) (operand_value cpu this.operand) in
    let same : AreWords (with_flags this.set_flags cpu sum) = record { each = words.each; all = words.all; pc = words.pc } in
    let small = computed_small this.opcode cpu.flags (operand_carry cpu this.operand) (read cpu this.rn) (operand_value cpu this.operand)
    (read_small cpu this.rn words) (operand_small cpu this.operand fits.2 words) in
    if_test (is_test this.opcode) (Ok (advanced (with_flags this.set_flags cpu sum)))
    (written (with_flags this.set_flags cpu sum) this.rd sum.value) _
    (advanced_words (with_flags this.set_flags cpu sum) same)
    (written_words (with_flags this.set_flags cpu sum) this.rd sum.value same small)
