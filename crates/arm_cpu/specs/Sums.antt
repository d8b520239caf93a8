-- Data processing: the results of the sixteen operations and their flags (ARM Architecture Reference Manual, A3.4.1 and A4.1).
use Rattle.std.specs.Prelude.{ℕ, ◌+◌, ◌%◌, ◌^◌, ◌==◌, ◌&&◌, not, nat_le, bit_and, bit_or, bit_xor, Bool, true, false, if◌then◌else◌, Result, Ok}
use Rattle.arm_isa.specs.declared.conditions.Flags.{Flags}
use Rattle.arm_isa.specs.declared.instruction.DataProcessing.{DataProcessing}
use Rattle.arm_isa.specs.declared.opcodes.Opcode.{Opcode}
use Rattle.arm_isa.specs.declared.opcodes.Opcode.TheVariants as opcode
use Rattle.arm_isa.specs.Opcodes.{is_test}
use Rattle.arm_cpu.specs.declared.cpu.Cpu.{Cpu}
use Rattle.arm_cpu.specs.declared.stops.Stop.{Stop}
use Rattle.arm_cpu.specs.declared.sums.Sum.{Sum}
use Rattle.arm_cpu.specs.Registers.{read, advanced, written}
use Rattle.arm_cpu.specs.Shifts.{inverted, operand_carry, operand_value, sign}

abbrev pub one_if : Bool → ℕ
one_if true = 1
one_if false = 0

-- a + b + carry: the carry out, and signed overflow
abbrev pub added : ℕ → ℕ → Bool → Sum
added a b carry =
    let value = (a + b + one_if carry) % 2 ^ 32 in
    record {
      value = value;
      carry = nat_le (2 ^ 32) (a + b + one_if carry);
      overflow = if sign a then sign b && not (sign value) else not (sign b) && sign value;
    }

-- a − b − (1 − carry) is the sum of a, the inverted b and the carry, which then says 'no borrow'
abbrev pub subtracted : ℕ → ℕ → Bool → Sum
subtracted a b carry = added a (inverted b) carry

-- a logical result keeps overflow, and its carry is the shifter's
abbrev pub logical : Flags → Bool → ℕ → Sum
logical flags shifter_carry value = record { value = value; carry = shifter_carry; overflow = flags.v }

-- what an operation gives for the operands a and b
abbrev pub computed : Opcode → Flags → Bool → ℕ → ℕ → Sum
computed opcode.And flags shifter_carry a b = logical flags shifter_carry (bit_and a b)
computed opcode.Eor flags shifter_carry a b = logical flags shifter_carry (bit_xor a b)
computed opcode.Sub flags shifter_carry a b = subtracted a b true
computed opcode.Rsb flags shifter_carry a b = subtracted b a true
computed opcode.Add flags shifter_carry a b = added a b false
computed opcode.Adc flags shifter_carry a b = added a b flags.c
computed opcode.Sbc flags shifter_carry a b = subtracted a b flags.c
computed opcode.Rsc flags shifter_carry a b = subtracted b a flags.c
computed opcode.Tst flags shifter_carry a b = logical flags shifter_carry (bit_and a b)
computed opcode.Teq flags shifter_carry a b = logical flags shifter_carry (bit_xor a b)
computed opcode.Cmp flags shifter_carry a b = subtracted a b true
computed opcode.Cmn flags shifter_carry a b = added a b false
computed opcode.Orr flags shifter_carry a b = logical flags shifter_carry (bit_or a b)
computed opcode.Mov flags shifter_carry a b = logical flags shifter_carry b
computed opcode.Bic flags shifter_carry a b = logical flags shifter_carry (bit_and a (inverted b))
computed opcode.Mvn flags shifter_carry a b = logical flags shifter_carry (inverted b)

abbrev pub flags_of : Sum → Flags
flags_of sum = record { n = sign sum.value; z = sum.value == 0; c = sum.carry; v = sum.overflow }

-- with S the flags say what the result is
abbrev pub flags_after : Bool → Flags → Sum → Flags
flags_after set_flags flags sum = if set_flags then flags_of sum else flags

abbrev pub with_flags : Bool → Cpu → Sum → Cpu
with_flags set_flags cpu sum = record cpu { flags = flags_after set_flags cpu.flags sum }

-- the tests write no register
abbrev pub settled : Cpu → Opcode → ℕ → Sum → Result Cpu Stop
settled cpu code rd sum = if is_test code then Ok (advanced cpu) else written cpu rd sum.value

abbrev pub computes : Cpu → DataProcessing → Result Cpu Stop
computes cpu this =
    let sum = computed this.opcode cpu.flags (operand_carry cpu this.operand) (read cpu this.rn) (operand_value cpu this.operand) in
    settled (with_flags this.set_flags cpu sum) this.opcode this.rd sum
