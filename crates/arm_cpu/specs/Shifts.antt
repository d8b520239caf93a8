-- The second operand of data processing (ARM Architecture Reference Manual, A5.1), and the carry that the shifter gives.
use Rattle.std.specs.Prelude.{ℕ, ◌+◌, ◌-◌, ◌*◌, ◌/◌, ◌%◌, ◌^◌, ◌==◌, ◌&&◌, min, nat_le, nat_lt, Bool, if◌then◌else◌}
use Rattle.std.specs.Int.{rotate_right, w32}
use Rattle.arm_isa.specs.declared.instruction.Operand.{Operand}
use Rattle.arm_isa.specs.declared.instruction.Operand.TheVariants as operand
use Rattle.arm_isa.specs.declared.instruction.ShiftKind.{ShiftKind}
use Rattle.arm_isa.specs.declared.instruction.ShiftKind.TheVariants as kind
use Rattle.arm_isa.specs.declared.instruction.Shift.{Shift}
use Rattle.arm_isa.specs.declared.instruction.Shift.TheVariants as shift
use Rattle.arm_cpu.specs.declared.cpu.Cpu.{Cpu}
use Rattle.arm_cpu.specs.Registers.{read}

-- bit 31, the sign of a word
abbrev pub sign : ℕ → Bool
sign w = nat_le (2 ^ 31) w

abbrev pub bit : ℕ → ℕ → Bool
bit w place = w / 2 ^ place % 2 == 1

abbrev pub inverted : ℕ → ℕ
inverted w = 2 ^ 32 - 1 - w

-- to the right by at most 32, filled with zeros; by 32 all bits leave
abbrev pub to_the_right : ℕ → ℕ → ℕ
to_the_right w amount = if amount == 32 then 0 else w / 2 ^ amount

-- to the right by at most 32, filled with the sign
abbrev pub signed_to_the_right : ℕ → ℕ → ℕ
signed_to_the_right w amount = if sign w then inverted (to_the_right (inverted w) amount) else to_the_right w amount

-- By a constant amount (A5.1.4 to A5.1.13).
abbrev pub shift_value : Bool → ℕ → Shift → ℕ
shift_value carry w (shift.Lsl amount) = w * 2 ^ amount % 2 ^ 32
shift_value carry w (shift.Lsr amount) = to_the_right w amount
shift_value carry w (shift.Asr amount) = signed_to_the_right w amount
shift_value carry w (shift.Ror amount) = rotate_right w32 w amount
shift_value carry w shift.Rrx = w / 2 + (if carry then 2 ^ 31 else 0)

-- the bit that leaves last; nothing leaves by LSL of 0
abbrev pub shift_carry : Bool → ℕ → Shift → Bool
shift_carry carry w (shift.Lsl amount) = if amount == 0 then carry else bit w (32 - amount)
shift_carry carry w (shift.Lsr amount) = bit w (amount - 1)
shift_carry carry w (shift.Asr amount) = bit w (amount - 1)
shift_carry carry w (shift.Ror amount) = sign (rotate_right w32 w amount)
shift_carry carry w shift.Rrx = w % 2 == 1

-- By the low byte of a register, 0 to 255. From 32 on all bits leave, or the sign fills.
abbrev pub value_by : ShiftKind → ℕ → ℕ → ℕ
value_by kind.Lsl w amount = if nat_lt amount 32 then w * 2 ^ amount % 2 ^ 32 else 0
value_by kind.Lsr w amount = if nat_lt amount 32 then w / 2 ^ amount else 0
value_by kind.Asr w amount = signed_to_the_right w (min amount 32)
value_by kind.Ror w amount = rotate_right w32 w amount

-- the bit that leaves last; from 33 on it is a zero, or the sign
abbrev pub carry_leaving : ShiftKind → ℕ → ℕ → Bool
carry_leaving kind.Lsl w amount = nat_le amount 32 && bit w (32 - amount)
carry_leaving kind.Lsr w amount = nat_le amount 32 && bit w (amount - 1)
carry_leaving kind.Asr w amount = bit w (min amount 32 - 1)
carry_leaving kind.Ror w amount = sign (rotate_right w32 w amount)

-- by 0 nothing leaves
abbrev pub carry_by : Bool → ShiftKind → ℕ → ℕ → Bool
carry_by carry by w amount = if amount == 0 then carry else carry_leaving by w amount

abbrev pub operand_value : Cpu → Operand → ℕ
operand_value cpu (operand.Value value rotated) = value
operand_value cpu (operand.Shifted rm by) = shift_value cpu.flags.c (read cpu rm) by
operand_value cpu (operand.ByRegister rm by rs) = value_by by (read cpu rm) (read cpu rs % 256)

-- the carry of a constant is the carry flag or, where its byte is rotated, bit 31
abbrev pub operand_carry : Cpu → Operand → Bool
operand_carry cpu (operand.Value value rotated) = if rotated then sign value else cpu.flags.c
operand_carry cpu (operand.Shifted rm by) = shift_carry cpu.flags.c (read cpu rm) by
operand_carry cpu (operand.ByRegister rm by rs) = carry_by cpu.flags.c by (read cpu rm) (read cpu rs % 256)
