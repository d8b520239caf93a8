-- Multiplications (ARM Architecture Reference Manual, A4.1: MLA, MUL, SMLAL, SMULL, UMLAL, UMULL). C and V stay (own: the
-- manual leaves them open).
use Rattle.std.specs.Prelude.{ℕ, ◌+◌, ◌*◌, ◌/◌, ◌%◌, ◌^◌, ◌==◌, ◌*ℤ◌, nat_le, Bool, if◌then◌else◌}
use Rattle.std.specs.Int.{cast_unsigned, w64}
use Rattle.arm_isa.specs.declared.conditions.Flags.{Flags}
use Rattle.arm_isa.specs.declared.instruction.LongMultiply.{LongMultiply}
use Rattle.arm_isa.specs.declared.instruction.Multiply.{Multiply}
use Rattle.arm_cpu.specs.declared.cpu.Cpu.{Cpu}
use Rattle.arm_cpu.specs.Registers.{advanced, read, signed_of, with_register}

-- with S the flags say whether the product is negative, and whether it is 0
abbrev pub product_flags : Bool → Flags → Bool → Bool → Flags
product_flags set_flags flags negative zero = if set_flags then record flags { n = negative; z = zero } else flags

-- the low word of a × b + c
abbrev pub product : ℕ → ℕ → ℕ → ℕ
product a b c = (a * b + c) % 2 ^ 32

abbrev pub multiplies : Cpu → Multiply → Cpu
multiplies cpu this =
    let value = product (read cpu this.rm) (read cpu this.rs) (if this.accumulate then read cpu this.rn else 0) in
    let flagged = record cpu { flags = product_flags this.set_flags cpu.flags (nat_le (2 ^ 31) value) (value == 0) } in
    advanced (with_register flagged this.rd value)

-- the product of two words read as signed numbers, as 64 bits in two's complement
abbrev pub signed_product : ℕ → ℕ → ℕ
signed_product a b = cast_unsigned w64 (signed_of a *ℤ signed_of b)

-- the low 64 bits of a × b + c
abbrev pub long_product : Bool → ℕ → ℕ → ℕ → ℕ
long_product signed a b c = ((if signed then signed_product a b else (a * b)) + c) % 2 ^ 64

-- the number of 64 bits in two registers
abbrev pub pair : Cpu → ℕ → ℕ → ℕ
pair cpu hi lo = 2 ^ 32 * read cpu hi + read cpu lo

-- All operands are read before the two registers get the product.
abbrev pub multiplies_long : Cpu → LongMultiply → Cpu
multiplies_long cpu this =
    let value = long_product this.signed (read cpu this.rm) (read cpu this.rs) (if this.accumulate then pair cpu this.rd_hi this.rd_lo else 0) in
    let flagged = record cpu { flags = product_flags this.set_flags cpu.flags (nat_le (2 ^ 63) value) (value == 0) } in
    advanced (with_register (with_register flagged this.rd_hi (value / 2 ^ 32)) this.rd_lo (value % 2 ^ 32))
