-- What the table refuses, said of what it gives: which registers a decoded instruction never names together, or never in a
-- role. Where it did, the manual would leave the result open (chapter A4, the "Usage" and "Operand restrictions" of each
-- instruction), or this project refuses the word of its own.
use Rattle.std.specs.Prelude.{◌≡◌, ◌≢◌, ℕ, ◌<◌, ◌≤◌, ◌^◌, true, false, count_ones}
use Rattle.arm_isa.specs.declared.instruction.Op.{Op}
use Rattle.arm_isa.specs.declared.instruction.Op.TheVariants as op
use Rattle.arm_isa.specs.declared.instruction.DataProcessing.{DataProcessing}
use Rattle.arm_isa.specs.declared.instruction.WordTransfer.{WordTransfer}
use Rattle.arm_isa.specs.declared.instruction.HalfTransfer.{HalfTransfer}
use Rattle.arm_isa.specs.declared.instruction.BlockTransfer.{BlockTransfer}
use Rattle.arm_isa.specs.declared.instruction.Index.{Index}
use Rattle.arm_isa.specs.declared.instruction.Offset.{Offset}
use Rattle.arm_isa.specs.declared.instruction.Offset.TheVariants.{Value as Bytes, Shifted as ShiftedOffset}
use Rattle.arm_isa.specs.declared.instruction.HalfKind.TheVariants.{Half as HalfWord}
use Rattle.arm_isa.specs.Opcodes.{is_move, is_test}
use Rattle.arm_isa.specs.Writes.{is_listed, keeps_address}

-- the register of an offset isn't the base
abbrev pub IsApart : ℕ → Offset → Type 0
IsApart rn (Bytes value) = Unit {0}
IsApart rn (ShiftedOffset rm shift) = rn ≢ rm

-- a base that is written back isn't r15, nor the register that is loaded or stored, nor the offset
abbrev pub IsBase : Index → ℕ → ℕ → Offset → Type 0
IsBase index rn rd offset = keeps_address index ≡ true → (rn < 15) × (rn ≢ rd) × IsApart rn offset

-- an offset of a halfword instruction
abbrev pub IsShort : Offset → Type 0
IsShort (Bytes value) = value < 2 ^ 8
IsShort (ShiftedOffset rm shift) = Unit {0}

-- tests set flags and name no destination, MOV and MVN name no first operand, and what sets flags doesn't write r15
abbrev pub IsGuardedCompute : DataProcessing → Type 0
IsGuardedCompute this =
    (is_test this.opcode ≡ true → (this.set_flags ≡ true) × (this.rd ≡ 0))
    × (is_move this.opcode ≡ true → this.rn ≡ 0)
    × (is_test this.opcode ≡ false → this.set_flags ≡ true → this.rd < 15)

-- only LDR moves r15
abbrev pub IsGuardedWord : WordTransfer → Type 0
IsGuardedWord this = IsBase this.index this.rn this.rd this.offset × (this.load ≡ false → this.rd < 15) × (this.byte ≡ true → this.rd < 15)

-- no store is signed
abbrev pub IsGuardedHalf : HalfTransfer → Type 0
IsGuardedHalf this = IsBase this.index this.rn this.rd this.offset × (this.load ≡ false → this.kind ≡ HalfWord) × IsShort this.offset

-- no r15 in STM's list, no base that is written back in a list, and at most sixteen registers
abbrev pub IsGuardedBlock : BlockTransfer → Type 0
IsGuardedBlock this =
    (this.load ≡ false → is_listed this.list 15 ≡ false)
    × (this.write_back ≡ true → is_listed this.list this.rn ≡ false)
    × (count_ones this.list ≤ 16)

abbrev pub IsGuarded : Op → Type 0
IsGuarded (op.Compute this) = IsGuardedCompute this
IsGuarded (op.Multiply this) = this.accumulate ≡ false → this.rn ≡ 0
IsGuarded (op.MultiplyLong this) = this.rd_hi ≢ this.rd_lo
IsGuarded (op.Word this) = IsGuardedWord this
IsGuarded (op.Half this) = IsGuardedHalf this
IsGuarded (op.Block this) = IsGuardedBlock this
IsGuarded (op.Branch this) = Unit {0}
IsGuarded (op.Exchange this) = Unit {0}
