-- What the fields of each decoded instruction are at most: registers have numbers, amounts are those of
-- the manual, offsets fit their fields.
use Rattle.std.specs.Prelude.{◌<◌, ◌≤◌, ◌^◌, pos, neg_ℤ, ◌≤ℤ◌, ◌<ℤ◌}
use Rattle.arm_isa.specs.declared.instruction.Insn.{Insn}
use Rattle.arm_isa.specs.declared.instruction.Op.{Op}
use Rattle.arm_isa.specs.declared.instruction.Op.TheVariants as op
use Rattle.arm_isa.specs.declared.instruction.DataProcessing.{DataProcessing}
use Rattle.arm_isa.specs.declared.instruction.Multiply.{Multiply}
use Rattle.arm_isa.specs.declared.instruction.LongMultiply.{LongMultiply}
use Rattle.arm_isa.specs.declared.instruction.WordTransfer.{WordTransfer}
use Rattle.arm_isa.specs.declared.instruction.HalfTransfer.{HalfTransfer}
use Rattle.arm_isa.specs.declared.instruction.BlockTransfer.{BlockTransfer}
use Rattle.arm_isa.specs.declared.instruction.Branch.{Branch}
use Rattle.arm_isa.specs.declared.instruction.Operand.{Operand}
use Rattle.arm_isa.specs.declared.instruction.Operand.TheVariants.{Value as Constant, Shifted as ShiftedOperand, ByRegister}
use Rattle.arm_isa.specs.declared.instruction.Shift.{Shift}
use Rattle.arm_isa.specs.declared.instruction.Shift.TheVariants.{Lsl, Lsr, Asr, Ror, Rrx}
use Rattle.arm_isa.specs.declared.instruction.Offset.{Offset}
use Rattle.arm_isa.specs.declared.instruction.Offset.TheVariants.{Value as Bytes, Shifted as ShiftedOffset}

abbrev pub IsShift : Shift → Type 0
IsShift (Lsl amount) = amount < 32
IsShift (Lsr amount) = (0 < amount) × (amount ≤ 32)
IsShift (Asr amount) = (0 < amount) × (amount ≤ 32)
IsShift (Ror amount) = (0 < amount) × (amount < 32)
IsShift Rrx = Unit {0}

abbrev pub IsOperand : Operand → Type 0
IsOperand (Constant value rotated) = value < 2 ^ 32
IsOperand (ShiftedOperand rm shift) = (rm < 16) × IsShift shift
IsOperand (ByRegister rm kind rs) = (rm < 15) × (rs < 15)

abbrev pub IsOffset : Offset → Type 0
IsOffset (Bytes value) = value < 2 ^ 12
IsOffset (ShiftedOffset rm shift) = (rm < 15) × IsShift shift

abbrev pub IsDataProcessing : DataProcessing → Type 0
IsDataProcessing this = (this.rn < 16) × (this.rd < 16) × IsOperand this.operand

abbrev pub IsMultiply : Multiply → Type 0
IsMultiply this = (this.rd < 15) × (this.rn < 15) × (this.rs < 15) × (this.rm < 15)

abbrev pub IsLongMultiply : LongMultiply → Type 0
IsLongMultiply this = (this.rd_hi < 15) × (this.rd_lo < 15) × (this.rs < 15) × (this.rm < 15)

abbrev pub IsWordTransfer : WordTransfer → Type 0
IsWordTransfer this = (this.rn < 16) × (this.rd < 16) × IsOffset this.offset

abbrev pub IsHalfTransfer : HalfTransfer → Type 0
IsHalfTransfer this = (this.rn < 16) × (this.rd < 15) × IsOffset this.offset

abbrev pub IsBlockTransfer : BlockTransfer → Type 0
IsBlockTransfer this = (this.rn < 15) × (0 < this.list) × (this.list < 2 ^ 16)

abbrev pub IsBranch : Branch → Type 0
IsBranch this = (neg_ℤ (pos (2 ^ 23)) ≤ℤ this.words) × (this.words <ℤ pos (2 ^ 23))

abbrev pub IsOp : Op → Type 0
IsOp (op.Compute this) = IsDataProcessing this
IsOp (op.Multiply this) = IsMultiply this
IsOp (op.MultiplyLong this) = IsLongMultiply this
IsOp (op.Word this) = IsWordTransfer this
IsOp (op.Half this) = IsHalfTransfer this
IsOp (op.Block this) = IsBlockTransfer this
IsOp (op.Branch this) = IsBranch this
IsOp (op.Exchange this) = this.rm < 15

abbrev pub IsInsn : Insn → Type 0
IsInsn insn = IsOp insn.op
