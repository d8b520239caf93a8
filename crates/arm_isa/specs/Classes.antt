-- The classes by which time is counted.
use Rattle.std.specs.Prelude.{Bool, if◌then◌else◌}
use Rattle.arm_isa.specs.declared.instruction.Insn.{Insn}
use Rattle.arm_isa.specs.declared.instruction.Op.{Op}
use Rattle.arm_isa.specs.declared.instruction.Op.TheVariants as op
use Rattle.arm_isa.specs.declared.instruction.Operand.{Operand}
use Rattle.arm_isa.specs.declared.instruction.Operand.TheVariants.{Value, Shifted, ByRegister}
use Rattle.arm_isa.specs.declared.instruction.Class.{Class}
use Rattle.arm_isa.specs.declared.instruction.Class.TheVariants as class

abbrev pub operand_class : Operand → Class
operand_class (Value value rotated) = class.Compute
operand_class (Shifted rm shift) = class.Compute
operand_class (ByRegister rm kind rs) = class.Shifted

-- of a load or store of one register
abbrev pub transfer_class : Bool → Class
transfer_class load = if load then class.Load else class.Store

abbrev pub op_class : Op → Class
op_class (op.Compute this) = operand_class this.operand
op_class (op.Multiply this) = class.Multiply
op_class (op.MultiplyLong this) = class.Long
op_class (op.Word this) = transfer_class this.load
op_class (op.Half this) = transfer_class this.load
op_class (op.Block this) = if this.load then class.LoadMany else class.StoreMany
op_class (op.Branch this) = if this.link then class.Call else class.Branch
op_class (op.Exchange this) = class.Exchange

abbrev pub class_by_op : Insn → Class
class_by_op insn = op_class insn.op
