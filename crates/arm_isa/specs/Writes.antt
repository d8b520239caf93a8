-- The registers that a done instruction writes, and the instructions that go back to the caller.
use Rattle.std.specs.Prelude.{ℕ, ◌==◌, ◌&&◌, ◌||◌, not, nat_lt, Bool, true, false}
use Rattle.arm_isa.specs.Fields.{flag}
use Rattle.arm_isa.specs.Opcodes.{is_plain_move, is_test}
use Rattle.arm_isa.specs.declared.instruction.Insn.{Insn}
use Rattle.arm_isa.specs.declared.instruction.Op.{Op}
use Rattle.arm_isa.specs.declared.instruction.Op.TheVariants as op
use Rattle.arm_isa.specs.declared.instruction.Operand.{Operand}
use Rattle.arm_isa.specs.declared.instruction.Operand.TheVariants.{Value as Constant, Shifted as ShiftedOperand, ByRegister}
use Rattle.arm_isa.specs.declared.instruction.Shift.TheVariants.{Lsl, Lsr, Asr, Ror, Rrx}
use Rattle.arm_isa.specs.declared.instruction.Offset.{Offset}
use Rattle.arm_isa.specs.declared.instruction.Offset.TheVariants.{Value as Bytes, Shifted as ShiftedOffset}
use Rattle.arm_isa.specs.declared.instruction.Index.{Index}
use Rattle.arm_isa.specs.declared.instruction.Index.TheVariants.{Before, BeforeBack, After}

-- whether the base register gets the changed address (chapter A5, "Addressing Mode 2" and "Addressing Mode 3")
abbrev pub keeps_address : Index → Bool
keeps_address Before = false
keeps_address BeforeBack = true
keeps_address After = true

-- whether a register stands in the list of LDM or STM (chapter A5, "Addressing Mode 4"): bit K stands for register K
abbrev pub is_listed : ℕ → ℕ → Bool
is_listed list register = nat_lt register 16 && flag list register

-- the destination, a written-back base, r14 of BL, and r15 of what goes to pc; the tests write none
abbrev pub op_writes : Op → ℕ → Bool
op_writes (op.Compute this) register = not (is_test this.opcode) && (register == this.rd)
op_writes (op.Multiply this) register = register == this.rd
op_writes (op.MultiplyLong this) register = (register == this.rd_hi) || (register == this.rd_lo)
op_writes (op.Word this) register = (this.load && (register == this.rd)) || (keeps_address this.index && (register == this.rn))
op_writes (op.Half this) register = (this.load && (register == this.rd)) || (keeps_address this.index && (register == this.rn))
op_writes (op.Block this) register = (this.load && is_listed this.list register) || (this.write_back && (register == this.rn))
op_writes (op.Branch this) register = (register == 15) || (this.link && (register == 14))
op_writes (op.Exchange this) register = register == 15

abbrev pub writes_register : Insn → ℕ → Bool
writes_register insn register = op_writes insn.op register

-- r14, not shifted
abbrev pub is_link_register : Operand → Bool
is_link_register (Constant value rotated) = false
is_link_register (ByRegister rm kind rs) = false
is_link_register (ShiftedOperand rm (Lsl amount)) = (rm == 14) && (amount == 0)
is_link_register (ShiftedOperand rm (Lsr amount)) = false
is_link_register (ShiftedOperand rm (Asr amount)) = false
is_link_register (ShiftedOperand rm (Ror amount)) = false
is_link_register (ShiftedOperand rm Rrx) = false

abbrev pub is_after : Index → Bool
is_after Before = false
is_after BeforeBack = false
is_after After = true

abbrev pub is_one_word : Offset → Bool
is_one_word (Bytes value) = value == 4
is_one_word (ShiftedOffset rm shift) = false

-- MOV r15,r14 without S; LDR r15,[r13],#4; LDMIA r13! with r15 in its list; BX r14
abbrev pub op_returns : Op → Bool
op_returns (op.Compute this) = is_plain_move this.opcode && not this.set_flags && (this.rd == 15) && is_link_register this.operand
op_returns (op.Multiply this) = false
op_returns (op.MultiplyLong this) = false
op_returns (op.Word this) = this.load && not this.byte && is_after this.index && this.up && (this.rn == 13) && (this.rd == 15) && is_one_word this.offset
op_returns (op.Half this) = false
op_returns (op.Block this) = this.load && not this.before && this.up && this.write_back && (this.rn == 13) && is_listed this.list 15
op_returns (op.Branch this) = false
op_returns (op.Exchange this) = this.rm == 14

abbrev pub is_return_form : Insn → Bool
is_return_form insn = op_returns insn.op
