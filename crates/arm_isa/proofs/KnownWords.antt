-- The table at words whose meaning is known: it computes, and gives what an assembler would say.
use Rattle.std.proofs.Common.{◌≡◌, refl, true, false, Some, None}
use Rattle.arm_isa.specs.Decoding.{decoding}
use Rattle.arm_isa.specs.declared.conditions.Condition.TheVariants.{Al}
use Rattle.arm_isa.specs.declared.opcodes.Opcode.TheVariants.{Mov}
use Rattle.arm_isa.specs.declared.instruction.Op.TheVariants as op
use Rattle.arm_isa.specs.declared.instruction.Operand.TheVariants.{Value, Shifted}
use Rattle.arm_isa.specs.declared.instruction.Shift.TheVariants.{Lsr}
use Rattle.arm_isa.specs.declared.instruction.Index.TheVariants.{Before, After}
use Rattle.arm_isa.specs.declared.instruction.Offset.TheVariants.{Value as Bytes}

-- MOV r0,r0,LSR #32, whose amount field is 0
lsr_32 : decoding 0xE1A00020 ≡ Some (record { condition = Al; op = op.Compute (record { opcode = Mov; set_flags = false; rn = 0; rd = 0; operand = Shifted 0 (Lsr 32) }) })
lsr_32 = refl

-- MUL r0,r0,r1
multiply : decoding 0xE0000190 ≡ Some (record { condition = Al; op = op.Multiply (record { accumulate = false; set_flags = false; rd = 0; rn = 0; rs = 1; rm = 0 }) })
multiply = refl

-- MOV r0,#1
move_one : decoding 0xE3A00001 ≡ Some (record { condition = Al; op = op.Compute (record { opcode = Mov; set_flags = false; rn = 0; rd = 0; operand = Value 1 false }) })
move_one = refl

-- BX r14
exchange : decoding 0xE12FFF1E ≡ Some (record { condition = Al; op = op.Exchange (record { rm = 14 }) })
exchange = refl

-- STMDB r13!,{r4,r14}, and with r15 in its list
push : decoding 0xE92D4010 ≡ Some (record { condition = Al; op = op.Block (record { load = false; before = true; up = false; write_back = true; rn = 13; list = 0x4010 }) })
push = refl

push_pc : decoding 0xE92D8010 ≡ None
push_pc = refl

-- LDR r0,[r15,#8], and with write-back
literal : decoding 0xE59F0008 ≡ Some (record { condition = Al; op = op.Word (record { load = true; byte = false; index = Before; up = true; rn = 15; rd = 0; offset = Bytes 8 }) })
literal = refl

literal_back : decoding 0xE5BF0008 ≡ None
literal_back = refl

-- STR r0,[r1],#4, and of the base
store : decoding 0xE4810004 ≡ Some (record { condition = Al; op = op.Word (record { load = false; byte = false; index = After; up = true; rn = 1; rd = 0; offset = Bytes 4 }) })
store = refl

store_base : decoding 0xE4811004 ≡ None
store_base = refl

-- MRS r0,CPSR
status_register : decoding 0xE10F0000 ≡ None
status_register = refl

-- the condition field 15
never : decoding 0xF3A00001 ≡ None
never = refl
