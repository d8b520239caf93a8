-- The decoding of a word, as a table of encodings. The first line whose pattern fits a word counts.
-- The quoted headings are those of the ARM Architecture Reference Manual (ARM DDI 0100): encodings stand in
-- chapter A3, single instructions in A4, operands and addresses in A5. Where the manual calls an
-- encoding undefined or unpredictable, the comment says so; "own" marks a word that this project
-- refuses though the manual gives it a meaning, or that belongs to another architecture or mode.
use Rattle.std.specs.Prelude.{ℕ, ◌+◌, ◌*◌, ◌^◌, ◌==◌, ◌&&◌, ◌||◌, not, nat_lt, Bool, false, ℤ, pos, ◌-ℤ◌, Option, None, Some, List, [], ◌∷◌, if◌then◌else◌}
use Rattle.std.specs.Int.{rotate_right, w32}
use Rattle.arm_isa.specs.Fields.{field, flag}
use Rattle.arm_isa.specs.Conditions.{condition_numbered}
use Rattle.arm_isa.specs.Opcodes.{is_move, is_test, opcode_numbered}
use Rattle.arm_isa.specs.declared.conditions.Condition.{Condition}
use Rattle.arm_isa.specs.declared.opcodes.Opcode.{Opcode}
use Rattle.arm_isa.specs.declared.instruction.Insn.{Insn}
use Rattle.arm_isa.specs.declared.instruction.Op.{Op}
use Rattle.arm_isa.specs.declared.instruction.Op.TheVariants as op
use Rattle.arm_isa.specs.declared.instruction.Operand.{Operand}
use Rattle.arm_isa.specs.declared.instruction.Operand.TheVariants.{Value as Constant, Shifted as ShiftedOperand, ByRegister}
use Rattle.arm_isa.specs.declared.instruction.ShiftKind.{ShiftKind}
use Rattle.arm_isa.specs.declared.instruction.ShiftKind.TheVariants as kind
use Rattle.arm_isa.specs.declared.instruction.Shift.{Shift}
use Rattle.arm_isa.specs.declared.instruction.Shift.TheVariants.{Lsl, Lsr, Asr, Ror, Rrx}
use Rattle.arm_isa.specs.declared.instruction.Offset.{Offset}
use Rattle.arm_isa.specs.declared.instruction.Offset.TheVariants.{Value as Bytes, Shifted as ShiftedOffset}
use Rattle.arm_isa.specs.declared.instruction.Index.{Index}
use Rattle.arm_isa.specs.declared.instruction.Index.TheVariants.{Before, BeforeBack, After}
use Rattle.arm_isa.specs.declared.instruction.HalfKind.{HalfKind}
use Rattle.arm_isa.specs.declared.instruction.HalfKind.TheVariants.{Half as HalfWord, SignedByte, SignedHalf}

-- Fields by their names in the manual.

abbrev pub rn_field : ℕ → ℕ
rn_field word = field word 16 4

abbrev pub rd_field : ℕ → ℕ
rd_field word = field word 12 4

abbrev pub rs_field : ℕ → ℕ
rs_field word = field word 8 4

abbrev pub rm_field : ℕ → ℕ
rm_field word = field word 0 4

abbrev pub condition_field : ℕ → Condition
condition_field word = condition_numbered (field word 28 4)

abbrev pub opcode_field : ℕ → Opcode
opcode_field word = opcode_numbered (field word 21 4)

abbrev pub i_bit : ℕ → Bool
i_bit word = flag word 25

abbrev pub p_bit : ℕ → Bool
p_bit word = flag word 24

abbrev pub u_bit : ℕ → Bool
u_bit word = flag word 23

abbrev pub b_bit : ℕ → Bool
b_bit word = flag word 22

abbrev pub w_bit : ℕ → Bool
w_bit word = flag word 21

abbrev pub s_bit : ℕ → Bool
s_bit word = flag word 20

abbrev pub l_bit : ℕ → Bool
l_bit word = flag word 20

abbrev pub pc : ℕ
pc = 15

-- Shifts and operands ("Addressing Mode 1 - Data-processing operands").

-- bits 6:5
abbrev pub shift_kind_numbered : ℕ → ShiftKind
shift_kind_numbered number = if number == 0 then kind.Lsl else if number == 1 then kind.Lsr else if number == 2 then kind.Asr else kind.Ror

abbrev pub shift_kind_field : ℕ → ShiftKind
shift_kind_field word = shift_kind_numbered (field word 5 2)

-- an amount of 0 stands for a shift by 32 places to the right, and at ROR for RRX
abbrev pub immediate_shift : ShiftKind → ℕ → Shift
immediate_shift kind.Lsl amount = Lsl amount
immediate_shift kind.Lsr amount = Lsr (if amount == 0 then 32 else amount)
immediate_shift kind.Asr amount = Asr (if amount == 0 then 32 else amount)
immediate_shift kind.Ror amount = if amount == 0 then Rrx else Ror amount

abbrev pub shift_field : ℕ → Shift
shift_field word = immediate_shift (shift_kind_field word) (field word 7 5)

abbrev pub shifted_by_register : ℕ → Bool
shifted_by_register word = not (i_bit word) && flag word 4

abbrev pub operand_field : ℕ → Operand
operand_field word =
    if i_bit word then Constant (rotate_right w32 (field word 0 8) (2 * field word 8 4)) (not (field word 8 4 == 0))
    else if flag word 4 then ByRegister (rm_field word) (shift_kind_field word) (rs_field word)
    else ShiftedOperand (rm_field word) (shift_field word)

-- Addresses ("Addressing Mode 2 - Load and Store Word or Unsigned Byte" and "Addressing Mode 3 -
-- Miscellaneous Loads and Stores").

abbrev pub index_field : ℕ → Index
index_field word = if p_bit word then (if w_bit word then BeforeBack else Before) else After

abbrev pub writes_back : ℕ → Bool
writes_back word = not (p_bit word) || w_bit word

-- own: the forms for user mode (P = 0 with W = 1; unpredictable for halfwords). Unpredictable: r15 as
-- offset; a base that is written back and is r15, the register that is moved, or the offset
abbrev pub index_refused : ℕ → Bool → Bool
index_refused word by_register =
    (not (p_bit word) && w_bit word)
    || (by_register && (rm_field word == pc))
    || (writes_back word && ((rn_field word == pc) || (rn_field word == rd_field word) || (by_register && (rn_field word == rm_field word))))

-- The lines.

pub data Line : Type 0 where
  Decodes : (fits refused : ℕ → Bool) (meaning : ℕ → Op) → Line
  Undefined : (fits : ℕ → Bool) → Line

-- "BX" (chapter A4): bits 27:4 are fixed
abbrev pub exchange_fits : ℕ → Bool
exchange_fits word = field word 4 24 == 0x12FFF1

-- own: r15 as target
abbrev pub exchange_refused : ℕ → Bool
exchange_refused word = rm_field word == pc

abbrev pub exchange_op : ℕ → Op
exchange_op word = op.Exchange (record { rm = rm_field word })

-- "Multiplies": MUL, MLA; here Rd stands at 19:16 and Rn at 15:12
abbrev pub multiply_fits : ℕ → Bool
multiply_fits word = (field word 22 6 == 0) && (field word 4 4 == 9)

-- a register is r15 (unpredictable); own: MUL whose bits 15:12 aren't 0
abbrev pub multiply_refused : ℕ → Bool
multiply_refused word =
    (rn_field word == pc) || (rd_field word == pc) || (rs_field word == pc) || (rm_field word == pc)
    || (not (flag word 21) && not (rd_field word == 0))

abbrev pub multiply_op : ℕ → Op
multiply_op word = op.Multiply (record {
  accumulate = flag word 21;
  set_flags = s_bit word;
  rd = field word 16 4;
  rn = field word 12 4;
  rs = rs_field word;
  rm = rm_field word;
})

-- "Multiplies": UMULL, UMLAL, SMULL, SMLAL; RdHi stands at 19:16 and RdLo at 15:12
abbrev pub long_fits : ℕ → Bool
long_fits word = (field word 23 5 == 1) && (field word 4 4 == 9)

-- a register is r15, or RdHi is RdLo (unpredictable)
abbrev pub long_refused : ℕ → Bool
long_refused word =
    (field word 16 4 == pc) || (field word 12 4 == pc) || (rs_field word == pc) || (rm_field word == pc)
    || (field word 16 4 == field word 12 4)

abbrev pub long_op : ℕ → Op
long_op word = op.MultiplyLong (record {
  signed = flag word 22;
  accumulate = flag word 21;
  set_flags = s_bit word;
  rd_hi = field word 16 4;
  rd_lo = field word 12 4;
  rs = rs_field word;
  rm = rm_field word;
})

-- "Load and store halfword or signed byte": bits 6:5 are S and H
abbrev pub half_fits : ℕ → Bool
half_fits word = (field word 25 3 == 0) && flag word 7 && flag word 4 && not (field word 5 2 == 0)

-- a store of a signed quantity (another architecture's doubleword); r15 as Rd; in the register form
-- bits 11:8 that aren't 0
abbrev pub half_refused : ℕ → Bool
half_refused word =
    (not (l_bit word) && not (field word 5 2 == 1))
    || (rd_field word == pc)
    || (not (flag word 22) && not (field word 8 4 == 0))
    || index_refused word (not (flag word 22))

abbrev pub half_kind : ℕ → HalfKind
half_kind word = if field word 5 2 == 1 then HalfWord else if field word 5 2 == 2 then SignedByte else SignedHalf

abbrev pub half_offset : ℕ → Offset
half_offset word = if flag word 22 then Bytes (16 * field word 8 4 + field word 0 4) else ShiftedOffset (rm_field word) (Lsl 0)

abbrev pub half_op : ℕ → Op
half_op word = op.Half (record {
  load = l_bit word;
  kind = half_kind word;
  index = index_field word;
  up = u_bit word;
  rn = rn_field word;
  rd = rd_field word;
  offset = half_offset word;
})

-- "Multiplies, extra load/store instructions": what else has bits 7 and 4 set, SWP among it (own)
abbrev pub extension_fits : ℕ → Bool
extension_fits word = (field word 25 3 == 0) && flag word 7 && flag word 4

-- "Data-processing immediate", "Data-processing immediate shift" and "Data-processing register shift"
abbrev pub compute_fits : ℕ → Bool
compute_fits word = field word 26 2 == 0

-- r15 beside a shift by a register
abbrev pub shift_refused : ℕ → Bool
shift_refused word =
    shifted_by_register word
    && ((rn_field word == pc) || (rd_field word == pc) || (rs_field word == pc) || (rm_field word == pc))

-- a test without S is another instruction (status registers, "Miscellaneous instructions"); own: a test
-- whose Rd isn't 0, a move whose Rn isn't 0, S with r15 as destination (a return from an exception, not
-- for user mode); r15 beside a shift by a register (unpredictable)
abbrev pub compute_refused : ℕ → Bool
compute_refused word =
    (is_test (opcode_field word) && not (s_bit word))
    || (is_test (opcode_field word) && not (rd_field word == 0))
    || (is_move (opcode_field word) && not (rn_field word == 0))
    || (not (is_test (opcode_field word)) && s_bit word && (rd_field word == pc))
    || shift_refused word

abbrev pub compute_op : ℕ → Op
compute_op word = op.Compute (record {
  opcode = opcode_field word;
  set_flags = s_bit word;
  rn = rn_field word;
  rd = rd_field word;
  operand = operand_field word;
})

-- "Load and store word or unsigned byte"
abbrev pub word_fits : ℕ → Bool
word_fits word = (field word 26 2 == 1) && not (i_bit word && flag word 4)

-- r15 as Rd (unpredictable for a byte; own for STR, whose stored value the implementation chooses): LDR
-- alone may load it
abbrev pub word_refused : ℕ → Bool
word_refused word =
    ((rd_field word == pc) && not (l_bit word && not (b_bit word)))
    || index_refused word (i_bit word)

abbrev pub word_offset : ℕ → Offset
word_offset word = if i_bit word then ShiftedOffset (rm_field word) (shift_field word) else Bytes (field word 0 12)

abbrev pub word_op : ℕ → Op
word_op word = op.Word (record {
  load = l_bit word;
  byte = b_bit word;
  index = index_field word;
  up = u_bit word;
  rn = rn_field word;
  rd = rd_field word;
  offset = word_offset word;
})

-- "Load/store multiple"
abbrev pub block_fits : ℕ → Bool
block_fits word = field word 25 3 == 4

-- own: S (the registers of another mode); a store of r15, whose value the implementation chooses.
-- Unpredictable: an empty list; r15 as base; a base that is written back and stands in the list (own for
-- STM with the base as its lowest register)
abbrev pub block_refused : ℕ → Bool
block_refused word =
    flag word 22
    || (field word 0 16 == 0)
    || (not (l_bit word) && flag word 15)
    || (rn_field word == pc)
    || (w_bit word && flag word (rn_field word))

abbrev pub block_op : ℕ → Op
block_op word = op.Block (record {
  load = l_bit word;
  before = p_bit word;
  up = u_bit word;
  write_back = w_bit word;
  rn = rn_field word;
  list = field word 0 16;
})

-- "Branch and branch with link": a signed number of words in bits 23:0
abbrev pub branch_fits : ℕ → Bool
branch_fits word = field word 25 3 == 5

abbrev pub branch_words : ℕ → ℤ
branch_words word = if nat_lt (field word 0 24) (2 ^ 23) then pos (field word 0 24) else pos (field word 0 24) -ℤ pos (2 ^ 24)

abbrev pub branch_op : ℕ → Op
branch_op word = op.Branch (record { link = flag word 24; words = branch_words word })

-- what fits no line (coprocessors, software interrupts, undefined words) has no decoding
abbrev pub table : List Line
table =
    Decodes exchange_fits exchange_refused exchange_op
    ∷ Decodes multiply_fits multiply_refused multiply_op
    ∷ Decodes long_fits long_refused long_op
    ∷ Decodes half_fits half_refused half_op
    ∷ Undefined extension_fits
    ∷ Decodes compute_fits compute_refused compute_op
    ∷ Decodes word_fits word_refused word_op
    ∷ Decodes block_fits block_refused block_op
    ∷ Decodes branch_fits (λ _. false) branch_op
    ∷ []

-- what a word means that a line fits; the condition stands in bits 31:28 of each
abbrev pub unless : (ℕ → Bool) → (ℕ → Op) → ℕ → Option Insn
unless refused meaning word = if refused word then None else Some (record { condition = condition_field word; op = meaning word })

abbrev pub first_fit : List Line → ℕ → Option Insn
first_fit [] word = None
first_fit (Decodes fits refused meaning ∷ lines) word = if fits word then unless refused meaning word else first_fit lines word
first_fit (Undefined fits ∷ lines) word = if fits word then None else first_fit lines word

-- own: the condition 15 has none (in this architecture it is "never", unpredictable)
abbrev pub decoding : ℕ → Option Insn
decoding word = if field word 28 4 == 15 then None else first_fit table word
