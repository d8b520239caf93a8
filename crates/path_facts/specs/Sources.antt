-- The table of path facts: what each location's value after a done instruction is, and which stack words are marked
-- then. In all of it `a` is the instruction's address, `offset` how far r13 is from its start, where that is known, and
-- `e` an offset from r13's start modulo 2^32. The operations are those of the ARM Architecture Reference Manual,
-- chapter A4.
use Rattle.std.specs.Prelude.{ℕ, ℤ, pos, neg_ℤ, ◌+ℤ◌, ◌+◌, ◌-◌, ◌*◌, ◌%◌, ◌/◌, ◌^◌, ◌==◌, ◌&&◌, ◌||◌, not, nat_le}
use Rattle.std.specs.Prelude.{nat_lt}
use Rattle.std.specs.Prelude.{Bool, true, false, if◌then◌else◌, Option, Some, None, List, [], ◌∷◌, count_ones}
use Rattle.std.specs.Prelude.{unsigned_abs}
use Rattle.std.specs.Int.{int_rem_euclid}
use Rattle.arm_isa.specs.declared.instruction.Op.{Op}
use Rattle.arm_isa.specs.declared.instruction.Op.TheVariants as op
use Rattle.arm_isa.specs.declared.instruction.BlockTransfer.{BlockTransfer}
use Rattle.arm_isa.specs.declared.instruction.Operand.{Operand}
use Rattle.arm_isa.specs.declared.instruction.Operand.TheVariants as operand
use Rattle.arm_isa.specs.declared.instruction.Shift.{Shift}
use Rattle.arm_isa.specs.declared.instruction.Shift.TheVariants as shift
use Rattle.arm_isa.specs.declared.instruction.Offset.{Offset}
use Rattle.arm_isa.specs.declared.instruction.Offset.TheVariants as by
use Rattle.arm_isa.specs.declared.instruction.Index.{Index}
use Rattle.arm_isa.specs.declared.opcodes.Opcode.{Opcode}
use Rattle.arm_isa.specs.declared.opcodes.Opcode.TheVariants as opcode
use Rattle.arm_isa.specs.Writes.{is_after, op_writes}
use Rattle.arm_cpu.specs.Registers.{signed_of}
use Rattle.arm_machine.specs.declared.transfers.Transfer.{Transfer}
use Rattle.arm_machine.specs.Access.{is_saved}
use Rattle.arm_machine.specs.Blocks.{is_push_block, registers_of}
use Rattle.arm_machine.specs.Transfers.{half_transfer, is_push, word_transfer}
use Rattle.path_facts.specs.Facts.{Location, Source}
use Rattle.path_facts.specs.Facts.Location.{Register, StackWord}
use Rattle.path_facts.specs.Facts.Source.{Nothing, Constant, Sum, Copy, IfMarked}

-- a register plus a constant; r15 reads as the address + 8 (A2.4.3)
abbrev pub register_source : ℕ → ℕ → ℤ → Source
register_source a r by = if r == 15 then Constant (signed_of ((a + 8) % 2 ^ 32) +ℤ by) else Sum r by

-- MOV of a constant; ADD and SUB of a register and a constant, modulo 2^32 as facts are
abbrev pub constant_source : ℕ → Opcode → ℕ → ℕ → Source
constant_source a opcode.Mov rn value = Constant (signed_of value)
constant_source a opcode.Add rn value = register_source a rn (signed_of value)
constant_source a opcode.Sub rn value = register_source a rn (neg_ℤ (signed_of value))
constant_source a _ rn value = Nothing

-- MOV of a register
abbrev pub moved_source : ℕ → Opcode → ℕ → Source
moved_source a opcode.Mov rm = register_source a rm (pos 0)
moved_source a _ rm = Nothing

-- that isn't shifted
abbrev pub shifted_source : ℕ → Opcode → ℕ → Shift → Source
shifted_source a code rm (shift.Lsl amount) = if amount == 0 then moved_source a code rm else Nothing
shifted_source a code rm _ = Nothing

-- all other results of data processing are no location plus a constant
abbrev pub compute_source : ℕ → Opcode → ℕ → Operand → Source
compute_source a code rn (operand.Value value rotated) = constant_source a code rn value
compute_source a code rn (operand.Shifted rm by) = shifted_source a code rm by
compute_source a code rn (operand.ByRegister rm kind rs) = Nothing

-- a number modulo 2^32
abbrev pub residue : ℤ → ℕ
residue z = unsigned_abs (int_rem_euclid z (pos (2 ^ 32)))

-- an offset with a constant added or subtracted
abbrev pub moved : Bool → ℕ → ℕ → ℕ
moved up e c = if up then (e + c) % 2 ^ 32 else (e + 2 ^ 32 - c) % 2 ^ 32

-- where an access by a base and a constant is: post-indexed at the base itself (A5.2, A5.3)
abbrev pub indexed : Index → Bool → ℕ → Offset → Option ℕ
indexed index up e (by.Value c) = Some (if is_after index then e else moved up e c)
indexed index up e (by.Shifted rm shift) = None

-- the offset of an access by r13
abbrev pub access_offset : Option ℤ → Transfer → Option ℕ
access_offset None this = None
access_offset (Some o) this = indexed this.index this.up (residue o) this.offset

-- a stack word that facts speak of: within the stack's bytes
abbrev pub is_tracked : ℕ → ℕ → Bool
is_tracked stack k = nat_lt 0 k && nat_le (4 * k) stack

-- some of these bytes from an offset on stand in the word
abbrev pub touches : ℕ → ℕ → ℕ → Bool
touches e bytes k = nat_lt ((e + 4 * k) % 2 ^ 32) 4 || nat_lt (2 ^ 32) ((e + 4 * k) % 2 ^ 32 + bytes)

-- the offset is that of the word
abbrev pub is_at_word : ℕ → ℕ → Bool
is_at_word e k = (e + 4 * k) % 2 ^ 32 == 0

-- the word at or just above an offset
abbrev pub word_at_offset : ℕ → ℕ
word_at_offset e = (2 ^ 32 - e) / 4

-- a word that is loaded by r13: what its stack word held; between two words a load stops
abbrev pub load_source : Option ℕ → Source
load_source None = Nothing
load_source (Some e) = if is_at_word e (word_at_offset e) then Copy (StackWord (word_at_offset e)) else Nothing

-- a written-back base: the constant is added or subtracted; what a register adds isn't known
abbrev pub base_source : Bool → ℕ → Offset → Source
base_source up rn (by.Value c) = Sum rn (if up then pos c else neg_ℤ (pos c))
base_source up rn (by.Shifted rm shift) = Nothing

-- a word of the image, which a load by r15 reads: no program can write it
abbrev pub literal_source : Option ℕ → Source
literal_source None = Nothing
literal_source (Some value) = Constant (signed_of value)

-- what a load of a word or byte brings: of a byte, and by other bases, nothing is known
abbrev pub loaded_source : Option ℕ → Option ℕ → Bool → ℕ → Source
loaded_source literal at byte rn =
    if byte then Nothing
    else if rn == 15 then literal_source literal
    else if rn == 13 then load_source at
    else Nothing

-- the offset of the lowest word of LDM and STM by r13 (A5.4)
abbrev pub block_offset : Option ℤ → BlockTransfer → Option ℕ
block_offset None this = None
block_offset (Some o) this =
    Some (if this.up
    then (residue o + (if this.before then 4 else 0)) % 2 ^ 32
    else (residue o + 2 ^ 32 - 4 * count_ones this.list + (if this.before then 0 else 4)) % 2 ^ 32)

-- the same where the base may be another register, which isn't known
abbrev pub based_offset : Option ℤ → BlockTransfer → Option ℕ
based_offset offset this = if this.rn == 13 then block_offset offset this else None

abbrev pub next_offset : Option ℕ → Option ℕ
next_offset None = None
next_offset (Some e) = Some ((e + 4) % 2 ^ 32)

-- a register after LDM, with its source without the load: the words go to the registers one after another
abbrev pub loads_source : Option ℕ → List ℕ → ℕ → Source → Source
loads_source at [] r before = before
loads_source at (q ∷ rs) r before = loads_source (next_offset at) rs r (if r == q then load_source at else before)

-- a base of LDM or STM, written back by 4 bytes for each register
abbrev pub block_base_source : BlockTransfer → ℕ → Source
block_base_source this r =
    if this.write_back && (r == this.rn)
    then Sum this.rn (if this.up then pos (4 * count_ones this.list) else neg_ℤ (pos (4 * count_ones this.list)))
    else Copy (Register r)

-- A register that the instruction writes; `literal` is the image's word that a load by r15 reads. Products and loaded
-- halfwords are no location plus a constant, and BL leaves the next address in r14.
abbrev pub written_source : ℕ → Option ℕ → Option ℤ → Op → ℕ → Source
written_source a literal offset (op.Compute this) r = compute_source a this.opcode this.rn this.operand
written_source a literal offset (op.Multiply this) r = Nothing
written_source a literal offset (op.MultiplyLong this) r = Nothing
written_source a literal offset (op.Word this) r =
    if this.load && (r == this.rd)
    then loaded_source literal (access_offset offset (word_transfer this)) this.byte this.rn
    else base_source this.up this.rn this.offset
written_source a literal offset (op.Half this) r =
    if this.load && (r == this.rd) then Nothing else base_source this.up this.rn this.offset
written_source a literal offset (op.Block this) r =
    if this.load
    then loads_source (based_offset offset this) (registers_of this.list) r (block_base_source this r)
    else block_base_source this r
written_source a literal offset (op.Branch this) r = Constant (signed_of ((a + 4) % 2 ^ 32))
written_source a literal offset (op.Exchange this) r = Nothing

-- a stack word after a register was stored at an offset, with its source without the store; where the offset isn't
-- known it may be any word's
abbrev pub word_store_source : Option ℕ → ℕ → ℕ → Source → Source
word_store_source None q k before = Nothing
word_store_source (Some e) q k before =
    if is_at_word e k then Copy (Register q) else if touches e 4 k then Nothing else before

-- a stack word after other bytes were stored at an offset: where some of them stand in it, it isn't known any more
abbrev pub bytes_store_source : Option ℕ → ℕ → ℕ → Source
bytes_store_source None bytes k = Nothing
bytes_store_source (Some e) bytes k = if touches e bytes k then Nothing else Copy (StackWord k)

-- a stack word after STM by r13: the registers go to the words one after another
abbrev pub stores_source : Option ℕ → List ℕ → ℕ → Source → Source
stores_source at [] k before = before
stores_source at (q ∷ rs) k before = stores_source (next_offset at) rs k (word_store_source at q k before)

-- A stack word. Loads change none, and nor do stores by another base than r13 to marked words: the machine stops there.
abbrev pub stack_source : Option ℤ → Op → ℕ → Source
stack_source offset (op.Word this) k =
    if this.load then Copy (StackWord k)
    else if not (this.rn == 13) then IfMarked k
    else if this.byte then bytes_store_source (access_offset offset (word_transfer this)) 1 k
    else word_store_source (access_offset offset (word_transfer this)) this.rd k (Copy (StackWord k))
stack_source offset (op.Half this) k =
    if this.load then Copy (StackWord k)
    else if not (this.rn == 13) then IfMarked k
    else bytes_store_source (access_offset offset (half_transfer this)) 2 k
stack_source offset (op.Block this) k =
    if this.load then Copy (StackWord k)
    else if not (this.rn == 13) then IfMarked k
    else stores_source (block_offset offset this) (registers_of this.list) k (Copy (StackWord k))
stack_source offset _ k = Copy (StackWord k)

-- The mark of a stack word after a store by r13, as the machine keeps words: a push of a saved register sets it, any
-- other store of its bytes takes it, and where the offset isn't known it may be that word.
abbrev pub mark_after_store : Option ℕ → ℕ → ℕ → Bool → Bool → Bool
mark_after_store None bytes k saves before = false
mark_after_store (Some e) bytes k saves before =
    if is_at_word e k && saves then true else if touches e bytes k then false else before

abbrev pub mark_after_stores : Option ℕ → List ℕ → ℕ → Bool → Bool → Bool
mark_after_stores at [] k saves before = before
mark_after_stores at (q ∷ rs) k saves before =
    mark_after_stores (next_offset at) rs k saves (mark_after_store at 4 k (saves && is_saved q) before)

-- the mark of a stack word, where it had this one
abbrev pub mark_after : Option ℤ → Op → ℕ → Bool → Bool
mark_after offset (op.Word this) k before =
    if this.load then before
    else if not (this.rn == 13) then before
    else if this.byte then mark_after_store (access_offset offset (word_transfer this)) 1 k false before
    else mark_after_store (access_offset offset (word_transfer this)) 4 k (is_push (word_transfer this)) before
mark_after offset (op.Half this) k before =
    if this.load then before
    else if not (this.rn == 13) then before
    else mark_after_store (access_offset offset (half_transfer this)) 2 k false before
mark_after offset (op.Block this) k before =
    if this.load then before
    else if not (this.rn == 13) then before
    else mark_after_stores (block_offset offset this) (registers_of this.list) k (is_push_block this) before
mark_after offset _ k before = before

-- Each location: registers 0 to 14, and the tracked stack words. A register that isn't written keeps its value.
abbrev pub source_of : ℕ → ℕ → Option ℕ → Option ℤ → Op → Location → Source
source_of stack a literal offset o (Register r) =
    if nat_lt r 15
    then (if op_writes o r then written_source a literal offset o r else Copy (Register r))
    else Nothing
source_of stack a literal offset o (StackWord k) = if is_tracked stack k then stack_source offset o k else Nothing

abbrev pub mark_of : ℕ → Option ℤ → Op → ℕ → Bool → Bool
mark_of stack offset o k before = if is_tracked stack k then mark_after offset o k before else false

-- what goes to pc where an instruction returns: r14, or a word of the stack
abbrev pub return_source : Option ℤ → Op → Source
return_source offset (op.Compute this) = Copy (Register 14)
return_source offset (op.Word this) = load_source (access_offset offset (word_transfer this))
return_source offset (op.Block this) = loads_source (block_offset offset this) (registers_of this.list) 15 Nothing
return_source offset (op.Exchange this) = Copy (Register 14)
return_source offset _ = Nothing
