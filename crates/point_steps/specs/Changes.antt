-- Which stack words an instruction changes.
use Rattle.std.specs.Prelude.{ℕ, zero, suc, ℤ, ◌+◌, ◌-◌, ◌*◌, ◌/◌, ◌^◌, ◌<◌, ◌≤◌, ◌==◌, ◌&&◌, not, nat_le, Bool, false}
use Rattle.std.specs.Prelude.{if◌then◌else◌, Option, Some, None, length}
use Rattle.arm_isa.specs.declared.instruction.Op.{Op}
use Rattle.arm_isa.specs.declared.instruction.Op.TheVariants as op
use Rattle.arm_isa.specs.declared.instruction.WordTransfer.{WordTransfer}
use Rattle.arm_isa.specs.declared.instruction.HalfTransfer.{HalfTransfer}
use Rattle.arm_isa.specs.declared.instruction.BlockTransfer.{BlockTransfer}
use Rattle.arm_machine.specs.Blocks.{registers_of}
use Rattle.arm_machine.specs.Transfers.{half_transfer, word_transfer}
use Rattle.path_facts.specs.Facts.{Source}
use Rattle.path_facts.specs.Facts.Location.{StackWord}
use Rattle.path_facts.specs.Facts.Source.{Nothing, Copy, IfMarked}
use Rattle.path_facts.specs.Sources.{access_offset, block_offset}
use Rattle.point_steps.specs.declared.changes.StackChange.{StackChange}
use Rattle.point_steps.specs.declared.changes.StackChange.TheVariants as change

-- STR, STRB, STRH and STM
abbrev pub stores : Op → Bool
stores (op.Word this) = not this.load
stores (op.Half this) = not this.load
stores (op.Block this) = not this.load
stores _ = false

-- the change names the word
abbrev pub is_touched : StackChange → ℕ → Bool
is_touched change.Nothing k = false
is_touched (change.Words first last) k = nat_le first k && nat_le k last
is_touched change.Any k = false
is_touched change.Unmarked k = false

-- the source of a word that it doesn't name
abbrev pub source_beside : StackChange → ℕ → Source
source_beside change.Nothing k = Copy (StackWord k)
source_beside (change.Words first last) k = Copy (StackWord k)
source_beside change.Any k = Nothing
source_beside change.Unmarked k = IfMarked k

-- and the mark of one that had this mark
abbrev pub mark_beside : StackChange → Bool → Bool
mark_beside change.Nothing before = before
mark_beside (change.Words first last) before = before
mark_beside change.Any before = false
mark_beside change.Unmarked before = before

-- it names at most seventeen words
abbrev pub IsShort : StackChange → Type 0
IsShort change.Nothing = Unit {0}
IsShort (change.Words first last) = (0 < first) × (last < first + 17) × (last ≤ 2 ^ 30)
IsShort change.Any = Unit {0}
IsShort change.Unmarked = Unit {0}

-- The words in which some of these bytes stand, from an offset modulo 2^32 on: word k has the bytes from 4 × k below
-- the start to 4 × k − 3 below it.
abbrev pub touched_words : Option ℕ → ℕ → StackChange
touched_words None bytes = change.Any
touched_words (Some e) bytes = change.Words ((2 ^ 32 - e - bytes) / 4 + 1) ((2 ^ 32 - e + 3) / 4)

abbrev pub word_change : Option ℤ → WordTransfer → StackChange
word_change offset this =
    if this.load then change.Nothing
    else if not (this.rn == 13) then change.Unmarked
    else touched_words (access_offset offset (word_transfer this)) (if this.byte then 1 else 4)

abbrev pub half_change : Option ℤ → HalfTransfer → StackChange
half_change offset this =
    if this.load then change.Nothing
    else if not (this.rn == 13) then change.Unmarked
    else touched_words (access_offset offset (half_transfer this)) 2

-- a block without registers stores nothing
abbrev pub stored_words : Option ℕ → ℕ → StackChange
stored_words at zero = change.Nothing
stored_words at (suc n) = touched_words at (4 * suc n)

abbrev pub block_change : Option ℤ → BlockTransfer → StackChange
block_change offset this =
    if this.load then change.Nothing
    else if not (this.rn == 13) then change.Unmarked
    else stored_words (block_offset offset this) (length (registers_of this.list))

abbrev pub stack_change : Option ℤ → Op → StackChange
stack_change offset (op.Word this) = word_change offset this
stack_change offset (op.Half this) = half_change offset this
stack_change offset (op.Block this) = block_change offset this
stack_change offset _ = change.Nothing
