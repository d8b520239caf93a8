-- Where the use of the stack can't be followed along histories: r13 isn't known at an access, an access goes beyond the
-- stack, or a return isn't shown to bring its own return address.
use Rattle.std.specs.Prelude.{◌≡◌, ◌≢◌, ◌⊎◌, ℕ, ℤ, pos, neg_ℤ, ◌+ℤ◌, ◌-ℤ◌, ◌<ℤ◌, ◌*◌, ◌==◌, Bool, true, false}
use Rattle.std.specs.Prelude.{if◌then◌else◌}
use Rattle.std.specs.Prelude.{Option, Some, None, List, option_and_then, count_ones}
use Rattle.elf32_image.specs.Parts.{ImageValue}
use Rattle.arm_isa.specs.declared.instruction.Insn.{Insn}
use Rattle.arm_isa.specs.declared.instruction.Op.{Op}
use Rattle.arm_isa.specs.declared.instruction.Op.TheVariants as op
use Rattle.arm_isa.specs.declared.instruction.Index.{Index}
use Rattle.arm_isa.specs.declared.instruction.Offset.{Offset}
use Rattle.arm_isa.specs.declared.instruction.Offset.TheVariants as by
use Rattle.arm_isa.specs.Writes.{is_after, is_return_form}
use Rattle.control_flow.specs.Instructions.{instruction_at}
use Rattle.control_flow.specs.Points.{Point, last_return}
use Rattle.control_flow.specs.Routes.{Taken}
use Rattle.path_facts.specs.Facts.{offset_of}
use Rattle.path_facts.specs.Histories.{IsHistoryOf, facts_of, returned_fact, wanted_fact}

-- a load or store whose base is r13
abbrev pub accesses_by_sp : Op → Bool
accesses_by_sp (op.Word this) = this.rn == 13
accesses_by_sp (op.Half this) = this.rn == 13
accesses_by_sp (op.Block this) = this.rn == 13
accesses_by_sp _ = false

-- an offset with a constant added or subtracted; none where it is a register's
abbrev pub accessed_from : ℤ → Index → Bool → Offset → Option ℤ
accessed_from o index up (by.Value c) = Some (if is_after index then o else if up then o +ℤ pos c else o -ℤ pos c)
accessed_from o index up (by.Shifted rm shift) = None

-- the lowest byte of an access by r13, from where r13 pointed at the start
abbrev pub lowest_byte : ℤ → Op → Option ℤ
lowest_byte o (op.Word this) = accessed_from o this.index this.up this.offset
lowest_byte o (op.Half this) = accessed_from o this.index this.up this.offset
lowest_byte o (op.Block this) =
    Some (if this.up
    then o +ℤ pos (if this.before then 4 else 0)
    else o -ℤ pos (4 * count_ones this.list) +ℤ pos (if this.before then 0 else 4))
lowest_byte o _ = None

-- how far r13 is from its start after a history, where that is known
abbrev pub offset_after : ImageValue → ℕ → List (Taken Point) → Option ℤ
offset_after image stack h = offset_of (facts_of image stack h)

-- The stack is lost: at an access by r13 a history doesn't give r13's offset, or two histories give different ones.
pub record IsStackLost (image : ImageValue) (entry stack : ℕ) (p : Point) : Type 0 where
  pub insn : Insn
  pub found : instruction_at image p.address ≡ Some insn
  pub by_sp : accesses_by_sp insn.op ≡ true
  pub one : List (Taken Point)
  pub other : List (Taken Point)
  pub leads : IsHistoryOf image entry one p
  pub leads_too : IsHistoryOf image entry other p
  pub differ : (offset_after image stack one ≡ None) ⊎ (offset_after image stack one ≢ offset_after image stack other)

-- An access goes beyond the stack: a history gives its lowest byte this offset, below the stack's bytes.
pub record IsStackOver (image : ImageValue) (entry stack : ℕ) (p : Point) (lowest : ℤ) : Type 0 where
  pub insn : Insn
  pub found : instruction_at image p.address ≡ Some insn
  pub by_sp : accesses_by_sp insn.op ≡ true
  pub history : List (Taken Point)
  pub leads : IsHistoryOf image entry history p
  pub at : option_and_then (λ o. lowest_byte o insn.op) (offset_after image stack history) ≡ Some lowest
  pub beyond : lowest <ℤ neg_ℤ (pos stack)

-- A return is unproved: after a history of it the facts don't say that it brings its own return address.
pub record IsReturnUnproved (image : ImageValue) (entry stack : ℕ) (p : Point) : Type 0 where
  pub insn : Insn
  pub found : instruction_at image p.address ≡ Some insn
  pub returns : is_return_form insn ≡ true
  pub history : List (Taken Point)
  pub leads : IsHistoryOf image entry history p
  pub other : returned_fact (facts_of image stack history) insn.op ≢ Some (wanted_fact (last_return p.returns))
