-- Loads and stores of one number (ARM Architecture Reference Manual, A5.2 and A5.3).
use Rattle.std.specs.Prelude.{ℕ, ◌+◌, ◌-◌, ◌%◌, ◌^◌, ◌<◌, ◌==◌, ◌&&◌, not, nat_le, Bool, true, false, if◌then◌else◌, Option, Some, None, Result, Ok, Err}
use Rattle.elf32_image.specs.Parts.{ImageValue}
use Rattle.arm_isa.specs.declared.instruction.Index.{Index}
use Rattle.arm_isa.specs.declared.instruction.Index.TheVariants as index
use Rattle.arm_isa.specs.declared.instruction.HalfKind.{HalfKind}
use Rattle.arm_isa.specs.declared.instruction.HalfKind.TheVariants as kind
use Rattle.arm_isa.specs.declared.instruction.Offset.{Offset}
use Rattle.arm_isa.specs.declared.instruction.Offset.TheVariants as offset
use Rattle.arm_isa.specs.declared.instruction.WordTransfer.{WordTransfer}
use Rattle.arm_isa.specs.declared.instruction.HalfTransfer.{HalfTransfer}
use Rattle.arm_isa.specs.Ranges.{IsOffset}
use Rattle.arm_isa.specs.Writes.{is_after, is_one_word, keeps_address}
use Rattle.arm_cpu.specs.declared.cpu.Cpu.{Cpu}
use Rattle.arm_machine.specs.declared.transfers.Transfer.{Transfer}
use Rattle.arm_machine.specs.declared.access.Size.{Size}
use Rattle.arm_machine.specs.declared.access.Size.TheVariants as size
use Rattle.arm_cpu.specs.declared.stops.Stop.{Stop}
use Rattle.arm_cpu.specs.Registers.{advanced, and_then, read, with_register, written}
use Rattle.arm_machine.specs.States.{Bytes, State}
use Rattle.arm_cpu.specs.Shifts.{shift_value}
use Rattle.arm_machine.specs.Access.{is_saved, loaded, store_stop, stored}

abbrev pub offset_value : Cpu → Offset → ℕ
offset_value cpu (offset.Value bytes) = bytes
offset_value cpu (offset.Shifted rm by) = shift_value cpu.flags.c (read cpu rm) by

abbrev pub IsTransfer : Transfer → Type 0
IsTransfer this = (this.rn < 16) × (this.rd < 16) × IsOffset this.offset

-- the base with the offset added or subtracted
abbrev pub changed_base : Cpu → Transfer → ℕ
changed_base cpu this =
    if this.up
    then (read cpu this.rn + offset_value cpu this.offset) % 2 ^ 32
    else (read cpu this.rn + 2 ^ 32 - offset_value cpu this.offset) % 2 ^ 32

-- where the access is: at the changed address, or with post-indexed addressing at the base
abbrev pub accessed : Cpu → Transfer → ℕ
accessed cpu this = if is_after this.index then read cpu this.rn else changed_base cpu this

-- the base gets the changed address, where it is written back
abbrev pub rebased : Cpu → Transfer → Cpu
rebased cpu this = if keeps_address this.index then with_register cpu this.rn (changed_base cpu this) else cpu

-- what a signed load fills above its number
abbrev pub extended : HalfKind → ℕ → ℕ
extended kind.Half value = value
extended kind.SignedByte value = if nat_le (2 ^ 7) value then (value + (2 ^ 32 - 2 ^ 8)) % 2 ^ 32 else value
extended kind.SignedHalf value = if nat_le (2 ^ 15) value then (value + (2 ^ 32 - 2 ^ 16)) % 2 ^ 32 else value

abbrev pub kind_size : HalfKind → Size
kind_size kind.Half = size.Half
kind_size kind.SignedByte = size.Byte
kind_size kind.SignedHalf = size.Half

abbrev pub word_size : Bool → Size
word_size byte = if byte then size.Byte else size.Word

-- LDR, STR, LDRB, STRB (A4.1): a load fills the word with zeros
abbrev pub word_transfer : WordTransfer → Transfer
word_transfer this = record {
  load = this.load;
  size = word_size this.byte;
  kind = kind.Half;
  index = this.index;
  up = this.up;
  rn = this.rn;
  rd = this.rd;
  offset = this.offset;
}

-- LDRH, STRH, LDRSB, LDRSH
abbrev pub half_transfer : HalfTransfer → Transfer
half_transfer this = record {
  load = this.load;
  size = kind_size this.kind;
  kind = this.kind;
  index = this.index;
  up = this.up;
  rn = this.rn;
  rd = this.rd;
  offset = this.offset;
}

-- a load: the number at the address, extended, goes to the destination
abbrev pub loads : Cpu → Bytes → Transfer → Result Cpu Stop
loads cpu memory this =
    and_then (λ value. written (rebased cpu this) this.rd (extended this.kind value)) (loaded memory this.size (accessed cpu this))

-- the state with other registers
abbrev pub with_cpu : State → Result Cpu Stop → Result State Stop
with_cpu s (Ok cpu) = Ok (record s { cpu = cpu })
with_cpu s (Err stop) = Err stop

abbrev pub unless_stopped : Option Stop → State → Result State Stop
unless_stopped None s = Ok s
unless_stopped (Some stop) s = Err stop

abbrev pub is_before_back : Index → Bool
is_before_back index.Before = false
is_before_back index.BeforeBack = true
is_before_back index.After = false

abbrev pub is_word : Size → Bool
is_word size.Byte = false
is_word size.Half = false
is_word size.Word = true

-- STR Rd,[r13,#-4]! of a saved register
abbrev pub is_push : Transfer → Bool
is_push this =
    is_word this.size && is_before_back this.index && not this.up && (this.rn == 13) && is_one_word this.offset && is_saved this.rd

-- a store: the low bytes of a register go to the address
abbrev pub stores : ImageValue → State → Transfer → Result State Stop
stores image s this =
    let a = accessed s.cpu this in
    unless_stopped (store_stop image s.memory s.kept this.rn this.size a)
    (record (stored s this.rn this.size a (read s.cpu this.rd) (is_push this)) { cpu = advanced (rebased s.cpu this) })

abbrev pub transfers : ImageValue → State → Transfer → Result State Stop
transfers image s this = if this.load then with_cpu s (loads s.cpu s.memory this) else stores image s this
