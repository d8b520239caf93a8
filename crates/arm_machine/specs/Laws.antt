-- What a done instruction may change, and what it keeps.
use Rattle.std.specs.Prelude.{◌≡◌, ℕ, ◌+◌, ◌-◌, ◌*◌, ◌%◌, ◌^◌, ◌==◌, ◌&&◌, not, Bool, true, false, if◌then◌else◌, Option, Some, None, Result, Ok, Err}
use Rattle.std.specs.Prelude.{List, length, slice_index}
use Rattle.std.specs.List.{list_any}
use Rattle.elf32_image.specs.Parts.{ImageValue}
use Rattle.arm_isa.specs.declared.instruction.Op.{Op}
use Rattle.arm_isa.specs.declared.instruction.Op.TheVariants as op
use Rattle.arm_isa.specs.Writes.{op_writes}
use Rattle.arm_cpu.specs.declared.cpu.Cpu.{Cpu}
use Rattle.arm_cpu.specs.declared.stops.Stop.{Stop}
use Rattle.arm_cpu.specs.Registers.{read}
use Rattle.arm_machine.specs.declared.access.Size.{Size}
use Rattle.arm_machine.specs.declared.access.Size.TheVariants as size
use Rattle.arm_machine.specs.declared.events.Event.{Event}
use Rattle.arm_machine.specs.Access.{is_aligned, is_kept, is_read_only, number_at}
use Rattle.arm_machine.specs.Blocks.{registers_of}
use Rattle.arm_machine.specs.States.{State}
use Rattle.arm_machine.specs.Steps.{Outcome}
use Rattle.arm_machine.specs.Steps.Outcome.{Next, Stopped}

-- the fact holds of what comes of it, unless it stops
abbrev pub IfDone : {A : Type 0} → Result A Stop → (A → Type 0) → Type 0
IfDone (Ok a) P = P a
IfDone (Err stop) P = Unit {0}

-- the fact holds of what the step leads to, unless it stops
abbrev pub IfStep : Outcome → (State → Event → Type 0) → Type 0
IfStep (Next s event) P = P s event
IfStep (Stopped stop) P = Unit {0}

abbrev pub is_store : Op → Bool
is_store (op.Word this) = not this.load
is_store (op.Half this) = not this.load
is_store (op.Block this) = not this.load
is_store _ = false

-- the base register by which an instruction stores, if it does
abbrev pub store_base : Op → Option ℕ
store_base (op.Word this) = if this.load then None else Some this.rn
store_base (op.Half this) = if this.load then None else Some this.rn
store_base (op.Block this) = if this.load then None else Some this.rn
store_base _ = None

-- the address of the last word that LDMIA loads into these registers
abbrev pub last_of_block : ℕ → List ℕ → ℕ
last_of_block base rs = (base + 4 * (length rs - 1)) % 2 ^ 32

-- What an instruction that returns brings to pc: register 14, or a word of the stack. Register 15 is the highest, so it
-- gets the last word of a block.
abbrev pub brought : State → Op → Option ℕ
brought s (op.Compute this) = Some (read s.cpu 14)
brought s (op.Exchange this) = Some (read s.cpu 14)
brought s (op.Word this) = number_at s.memory size.Word (read s.cpu 13)
brought s (op.Block this) = number_at s.memory size.Word (last_of_block (read s.cpu 13) (registers_of this.list))
brought s _ = None

-- registers that the test doesn't name are as before
abbrev pub KeepsOthers : (ℕ → Bool) → Cpu → Cpu → Type 0
KeepsOthers writes cpu next = (r : ℕ) → writes r ≡ false → slice_index next.registers r ≡ slice_index cpu.registers r

-- only registers that the instruction names are written, and memory and marks change by stores alone
pub record Stays (o : Op) (s next : State) : Type 0 where
  pub registers : KeepsOthers (op_writes o) s.cpu next.cpu
  pub memory : is_store o ≡ false → next.memory ≡ s.memory
  pub kept : is_store o ≡ false → next.kept ≡ s.kept
  pub sets : next.sets ≡ s.sets

-- the word at an address is kept
abbrev pub Holds : ℕ → List ℕ → Type 0
Holds q kept = list_any (λ word. word == q) kept ≡ true

-- a store by a base register at an address doesn't stop for one of these reasons
pub record IsAllowed (image : ImageValue) (kept : List ℕ) (base : ℕ) (size : Size) (a : ℕ) : Type 0 where
  pub aligned : is_aligned size a ≡ true
  pub writable : is_read_only image size a ≡ false
  pub free : not (base == 13) && is_kept kept a ≡ false
