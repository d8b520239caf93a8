-- The states in which a function starts.
use Rattle.std.specs.Prelude.{◌≡◌, ◌≢◌, ℕ, pos, ◌+◌, ◌-◌, ◌%◌, ◌^◌, ◌<◌, ◌≤◌, ◌-ℤ◌, ◌≤ℤ◌, Some, None, List, [], ◌∷◌, length, slice_index}
use Rattle.elf32_image.specs.Parts.{ImageValue}
use Rattle.elf32_image.specs.Bytes.{byte_at}
use Rattle.fetch_timing.specs.declared.timing.Timing.{Timing}
use Rattle.fetch_timing.specs.Caches.{IsCache}
use Rattle.control_flow.specs.Points.{Point}
use Rattle.control_flow.specs.Ways.{IsCollected}
use Rattle.arm_machine.specs.declared.start.RegisterValue.{RegisterValue}
use Rattle.arm_cpu.specs.Registers.{signed_of}
use Rattle.arm_machine.specs.Orderly.{AreBytes, HasConstants}
use Rattle.arm_machine.specs.States.{State}

-- each of these registers holds its number
abbrev pub HasNumbers : List ℕ → List RegisterValue → Type 0
HasNumbers registers [] = Unit {0}
HasNumbers registers (p ∷ numbers) = (signed_of (slice_index registers p.register) ≡ p.value) × HasNumbers registers numbers

-- a start state of the function at an address, with a stack of this number of bytes and these numbers of its parameters
pub record IsStart (image : ImageValue) (t : Timing) (entry stack : ℕ) (numbers : List RegisterValue) (s : State) : Type 0 where
  pub at_entry : s.cpu.pc ≡ entry
  pub all_registers : length s.cpu.registers ≡ 15
  pub words : (r : ℕ) → slice_index s.cpu.registers r < 2 ^ 32
  pub params : HasNumbers s.cpu.registers numbers
  -- the stack pointer is a multiple of 4, with room for the stack below it and for arguments above
  pub aligned : slice_index s.cpu.registers 13 % 4 ≡ 0
  pub room_below : (pos stack -ℤ pos (2 ^ 31)) ≤ℤ signed_of (slice_index s.cpu.registers 13)
  pub room_above : signed_of (slice_index s.cpu.registers 13) ≤ℤ pos (2 ^ 31 - 65)
  -- no byte of the stack is loaded
  pub apart : (below : ℕ) → 1 ≤ below → below ≤ stack → byte_at image ((slice_index s.cpu.registers 13 + 2 ^ 32 - below) % 2 ^ 32) ≡ None
  -- the return address is a multiple of 4, and no point that control reaches from the entry stands there
  pub home : slice_index s.cpu.registers 14 % 4 ≡ 0
  pub away : (p : Point) → IsCollected image entry p → p.address ≢ slice_index s.cpu.registers 14
  -- each number that the memory holds is a byte, and it has the image's bytes where no program can write them
  pub bytes : AreBytes s.memory
  pub constants : HasConstants image s.memory
  pub none_kept : s.kept ≡ []
  pub cache : IsCache t s.sets
