-- The state with which a machine starts, and where there is none.
use Rattle.std.specs.Prelude.{◌≡◌, ℕ, pos, zero, suc, ◌+◌, ◌-◌, ◌%◌, ◌^◌, ◌<◌, ◌==◌, ◌&&◌, ◌||◌, not, Bool, false, if◌then◌else◌, int_le, ◌-ℤ◌, is_some, Option, Some, None, List, [], ◌∷◌, replicate, slice_set}
use Rattle.std.specs.List.{AllByRecursion}
use Rattle.std.specs.Int.{cast_unsigned, w32}
use Rattle.elf32_image.specs.Parts.{ImageValue}
use Rattle.elf32_image.specs.Bytes.{byte_at}
use Rattle.fetch_timing.specs.declared.timing.Timing.{Timing}
use Rattle.arm_cpu.specs.declared.cpu.Cpu.{Cpu}
use Rattle.arm_machine.specs.declared.start.RegisterValue.{RegisterValue}
use Rattle.arm_machine.specs.declared.start.StartRefusal.{StartRefusal}
use Rattle.arm_machine.specs.declared.start.StartRefusal.TheVariants as refusal
use Rattle.arm_machine.specs.Memories.{start_memory}
use Rattle.arm_cpu.specs.Registers.{signed_of}
use Rattle.arm_machine.specs.States.{State}

-- the return address with which a run starts
abbrev pub home : ℕ
home = 0xFFFFFFFC

-- the stack pointer lies, as a signed number, from −2^31 + stack to 2^31 − 65
abbrev pub is_in_range : ℕ → ℕ → Bool
is_in_range sp stack = int_le (pos stack -ℤ pos (2 ^ 31)) (signed_of sp) && int_le (signed_of sp) (pos (2 ^ 31 - 65))

-- one of n bytes from an address on, modulo 2^32, is loaded
abbrev pub is_any_loaded : ImageValue → ℕ → ℕ → Bool
is_any_loaded image a zero = false
is_any_loaded image a (suc n) = is_some (byte_at image a) || is_any_loaded image ((a + 1) % 2 ^ 32) n

-- a byte of the word at the return address is loaded
abbrev pub is_home_loaded : ImageValue → Bool
is_home_loaded image = is_some (byte_at image home) || is_some (byte_at image (home + 1)) || is_some (byte_at image (home + 2)) || is_some (byte_at image (home + 3))

-- the first cause why there is no start state, if there is one
abbrev pub bad_start : ImageValue → ℕ → ℕ → Option StartRefusal
bad_start image sp stack =
    if not (sp % 4 == 0) then Some refusal.SpUnaligned
    else if not (is_in_range sp stack) then Some refusal.SpRange
    else if is_any_loaded image ((sp + 2 ^ 32 - stack) % 2 ^ 32) stack then Some refusal.StackLoaded
    else if is_home_loaded image then Some refusal.ReturnLoaded
    else None

-- these are registers below 13, each once
abbrev pub AreParameters : List RegisterValue → Type 0
AreParameters [] = Unit {0}
AreParameters (p ∷ values) = (p.register < 13) × AllByRecursion (λ q. (q.register == p.register) ≡ false) values × AreParameters values

-- the value is a signed number of 32 bits: its word reads as it
pub record ComesBack (p : RegisterValue) : Type 0 where
  pub word : cast_unsigned w32 p.value < 2 ^ 32
  pub back : signed_of (cast_unsigned w32 p.value) ≡ p.value

-- the registers get these values, one after another
abbrev pub with_values : List ℕ → List RegisterValue → List ℕ
with_values registers [] = registers
with_values registers (p ∷ values) = with_values (slice_set registers p.register (cast_unsigned w32 p.value)) values

-- Registers that have no value are 0, and so are the flags.
abbrev pub start_registers : ℕ → List RegisterValue → List ℕ
start_registers sp values = slice_set (slice_set (with_values (replicate 15 0) values) 13 sp) 14 home

abbrev pub start_cpu : ℕ → ℕ → List RegisterValue → Cpu
start_cpu entry sp values = record {
  registers = start_registers sp values;
  pc = entry;
  flags = record { n = false; z = false; c = false; v = false };
}

-- nothing is kept, and the cache is empty
abbrev pub start_state : ImageValue → Timing → ℕ → ℕ → ℕ → List RegisterValue → State
start_state image t entry sp stack values = record {
  cpu = start_cpu entry sp values;
  memory = start_memory image sp stack;
  kept = [];
  sets = replicate t.sets [];
}
