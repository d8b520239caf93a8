-- States whose registers hold words and whose memory holds bytes, and the image's constants in the memory.
use Rattle.std.specs.Prelude.{◌≡◌, ℕ, ◌^◌, ◌<◌, Some, length, slice_index}
use Rattle.std.specs.FinMap as map
use Rattle.elf32_image.specs.Parts.{ImageValue}
use Rattle.elf32_image.specs.Bytes.{constant_byte_at}
use Rattle.arm_cpu.specs.declared.cpu.Cpu.{Cpu}
use Rattle.arm_machine.specs.States.{Bytes, State}

pub record AreWords (cpu : Cpu) : Type 0 where
  pub each : (r : ℕ) → slice_index cpu.registers r < 2 ^ 32
  pub all : length cpu.registers ≡ 15
  pub pc : cpu.pc < 2 ^ 32

-- each number that is mapped is a byte
abbrev pub AreBytes : Bytes → Type 0
AreBytes memory = (a b : ℕ) → map.get memory a ≡ Some b → b < 2 ^ 8

-- the memory has the image's bytes where no program can write them
abbrev pub HasConstants : ImageValue → Bytes → Type 0
HasConstants image memory = (a b : ℕ) → constant_byte_at image a ≡ Some b → map.get memory a ≡ Some b

pub record IsOrderly (s : State) : Type 0 where
  pub words : AreWords s.cpu
  pub bytes : AreBytes s.memory
