-- The state of the machine (ARM Architecture Reference Manual, chapter A2, 'Programmers' Model').
use Rattle.std.specs.Prelude.{ℕ, List}
use Rattle.std.specs.FinMap as map
use Rattle.std.specs.Ordering.{nat_cmp}
use Rattle.arm_cpu.specs.declared.cpu.Cpu.{Cpu}

-- the bytes of the memory by their addresses; an address that isn't there isn't mapped
abbrev pub Bytes : Type 0
Bytes = map.FinMap nat_cmp ℕ

-- Registers 0 to 14, pc and the flags; the memory; the addresses of the kept words; and for each set of the instruction cache
-- its lines, the newest first.
pub record State : Type 0 where
  pub cpu : Cpu
  pub memory : Bytes
  pub kept : List ℕ
  pub sets : List (List ℕ)
