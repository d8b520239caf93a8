-- The registers, and how values go to them (ARM Architecture Reference Manual, chapter A2, 'Programmers' Model').
use Rattle.std.specs.Prelude.{◌≡◌, ℕ, ℤ, ◌+◌, ◌%◌, ◌^◌, ◌==◌, if◌then◌else◌, Result, Ok, Err, slice_index, slice_set}
use Rattle.std.specs.Int.{cast_signed, w32}
use Rattle.arm_cpu.specs.declared.cpu.Cpu.{Cpu}
use Rattle.arm_cpu.specs.declared.stops.Stop.{Stop}
use Rattle.arm_cpu.specs.declared.stops.Stop.TheVariants as stop

-- a register as an operand: register 15 reads as the instruction's address + 8 (A2.4.3)
abbrev pub read : Cpu → ℕ → ℕ
read cpu r = if r == 15 then (cpu.pc + 8) % 2 ^ 32 else slice_index cpu.registers r

abbrev pub next_pc : Cpu → ℕ
next_pc cpu = (cpu.pc + 4) % 2 ^ 32

-- register 0 to 14 gets a value
abbrev pub with_register : Cpu → ℕ → ℕ → Cpu
with_register cpu r value = record cpu { registers = slice_set cpu.registers r value }

-- only the next instruction follows
abbrev pub advanced : Cpu → Cpu
advanced cpu = record cpu { pc = next_pc cpu }

-- a word read as a signed number, in two's complement
abbrev pub signed_of : ℕ → ℤ
signed_of word = cast_signed w32 word

-- a value goes to pc; it must be a multiple of 4 (BX to another one would enter Thumb code, A4.1.10)
abbrev pub jumped : Cpu → ℕ → Result Cpu Stop
jumped cpu value = if value % 4 == 0 then Ok (record cpu { pc = value }) else Err stop.Leaves

-- a register gets a value, and the next instruction follows; register 15 is pc
abbrev pub written : Cpu → ℕ → ℕ → Result Cpu Stop
written cpu r value = if r == 15 then jumped cpu value else Ok (advanced (with_register cpu r value))

-- what comes after a part that may stop
abbrev pub and_then : {A B : Type 0} → (A → Result B Stop) → Result A Stop → Result B Stop
and_then later (Ok a) = later a
and_then later (Err stop) = Err stop

-- What a call does to a value: what is stated of it, or it stops and leaves it as it was.
abbrev pub Does : {S U : Type 0} → Result S Stop → S → S → Result U Stop → Type 0
Does outcome old new (Ok done) = outcome ≡ Ok new
Does outcome old new (Err why) = (outcome ≡ Err why) × (new ≡ old)
