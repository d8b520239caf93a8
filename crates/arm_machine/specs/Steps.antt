-- One step of the machine, and what it costs.
use Rattle.std.specs.Prelude.{ℕ, ◌+◌, ◌%◌, not, Bool, if◌then◌else◌, int_lt, Result, Ok, Err, List, filter, slice_index}
use Rattle.elf32_image.specs.Parts.{ImageValue}
use Rattle.arm_isa.specs.declared.instruction.Insn.{Insn}
use Rattle.arm_isa.specs.Classes.{class_by_op}
use Rattle.arm_isa.specs.Conditions.{condition_passes}
use Rattle.fetch_timing.specs.declared.timing.Timing.{Timing}
use Rattle.fetch_timing.specs.Timings.{cost_of}
use Rattle.fetch_timing.specs.Caches.{after_fetch, holds, line_of, lines_at, penalty}
use Rattle.control_flow.specs.declared.instructions.FetchFault.{FetchFault}
use Rattle.control_flow.specs.declared.instructions.FetchFault.TheVariants as fault
use Rattle.control_flow.specs.Instructions.{fetched}
use Rattle.arm_machine.specs.declared.events.Event.{Event}
use Rattle.arm_cpu.specs.declared.stops.Stop.{Stop}
use Rattle.arm_cpu.specs.declared.stops.Stop.TheVariants as stop
use Rattle.arm_cpu.specs.Registers.{advanced, signed_of}
use Rattle.arm_machine.specs.States.{State}
use Rattle.arm_machine.specs.Effects.{effect}

-- a step leads to a state, with what can be seen of it, or it stops
pub data Outcome : Type 0 where
  Next : (state : State) (event : Event) → Outcome
  Stopped : (stop : Stop) → Outcome

-- the word lies below the stack pointer, both read as signed numbers
abbrev pub is_below_stack : State → ℕ → Bool
is_below_stack s word = int_lt (signed_of word) (signed_of (slice_index s.cpu.registers 13))

-- a kept word below the stack pointer loses its mark
abbrev pub still_kept : State → List ℕ
still_kept s = filter (λ word. not (is_below_stack s word)) s.kept

-- the instruction's line moves to the front of its set
abbrev pub settle : Timing → ℕ → State → State
settle t pc s = record s { kept = still_kept s; sets = after_fetch t s.sets (line_of t pc) }

-- the line of an address isn't in the cache
abbrev pub misses : Timing → List (List ℕ) → ℕ → Bool
misses t sets a = let line = line_of t a in not (holds line (lines_at sets (line % t.sets)))

-- what can be seen of a step: an instruction costs what the table says, done or skipped, and a miss where there is one
abbrev pub event_at : Timing → List (List ℕ) → ℕ → Insn → Bool → Event
event_at t sets a insn done = record {
  address = a;
  done = done;
  class = class_by_op insn;
  miss = misses t sets a;
  cycles = cost_of t insn done + penalty t sets (line_of t a);
}

abbrev pub charge : Timing → State → Insn → Bool → Result State Stop → Outcome
charge t s insn done (Ok next) = Next (settle t s.cpu.pc next) (event_at t s.sets s.cpu.pc insn done)
charge t s insn done (Err stop) = Stopped stop

-- where its condition fails only the next instruction follows
abbrev pub outcome_of : ImageValue → State → Insn → Bool → Result State Stop
outcome_of image s insn done = if done then effect image s insn.op else Ok (record s { cpu = advanced s.cpu })

abbrev pub execute : ImageValue → Timing → State → Insn → Outcome
execute image t s insn =
    let done = condition_passes insn.condition s.cpu.flags in
    charge t s insn done (outcome_of image s insn done)

-- the step of what was fetched
abbrev pub step_of : ImageValue → Timing → State → Result Insn FetchFault → Outcome
step_of image t s (Ok insn) = execute image t s insn
step_of image t s (Err fault.NoCode) = Stopped stop.NoCode
step_of image t s (Err fault.BadWord) = Stopped stop.BadWord

-- The instruction comes from the image at pc.
abbrev pub step : ImageValue → Timing → State → Outcome
step image t s = step_of image t s (fetched image s.cpu.pc)
