-- A bound of a function's cycles.
use Rattle.std.specs.Prelude.{ℕ, List, slice_index}
use Rattle.elf32_image.specs.Parts.{ImageValue}
use Rattle.fetch_timing.specs.declared.timing.Timing.{Timing}
use Rattle.wsym_terms.specs.Extents.{Extent, IsWithin}
use Rattle.arm_machine.specs.States.{State}
use Rattle.arm_machine.specs.declared.start.RegisterValue.{RegisterValue}
use Rattle.arm_machine.specs.Starts.{IsStart}
use Rattle.arm_machine.specs.Runs.{Returns}

-- Whatever start state the function has with these numbers of its parameters, a run that returns to the start's r14, after any
-- number of steps, costs no more than this.
abbrev pub Bounds : ImageValue → Timing → ℕ → ℕ → List RegisterValue → Extent → Type 0
Bounds image t entry stack numbers bound =
    (s : State) (n c : ℕ) → IsStart image t entry stack numbers s → Returns image t (slice_index s.cpu.registers 14) s n c → IsWithin c bound
