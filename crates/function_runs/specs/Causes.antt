-- Why a run has no result.
use Rattle.std.specs.Prelude.{◌≡◌, Some, List}
use Rattle.arm_machine.specs.declared.start.StartRefusal.{StartRefusal}
use Rattle.arm_machine.specs.declared.start.StartRefusal.TheVariants as start
use Rattle.arm_machine.specs.Starting.{bad_start}
use Rattle.machine_probe.specs.declared.running.RunEnd.TheVariants as end
use Rattle.machine_probe.specs.declared.running.RunEnd.{RunEnd}
use Rattle.machine_probe.specs.Weights.{Standing}
use Rattle.function_runs.specs.declared.refusals.RunRefusal.{RunRefusal}
use Rattle.function_runs.specs.declared.refusals.RunRefusal.TheVariants.{Memory, SpUnaligned, SpOutOfRange, StackLoaded, ReturnLoaded, Stopped, Spent, Halted}
use Rattle.function_runs.specs.Results.{Ends, FunctionRun}

-- a run without a start is refused for the cause that there is none
abbrev pub unstarted : StartRefusal → RunRefusal
unstarted start.Memory = Memory
unstarted start.SpUnaligned = SpUnaligned
unstarted start.SpRange = SpOutOfRange
unstarted start.StackLoaded = StackLoaded
unstarted start.ReturnLoaded = ReturnLoaded

-- this is the first cause why there is no start
abbrev pub IsBadStart : FunctionRun → StartRefusal → Type 0
IsBadStart run cause = bad_start run.image run.setup.sp run.setup.stack ≡ Some cause

-- there is a start, and a run from it ends so
abbrev pub HasEnd : FunctionRun → RunEnd → Type 0
HasEnd run end = (now : List Standing) × Ends run end now

-- a run is refused for this cause; of memory nothing is said
abbrev pub IsRefused : FunctionRun → RunRefusal → Type 0
IsRefused run Memory = Unit {0}
IsRefused run SpUnaligned = IsBadStart run start.SpUnaligned
IsRefused run SpOutOfRange = IsBadStart run start.SpRange
IsRefused run StackLoaded = IsBadStart run start.StackLoaded
IsRefused run ReturnLoaded = IsBadStart run start.ReturnLoaded
IsRefused run (Stopped stop address) = HasEnd run (end.Stopped stop address)
IsRefused run Spent = HasEnd run end.Spent
IsRefused run (Halted probe) = HasEnd run (end.Halted probe)
