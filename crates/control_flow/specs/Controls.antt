-- What the instruction at an address does with control, whatever calls are open; and the ways that this gives a point.
use Rattle.std.specs.Prelude.{ℕ, Bool, true, false, if◌then◌else◌, Option, Some, None, Result, Ok, Err}
use Rattle.std.specs.Prelude.{List, [], ◌∷◌, ◌++◌}
use Rattle.elf32_image.specs.Parts.{ImageValue}
use Rattle.arm_isa.specs.declared.instruction.Insn.{Insn}
use Rattle.arm_isa.specs.Conditions.{is_always}
use Rattle.arm_isa.specs.Writes.{writes_register, is_return_form}
use Rattle.control_flow.specs.declared.control.Control.{Control}
use Rattle.control_flow.specs.declared.control.Control.TheVariants as control
use Rattle.control_flow.specs.declared.control.Fault.{Fault}
use Rattle.control_flow.specs.declared.control.Fault.TheVariants as fault
use Rattle.control_flow.specs.declared.instructions.FetchFault.{FetchFault}
use Rattle.control_flow.specs.declared.instructions.FetchFault.TheVariants.{NoCode, BadWord}
use Rattle.control_flow.specs.Instructions.{fetched}
use Rattle.control_flow.specs.Points.{Jump, Point, callee, is_address, is_open, jump_of, last_return, next_address}
use Rattle.control_flow.specs.Points.{target}
use Rattle.control_flow.specs.Routes.{Way}
use Rattle.control_flow.specs.Routes.Place.{At}
use Rattle.control_flow.specs.Ways.{return_place}

-- an instruction under a condition may be skipped
abbrev pub skipped_to : ℕ → Insn → Option ℕ
skipped_to a insn = if is_always insn.condition then None else Some (next_address a)

-- a branch goes to its target, one with link calls it; a return goes back; all else that writes r15 can't be followed
abbrev pub control_by : ℕ → Insn → Option Jump → Control
control_by a insn (Some jump) =
    if jump.link
    then control.Call (target a jump.words) (next_address a) (skipped_to a insn)
    else control.Go (target a jump.words) (skipped_to a insn)
control_by a insn None =
    if is_return_form insn then control.Return (skipped_to a insn)
    else if writes_register insn 15 then control.Fault fault.Indirect
    else control.Go (next_address a) (skipped_to a insn)

abbrev pub control_in : ℕ → Result Insn FetchFault → Control
control_in a (Err NoCode) = control.Fault fault.Outside
control_in a (Err BadWord) = control.Fault fault.Unknown
control_in a (Ok insn) = control_by a insn (jump_of insn.op)

-- what the instruction at an address does with control
abbrev pub control_of : ImageValue → ℕ → Control
control_of image a = control_in a (fetched image a)

-- where an instruction with this control calls, if it does
abbrev pub call_in : Control → Option ℕ
call_in (control.Call target after skipped) = Some target
call_in _ = None

-- the call with a return address goes to an address
abbrev pub calls : ImageValue → ℕ → ℕ → Bool
calls image r a = is_address (callee image r) a

abbrev pub skipped_way : List ℕ → Option ℕ → List (Way Point)
skipped_way returns None = []
skipped_way returns (Some a) = record { done = false; to = At (record { returns = returns; address = a }) } ∷ []

-- the ways of a point with the calls that are open there, by the control of its instruction
abbrev pub ways_by : (ℕ → ℕ → Bool) → ℕ → List ℕ → Control → List (Way Point)
ways_by goes entry returns (control.Go target skipped) =
    record { done = true; to = At (record { returns = returns; address = target }) } ∷ skipped_way returns skipped
ways_by goes entry returns (control.Call target after skipped) =
    if is_open goes entry returns target then []
    else record {
      done = true;
      to = At (record {
        returns = returns
            ++ after ∷ [];
        address = target;
      });
    } ∷ skipped_way returns skipped
ways_by goes entry returns (control.Return skipped) =
    record { done = true; to = return_place (last_return returns) returns } ∷ skipped_way returns skipped
ways_by goes entry returns (control.Fault fault) = []

-- why it can't be followed; a recursive call is a fault
abbrev pub fault_by : (ℕ → ℕ → Bool) → ℕ → List ℕ → Control → Option Fault
fault_by goes entry returns (control.Go target skipped) = None
fault_by goes entry returns (control.Call target after skipped) =
    if is_open goes entry returns target then Some fault.Recursive else None
fault_by goes entry returns (control.Return skipped) = None
fault_by goes entry returns (control.Fault why) = Some why
