-- Where control may go from a point of a function, and why it can't be followed there.
use Rattle.std.specs.Prelude.{◌≡◌, ℕ, ◌++◌, true, false, if◌then◌else◌, Option, Some, None, Result, Ok, Err, List, []}
use Rattle.std.specs.Prelude.{◌∷◌, map}
use Rattle.elf32_image.specs.Parts.{ImageValue}
use Rattle.elf32_image.specs.Bytes.{is_code}
use Rattle.arm_isa.specs.declared.instruction.Insn.{Insn}
use Rattle.arm_isa.specs.Conditions.{is_always}
use Rattle.arm_isa.specs.Writes.{writes_register, is_return_form}
use Rattle.control_flow.specs.declared.control.Fault.{Fault}
use Rattle.control_flow.specs.declared.control.Fault.TheVariants.{Outside, Unknown, Indirect, Recursive}
use Rattle.control_flow.specs.declared.instructions.FetchFault.{FetchFault}
use Rattle.control_flow.specs.declared.instructions.FetchFault.TheVariants.{NoCode, BadWord}
use Rattle.control_flow.specs.Instructions.{fetched, instruction_at}
use Rattle.control_flow.specs.Points.{Jump, Point, entry_point, is_recursive_call, jump_of, last_return, next_address}
use Rattle.control_flow.specs.Points.{target}
use Rattle.control_flow.specs.Points.{without_last}
use Rattle.control_flow.specs.Routes.{IsReached, Place, Way}
use Rattle.control_flow.specs.Routes.Place.{At, Exit}

-- a branch leads to its target, a call with one more return address
abbrev pub jump_place : Point → Jump → Place Point
jump_place p jump =
    if jump.link
    then At (record { returns = p.returns ++ next_address p.address ∷ []; address = target p.address jump.words })
    else At (record p { address = target p.address jump.words })

abbrev pub next_place : Point → Place Point
next_place p = At (record p { address = next_address p.address })

-- a return goes to the last open call's return address, or out of the function
abbrev pub return_place : Option ℕ → List ℕ → Place Point
return_place None returns = Exit
return_place (Some r) returns = At (record { returns = without_last returns; address = r })

-- where a done instruction leads
abbrev pub done_place : ImageValue → ℕ → Point → Insn → Option Jump → Result (Place Point) Fault
done_place image entry p insn (Some jump) = if is_recursive_call image entry p jump then Err Recursive else Ok
    (jump_place p jump)
done_place image entry p insn None =
    if is_return_form insn then Ok (return_place (last_return p.returns) p.returns)
    else if writes_register insn 15 then Err Indirect
    else Ok (next_place p)

-- an instruction under a condition may also be skipped
abbrev pub skipped_ways : Point → Insn → List (Way Point)
skipped_ways p insn = if is_always insn.condition then [] else record { done = false; to = next_place p } ∷ []

abbrev pub ways_to : Point → Insn → Result (Place Point) Fault → List (Way Point)
ways_to p insn (Ok place) = record { done = true; to = place } ∷ skipped_ways p insn
ways_to p insn (Err fault) = []

abbrev pub ways_of : ImageValue → ℕ → Point → Option Insn → List (Way Point)
ways_of image entry p None = []
ways_of image entry p (Some insn) = ways_to p insn (done_place image entry p insn (jump_of insn.op))

-- The ways from a point, the done one first. Two ways of an instruction may lead to one place. From a fault there are
-- none.
abbrev pub ways_from : ImageValue → ℕ → Point → List (Way Point)
ways_from image entry p = ways_of image entry p (instruction_at image p.address)

-- where control may go from a point
abbrev pub places_from : ImageValue → ℕ → Point → List (Place Point)
places_from image entry p = map (λ way. way.to) (ways_from image entry p)

abbrev pub fault_in : Result (Place Point) Fault → Option Fault
fault_in (Ok place) = None
fault_in (Err fault) = Some fault

abbrev pub fault_of : ImageValue → ℕ → Point → Result Insn FetchFault → Option Fault
fault_of image entry p (Err NoCode) = Some Outside
fault_of image entry p (Err BadWord) = Some Unknown
fault_of image entry p (Ok insn) = fault_in (done_place image entry p insn (jump_of insn.op))

abbrev pub fault_at : ImageValue → ℕ → Point → Option Fault
fault_at image entry p = fault_of image entry p (fetched image p.address)

-- a point that control reaches from the entry
abbrev pub IsCollected : ImageValue → ℕ → Point → Type 0
IsCollected image entry p = IsReached (ways_from image entry) (entry_point entry) p

-- at each point that control reaches from the entry there is code
abbrev pub IsInCode : ImageValue → ℕ → Type 0
IsInCode image entry = (p : Point) → IsCollected image entry p → is_code image p.address ≡ true
