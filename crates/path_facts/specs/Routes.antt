-- What a run costs along a route, and the states along it.
use Rattle.std.specs.Prelude.{◌≡◌, ℕ, ◌+◌, Bool, Option, Some, None, List, [], ◌∷◌, length}
use Rattle.elf32_image.specs.Parts.{ImageValue}
use Rattle.arm_isa.specs.declared.instruction.Insn.{Insn}
use Rattle.fetch_timing.specs.declared.timing.Timing.{Timing}
use Rattle.fetch_timing.specs.Timings.{cost_of}
use Rattle.fetch_timing.specs.Caches.{after_fetch, line_of, penalty}
use Rattle.control_flow.specs.Instructions.{instruction_at}
use Rattle.control_flow.specs.Points.{Point, entry_point}
use Rattle.control_flow.specs.Routes.{IsRoute, Place, Taken, place_of}
use Rattle.control_flow.specs.Routes.Place.{At, Exit}
use Rattle.control_flow.specs.Ways.{ways_from}
use Rattle.arm_machine.specs.declared.events.Event.{Event}
use Rattle.arm_machine.specs.States.{State}
use Rattle.arm_machine.specs.Steps.{step}
use Rattle.arm_machine.specs.Steps.Outcome.{Next}
use Rattle.path_facts.specs.Histories.{HoldsAt}

-- pc is where a way leads; the exit is the return address of the start
abbrev pub IsAt : ℕ → Place Point → ℕ → Type 0
IsAt home (At p) pc = pc ≡ p.address
IsAt home Exit pc = pc ≡ home

abbrev pub instruction_cost : Timing → Bool → Option Insn → ℕ
instruction_cost t done None = 0
instruction_cost t done (Some insn) = cost_of t insn done

-- the cycles of a way from a point, with the cache before it
abbrev pub way_cycles : ImageValue → Timing → List (List ℕ) → Taken Point → ℕ
way_cycles image t sets x =
    instruction_cost t x.done (instruction_at image x.point.address) + penalty t sets (line_of t x.point.address)

-- the cache after the fetch at a point
abbrev pub sets_after : Timing → List (List ℕ) → Taken Point → List (List ℕ)
sets_after t sets x = after_fetch t sets (line_of t x.point.address)

-- the cycles of ways that are taken one after another, with the caches along them
abbrev pub route_cycles : ImageValue → Timing → List (List ℕ) → List (Taken Point) → ℕ
route_cycles image t sets [] = 0
route_cycles image t sets (x ∷ xs) = way_cycles image t sets x + route_cycles image t (sets_after t sets x) xs

-- At each point the fact holds of the history up to it and of the state there, and the machine's step leads from each
-- state to the next, done or skipped as the route says.
abbrev pub StatesAlong : ImageValue → Timing → (List (Taken Point) → Point → State → Type 0) → List (Taken Point)
    → State
    → List (Taken Point) → Type 0
StatesAlong image t P h s [] = Unit {0}
StatesAlong image t P h s (x ∷ xs) =
    P h x.point s
    × ((next : State) × (event : Event) × (step image t s ≡ Next next event) × (event.done ≡ x.done)
    × StatesAlong image t P (x ∷ h) next xs)

-- The run from state s at point p, of n steps and c cycles, is a route from there out of the function, after the
-- history h that led there.
pub record IsRouteFrom (image : ImageValue) (t : Timing) (entry : ℕ) (P : List (Taken Point) → Point → State → Type 0)
    (h : List (Taken Point)) (p : Point) (s : State) (n c : ℕ) : Type 0 where
  pub route : List (Taken Point)
  pub starts : place_of route ≡ At p
  pub is_route : IsRoute (ways_from image entry) route
  pub steps : length route ≡ n
  pub cycles : c ≡ route_cycles image t s.sets route
  pub states : StatesAlong image t P h s route

-- a run from a start state, whose facts hold at each point of its route
abbrev pub FollowsRoute : ImageValue → Timing → ℕ → ℕ → State → ℕ → ℕ → Type 0
FollowsRoute image t entry stack s n c =
    IsRouteFrom image t entry (HoldsAt image stack s.cpu.registers) [] (entry_point entry) s n c
