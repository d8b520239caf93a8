-- What an analysis of a function in an image is, and what the turns of its runs have to keep.
use Rattle.std.specs.Prelude.{◌≡◌, ℕ, suc, Bool, Option, Some, None, List, [], map}
use Rattle.std.specs.List.{AllByRecursion}
use Rattle.elf32_image.specs.Parts.{ImageValue}
use Rattle.arm_isa.specs.declared.instruction.Insn.{Insn}
use Rattle.fetch_timing.specs.declared.timing.Timing.{Timing}
use Rattle.fetch_timing.specs.Caches.{line_of}
use Rattle.fetch_timing.specs.Timings.{point_cost}
use Rattle.wsym_terms.specs.Extents.{Extent}
use Rattle.wsym_terms.specs.Trees.{tree_value}
use Rattle.control_flow.specs.Instructions.{instruction_at}
use Rattle.control_flow.specs.Points.{Point, entry_point}
use Rattle.control_flow.specs.Routes.{IsRoute, Taken, place_of}
use Rattle.control_flow.specs.Routes.Place.{At}
use Rattle.control_flow.specs.Ways.{ways_from}
use Rattle.arm_machine.specs.States.{State}
use Rattle.path_facts.specs.Histories.{HoldsAt}
use Rattle.path_facts.specs.Routes.{StatesAlong, instruction_cost}
use Rattle.tree_law.specs.Levels.{function_tree}
use Rattle.cycle_bounds.specs.Analyses.{Analysis, IsAnalysis}
use Rattle.cycle_bounds.specs.Turns.{CountsWithin, IsListed, points_along}

-- what the instruction at a point costs, done or skipped; at most; and the cache line of its address
abbrev pub cost_at : ImageValue → Timing → Point → Bool → ℕ
cost_at image t p done = instruction_cost t done (instruction_at image p.address)

abbrev pub most_of : Timing → Option Insn → ℕ
most_of t None = 0
most_of t (Some insn) = point_cost t insn

abbrev pub most_at : ImageValue → Timing → Point → ℕ
most_at image t p = most_of t (instruction_at image p.address)

abbrev pub line_at : Timing → Point → ℕ
line_at t p = line_of t p.address

abbrev pub IsAnalysisOf : ImageValue → Timing → ℕ → Analysis → Type 0
IsAnalysisOf image t entry a =
    IsAnalysis (ways_from image entry) (entry_point entry) (line_at t) (most_at image t) t a

-- whichever blocks a route passes, the loops turn within their bounds
abbrev pub TurnsWithin : (ℕ → Extent) → Analysis → List (Taken Point) → Type 0
TurnsWithin bounds a route =
    (bs : List ℕ) → AllByRecursion (IsListed a) bs
    → map a.point (points_along a bs) ≡ map (λ (x : Taken Point). x.point) route → CountsWithin bounds a [] bs

-- on each route from the entry that the machine takes from a state
abbrev pub AllTurnsWithin : ImageValue → Timing → ℕ → ℕ → (ℕ → Extent) → Analysis → State → Type 0
AllTurnsWithin image t entry stack bounds a s =
    (route : List (Taken Point)) → place_of route ≡ At (entry_point entry) → IsRoute (ways_from image entry) route
    → StatesAlong image t (HoldsAt image stack s.cpu.registers) [] s route → TurnsWithin bounds a route

-- the value of the tree
abbrev pub value_of : Timing → (ℕ → Extent) → Analysis → Extent
value_of t bounds a = tree_value t.miss bounds (function_tree a.nest (suc (a.height 0))) 1
