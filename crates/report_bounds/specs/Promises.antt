-- What a report promises: its formula has the value of its tree, which no returning run exceeds.
use Rattle.std.specs.Prelude.{◌≡◌, ℕ, ℤ, ◌-◌, ◌≤ℤ◌, Option, Some, None, List, [], ◌∷◌, map, slice_get}
use Rattle.std.specs.Prelude.{slice_index}
use Rattle.std.specs.List.{AllByRecursion}
use Rattle.elf32_image.specs.Parts.{ImageValue}
use Rattle.fetch_timing.specs.declared.timing.Timing.{Timing}
use Rattle.wsym_terms.specs.declared.bounds.Bound.{Bound}
use Rattle.wsym_terms.specs.declared.bounds.ParamRange.{ParamRange}
use Rattle.wsym_terms.specs.Bounds.{bound_value}
use Rattle.wsym_terms.specs.Extents.{Extent, Infinite, IsWithin}
use Rattle.wsym_terms.specs.Trees.{tree_value}
use Rattle.wsym_formula.specs.Terms.{term_value}
use Rattle.report_lines.specs.declared.report.Report.{Report}
use Rattle.report_lines.specs.declared.report.ReportLoop.{ReportLoop}
use Rattle.arm_machine.specs.States.{State}
use Rattle.arm_machine.specs.declared.start.RegisterValue.{RegisterValue}
use Rattle.arm_machine.specs.Starts.{IsStart}
use Rattle.arm_machine.specs.Runs.{Returns}
use Rattle.cycle_bounds.specs.Analyses.{Analysis}
use Rattle.cycle_bounds.specs.Functions.{AllTurnsWithin}
use Rattle.report_bounds.specs.Descriptions.{Describes}

-- a value for each parameter, in its range
abbrev pub AreInRange : List ParamRange → List ℤ → Type 0
AreInRange [] [] = Unit {0}
AreInRange [] (v ∷ values) = ⊥
AreInRange (p ∷ params) [] = ⊥
AreInRange (p ∷ params) (v ∷ values) = (p.low ≤ℤ v) × (v ≤ℤ p.high) × AreInRange params values

-- the registers of the parameters with their values
abbrev pub numbers_of : List ParamRange → List ℤ → List RegisterValue
numbers_of [] values = []
numbers_of (p ∷ params) [] = []
numbers_of (p ∷ params) (v ∷ values) = record { register = p.register; value = v } ∷ numbers_of params values

abbrev pub loop_value : List ℤ → Option ReportLoop → Extent
loop_value values None = Infinite
loop_value values (Some each) = bound_value each.bound values

-- the value of the bound of a loop by its number, which begins at 1
abbrev pub bounds_at : Report → List ℤ → ℕ → Extent
bounds_at report values id = loop_value values (slice_get report.loops (id - 1))

-- the printed bounds of the loops, by their numbers
abbrev pub printed_bounds : Report → List Bound
printed_bounds report = map (λ (l : ReportLoop). l.bound) report.loops

-- the cycles of one execution, by the tree and by the formula
abbrev pub value_of_tree : Report → List ℤ → Extent
value_of_tree report values = tree_value report.timing.miss (bounds_at report values) report.tree 1

abbrev pub value_of_formula : Report → List ℤ → Extent
value_of_formula report values = term_value (bounds_at report values) report.formula 1

-- the printed formula has the value of the printed tree
abbrev pub IsExact : Report → Type 0
IsExact report =
    (values : List ℤ) → AreInRange report.params values → value_of_formula report values ≡ value_of_tree report values

-- whatever start state the function has with these numbers, a run that returns costs no more than this
abbrev pub Bounds : ImageValue → Timing → ℕ → ℕ → List RegisterValue → Extent → Type 0
Bounds image t entry stack numbers bound =
    (s : State) (n c : ℕ) → IsStart image t entry stack numbers s
    → Returns image t (slice_index s.cpu.registers 14) s n c → IsWithin c bound

-- where that is finite, no returning run from a start state with these values spends more cycles
abbrev pub IsBound : ImageValue → Report → Type 0
IsBound image report =
    (values : List ℤ) → AreInRange report.params values
    → Bounds image report.timing report.entry report.stack (numbers_of report.params values)
    (value_of_tree report values)

-- the same of the formula
abbrev pub IsFormulaBound : ImageValue → Report → Type 0
IsFormulaBound image report =
    (values : List ℤ) → AreInRange report.params values
    → Bounds image report.timing report.entry report.stack (numbers_of report.params values)
    (value_of_formula report values)

-- for all values of the parameters each run turns its loops within their printed bounds
abbrev pub KeepsTurns : ImageValue → Report → Analysis → Type 0
KeepsTurns image report a =
    (values : List ℤ) → AreInRange report.params values → (s : State)
    → IsStart image report.timing report.entry report.stack (numbers_of report.params values) s
    → AllTurnsWithin image report.timing report.entry report.stack (bounds_at report values) a s

-- no loop has a printed bound
abbrev pub HasNoBounds : Report → Type 0
HasNoBounds report = AllByRecursion (λ (l : ReportLoop). l.bound.atoms ≡ []) report.loops

-- it describes the function in the image, its formula is exact, and its value a bound
pub record IsKept (image : ImageValue) (timing : Timing) (entry stack : ℕ) (report : Report) : Type 0 where
  pub describes : Describes image timing entry stack report
  pub exact : IsExact report
  pub bound : IsBound image report
