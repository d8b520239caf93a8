-- Faults in their order: by their kind, then by the address.
use Rattle.std.specs.Prelude.{◌≡◌, Contains, List, ℕ, ◌<◌, ◌≤◌, ◌⊎◌, Bool, true, ◌==◌, if◌then◌else◌, nat_lt, Option}
use Rattle.std.specs.Prelude.{Some, None}
use Rattle.control_flow.specs.declared.control.Fault.{Fault}
use Rattle.control_flow.specs.Points.{Point}
use Rattle.point_tables.specs.declared.faults.FoundFault.{FoundFault}
use Rattle.control_flow.specs.declared.control.Fault.TheVariants as fault

-- the place of a fault's kind among the kinds
abbrev pub fault_number : Fault → ℕ
fault_number fault.Unknown = 0
fault_number fault.Outside = 1
fault_number fault.Indirect = 2
fault_number fault.Recursive = 3

-- a fault comes before another by its kind, then by its address
abbrev pub NotAfter : ℕ → ℕ → ℕ → ℕ → Type 0
NotAfter k a j b = (k < j) ⊎ ((k ≡ j) × (a ≤ b))

-- the least fault of the points
pub record IsLeastFault (faults : Point → Option Fault) (P : Point → Type 0) (why : Fault) (a : ℕ) : Type 0 where
  pub at : Point
  pub there : P at
  pub is : faults at ≡ Some why
  pub address : at.address ≡ a
  pub least : (q : Point) (f : Fault) → P q → faults q ≡ Some f
      → NotAfter (fault_number why) a (fault_number f) q.address

-- whether a fault comes before what was found
abbrev pub comes_first : Option FoundFault → Fault → ℕ → Bool
comes_first None f a = true
comes_first (Some x) f a =
    if fault_number f == fault_number x.fault then nat_lt a x.address
    else nat_lt (fault_number f) (fault_number x.fault)

-- what was found is the least fault of the points, or none has one
abbrev pub IsLeastOf : (Point → Option Fault) → List Point → Option FoundFault → Type 0
IsLeastOf faults ps None = (p : Point) → Contains ps p → faults p ≡ None
IsLeastOf faults ps (Some x) = IsLeastFault faults (λ p. Contains ps p) x.fault x.address
