-- Cost tables and cache geometries, and what an instruction costs by them.
use Rattle.std.specs.Prelude.{◌≡◌, ℕ, ◌+◌, ◌*◌, ◌^◌, ◌≤◌, max, Bool, true, false, if◌then◌else◌, replicate, slice_index, count_ones}
use Rattle.std.specs.List.{AllByRecursion}
use Rattle.arm_isa.specs.declared.instruction.Insn.{Insn}
use Rattle.arm_isa.specs.declared.instruction.Op.{Op}
use Rattle.arm_isa.specs.declared.instruction.Op.TheVariants as op
use Rattle.arm_isa.specs.declared.instruction.Class.{Class}
use Rattle.arm_isa.specs.declared.instruction.Class.TheVariants as class
use Rattle.arm_isa.specs.Classes.{class_by_op}
use Rattle.arm_isa.specs.Conditions.{is_always}
use Rattle.fetch_timing.specs.declared.timing.Timing.{Timing}

-- 16 sets of 2 lines of 16 bytes, 10 cycles for a miss, 1 cycle for all else
abbrev pub unit_timing : Timing
unit_timing = record {
  sets = 16;
  ways = 2;
  line = 16;
  miss = 10;
  skipped = 1;
  register = 1;
  classes = replicate 11 1;
}

-- the place of a class in the table
abbrev pub class_place : Class → ℕ
class_place class.Compute = 0
class_place class.Shifted = 1
class_place class.Multiply = 2
class_place class.Long = 3
class_place class.Load = 4
class_place class.Store = 5
class_place class.LoadMany = 6
class_place class.StoreMany = 7
class_place class.Branch = 8
class_place class.Call = 9
class_place class.Exchange = 10

-- how many registers an instruction loads or stores on top of what its class counts
abbrev pub registers_moved : Op → ℕ
registers_moved (op.Block this) = count_ones this.list
registers_moved _ = 0

-- the cycles of an instruction without its fetch
abbrev pub cost_of : Timing → Insn → Bool → ℕ
cost_of t insn true = slice_index t.classes (class_place (class_by_op insn)) + t.register * registers_moved insn.op
cost_of t insn false = t.skipped

-- what an instruction costs at most, done or skipped; one that is always done is never skipped
abbrev pub point_cost : Timing → Insn → ℕ
point_cost t insn = if is_always insn.condition then cost_of t insn true else max (cost_of t insn true) (cost_of t insn false)

-- n is a power of two, and its exponent lies between these
abbrev pub IsPowerOfTwo : ℕ → ℕ → ℕ → Type 0
IsPowerOfTwo low high n = (k : ℕ) × (low ≤ k) × (k ≤ high) × (n ≡ 2 ^ k)

-- the limits of a timing: 1 to 1,024 sets, 1 to 16 ways, lines of 4 to 64 bytes, costs of at most 1,000,000 cycles
pub record IsWithinLimits (t : Timing) : Type 0 where
  pub sets : IsPowerOfTwo 0 10 t.sets
  pub some_way : 1 ≤ t.ways
  pub ways : t.ways ≤ 16
  pub line : IsPowerOfTwo 2 6 t.line
  pub miss : t.miss ≤ 1000000
  pub skipped : t.skipped ≤ 1000000
  pub register : t.register ≤ 1000000
  pub classes : AllByRecursion (λ cycles. cycles ≤ 1000000) t.classes
