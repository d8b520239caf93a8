-- The parts of a graph, as they are made from the tables.
use Rattle.std.specs.Prelude.{◌≡◌, ◌↔◌, ℕ, ◌<◌, ◌-◌, ◌==◌, if◌then◌else◌, nat_lt, Bool, true, false, Contains, Option}
use Rattle.std.specs.Prelude.{Some, None, List}
use Rattle.std.specs.Prelude.{[], ◌∷◌, length, get_or, slice_get, map}
use Rattle.arm_isa.specs.declared.instruction.Insn.{Insn}
use Rattle.function_points.specs.Contexts.{AreContexts}
use Rattle.basic_blocks.specs.Blocks.{Ascending, points}
use Rattle.basic_blocks.specs.Chains.{is_flagged}
use Rattle.flow_graph.specs.declared.graph.Context.{Context}
use Rattle.flow_graph.specs.declared.graph.GraphPoint.{GraphPoint}
use Rattle.flow_graph.specs.declared.graph.Block.{Block}
use Rattle.point_tables.specs.declared.targets.Targets.{Targets}
use Rattle.elf32_image.specs.Parts.{ImageValue}
use Rattle.control_flow.specs.Points.{entry_point}
use Rattle.control_flow.specs.Ways.{ways_from}
use Rattle.function_points.specs.PointLists.{points_at}
use Rattle.point_order.specs.Arrangements.{IsArranged}
use Rattle.flow_graph.specs.Graphs.{IsSound, returns_in, rows_of}
use Rattle.point_tables.specs.Tables.{AreBlockNumbers}
use Rattle.point_tables.specs.Numbers.{Answers, AreLiveFlags}
use Rattle.point_tables.specs.Targets.{AreTargets, step_in}

abbrev pub point_pair : GraphPoint → ℕ × ℕ
point_pair p = (p.context, p.address)

abbrev pub pair_at : List (ℕ × ℕ) → ℕ → ℕ × ℕ
pair_at ns i = get_or ns i (0, 0)

abbrev pub first_number : List ℕ → ℕ
first_number xs = get_or xs 0 0

abbrev pub last_number : List ℕ → ℕ
last_number xs = get_or xs (length xs - 1) 0

-- the block that begins with the number to which a way leads
abbrev pub IsBlockAt : List ℕ → Option ℕ → Option ℕ → Type 0
IsBlockAt firsts None o = o ≡ None
IsBlockAt firsts (Some t) o = Answers (λ k. slice_get firsts k ≡ Some t) o

-- one or two numbers, ascending
abbrev pub in_order : Option ℕ → Option ℕ → List ℕ
in_order None None = []
in_order None (Some j) = j ∷ []
in_order (Some i) None = i ∷ []
in_order (Some i) (Some j) = if i == j then i ∷ [] else if nat_lt i j then i ∷ j ∷ [] else j ∷ i ∷ []

-- the blocks whose first numbers are among some, ascending
pub record AreNextBlocks (firsts ts next : List ℕ) : Type 0 where
  pub ascending : Ascending (λ i j. i < j) next
  pub exact : (j : ℕ) → Contains next j ↔ ((t : ℕ) × Contains ts t × (slice_get firsts j ≡ Some t))

-- a block by the numbers of its points
pub record IsBlockOf (insns : ℕ → Option Insn) (ns : List (ℕ × ℕ)) (table : List Targets) (firsts xs : List ℕ)
    (b : Block) : Type 0 where
  pub points : map point_pair b.points ≡ map (pair_at ns) xs
  pub known : (p : GraphPoint) → Contains b.points p → insns p.address ≡ Some p.insn
  pub next : AreNextBlocks firsts (step_in table (last_number xs)) b.next
  pub returns : (b.returns ≡ true) ↔ Contains (step_in table (last_number xs)) (length ns)

-- the numbers without a flag, ascending
pub record AreUnflagged (n : ℕ) (flag : ℕ → Bool) (xs : List ℕ) : Type 0 where
  pub rising : Ascending (λ i j. i < j) xs
  pub exact : (i : ℕ) → Contains xs i ↔ ((i < n) × (flag i ≡ false))

abbrev pub row_context : ℕ × ℕ → Context
row_context row = record { parent = row.0; return_address = row.1 }

-- the contexts of lists of open calls
pub record AreContextsOf (ls : List (List ℕ)) (cs : List Context) : Type 0 where
  pub first : (rest : List Context) × (cs ≡ record { parent = 0; return_address = 0 } ∷ rest)
  pub rows : (look : ℕ × ℕ → Option ℕ) × AreContexts (rows_of cs) look
  pub lists : returns_in cs ≡ ls

-- what a graph is made from: the points of a function in order, their tables, and their numbers cut into chains
pub record AreReady (image : ImageValue) (entry : ℕ) (ls : List (List ℕ)) (ns : List (ℕ × ℕ)) (table : List Targets)
    (flags : List Bool) (xss : List (List ℕ)) : Type 0 where
  pub arranged : IsArranged image entry ls ns
  pub sound : IsSound image entry
  pub targets : AreTargets (ways_from image entry) (entry_point entry) (points_at ls ns) table
  pub live : AreLiveFlags (ways_from image entry) (entry_point entry) (points_at ls ns) (is_flagged flags)
  pub chains : AreBlockNumbers (ways_from image entry) (entry_point entry) (points_at ls ns) xss
