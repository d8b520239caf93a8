-- The graph of a function, and why there is none.
use Rattle.std.specs.Prelude.{◌≡◌, ◌↔◌, ℕ, ◌<◌, true, Contains, Option, Some, None, List, [], ◌∷◌, length, get_or}
use Rattle.std.specs.Prelude.{slice_get, map}
use Rattle.elf32_image.specs.Parts.{ImageValue}
use Rattle.arm_isa.specs.declared.instruction.Insn.{Insn}
use Rattle.graph_search.specs.NodeLists.{MoreThan}
use Rattle.control_flow.specs.declared.control.Fault.{Fault}
use Rattle.control_flow.specs.Instructions.{instruction_at}
use Rattle.control_flow.specs.Points.{Point, entry_point}
use Rattle.control_flow.specs.Routes.{Way, Goes, Leaves, IsReached, IsLive}
use Rattle.control_flow.specs.Ways.{IsCollected, fault_at, ways_from}
use Rattle.function_points.specs.Contexts.{lists_of, AreContexts}
use Rattle.function_points.specs.PointLists.{point_eq}
use Rattle.basic_blocks.specs.Blocks.{Chain, points, last_of, AreBlocks, Ascending, by_first}
use Rattle.basic_blocks.specs.PointOrder.{Before}
use Rattle.point_order.specs.Families.{Lower}
use Rattle.point_tables.specs.Faults.{IsLeastFault}
use Rattle.flow_graph.specs.declared.graph.Context.{Context}
use Rattle.flow_graph.specs.declared.graph.GraphPoint.{GraphPoint}
use Rattle.flow_graph.specs.declared.graph.Block.{Block}
use Rattle.flow_graph.specs.declared.graph.BlockGraph.{BlockGraph}
use Rattle.flow_graph.specs.declared.graph.GraphRefusal.{GraphRefusal}
use Rattle.control_flow.specs.declared.control.Fault.TheVariants as fault
use Rattle.flow_graph.specs.declared.graph.GraphRefusal.TheVariants as why

-- the greatest number of points that a graph may have, the pruned ones included
abbrev pub most_points : ℕ
most_points = 100000

abbrev pub context_row : Context → ℕ × ℕ
context_row c = (c.parent, c.return_address)

-- parent and return address of each context but the first
abbrev pub rows_of : List Context → List (ℕ × ℕ)
rows_of [] = []
rows_of (c ∷ cs) = map context_row cs

-- the lists of open calls
abbrev pub returns_in : List Context → List (List ℕ)
returns_in cs = lists_of (rows_of cs)

abbrev pub graph_point : List (List ℕ) → GraphPoint → Point
graph_point ls p = record { returns = get_or ls p.context []; address = p.address }

abbrev pub graph_points : List (List ℕ) → List GraphPoint → List Point
graph_points ls ps = map (graph_point ls) ps

-- its context is there, and its instruction is that at its address
abbrev pub IsGraphPoint : List (List ℕ) → (ℕ → Option Insn) → GraphPoint → Type 0
IsGraphPoint ls insns p = (p.context < length ls) × (insns p.address ≡ Some p.insn)

-- a block's successors and whether it returns, where its points are those of a chain
pub record IsNext (ways : Point → List (Way Point)) (bs : List (Chain Point)) (c : Chain Point)
    (b : Block) : Type 0 where
  pub ascending : Ascending (λ i j. i < j) b.next
  pub next : (j : ℕ) → Contains b.next j
      ↔ ((d : Chain Point) × (slice_get bs j ≡ Some d) × Goes ways (last_of c.first c.rest) d.first)
  pub returns : (b.returns ≡ true) ↔ Leaves ways (last_of c.first c.rest)

-- The graph that these ways and instructions make: contexts in order, exactly the lists of points that control reaches;
-- blocks in order, with their points, successors and returns; and in order the points that control reaches and from
-- which it never gets out.
pub record IsGraphBy (ways : Point → List (Way Point)) (insns : ℕ → Option Insn) (start : Point)
    (g : BlockGraph) : Type 0 where
  pub entry : g.entry ≡ start.address
  pub first : (cs : List Context) × (g.contexts ≡ record { parent = 0; return_address = 0 } ∷ cs)
  pub rows : (look : ℕ × ℕ → Option ℕ) × AreContexts (rows_of g.contexts) look
  pub rising : Ascending Lower (returns_in g.contexts)
  pub lists : (l : List ℕ) → Contains (returns_in g.contexts) l
      ↔ ((p : Point) × IsReached ways start p × (p.returns ≡ l))
  pub chains : List (Chain Point)
  pub cut : map (λ (b : Block). graph_points (returns_in g.contexts) b.points) g.blocks ≡ map points chains
  pub blocks : AreBlocks ways start chains
  pub ascending : Ascending (by_first Before) chains
  pub count : g.block_count ≡ length g.blocks
  pub enters : (c : Chain Point) × (slice_get chains g.entry_block ≡ Some c) × (c.first ≡ start)
  pub next : (k : ℕ) (c : Chain Point) (b : Block) → slice_get chains k ≡ Some c → slice_get g.blocks k ≡ Some b
      → IsNext ways chains c b
  pub known : (b : Block) (p : GraphPoint) → Contains g.blocks b → Contains b.points p
      → IsGraphPoint (returns_in g.contexts) insns p
  pub cast : Ascending Before (graph_points (returns_in g.contexts) g.pruned)
  pub pruned : (p : Point) → Contains (graph_points (returns_in g.contexts) g.pruned) p
      ↔ (IsReached ways start p × (IsLive ways start p → ⊥))
  pub kept : (p : GraphPoint) → Contains g.pruned p → IsGraphPoint (returns_in g.contexts) insns p

abbrev pub AreTooMany : ImageValue → ℕ → Type 0
AreTooMany image entry = MoreThan point_eq most_points (IsCollected image entry)

-- the points aren't too many, and this is the least fault of one of them
abbrev pub IsFaulty : ImageValue → ℕ → Fault → ℕ → Type 0
IsFaulty image entry f a = (AreTooMany image entry → ⊥)
    × IsLeastFault (fault_at image entry) (IsCollected image entry) f a

-- the points aren't too many, and none has a fault
abbrev pub IsSound : ImageValue → ℕ → Type 0
IsSound image entry =
    (AreTooMany image entry → ⊥) × ((p : Point) → IsCollected image entry p → fault_at image entry p ≡ None)

-- the refusal for a fault
abbrev pub refusal_for : Fault → ℕ → GraphRefusal
refusal_for fault.Unknown a = why.UnknownWord a
refusal_for fault.Outside a = why.OutsideCode a
refusal_for fault.Indirect a = why.IndirectJump a
refusal_for fault.Recursive a = why.Recursion a

-- why there is no graph
abbrev pub IsRefusedGraph : ImageValue → ℕ → GraphRefusal → Type 0
IsRefusedGraph image entry why.Memory = Unit {0}
IsRefusedGraph image entry why.TooLarge = AreTooMany image entry
IsRefusedGraph image entry (why.UnknownWord a) = IsFaulty image entry fault.Unknown a
IsRefusedGraph image entry (why.OutsideCode a) = IsFaulty image entry fault.Outside a
IsRefusedGraph image entry (why.IndirectJump a) = IsFaulty image entry fault.Indirect a
IsRefusedGraph image entry (why.Recursion a) = IsFaulty image entry fault.Recursive a
IsRefusedGraph image entry why.NoReturn =
    IsSound image entry × (IsLive (ways_from image entry) (entry_point entry) (entry_point entry) → ⊥)

-- the graph of a function
pub record IsGraphOf (image : ImageValue) (entry : ℕ) (g : BlockGraph) : Type 0 where
  pub sound : IsSound image entry
  pub alive : IsLive (ways_from image entry) (entry_point entry) (entry_point entry)
  pub graph : IsGraphBy (ways_from image entry) (instruction_at image) (entry_point entry) g
