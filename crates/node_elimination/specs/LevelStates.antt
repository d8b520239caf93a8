-- What the code holds of a level whose nodes are taken out.
use Rattle.std.specs.Prelude.{◌≡◌, ℕ, zero, suc, ◌<◌, ◌^◌, Bool, true, false, nat_eq, List, [], ◌∷◌, Option, slice_get}
use Rattle.std.specs.Option.{unwrap_or}
use Rattle.std.specs.List.{AllByRecursion}
use Rattle.tree_law.specs.Ways.{IsIn}
use Rattle.tree_law.specs.NodeOrders.{leaves_of}
use Rattle.elimination_plans.specs.AddedWays.{listed, has}
use Rattle.elimination_plans.specs.Stages.{Task, Stage, Went, first_stage, gone_after, ways_at}
use Rattle.elimination_plans.specs.Weights.{Only}
use Rattle.node_elimination.specs.declared.cells.Cell.{Cell}
use Rattle.node_elimination.specs.declared.taking.Elimination.{Elimination}
use Rattle.node_elimination.specs.Cells.{cell_of, node_cell}
use Rattle.node_elimination.specs.Tables.{leaves_at, Gains, Keeps}

abbrev pub no_cell : Cell
no_cell = record { count = 0; leaves = 0; size = 0; depth = 0 }

abbrev pub cell_at : List Cell → ℕ → Cell
cell_at xs u = unwrap_or (slice_get xs u) no_cell

abbrev pub all_of : Task → List ℕ
all_of k = k.from ∷ k.to ∷ k.nodes

abbrev pub gone : Stage → ℕ → Bool
gone s = gone_after s.taken (λ p. false)

abbrev pub cells_at : Task → Stage → ℕ → ℕ → Option Cell
cells_at k s p q = cell_of (ways_at k s p q)

abbrev pub Rises : List ℕ → Type 0
Rises [] = Unit {0}
Rises (x ∷ xs) = AllByRecursion (λ y. x < y) xs × Rises xs

-- A level as it is given: its ends and nodes are different numbers, its edges are between them and rise, and each node
-- has
-- an edge into it and one out of it.
pub record IsTask (k : Task) (rank : ℕ → ℕ) : Type 0 where
  pub only : (u : ℕ) → IsIn u (all_of k) → Only u (all_of k) × (u < 2 ^ 32)
  pub inside : (p q : ℕ) → k.edge p q ≡ true → IsIn p (all_of k) × IsIn q (all_of k)
  pub rises : (p q : ℕ) → k.edge p q ≡ true → rank p < rank q
  pub start : (v : ℕ) → IsIn v k.nodes → nat_eq k.from v ≡ false
  pub end : (v : ℕ) → IsIn v k.nodes → nat_eq k.to v ≡ false
  pub up : rank k.from < rank k.to
  pub rising : Rises k.nodes
  pub kept : (v : ℕ) → IsIn v k.nodes → ((p : ℕ) × IsIn p (all_of k) × (k.edge p v ≡ true))
      × ((q : ℕ) × IsIn q (all_of k) × (k.edge v q ≡ true))

-- what the numbers of the nodes are
pub record AreNodes (k : Task) (nodes : List Cell) (own : List ℕ) : Type 0 where
  pub cells : (v : ℕ) → IsIn v k.nodes → cell_at nodes v ≡ node_cell (k.tree v)
  pub leaves : (v : ℕ) → IsIn v k.nodes → leaves_at own v ≡ leaves_of (k.tree v)

-- the state of the code at a stage
pub record Holds (k : Task) (s : Stage) (e : Elimination) : Type 0 where
  pub table : Keeps (all_of k) (cells_at k s) e.table
  pub gains : Gains (λ u. has u s.left) e.table.tally
  pub plan : (p q : ℕ) → listed e.plan.ways p q ≡ s.plan p q
  pub order : e.plan.order ≡ s.taken
  pub nodes : AreNodes k e.nodes.items e.table.tally.leaves.items

-- stages that are reached from the start
abbrev pub StageAfter : Task → ℕ → Stage → Type 0
StageAfter k zero s = s ≡ first_stage k
StageAfter k (suc n) s = (u : Stage) × StageAfter k n u × Went k u s true

abbrev pub IsStage : Task → Stage → Type 0
IsStage k s = (n : ℕ) × StageAfter k n s
