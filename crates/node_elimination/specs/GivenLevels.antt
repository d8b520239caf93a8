-- A level as it is given to the code.
use Rattle.std.specs.Prelude.{◌≡◌, ℕ, Bool, false, if◌then◌else◌, ◌&&◌, ◌||◌, nat_eq, List, [], ◌∷◌, Option, Some, None}
use Rattle.tree_law.specs.Ways.{IsIn}
use Rattle.elimination_plans.specs.Stages.{Task}
use Rattle.elimination_plans.specs.Weights.{Only}
use Rattle.node_elimination.specs.declared.cells.Cell.{Cell}
use Rattle.node_elimination.specs.declared.tally.Sums.{Sums}
use Rattle.node_elimination.specs.declared.taking.Elimination.{Elimination}
use Rattle.node_elimination.specs.Cells.{node_cell}
use Rattle.node_elimination.specs.Tables.{no_sums}
use Rattle.node_elimination.specs.LevelStates.{cell_at}

abbrev pub zeros : List Cell → List Sums
zeros [] = []
zeros (c ∷ cs) = no_sums ∷ zeros cs

abbrev pub own_leaves : List Cell → List ℕ
own_leaves [] = []
own_leaves (c ∷ cs) = c.leaves ∷ own_leaves cs

pub record IsBlank (numbers : List Cell) (e : Elimination) : Type 0 where
  pub sums : e.table.tally.sums.items ≡ zeros numbers
  pub leaves : e.table.tally.leaves.items ≡ own_leaves numbers
  pub gains : e.table.tally.gains.keys ≡ []
  pub cells : e.table.cells.entries ≡ []
  pub links : e.table.links.keys ≡ []
  pub total : e.table.total ≡ 0
  pub ways : e.plan.ways.entries ≡ []
  pub order : e.plan.order ≡ []
  pub nodes : e.nodes.items ≡ numbers

-- one way with nothing in it
abbrev pub plain : Cell
plain = record { count = 1; leaves = 0; size = 0; depth = 0 }

abbrev pub plain_of : (ℕ → ℕ → Bool) → ℕ → ℕ → Option Cell
plain_of edge p q = if edge p q then Some plain else None

abbrev pub with_edge : ℕ → ℕ → (ℕ → ℕ → Bool) → ℕ → ℕ → Bool
with_edge p q edge x y = (nat_eq x p && nat_eq y q) || edge x y

-- the edges of a list
abbrev pub edges_of : List (ℕ × ℕ) → ℕ → ℕ → Bool
edges_of [] x y = false
edges_of (e ∷ es) x y = (nat_eq x e.0 && nat_eq y e.1) || edges_of es x y

abbrev pub AllOnly : List ℕ → List (ℕ × ℕ) → Type 0
AllOnly all [] = Unit {0}
AllOnly all (e ∷ es) = Only e.0 all × Only e.1 all × AllOnly all es

-- the code is given the level
pub record IsGiven (k : Task) (numbers : List Cell) (edges : List (ℕ × ℕ)) (nodes : List ℕ) : Type 0 where
  pub nodes_are : k.nodes ≡ nodes
  pub edges_are : (p q : ℕ) → k.edge p q ≡ edges_of edges p q
  pub trees_are : (v : ℕ) → IsIn v k.nodes → cell_at numbers v ≡ node_cell (k.tree v)
