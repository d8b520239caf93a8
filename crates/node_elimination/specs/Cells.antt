-- The numbers of the edges of a level, and what they become when a node is taken out.
use Rattle.std.specs.Prelude.{◌≡◌, ℕ, ◌+◌, ◌<◌, ◌^◌, max, true, if◌then◌else◌, nat_le, nat_eq, ◌&&◌, ◌||◌, List, []}
use Rattle.std.specs.Prelude.{◌∷◌, length, Option, Some, None, is_some}
use Rattle.wsym_terms.specs.TreeNesting.{tree_nesting}
use Rattle.wsym_terms.specs.Trees.{size_of}
use Rattle.wsym_terms.specs.declared.trees.Tree.{Tree}
use Rattle.tree_law.specs.NodeOrders.{leaves_of, leaves_of_ways}
use Rattle.std.specs.List.{AllByRecursion}
use Rattle.elimination_plans.specs.Weights.{value_of, Only}
use Rattle.elimination_plans.specs.TreeDepths.{max_over}
use Rattle.node_elimination.specs.declared.cells.Cell.{Cell}

abbrev pub cell_of : List (List Tree) → Option Cell
cell_of [] = None
cell_of (w ∷ ws) = Some (record {
  count = length (w ∷ ws);
  leaves = leaves_of_ways (w ∷ ws);
  size = value_of size_of
      (w ∷ ws);
  depth = max_over (max_over tree_nesting) (w ∷ ws);
})

abbrev pub node_cell : Tree → Cell
node_cell t = record { count = 1; leaves = leaves_of t; size = size_of t; depth = tree_nesting t }

abbrev pub members_size : Cell → ℕ
members_size c = if nat_le c.count 1 then c.size else 1 + c.count + c.size

abbrev pub members_depth : Cell → ℕ
members_depth c = if nat_le c.count 1 then c.depth else 2 + c.depth

-- the way through a node
abbrev pub passed : Cell → Cell → Cell → Cell
passed a n b = record {
  count = 1;
  leaves = a.leaves + n.leaves + b.leaves;
  size = members_size a + n.size +
      members_size b;
  depth = max (members_depth a) (max n.depth (members_depth b));
}

-- one more way
abbrev pub joined : Option Cell → Cell → Cell
joined None p = p
joined (Some o) p = record {
  count = o.count + p.count;
  leaves = o.leaves + p.leaves;
  size = o.size + p.size;
  depth
      = max o.depth p.depth;
}

abbrev pub pass_of : Option Cell → Cell → Option Cell → Option Cell
pass_of None n b = None
pass_of (Some a) n None = None
pass_of (Some a) n (Some b) = Some (passed a n b)

abbrev pub joined_of : Option Cell → Option Cell → Option Cell
joined_of o None = o
joined_of o (Some p) = Some (joined o p)

abbrev pub one : Option Cell → ℕ
one None = 0
one (Some c) = 1

abbrev pub leaves_in : Option Cell → ℕ
leaves_in None = 0
leaves_in (Some c) = c.leaves

abbrev pub size_in : Option Cell → ℕ
size_in None = 0
size_in (Some c) = c.size

-- Edges by their ends: one is changed, or those into or out of a node go, or ways through a node are added.
abbrev pub put : ℕ → ℕ → Option Cell → (ℕ → ℕ → Option Cell) → ℕ → ℕ → Option Cell
put p q c E x y = if nat_eq x p && nat_eq y q then c else E x y

abbrev pub find : ℕ → List (ℕ × Cell) → Option Cell
find q [] = None
find q (x ∷ xs) = if nat_eq q x.0 then Some x.1 else find q xs

abbrev pub cut_into : ℕ → List (ℕ × Cell) → (ℕ → ℕ → Option Cell) → ℕ → ℕ → Option Cell
cut_into v list E x y = if nat_eq y v && is_some (find x list) then None else E x y

abbrev pub cut_out : ℕ → List (ℕ × Cell) → (ℕ → ℕ → Option Cell) → ℕ → ℕ → Option Cell
cut_out v list E x y = if nat_eq x v && is_some (find y list) then None else E x y

abbrev pub row_joined : ℕ → Cell → Cell → List (ℕ × Cell) → (ℕ → ℕ → Option Cell) → ℕ → ℕ → Option Cell
row_joined p a n outs E x y = if nat_eq x p then joined_of (E x y) (pass_of (Some a) n (find y outs)) else E x y

abbrev pub all_joined : List (ℕ × Cell) → Cell → List (ℕ × Cell) → (ℕ → ℕ → Option Cell) → ℕ → ℕ → Option Cell
all_joined ins n outs E x y = joined_of (E x y) (pass_of (find x ins) n (find y outs))

-- a node is taken out
abbrev pub cells_step : ℕ → Cell → (ℕ → ℕ → Option Cell) → ℕ → ℕ → Option Cell
cells_step v n E x y = if nat_eq x v || nat_eq y v then None else joined_of (E x y) (pass_of (E x v) n (E v y))

-- each node stands once
abbrev pub OnceIn : List (ℕ × Cell) → Type 0
OnceIn [] = Unit {0}
OnceIn (x ∷ xs) = (find x.0 xs ≡ None) × OnceIn xs

-- edges are between some nodes
abbrev pub AreIn : List ℕ → (ℕ → ℕ → Option Cell) → Type 0
AreIn all E = (p q : ℕ) → is_some (E p q) ≡ true → Only p all × Only q all × (p < 2 ^ 32) × (q < 2 ^ 32)

-- the edges into a node, or out of it, as a list
pub record Pulled (r : ℕ → Option Cell) (list : List (ℕ × Cell)) : Type 0 where
  pub each : AllByRecursion (λ x. r x.0 ≡ Some x.1) list
  pub once : OnceIn list
  pub found : (p : ℕ) → find p list ≡ r p

abbrev pub firsts : List (ℕ × Cell) → List ℕ
firsts [] = []
firsts (x ∷ xs) = x.0 ∷ firsts xs
