-- Trees whose terms stand in a table.
use Rattle.std.specs.Prelude.{◌≡◌, ℕ, ◌<◌, List, length, map}
use Rattle.wsym_formula.specs.declared.nodes.Node.{Node}
use Rattle.wsym_formula.specs.Tables.{AllBelow, meaning_at}
use Rattle.wsym_formula.specs.Trees.{Shape, greatest_of, terms_of}

-- the number of a tree's term at a depth, and the greatest scope of its uses
pub record IsPlaced (table : List Node) (shape : Shape) (depth number scope : ℕ) : Type 0 where
  pub within : number < length table
  pub means : meaning_at table number ≡ shape.term depth
  pub widest : scope ≡ shape.scope depth

-- the same of some trees
pub record ArePlaced (table : List Node) (shapes : List Shape) (depth : ℕ) (numbers : List ℕ) (scope : ℕ) : Type 0 where
  pub below : AllBelow (length table) numbers
  pub means : map (meaning_at table) numbers ≡ terms_of shapes depth
  pub widest : scope ≡ greatest_of shapes depth
