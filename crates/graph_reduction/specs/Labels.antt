-- Numbers of nodes apart from their heads.
use Rattle.std.specs.Prelude.{◌≡◌, ℕ}
use Rattle.graph_reduction.specs.Reduction.{State}

-- the number of each block's node, and the head of each number
pub record Labelled (s : State) (label owner : ℕ → ℕ) : Type 0 where
  pub is : (w : ℕ) → s.head w ≡ owner (label w)
  pub back : (w : ℕ) → label (owner (label w)) ≡ label w
