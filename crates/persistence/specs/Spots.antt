-- The uses of a block that have a scope, and what stands of the block in its leaf.
use Rattle.std.specs.Prelude.{ℕ, ◌+◌, ◌*◌, Bool, true, false, is_some, unwrap_or, List, [], ◌∷◌, map, Option, Some}
use Rattle.std.specs.Prelude.{None}
use Rattle.tree_law.specs.NodeOrders.{sum_over}
use Rattle.wsym_terms.specs.declared.trees.Use.{Use}
use Rattle.persistence.specs.BlockMisses.{always, is_use}
use Rattle.persistence.specs.Younger.{Code}

-- a use with a scope: its point, the points of the block before it, the last first, and those after it, the last first
pub record Spot : Type 0 where
  pub before : List ℕ
  pub point : ℕ
  pub later : List ℕ

-- the first list turned round, in front of the second
abbrev pub turned : List ℕ → List ℕ → List ℕ
turned [] h = h
turned (p ∷ ps) h = turned ps (p ∷ h)

abbrev pub with_spot : Bool → Bool → Spot → List Spot → List Spot
with_spot true true s ss = s ∷ ss
with_spot true false s ss = ss
with_spot false scoped s ss = ss

-- those of some points, after a point and others of the block
abbrev pub spots : Code → (ℕ → Option ℕ) → Option ℕ → List ℕ → List ℕ → List Spot
spots c scope prev done [] = []
spots c scope prev done (p ∷ ps) =
    with_spot (is_use c prev p) (is_some (scope p)) (record { before = done; point = p; later = turned ps [] })
    (spots c scope (Some p) (p ∷ done) ps)

abbrev pub use_of : Code → (ℕ → Option ℕ) → Spot → Use
use_of c scope s = record { line = c.line s.point; scope = unwrap_or (scope s.point) 0 }

-- the uses that stand in the leaf of a block of these points
abbrev pub uses_of_points : Code → (ℕ → Option ℕ) → List ℕ → List Use
uses_of_points c scope ps = map (use_of c scope) (spots c scope None [] ps)

-- what the block costs at most each time: its points, and a miss for each use without a scope
abbrev pub base_of_points : ℕ → (ℕ → ℕ) → Code → (ℕ → Option ℕ) → List ℕ → ℕ
base_of_points miss most c scope ps = sum_over most ps + miss * always c (λ p. is_some (scope p)) None ps
