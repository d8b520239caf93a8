-- The uses of all blocks.
use Rattle.std.specs.Prelude.{◌≡◌, ℕ, List, map, Option}
use Rattle.line_uses.specs.PointMaps.{PointMaps, code_of}
use Rattle.persistence.specs.Spots.{base_of_points, uses_of_points}
use Rattle.line_uses.specs.Scopes.{AreScopesOf, cost_in, scope_in}
use Rattle.wsym_terms.specs.declared.trees.BlockUses.{BlockUses}
use Rattle.line_uses.specs.declared.leaves.LineUses.{LineUses}

-- what stands of a block in its leaf
abbrev pub leaf_of : ℕ → List ℕ → PointMaps → List (Option ℕ) → List ℕ → BlockUses
leaf_of miss costs m scopes ps = record {
  base = base_of_points miss (cost_in costs) (code_of m) (scope_in scopes) ps;
  uses = uses_of_points (code_of m) (scope_in scopes) ps;
}

-- the scopes are those of the uses, and each block has its base and its uses with a scope
pub record AreUsesOf (sets ways miss : ℕ) (m : PointMaps) (rows : List (List ℕ)) (costs : List ℕ) (u : LineUses) : Type
    0 where
  pub scopes : AreScopesOf sets ways m rows u.scopes
  pub blocks : u.blocks ≡ map (leaf_of miss costs m u.scopes) rows
