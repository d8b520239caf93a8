-- The scope of a use, and what stands of a block's uses in its leaf.
use Rattle.std.specs.Prelude.{◌≡◌, ℕ, ◌+◌, Bool, true, false, is_some, if◌then◌else◌, List, [], ◌∷◌}
use Rattle.std.specs.Prelude.{◌<◌, ◌≤◌, ◌++◌, nat_eq, not, ◌⊎◌, Option, Some, None, slice_index_or}
use Rattle.graph_search.specs.NodeLists.{holds}
use Rattle.persistence.specs.BlockMisses.{is_use}
use Rattle.persistence.specs.Younger.{AtLeast, Code, HasNoScope, IsScope, IsYounger}
use Rattle.wsym_terms.specs.declared.trees.Use.{Use}
use Rattle.line_uses.specs.PointMaps.{PointMaps, code_of, depth_of, within}

abbrev pub IsScoped : ℕ → ℕ → PointMaps → ℕ → Option ℕ → Type 0
IsScoped sets ways m p (Some d) = IsScope (code_of m) sets ways (within m p) (depth_of m p) p d
IsScoped sets ways m p None = HasNoScope (code_of m) sets ways (within m p) (depth_of m p) p

-- as many younger lines as ways in the loop of a depth round a point
abbrev pub AreMany : ℕ → ℕ → PointMaps → ℕ → ℕ → Type 0
AreMany sets ways m p d = AtLeast ways (IsYounger (code_of m) sets (within m p d) p)

abbrev pub scope_in : List (Option ℕ) → ℕ → Option ℕ
scope_in scopes p = slice_index_or scopes p None

abbrev pub cost_in : List ℕ → ℕ → ℕ
cost_in costs p = slice_index_or costs p 0

-- the flag of a point; none past the table's end
abbrev pub flag_in : List Bool → ℕ → Bool
flag_in flags p = slice_index_or flags p false

-- the uses among some points
abbrev pub use_points : Code → Option ℕ → List ℕ → List ℕ
use_points c prev [] = []
use_points c prev (p ∷ ps) = if is_use c prev p then p ∷ use_points c (Some p) ps else use_points c (Some p) ps

abbrev pub all_uses : Code → List (List ℕ) → List ℕ
all_uses c [] = []
all_uses c (ps ∷ rest) = use_points c None ps ++ all_uses c rest

-- each scope that is given is one, and of some points those without a scope have none, but for what is left to do
pub record AreSoFar (sets ways : ℕ) (m : PointMaps) (due left : List ℕ) (scopes : List (Option ℕ)) : Type 0 where
  pub found : (p d : ℕ) → scope_in scopes p ≡ Some d → IsScoped sets ways m p (Some d)
  pub none : (p : ℕ) → holds nat_eq p due ≡ true → scope_in scopes p ≡ None
      → IsScoped sets ways m p None ⊎ (holds nat_eq p left ≡ true)

-- a scope where there is one, and none exactly at uses without one
pub record AreScopesOf (sets ways : ℕ) (m : PointMaps) (blocks : List (List ℕ)) (scopes : List (Option ℕ)) : Type 0
  where
    pub found : (p d : ℕ) → scope_in scopes p ≡ Some d → IsScoped sets ways m p (Some d)
    pub none : (p : ℕ) → holds nat_eq p (all_uses (code_of m) blocks) ≡ true → scope_in scopes p ≡ None
        → IsScoped sets ways m p None

-- ---- the same, point by point

abbrev pub use_with : Code → ℕ → Option ℕ → Option Use
use_with c p None = None
use_with c p (Some d) = Some (record { line = c.line p; scope = d })

abbrev pub use_here : Code → (ℕ → Option ℕ) → Option ℕ → ℕ → Option Use
use_here c scope prev p = if is_use c prev p then use_with c p (scope p) else None

abbrev pub with_use : Option Use → List Use → List Use
with_use None us = us
with_use (Some u) us = u ∷ us

abbrev pub uses_along : Code → (ℕ → Option ℕ) → Option ℕ → List ℕ → List Use
uses_along c scope prev [] = []
uses_along c scope prev (p ∷ ps) = with_use (use_here c scope prev p) (uses_along c scope (Some p) ps)

-- whether a point is a use without a scope
abbrev pub always_here : Code → (ℕ → Option ℕ) → Option ℕ → ℕ → Bool
always_here c scope prev p = if is_use c prev p then not (is_some (scope p)) else false

abbrev pub paid_here : ℕ → (ℕ → ℕ) → Code → (ℕ → Option ℕ) → Option ℕ → ℕ → ℕ
paid_here miss most c scope prev p = most p + (if always_here c scope prev p then miss else 0)

abbrev pub paid : ℕ → (ℕ → ℕ) → Code → (ℕ → Option ℕ) → Option ℕ → List ℕ → ℕ
paid miss most c scope prev [] = 0
paid miss most c scope prev (p ∷ ps) = paid_here miss most c scope prev p + paid miss most c scope (Some p) ps

-- the depths in which a search halves: below the first there are many younger lines, in the second few
pub record IsBetween (sets ways : ℕ) (m : PointMaps) (p low high : ℕ) : Type 0 where
  pub most : high ≤ depth_of m p
  pub few : AreMany sets ways m p high → ⊥
  pub many : (e : ℕ) → e < low → AreMany sets ways m p e
