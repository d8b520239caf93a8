-- What the levels of a nest of loops are.
use Rattle.std.specs.Prelude.{◌≡◌, ◌≢◌, ℕ, ◌+◌, ◌<◌, ◌≤◌, true, List, ◌∷◌, Some, None}
use Rattle.std.specs.List.{AllByRecursion}
use Rattle.wsym_terms.specs.Trees.{greatest_scope}
use Rattle.tree_law.specs.Ways.{IsIn, Path}
use Rattle.tree_law.specs.Levels.{Nest, IsEnd}

-- No walk in a level comes back, its ends are no nodes, and depths count the loops.
pub record IsNest (n : Nest) (at : ℕ → ℕ) (rank : ℕ → ℕ → ℕ) : Type 0 where
  pub top : at 0 ≡ 0
  pub up : (c t p q : ℕ) → IsEnd (n.level c) t → (n.level c).useful t p q ≡ true → rank c p < rank c q
  pub start_apart : (c t : ℕ) → IsEnd (n.level c) t → AllByRecursion (λ v. (n.level c).header ≢ v) ((n.level c).nodes t)
  pub end_apart : (c t : ℕ) → IsEnd (n.level c) t → AllByRecursion (λ v. t ≢ v) ((n.level c).nodes t)
  pub on_path : (c t : ℕ) (us : List ℕ) → IsEnd (n.level c) t → Path (n.level c).edge (n.level c).header us t
      → AllByRecursion (λ v. IsIn v ((n.level c).nodes t)) us × Path ((n.level c).useful t) (n.level c).header us t
  pub deeper : (c v d : ℕ) → n.child c v ≡ Some d → at d ≡ at c + 1
  pub scoped : (c t v : ℕ) → IsEnd (n.level c) t → n.child c v ≡ None → IsIn v
      ((n.level c).header ∷ (n.level c).nodes t) → greatest_scope (n.uses v) ≤ at c
