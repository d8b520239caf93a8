-- The tables of a function's points.
use Rattle.std.specs.Prelude.{◌≡◌, ◌↔◌, ℕ, ◌<◌, ◌≤◌, Bool, true, Contains, Option, List, length, get_or, map, nat_eq}
use Rattle.graph_search.specs.Walks.{Reached}
use Rattle.graph_search.specs.Searches.{steps_to}
use Rattle.control_flow.specs.Points.{Point}
use Rattle.control_flow.specs.Routes.{Way}
use Rattle.basic_blocks.specs.Blocks.{AreBlocks, Ascending, Chain, by_first, points}
use Rattle.basic_blocks.specs.Chains.{AreChains, is_flagged, mapped}
use Rattle.basic_blocks.specs.LivePoints.{before}
use Rattle.basic_blocks.specs.PointOrder.{Before}
use Rattle.point_tables.specs.declared.targets.Targets.{Targets}
use Rattle.point_tables.specs.Numbers.{AreSources, IsLink, IsTableOf}
use Rattle.point_tables.specs.Targets.{AreTargets, step_in}

-- numbers cut into chains by what only follows them
pub record AreLinkChains (step before : ℕ → List ℕ) (flag : ℕ → Bool) (n entry : ℕ) (xss : List (List ℕ)) : Type 0 where
  pub only : List (Option ℕ)
  pub back : List (Option ℕ)
  pub forward : IsTableOf (IsLink step before flag n entry) n only
  pub backward : IsTableOf (λ q p. IsLink step before flag n entry p q) n back
  pub chains : List (Chain ℕ)
  pub is : xss ≡ map (λ (b : Chain ℕ). points b) chains
  pub cut : AreChains only flag chains

-- where control goes from each point, from where it comes, and from which it gets out
pub record AreTables (ways : Point → List (Way Point)) (start : Point) (ps : List Point) (table : List Targets)
    (rows : List (List ℕ)) (flags : List Bool) : Type 0 where
  pub ahead : AreTargets ways start ps table
  pub back : AreSources (step_in table) (before rows)
  pub live : (i : ℕ) → i ≤ length ps
      → (is_flagged flags i ≡ true) ↔ Reached (steps_to nat_eq (before rows)) (length ps) i

-- lists of numbers of points are the blocks, in order
pub record AreBlockNumbers (ways : Point → List (Way Point)) (start : Point) (ps : List Point)
    (xss : List (List ℕ)) : Type 0 where
  pub chains : List (Chain ℕ)
  pub is : xss ≡ map (λ (b : Chain ℕ). points b) chains
  pub under : (b : Chain ℕ) → Contains chains b → (p : ℕ) → Contains (points b) p → p < length ps
  pub rising : Ascending (by_first (λ p q. p < q)) chains
  pub blocks : AreBlocks ways start (map (mapped (λ i. get_or ps i start)) chains)
  pub ascending : Ascending (by_first Before) (map (mapped (λ i. get_or ps i start)) chains)
