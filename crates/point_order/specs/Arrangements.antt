-- The points of a function in their order.
use Rattle.std.specs.Prelude.{◌≡◌, ◌↔◌, ℕ, ◌<◌, Contains, List, length}
use Rattle.elf32_image.specs.Parts.{ImageValue}
use Rattle.control_flow.specs.Points.{Point}
use Rattle.control_flow.specs.Ways.{IsCollected}
use Rattle.function_points.specs.PointLists.{points_at}
use Rattle.basic_blocks.specs.Blocks.{Ascending}
use Rattle.point_order.specs.Families.{Lower}
use Rattle.point_order.specs.Ranks.{PairBefore}

-- The lists of open calls ascend and are those of the points that control reaches from the entry; the points, each by
-- the number of its list and its address, ascend and are all that control reaches.
pub record IsArranged (image : ImageValue) (entry : ℕ) (ls : List (List ℕ)) (ns : List (ℕ × ℕ)) : Type 0 where
  pub rising : Ascending Lower ls
  pub lists : (l : List ℕ) → Contains ls l ↔ ((p : Point) × IsCollected image entry p × (p.returns ≡ l))
  pub under : (n : ℕ × ℕ) → Contains ns n → n.0 < length ls
  pub sorted : Ascending PairBefore ns
  pub points : (p : Point) → Contains (points_at ls ns) p ↔ IsCollected image entry p
