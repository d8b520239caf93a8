-- Points by the found of their contexts.
use Rattle.std.specs.Prelude.{◌≡◌, ℕ, ◌<◌, Bool, true, ◌&&◌, ◌==◌, List, [], length, get_or, map, Contains}
use Rattle.std.specs.Str.{bytes_eq}
use Rattle.graph_search.specs.NodeLists.{holds, Distinct}
use Rattle.control_flow.specs.Points.{Point}

abbrev pub pair_eq : ℕ × ℕ → ℕ × ℕ → Bool
pair_eq x y = (x.0 == y.0) && (x.1 == y.1)

abbrev pub point_eq : Point → Point → Bool
point_eq p q = bytes_eq p.returns q.returns && (p.address == q.address)

abbrev pub point_at : List (List ℕ) → ℕ × ℕ → Point
point_at ls n = record { returns = get_or ls n.0 []; address = n.1 }

abbrev pub points_at : List (List ℕ) → List (ℕ × ℕ) → List Point
points_at ls ns = map (point_at ls) ns

-- the lists have one number each, and the points' contexts are among them
pub record AreHeld (ls : List (List ℕ)) (ns : List (ℕ × ℕ)) : Type 0 where
  pub distinct : Distinct bytes_eq ls
  pub under : (n : ℕ × ℕ) → holds pair_eq n ns ≡ true → n.0 < length ls

-- each list is that of a point
pub record AreUsed (ls : List (List ℕ)) (ps : List Point) : Type 0 where
  pub by : (l : List ℕ) → Contains ls l → (p : Point) × (holds point_eq p ps ≡ true) × (p.returns ≡ l)
