-- The search over numbered points.
use Rattle.std.proofs.Common.{◌≡◌, sym, ap, subst, ℕ, zero, suc, ◌+◌, ◌<◌, ◌≤◌, true, List, [], ◌∷◌, length, get_or}
use Rattle.std.specs.Prelude.{◌↔◌, Option, Some, slice_get}
use Rattle.std.proofs.lemmas.Option.{slice_get-get_or}
use Rattle.graph_search.specs.NodeLists.{holds, added_all, MoreThan}
use Rattle.graph_search.specs.Walks.{Reached}
use Rattle.graph_search.specs.Searches.{steps_to, Searched}
use Rattle.control_flow.specs.Points.{Point}
use Rattle.function_points.specs.PointLists.{point_eq, point_at, points_at}
use Rattle.function_points.proofs.PointLemmas.{points_length}
use Rattle.function_points.proofs.CollectLemmas.{next_searched, longer, too_many_points, exactly, not_more}

mapped_at : (ls : List (List ℕ)) (ns : List (ℕ × ℕ)) (at : ℕ) (n : ℕ × ℕ) → slice_get ns at ≡ Some n → slice_get (points_at ls ns) at ≡ Some
    (point_at ls n)
mapped_at ls [] at n e = absurd (cc)
mapped_at ls (m ∷ ns) zero n e = let same : m ≡ n = cc in ap (λ z. Some (point_at ls z)) same
mapped_at ls (m ∷ ns) (suc at) n e = mapped_at ls ns at n e

same_some : (p q : Point) (o : Option Point) → o ≡ Some p → o ≡ Some q → p ≡ q
same_some p q o e f = cc

module _ (step : Point → List Point) (start : Point) (ls new : List (List ℕ)) (ns ms : List (ℕ × ℕ)) (at : ℕ) (lt : at < length ns) where
  under : at < length (points_at ls ns)
  under = subst (λ k. at < k) (sym (points_length ls ns)) lt

  at_point : (P : Point → Type 0) → ((n : ℕ × ℕ) → slice_get ns at ≡ Some n → P (point_at ls n)) → (p : Point) → slice_get
      (points_at ls ns) at ≡ Some p → P p
  at_point P f p e =
      let n = get_or ns at (0, 0) in
      let is : slice_get ns at ≡ Some n = slice_get-get_or ns at (0, 0) lt in
      subst P (same_some (point_at ls n) p (slice_get (points_at ls ns) at) (mapped_at ls ns at n is) e) (f n is)

  pub next_gathered : Searched point_eq step start at (points_at ls ns) →
      ((n : ℕ × ℕ) → slice_get ns at ≡ Some n → points_at new ms ≡ added_all point_eq (points_at ls ns) (step (point_at ls n)))
      → Searched point_eq step start (at + 1) (points_at new ms)
  next_gathered s is = next_searched step (points_at ls ns) (points_at new ms) at under start s
      (at_point (λ p. points_at new ms ≡ added_all point_eq (points_at ls ns) (step p)) is)

  pub longer_gathered : ((n : ℕ × ℕ) → slice_get ns at ≡ Some n → points_at new ms ≡ added_all point_eq (points_at ls ns)
      (step (point_at ls n))) → at + 1 ≤ length ms
  longer_gathered is = subst (λ k. at + 1 ≤ k) (points_length new ms) (longer step (points_at ls ns) (points_at new ms) at under
      (at_point (λ p. points_at new ms ≡ added_all point_eq (points_at ls ns) (step p)) is))

  pub too_many_gathered : (most : ℕ) → Searched point_eq step start at (points_at ls ns) →
      ((n : ℕ × ℕ) → slice_get ns at ≡ Some n → most < length (added_all point_eq (points_at ls ns) (step (point_at ls n))))
      → MoreThan point_eq most (Reached (steps_to point_eq step) start)
  too_many_gathered most s lots = too_many_points step (points_at ls ns) (points_at new ms) at under start most s
      (at_point (λ p. most < length (added_all point_eq (points_at ls ns) (step p))) lots)

module _ (step : Point → List Point) (start : Point) (ls : List (List ℕ)) (ns : List (ℕ × ℕ)) (at : ℕ)
    (s : Searched point_eq step start at (points_at ls ns)) (le : length ns ≤ at) where
  over : length (points_at ls ns) ≤ at
  over = subst (λ k. k ≤ at) (sym (points_length ls ns)) le

  pub exactly_gathered : (p : Point) → (holds point_eq p (points_at ls ns) ≡ true) ↔ Reached (steps_to point_eq step) start p
  exactly_gathered p = exactly step start (points_at ls ns) at s over p

  pub not_more_gathered : (most : ℕ) → length ns ≤ most → MoreThan point_eq most (Reached (steps_to point_eq step) start) → ⊥
  not_more_gathered most few = not_more step start (points_at ls ns) at s over most (subst (λ k. k ≤ most) (sym (points_length ls ns)) few)
