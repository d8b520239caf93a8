-- A walk with its stamps is a trail.
use Rattle.std.proofs.Common.{◌≡◌, ℕ, ◌+◌, ◌≤◌, inl, Bool, true, false, if◌then◌else◌, nat_eq, List, [], ◌∷◌, refl, ap, ◌∙◌}
use Rattle.std.specs.List.{AllByRecursion}
use Rattle.wsym_terms.specs.Extents.{Extent}
use Rattle.interval_loops.specs.Trails.{Visit, Follows, Ran, first_visit, next_visit, visits_after, IsWalk}
use Rattle.tree_law.specs.Levels.{Nest}
use Rattle.interval_loops.specs.Loops.{LoopFlow, IsRound}
use Rattle.tree_law.specs.Trails.{Paid, Stays, IsTrail}
use Rattle.interval_loops.proofs.VisitLemmas.{follows}

module _ (miss : ℕ) (bounds : ℕ → Extent) (n : Nest) (f : LoopFlow) (at : ℕ → ℕ) (round : ℕ → ℕ → ℕ) (is : IsRound f at round) where
  pub walk_stays : (xs : List Ran) (time : ℕ) (v : Visit) → IsWalk f v.block xs → Paid miss bounds n f at v → AllByRecursion
      (Paid miss bounds n f at) (visits_after f round time v xs) → Stays miss bounds n f at 0 v (visits_after f round time v xs)
  walk_stays [] time v w p all = (w.0, p, inl w.1)
  walk_stays (x ∷ xs) time v w p all = (
    w.0,
    p,
    follows f at round is time v x w.1,
    walk_stays xs (time + 1)
        (next_visit f round time v x) w.2 all.0 all.1,
  )

  pub walk_is_trail : (x : Ran) (xs : List Ran) → x.block ≡ f.entry → IsWalk f x.block xs → AllByRecursion (Paid miss bounds n f at)
      (first_visit x ∷ visits_after f round 1 (first_visit x) xs)
      → IsTrail miss bounds n f at (first_visit x) (visits_after f round 1 (first_visit x) xs)
  walk_is_trail x xs e w all = record { begins = e; new = λ d. refl; stays = walk_stays xs 1 (first_visit x) w all.0 all.1 }
