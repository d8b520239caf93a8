-- Visits with one entry are one stretch inside the loop; and what happens once at most, by what lies before it.
use Rattle.std.proofs.Common.{◌≡◌, ℕ, ◌+◌, ◌≤◌, ◌<◌, Bool, true, false, if◌then◌else◌, List, [], ◌∷◌, ◌++◌, refl, sym, ap, subst, ◌∙◌}
use Rattle.std.proofs.Common.{arith}
use Rattle.std.specs.List.{AllByRecursion}
use Rattle.interval_loops.specs.Trails.{Visit, Ran, next_visit, last_visit}
use Rattle.tree_law.specs.Pieces.{over}
use Rattle.tree_law.specs.Levels.{Nest}
use Rattle.interval_loops.specs.Loops.{LoopFlow, IsRound}

-- What counts 0 or 1, and 1 only where nothing before it counts, counts at most 1 in all.
abbrev pub Firsts : (Visit → ℕ) → ℕ → List Visit → Type 0
Firsts w before [] = Unit {0}
Firsts w before (u ∷ xs) = (w u ≡ 1 → before ≡ 0) × Firsts w (before + w u) xs

one_more : (a b : ℕ) → a ≤ 1 → b ≤ 1 → (a ≡ 1 → b ≡ 0) → b + a ≤ 1
one_more a b p q h = grind arith

pub firsts_once : (w : Visit → ℕ) → ((v : Visit) → w v ≤ 1) → (xs : List Visit) (before : ℕ) → before ≤ 1 → Firsts w before xs
    → over w xs + before ≤ 1
firsts_once w small [] before le h = omega arith
firsts_once w small (u ∷ xs) before le h =
    let here : w u ≤ 1 = small u in
    let first : w u ≡ 1 → before ≡ 0 = h.0 in
    let both : before + w u ≤ 1 = one_more (w u) before here le first in
    let rest : over w xs + (before + w u) ≤ 1 = firsts_once w small xs (before + w u) both h.1 in
    omega (arith, rest)
