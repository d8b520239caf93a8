-- Trails: the visits of blocks along a run, each with the entries of the loops round it and the turns that they made
-- since.
use Rattle.std.specs.Prelude.{◌≡◌, ℕ, ◌+◌, ◌≤◌, ◌⊎◌, Bool, true, false, if◌then◌else◌, nat_eq, ◌&&◌, not, List, [], ◌∷◌}
use Rattle.interval_loops.specs.Loops.{LoopFlow}

-- a block that ran: the cycles that it spent, and whether the use at a place of its leaf missed
pub record Ran : Type 0 where
  pub block : ℕ
  pub spent : ℕ
  pub missed : ℕ → Bool

-- A visit of a block: a block that ran, and for each depth when the loop of that depth round it was entered, and how
-- many closing edges to that loop's header were taken since.
pub record Visit : Type 0 where
  pub block : ℕ
  pub spent : ℕ
  pub missed : ℕ → Bool
  pub entry : ℕ → ℕ
  pub turns : ℕ → ℕ

-- at the start all loops are entered
abbrev pub first_visit : Ran → Visit
first_visit x = record { block = x.block; spent = x.spent; missed = x.missed; entry = λ d. 0; turns = λ d. 0 }

-- After a visit, at a time: a loop that holds both blocks keeps its entry and counts a turn at its header, another is
-- entered now. `round b d` is the loop of depth d round block b.
abbrev pub next_visit : LoopFlow → (ℕ → ℕ → ℕ) → ℕ → Visit → Ran → Visit
next_visit f round time v x = record {
  block = x.block;
  spent = x.spent;
  missed = x.missed;
  entry = λ d. if f.within (round x.block d) v.block then v.entry d else time;
  turns = λ d.
      if f.within (round x.block d) v.block
      then v.turns d + (if nat_eq x.block (f.header (round x.block d)) then 1 else 0)
      else 0;
}

abbrev pub visits_after : LoopFlow → (ℕ → ℕ → ℕ) → ℕ → Visit → List Ran → List Visit
visits_after f round time v [] = []
visits_after f round time v (x ∷ xs) =
    next_visit f round time v x ∷ visits_after f round (time + 1) (next_visit f round time v x) xs

abbrev pub last_visit : LoopFlow → (ℕ → ℕ → ℕ) → ℕ → Visit → List Ran → Visit
last_visit f round time v [] = v
last_visit f round time v (x ∷ xs) = last_visit f round (time + 1) (next_visit f round time v x) xs

-- the visits of a walk of blocks, the first of them the entry's
abbrev pub all_visits : LoopFlow → (ℕ → ℕ → ℕ) → Ran → List Ran → List Visit
all_visits f round x xs = first_visit x ∷ visits_after f round 1 (first_visit x) xs

-- a walk of blocks from a block on, to one where control leaves
abbrev pub IsWalk : LoopFlow → ℕ → List Ran → Type 0
IsWalk f b [] = (f.within 0 b ≡ true) × (f.ends b ≡ true)
IsWalk f b (x ∷ xs) = (f.within 0 b ≡ true) × (f.next b x.block ≡ true) × IsWalk f x.block xs

-- a way out of a loop
abbrev pub Leaves : LoopFlow → ℕ → ℕ → Type 0
Leaves f c b = (f.ends b ≡ true) ⊎ ((u : ℕ) × (f.next b u ≡ true) × (f.within c u ≡ false))

-- from a visit to the next: a loop that holds both keeps its entry and counts a turn at its header
pub record Follows (f : LoopFlow) (at : ℕ → ℕ) (v u : Visit) : Type 0 where
  pub edge : f.next v.block u.block ≡ true
  pub keeps : (c : ℕ) → f.within c v.block ≡ true → f.within c u.block ≡ true → (d : ℕ) → d ≤ at c → u.entry d
      ≡ v.entry d
  pub counts : (c : ℕ) → f.within c v.block ≡ true → f.within c u.block ≡ true
      → u.turns (at c) ≡ v.turns (at c) + (if nat_eq u.block (f.header c) then 1 else 0)
  pub fresh : (c : ℕ) → f.within c v.block ≡ false → f.within c u.block ≡ true → u.turns (at c) ≡ 0
