-- The loops round each block by their numbers, the outermost first.
use Rattle.std.specs.Prelude.{◌≡◌, ◌≢◌, ℕ, ◌<◌, ◌≤◌, Bool, true, false, if◌then◌else◌, nat_eq, nat_lt, List, [], ◌∷◌}
use Rattle.std.specs.Prelude.{◌++◌, length, slice_index_or}
use Rattle.graph_search.specs.Orders.{Rising}
use Rattle.graph_search.specs.NodeLists.{holds}
use Rattle.graph_search.specs.Flows.{Flow, edge, leads}
use Rattle.graph_reduction.specs.Loops.{stays, InLoop}
use Rattle.interval_loops.specs.Loops.{Loops}

abbrev pub last_or : ℕ → List ℕ → ℕ
last_or x [] = x
last_or x (y ∷ ys) = last_or y ys

abbrev pub first_or : ℕ → List ℕ → ℕ
first_or x [] = x
first_or x (y ∷ ys) = y

-- what comes after a number in a list
abbrev pub after : ℕ → List ℕ → ℕ
after c [] = 0
after c (x ∷ xs) = if nat_eq x c then first_or 0 xs else after c xs

-- an edge that doesn't close rises
abbrev pub RisesOpen : Flow → (ℕ → ℕ → Bool) → (ℕ → ℕ) → Type 0
RisesOpen flow closed rank = (u v : ℕ) → stays (leads (edge flow)) closed u v → rank u < rank v

-- The numbers of the loops round each block, in the order of their headers' ranks, and what follows from them: the
-- innermost, the loop in which a loop lies, and how many loops are round a header. Numbers of no loop lie in the whole
-- function.
pub record AreRound (flow : Flow) (closed : ℕ → ℕ → Bool) (rank header parent inner at : ℕ → ℕ) (around : ℕ → List ℕ)
    (deepest : ℕ) : Type 0 where
  pub inside : (d b : ℕ) → holds nat_eq d (around b) ≡ true → (d ≢ 0) × InLoop (leads (edge flow)) closed (header d) b
  pub all : (d x b : ℕ) → holds nat_eq d (around x) ≡ true → InLoop (leads (edge flow)) closed (header d) b
      → holds nat_eq d (around b) ≡ true
  pub numbered : (u h : ℕ) → closed u h ≡ true → (d : ℕ) × (holds nat_eq d (around h) ≡ true) × (header d ≡ h)
  pub rising : (b : ℕ) → Rising (λ d. rank (header d)) (around b)
  pub blocks : (d b : ℕ) → holds nat_eq d (around b) ≡ true → b < flow.count
  pub innermost : (b : ℕ) → inner b ≡ last_or 0 (around b)
  pub up : (d : ℕ) (xs : List ℕ) → around (header d) ≡ xs ++ d ∷ [] → parent d ≡ last_or 0 xs
  pub level : (d : ℕ) → holds nat_eq d (around (header d)) ≡ true → at d ≡ length (around (header d))
  pub other_up : (d : ℕ) → holds nat_eq d (around (header d)) ≡ false → parent d ≡ 0
  pub other_level : (d : ℕ) → d ≢ 0 → holds nat_eq d (around (header d)) ≡ false → at d ≡ 1
  pub top : at 0 ≡ 0
  pub low : (d : ℕ) → at d ≤ deepest
  pub start : nat_lt (header 0) flow.count ≡ false

abbrev pub loops_by : (ℕ → ℕ) → (ℕ → ℕ) → (ℕ → ℕ) → (ℕ → List ℕ) → Loops
loops_by header parent inner around = record {
  header = header;
  parent = parent;
  inner = inner;
  hold = λ c b. after c
      (0 ∷ around b);
}

abbrev pub within_by : Flow → (ℕ → List ℕ) → ℕ → ℕ → Bool
within_by flow around d b = if nat_eq d 0 then nat_lt b flow.count else holds nat_eq d (around b)

-- the loop of a depth round a block
abbrev pub round_by : (ℕ → List ℕ) → ℕ → ℕ → ℕ
round_by around b d = slice_index_or (0 ∷ around b) d 0
