-- The edges of a level, each for what it is.
use Rattle.std.specs.Prelude.{◌≡◌, ℕ, ◌+◌, ◌⊎◌, true, false}
use Rattle.graph_search.specs.Flows.{Flow, edge}
use Rattle.interval_loops.specs.declared.nest.LoopNest.{LoopNest}
use Rattle.interval_loops.specs.Loops.{node_in}
use Rattle.interval_loops.specs.Nests.{around_of, header_of, loops_of}
use Rattle.interval_loops.specs.Rounds.{within_by}
use Rattle.tree_law.specs.LevelEdges.{Onward}

abbrev pub Onto : Flow → LoopNest → ℕ → ℕ → ℕ → Type 0
Onto flow n c p q = Onward (loops_of flow n) (edge flow) (within_by flow (around_of n)) c p q

-- an edge back to the header leads to the first end, whose number is the one after the start's
abbrev pub Turning : Flow → LoopNest → ℕ → ℕ → ℕ → Type 0
Turning flow n c p q = (u v : ℕ) × (within_by flow (around_of n) c u ≡ true) × (within_by flow (around_of n) c v ≡ true)
    × (edge flow u v ≡ true) × (v ≡ header_of flow n c) × (node_in (loops_of flow n) c u ≡ p) × (q ≡ flow.count + 1)

-- an edge out of the level, and the leaving of the function, lead to the second end
abbrev pub Leaving : Flow → LoopNest → ℕ → ℕ → ℕ → Type 0
Leaving flow n c p q = (u : ℕ) × (within_by flow (around_of n) c u ≡ true)
    × ((flow.returns u ≡ true) ⊎ ((v : ℕ) × (edge flow u v ≡ true) × (within_by flow (around_of n) c v ≡ false)))
    × (node_in (loops_of flow n) c u ≡ p) × (q ≡ flow.count + 2)

-- from the start of the function to the node of its entry
abbrev pub Starting : Flow → LoopNest → ℕ → ℕ → ℕ → Type 0
Starting flow n c p q =
    (c ≡ 0) × (p ≡ header_of flow n 0) × (node_in (loops_of flow n) 0 flow.entry ≡ q)

abbrev pub IsExactEdge : Flow → LoopNest → ℕ → ℕ → ℕ → Type 0
IsExactEdge flow n c p q = Onto flow n c p q ⊎ (Turning flow n c p q ⊎ (Leaving flow n c p q ⊎ Starting flow n c p q))
