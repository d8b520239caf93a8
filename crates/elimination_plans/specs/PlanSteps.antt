-- A plan as it grows while nodes are taken out: an edge stays as it is from when one of its ends is gone.
use Rattle.std.specs.Prelude.{◌≡◌, ℕ, suc, Bool, true, false, if◌then◌else◌, ◌||◌, ◌&&◌, nat_eq, List, [], ◌∷◌, ◌++◌}
use Rattle.wsym_terms.specs.declared.trees.Tree.{Tree}
use Rattle.tree_law.specs.Ways.{through}

abbrev pub some : {A : Type 0} → List A → Bool
some [] = false
some (x ∷ xs) = true

abbrev pub and_gone : ℕ → (ℕ → Bool) → ℕ → Bool
and_gone v gone p = nat_eq p v || gone p

-- the ways of edges
abbrev pub ways_step : (ℕ → Tree) → (ℕ → Bool) → ℕ → (ℕ → ℕ → List (List Tree)) → ℕ → ℕ → List (List Tree)
ways_step tree gone v W p q = if and_gone v gone p || and_gone v gone q then W p q else W p q ++ through (W p v)
    (tree v) (W v q)

abbrev pub ways_after : (ℕ → Tree) → List ℕ → (ℕ → Bool) → (ℕ → ℕ → List (List Tree)) → ℕ → ℕ → List (List Tree)
ways_after tree [] gone W = W
ways_after tree (v ∷ vs) gone W = ways_after tree vs (and_gone v gone) (ways_step tree gone v W)

-- and their numbers: the way through the node at place i has the number i + 1
abbrev pub plan_step : (ℕ → Bool) → ℕ → ℕ → (ℕ → ℕ → List ℕ) → ℕ → ℕ → List ℕ
plan_step gone i v P p q = if and_gone v gone p || and_gone v gone q then P p q else P p q ++
    (if some (P p v) && some (P v q) then suc i ∷ [] else [])

abbrev pub plan_after : List ℕ → (ℕ → Bool) → ℕ → (ℕ → ℕ → List ℕ) → ℕ → ℕ → List ℕ
plan_after [] gone i P = P
plan_after (v ∷ vs) gone i P = plan_after vs (and_gone v gone) (suc i) (plan_step gone i v P)

-- at the start each edge has the number 0
abbrev pub edge_plan : (ℕ → ℕ → Bool) → ℕ → ℕ → List ℕ
edge_plan edge p q = if edge p q then 0 ∷ [] else []

-- each node is there when it is taken out
abbrev pub Fresh : (ℕ → Bool) → List ℕ → Type 0
Fresh gone [] = Unit {0}
Fresh gone (v ∷ vs) = (gone v ≡ false) × Fresh (and_gone v gone) vs

-- the nodes stand at places
abbrev pub Stands : (ℕ → ℕ) → ℕ → List ℕ → Type 0
Stands node i [] = Unit {0}
Stands node i (v ∷ vs) = (node i ≡ v) × Stands node (suc i) vs
