-- What the weight of a level changes by when a node is taken out.
use Rattle.std.specs.Prelude.{◌≡◌, ℕ, ◌+◌, ◌-◌, ◌*◌, ◌⊎◌, Bool, true, false, if◌then◌else◌, ◌&&◌, nat_eq, List, [], ◌∷◌}
use Rattle.std.specs.List.{AllByRecursion}
use Rattle.wsym_terms.specs.declared.trees.Tree.{Tree}
use Rattle.tree_law.specs.NodeOrders.{leaves_of_ways, sum_over, over_pairs}
use Rattle.elimination_plans.specs.PlanSteps.{some}

abbrev pub leaves_through : List (List Tree) → ℕ → List (List Tree) → ℕ
leaves_through a n b = if some a && some b then leaves_of_ways a + n + leaves_of_ways b else 0

abbrev pub one_if : Bool → ℕ
one_if b = if b then 1 else 0

-- v stands once in the list
abbrev pub Only : ℕ → List ℕ → Type 0
Only v [] = ⊥
Only v (u ∷ us) = ((nat_eq u v ≡ true) × AllByRecursion (λ w. nat_eq w v ≡ false) us) ⊎
    ((nat_eq u v ≡ false) × Only v us)

-- the edges into a node from some nodes, and out of it to them, and their leaves
abbrev pub into_count : (ℕ → ℕ → List (List Tree)) → ℕ → List ℕ → ℕ
into_count ways v us = sum_over (λ p. one_if (some (ways p v))) us

abbrev pub out_count : (ℕ → ℕ → List (List Tree)) → ℕ → List ℕ → ℕ
out_count ways v us = sum_over (λ q. one_if (some (ways v q))) us

abbrev pub into_leaves : (ℕ → ℕ → List (List Tree)) → ℕ → List ℕ → ℕ
into_leaves ways v us = sum_over (λ p. leaves_of_ways (ways p v)) us

abbrev pub out_leaves : (ℕ → ℕ → List (List Tree)) → ℕ → List ℕ → ℕ
out_leaves ways v us = sum_over (λ q. leaves_of_ways (ways v q)) us

-- what stands in the ways of an edge, and in a level with some nodes left, for a measure of trees
abbrev pub value_of : (Tree → ℕ) → List (List Tree) → ℕ
value_of μ = sum_over (sum_over μ)

abbrev pub mass : (Tree → ℕ) → (ℕ → Tree) → ℕ → ℕ → (ℕ → ℕ → List (List Tree)) → List ℕ → ℕ
mass μ tree s t ways left = over_pairs (λ p q. value_of μ (ways p q)) (s ∷ t ∷ left) + sum_over (λ u. μ (tree u)) left

-- with i edges in and o out, their leaves, and those of the node's tree: by how much the weight grows
abbrev pub gain : ℕ → ℕ → ℕ → ℕ → ℕ → ℕ
gain i o A B n = (o * A + i * (o * n + B)) - (A + B + n)
