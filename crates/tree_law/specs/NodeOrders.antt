-- The order in which the nodes between two ends are taken out: the least weight after it, then the least number.
use Rattle.std.specs.Prelude.{◌≡◌, ℕ, zero, suc, ◌+◌, if◌then◌else◌, nat_eq, nat_le, List, [], ◌∷◌, length, Option}
use Rattle.std.specs.Prelude.{Some, None}
use Rattle.wsym_terms.specs.declared.trees.Tree.{Tree, fold-Tree}
use Rattle.wsym_terms.specs.declared.trees.Tree.TheOpen.{Tree-F}
use Rattle.wsym_terms.specs.declared.trees.Tree.TheOpen.Tree-F.{Leaf, Seq, Alt, Loop}
use Rattle.tree_law.specs.Ways.{taken_out}

-- std's sums of lists don't compute at a list that is put together
abbrev pub sum_over : {A : Type 0} → (A → ℕ) → List A → ℕ
sum_over f [] = 0
sum_over f (x ∷ xs) = f x + sum_over f xs

abbrev pub level_leaves : Tree-F ℕ → ℕ
level_leaves (Leaf block base uses) = 1
level_leaves (Seq members) = sum_over (λ (n : ℕ). n) members
level_leaves (Alt choices) = sum_over (λ (n : ℕ). n) choices
level_leaves (Loop id body exit) = body + exit

abbrev pub leaves_of : Tree → ℕ
leaves_of = fold-Tree ℕ level_leaves

-- the leaves in the ways of an edge
abbrev pub leaves_of_ways : List (List Tree) → ℕ
leaves_of_ways = sum_over (sum_over leaves_of)

-- the sum over the pairs of some nodes
abbrev pub over_pairs : (ℕ → ℕ → ℕ) → List ℕ → ℕ
over_pairs f ns = sum_over (λ p. sum_over (f p) ns) ns

-- with the nodes that are left, beside the two ends
abbrev pub weight : (ℕ → Tree) → ℕ → ℕ → (ℕ → ℕ → List (List Tree)) → List ℕ → ℕ
weight tree s t ways left = over_pairs (λ p q. leaves_of_ways (ways p q)) (s ∷ t ∷ left) + sum_over
    (λ v. leaves_of (tree v)) left

abbrev pub without : ℕ → List ℕ → List ℕ
without v [] = []
without v (u ∷ us) = if nat_eq u v then without v us else u ∷ without v us

abbrev pub weight_after : (ℕ → Tree) → ℕ → ℕ → (ℕ → ℕ → List (List Tree)) → List ℕ → ℕ → ℕ
weight_after tree s t ways left v = weight tree s t (taken_out tree v ways) (without v left)

abbrev pub lesser : (ℕ → ℕ) → ℕ → Option ℕ → Option ℕ
lesser f v None = Some v
lesser f v (Some u) = if nat_le (f v) (f u) then Some v else Some u

-- the first of the list where a function is least
abbrev pub first_least : (ℕ → ℕ) → List ℕ → Option ℕ
first_least f [] = None
first_least f (v ∷ vs) = lesser f v (first_least f vs)

abbrev pub first_then : (ℕ → List ℕ) → Option ℕ → List ℕ
first_then f None = []
first_then f (Some v) = v ∷ f v

-- for a list that rises, with as many steps as the number says
abbrev pub order_in : (ℕ → Tree) → ℕ → ℕ → ℕ → (ℕ → ℕ → List (List Tree)) → List ℕ → List ℕ
order_in tree s t zero ways left = []
order_in tree s t (suc n) ways left = first_then (λ v. order_in tree s t n (taken_out tree v ways) (without v left))
    (first_least (weight_after tree s t ways left) left)

abbrev pub order_of : (ℕ → Tree) → ℕ → ℕ → (ℕ → ℕ → List (List Tree)) → List ℕ → List ℕ
order_of tree s t ways left = order_in tree s t (length left) ways left
