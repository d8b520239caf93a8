-- The counts of the constants of a node's term, by those of the nodes before it.
use Rattle.std.specs.Prelude.{ℕ, ◌+◌, List, [], ◌∷◌, get_or}
use Rattle.cost_multiset.specs.CostLists.{places}
use Rattle.wsym_formula.specs.declared.nodes.Node.{Node}
use Rattle.wsym_formula.specs.declared.nodes.Node.TheVariants as n

abbrev pub counts_at : List ℕ → List ℕ → ℕ
counts_at counts [] = 0
counts_at counts (m ∷ members) = get_or counts m 0 + counts_at counts members

abbrev pub node_counts : List ℕ → Node → ℕ
node_counts counts (n.Const costs) = places costs.runs
node_counts counts (n.Sum members) = counts_at counts members
node_counts counts (n.Alt choices) = counts_at counts choices
node_counts counts (n.Power id body) = get_or counts body 0
node_counts counts (n.Once body) = get_or counts body 0
node_counts counts (n.Scaled id body) = get_or counts body 0
