-- Taking the nodes of a level out one after another.
use Rattle.std.specs.Prelude.{◌≡◌, ℕ, ◌<◌, Bool, true, false, nat_eq, List, [], ◌∷◌, ◌++◌, length, Some}
use Rattle.std.specs.List.{AllByRecursion}
use Rattle.wsym_terms.specs.Trees.{size_of}
use Rattle.wsym_terms.specs.declared.trees.Tree.{Tree}
use Rattle.tree_law.specs.Ways.{members, all_taken_out, edge_ways}
use Rattle.tree_law.specs.NodeOrders.{sum_over, first_least, weight_after, without, order_of}
use Rattle.elimination_plans.specs.PlanSteps.{and_gone, plan_step, plan_after, edge_plan}

-- the trees of the nodes, the two ends, the edges, and the nodes between, which rise
pub record Task : Type 0 where
  pub tree : ℕ → Tree
  pub from : ℕ
  pub to : ℕ
  pub edge : ℕ → ℕ → Bool
  pub nodes : List ℕ

-- the nodes that are taken out, those that are left, and the numbers of the ways
pub record Stage : Type 0 where
  pub taken : List ℕ
  pub left : List ℕ
  pub plan : ℕ → ℕ → List ℕ

abbrev pub first_stage : Task → Stage
first_stage k = record { taken = []; left = k.nodes; plan = edge_plan k.edge }

abbrev pub gone_after : List ℕ → (ℕ → Bool) → ℕ → Bool
gone_after [] gone = gone
gone_after (v ∷ vs) gone = gone_after vs (and_gone v gone)

abbrev pub next_stage : ℕ → Stage → Stage
next_stage v s = record {
  taken = s.taken ++ v ∷ [];
  left = without v s.left;
  plan = plan_step
      (gone_after s.taken (λ p. false)) (length s.taken) v s.plan;
}

-- the ways that are left, by the definition
abbrev pub ways_at : Task → Stage → ℕ → ℕ → List (List Tree)
ways_at k s = all_taken_out k.tree s.taken (edge_ways k.edge)

-- one more node is taken out, or none is left
abbrev pub Went : Task → Stage → Stage → Bool → Type 0
Went k s t true = (v : ℕ) × (first_least (weight_after k.tree k.from k.to (ways_at k s) s.left) s.left ≡ Some v)
    × (t ≡ next_stage v s)
Went k s t false = (s.left ≡ []) × (t ≡ s)

abbrev pub IsDone : Task → Stage → Type 0
IsDone k s = (s.taken ≡ order_of k.tree k.from k.to (edge_ways k.edge) k.nodes)
    × (s.plan ≡ plan_after s.taken (λ p. false) 0 (edge_plan k.edge))

-- the members between the ends, by the definition
abbrev pub tree_members : Task → List Tree
tree_members k = members (all_taken_out k.tree (order_of k.tree k.from k.to (edge_ways k.edge) k.nodes)
    (edge_ways k.edge) k.from k.to)

-- they are more than a limit
abbrev pub IsLarge : ℕ → Task → Type 0
IsLarge limit k = limit < sum_over size_of (tree_members k)

-- no end is a node
abbrev pub EndsApart : Task → Type 0
EndsApart k = AllByRecursion (λ v. nat_eq k.from v ≡ false) k.nodes
    × AllByRecursion (λ v. nat_eq k.to v ≡ false) k.nodes
