-- What stands in the ways of a level on its way stands in its tree.
use Rattle.std.proofs.Common.{◌≡◌, ℕ, ◌<◌, List, [], ◌∷◌, ◌++◌, refl, sym, ap, ◌∙◌, arith}
use Rattle.wsym_terms.specs.Trees.{size_of}
use Rattle.wsym_terms.specs.declared.trees.Tree.{Tree}
use Rattle.tree_law.specs.Ways.{members, taken_out, all_taken_out, edge_ways}
use Rattle.tree_law.specs.NodeOrders.{sum_over, order_of}
use Rattle.elimination_plans.specs.Weights.{mass}
use Rattle.elimination_plans.specs.Stages.{Task, Stage, ways_at, IsLarge, tree_members}
use Rattle.elimination_plans.proofs.LinkedLevelLemmas.{Linked, mass_stands}
use Rattle.elimination_plans.proofs.StageLemmas.{IsOnTheWay}

pub taken_more : (tree : ℕ → Tree) (vs us : List ℕ) (ways : ℕ → ℕ → List (List Tree))
    → all_taken_out tree (vs ++ us) ways ≡ all_taken_out tree us (all_taken_out tree vs ways)
taken_more tree [] us ways = refl
taken_more tree (v ∷ vs) us ways = taken_more tree vs us (taken_out tree v ways)

pub same_tree : (k : Task) (s : Stage) → IsOnTheWay k s → members (all_taken_out k.tree (order_of k.tree k.from k.to (ways_at k s) s.left)
    (ways_at k s) k.from k.to) ≡ tree_members k
same_tree k s h =
    ap (λ (w : ℕ → ℕ → List (List Tree)). members (w k.from k.to)) (sym
    (taken_more k.tree s.taken (order_of k.tree k.from k.to (ways_at k s) s.left) (edge_ways k.edge)))
    ∙ ap (λ (vs : List ℕ). members (all_taken_out k.tree vs (edge_ways k.edge) k.from k.to)) h.order

pub stage_large : (limit : ℕ) (rank : ℕ → ℕ) (k : Task) (s : Stage) → IsOnTheWay k s → rank k.from < rank k.to
    → Linked k.tree k.from k.to rank (ways_at k s) s.left → limit < mass size_of k.tree k.from k.to (ways_at k s) s.left → IsLarge limit k
stage_large limit rank k s h up linked past =
    let m = mass_stands k.tree k.from k.to rank (ways_at k s) s.left up linked in
    let e : sum_over size_of (members (all_taken_out k.tree (order_of k.tree k.from k.to (ways_at k s) s.left) (ways_at k s) k.from k.to)) ≡
    sum_over size_of (tree_members k) = ap (sum_over size_of) (same_tree k s h) in
    omega (arith, m, e, past)
