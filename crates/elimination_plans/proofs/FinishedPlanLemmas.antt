-- A plan whose nodes are all taken out makes the tree between the ends of its level.
use Rattle.std.proofs.Common.{◌≡◌, ℕ, suc, ◌+◌, ◌<◌, false, nat_eq, List, [], ◌∷◌, length, refl, sym, ap, subst, ◌∙◌, arith}
use Rattle.std.specs.Prelude.{Option, unwrap_or, slice_get}
use Rattle.wsym_terms.specs.declared.trees.Tree.{Tree}
use Rattle.tree_law.specs.Ways.{members, edge_ways}
use Rattle.tree_law.specs.NodeOrders.{order_of}
use Rattle.tree_law.proofs.NodeOrderLemmas.{all_of_order}
use Rattle.elimination_plans.specs.declared.plans.Plan.{Plan}
use Rattle.elimination_plans.specs.Plans.{Extends, via, node_of_plan, Unrolls, Falls}
use Rattle.elimination_plans.specs.PlanSteps.{ways_after, edge_plan, Stands}
use Rattle.elimination_plans.specs.Stages.{Task, Stage, IsDone, EndsApart, tree_members}
use Rattle.elimination_plans.proofs.PlanStepLemmas.{all_planned, start_planned}
use Rattle.elimination_plans.proofs.LevelPlanLemmas.{ways_same, order_fresh, every}

stands_from : (node : ℕ → ℕ) (i : ℕ) (vs : List ℕ) → ((j : ℕ) → j < length vs → node (i + j) ≡ unwrap_or (slice_get vs j) 0)
    → Stands node i vs
stands_from node i [] h = tt
stands_from node i (v ∷ vs) h = (
  ap node (omega arith) ∙ h 0 (omega arith),
  stands_from node (suc i) vs
      (λ j l. ap node (omega arith) ∙ h (suc j) (omega (arith, l))),
)

pub list_stands : (vs : List ℕ) → Stands (λ i. unwrap_or (slice_get vs i) 0) 0 vs
list_stands vs = stands_from (λ i. unwrap_or (slice_get vs i) 0) 0 vs (λ j l. ap (λ (i : ℕ). unwrap_or (slice_get vs i) 0) (omega arith))

-- the plan of a level that is done unrolls to ways whose members are the definition's
pub done_plan : (k : Task) (s : Stage) (p : Plan) → IsDone k s → via p ≡ s.plan → p.order ≡ s.taken
    → Unrolls k.tree (node_of_plan p) (via p) (ways_after k.tree s.taken (λ q. false) (edge_ways k.edge)) × Falls (node_of_plan p) (via p)
done_plan k s p d same order =
    subst (λ (P : ℕ → ℕ → List ℕ). Unrolls k.tree (node_of_plan p) P (ways_after k.tree s.taken (λ q. false) (edge_ways k.edge))
    × Falls (node_of_plan p) P) (sym (same ∙ d.1))
    (all_planned k.tree (node_of_plan p) s.taken (λ q. false) 0 (edge_plan k.edge) (edge_ways k.edge)
    (start_planned k.tree (node_of_plan p) k.edge) (subst (λ (l : List ℕ). Stands (λ i. unwrap_or (slice_get l i) 0) 0 s.taken)
    (sym order) (list_stands s.taken)))

pub done_members : (k : Task) (s : Stage) → IsDone k s → EndsApart k → members
    (ways_after k.tree s.taken (λ q. false) (edge_ways k.edge) k.from k.to) ≡ tree_members k
done_members k s d apart =
    ap (λ (vs : List ℕ). members (ways_after k.tree vs (λ q. false) (edge_ways k.edge) k.from k.to)) d.0
    ∙ ap members
    (ways_same k.tree (order_of k.tree k.from k.to (edge_ways k.edge) k.nodes) (λ q. false) (edge_ways k.edge) (edge_ways k.edge)
    (order_fresh k.tree k.from k.to (length k.nodes) (edge_ways k.edge) k.nodes (λ q. false) (every k.nodes)) (λ p q c e. refl) k.from k.to
    refl refl
    (all_of_order k.tree k.from k.to (λ v. nat_eq k.from v ≡ false) (edge_ways k.edge) k.nodes apart.0)
    (all_of_order k.tree k.from k.to (λ v. nat_eq k.to v ≡ false) (edge_ways k.edge) k.nodes apart.1))

pub built_between : (k : Task) (s : Stage) (p : Plan) (had : ℕ → Option Tree) (from to : ℕ) (ts : List Tree)
    → ((tree : ℕ → Tree) (F : ℕ → ℕ → List (List Tree)) → Extends had tree → Unrolls tree (node_of_plan p) (via p) F
    → ts ≡ members (F from to))
    → IsDone k s → EndsApart k → Extends had k.tree → k.from ≡ from → k.to ≡ to → via p ≡ s.plan → p.order ≡ s.taken
    → ts ≡ tree_members k
built_between k s p had from to ts h d apart e f g same order =
    h k.tree (ways_after k.tree s.taken (λ q. false) (edge_ways k.edge)) e (done_plan k s p d same order).0
    ∙ ap (λ (u : ℕ). members (ways_after k.tree s.taken (λ q. false) (edge_ways k.edge) u to)) (sym f)
    ∙ ap (λ (u : ℕ). members (ways_after k.tree s.taken (λ q. false) (edge_ways k.edge) k.from u)) (sym g)
    ∙ done_members k s d apart
