-- The nodes between two ends are linked at the start.
use Rattle.std.proofs.Common.{◌≡◌, ℕ, ◌<◌, Bool, true, false, if◌then◌else◌, nat_eq, List, [], ◌∷◌, refl, sym, ◌∙◌}
use Rattle.wsym_terms.specs.declared.trees.Tree.{Tree}
use Rattle.tree_law.specs.Ways.{IsIn, edge_ways}
use Rattle.elimination_plans.specs.PlanSteps.{some}
use Rattle.elimination_plans.specs.Weights.{Only}
use Rattle.elimination_plans.proofs.LinkedLevelLemmas.{Linked}

pub some_edge : (edge : ℕ → ℕ → Bool) (p q : ℕ) → some (edge_ways edge p q) ≡ edge p q
some_edge edge p q = by_edge (edge p q)
  where
    by_edge : (b : Bool) → some {A = List Tree} (if b then [] ∷ [] else []) ≡ b
    by_edge true = refl
    by_edge false = refl

pub start_linked : (tree : ℕ → Tree) (s t : ℕ) (rank : ℕ → ℕ) (edge : ℕ → ℕ → Bool) (left : List ℕ)
    → ((p q : ℕ) → edge p q ≡ true → rank p < rank q)
    → ((v : ℕ) → IsIn v left → ((p : ℕ) × IsIn p (s ∷ t ∷ left) × (edge p v ≡ true))
    × ((q : ℕ) × IsIn q (s ∷ t ∷ left) × (edge v q ≡ true)))
    → ((v : ℕ) → IsIn v left → nat_eq s v ≡ false) → ((v : ℕ) → IsIn v left → nat_eq t v ≡ false) → ((v : ℕ) → IsIn v left → Only v left)
    → Linked tree s t rank (edge_ways edge) left
start_linked tree s t rank edge left up kept a b once =
    record {
      rises = λ p q e. up p q (sym (some_edge edge p q) ∙ e);
      kept = λ v i. (let k = kept v i in ((k.0.0, k.0.1, some_edge edge k.0.0 v ∙ k.0.2), (k.1.0, k.1.1, some_edge edge v k.1.0 ∙ k.1.2)));
      start = a;
      end = b;
      once = once;
    }
