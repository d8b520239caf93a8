-- Edges that are added to rows.
use Rattle.std.proofs.Common.{◌≡◌, ℕ, Bool, true, false, ◌||◌, nat_eq, List, [], ◌∷◌, ◌++◌, refl, sym, ap, ◌∙◌, arith}
use Rattle.std.specs.Prelude.{◌&&◌, cond, Option, Some, None}
use Rattle.std.specs.Ordering.{nat_cmp}
use Rattle.std.specs.BTreeMap as tree
use Rattle.std.specs.BTreeMap.{BTreeMap, is_at}
use Rattle.std.proofs.lemmas.Bool.Decides.{nat_tests}
use Rattle.graph_search.specs.NodeLists.{holds}
use Rattle.graph_search.proofs.RowLemmas.{holds_end}
use Rattle.elimination_plans.proofs.PlanStepLemmas.{ap2}
use Rattle.node_elimination.proofs.CellChangeLemmas.{same_number}
use Rattle.level_tables.specs.EdgeRows.{row_or}

pub number_at : (a x : ℕ) → is_at (nat_cmp a) x ≡ nat_eq x a
number_at a x = grind (arith, nat_tests)

pub edge_added : (p e : ℕ) (old mid new : BTreeMap ℕ (List ℕ)) (list more : List ℕ) → list ≡ row_or (tree.get nat_cmp old p)
    → more ≡ list ++ e ∷ []
    → ((k : ℕ) → tree.get nat_cmp mid k ≡ cond (is_at (nat_cmp p) k) None (tree.get nat_cmp old k))
    → ((k : ℕ) → tree.get nat_cmp new k ≡ cond (is_at (nat_cmp p) k) (Some more) (tree.get nat_cmp mid k))
    → (x y : ℕ) → holds nat_eq y (row_or (tree.get nat_cmp new x))
    ≡ ((nat_eq x p && nat_eq y e) || holds nat_eq y (row_or (tree.get nat_cmp old x)))
edge_added p e old mid new list more l m out into x y =
    ap (λ o. holds nat_eq y (row_or o)) (into x ∙ ap2 (λ (b : Bool) (o : Option (List ℕ)). cond b (Some more) o) (number_at p x)
    (out x ∙ ap (λ b. cond b None (tree.get nat_cmp old x)) (number_at p x)))
    ∙ by_test (nat_eq x p) refl
  where
    by_test : (b : Bool) → nat_eq x p ≡ b → holds nat_eq y (row_or (cond b (Some more) (cond b None (tree.get nat_cmp old x))))
        ≡ ((b && nat_eq y e) || holds nat_eq y (row_or (tree.get nat_cmp old x)))
    by_test true t = ap (holds nat_eq y) m ∙ (holds_end y e list
        ∙ ap (λ z. nat_eq y e || holds nat_eq y z) (l ∙ ap (λ z. row_or (tree.get nat_cmp old z)) (sym (same_number x p t))))
    by_test false t = refl
