use Rattle.std.proofs.Common.{sym, ◌≡◌, subst, ◌<◌, ◌++◌, ◌∷◌, [], length, get_or, List, ℕ}
use Rattle.std.specs.Prelude.{Some, slice_get}
use Rattle.std.specs.BTreeMap as tree
use Rattle.function_points.specs.Contexts.{pair_cmp}
use Rattle.function_points.proofs.ContextLemmas.{child_known, none_at}
use Rattle.function_points.proofs.contexts.Contexts.find.Goals as goal

pub returns-in-Some-clause-some : goal.returns-in-Some-clause-some
returns-in-Some-clause-some c =
    subst (λ (v : List (List ℕ)). slice_get v c.in-Some.number.now ≡ Some (get_or v c.args.parent [] ++ c.args.address ∷ [])) c.self.view_is
    (child_known c.self.inside.rows.items (λ row. tree.get pair_cmp c.self.inside.children row) c.self.invariant c.args.parent
    c.args.address c.in-Some.number.now (sym c.in-Some.ensures.value))

pub returns-in-None-clause-none : goal.returns-in-None-clause-none
returns-in-None-clause-none c =
    subst (λ (v : List (List ℕ)). (k : ℕ) → slice_get v k ≡ Some (get_or v c.args.parent [] ++ c.args.address ∷ []) → ⊥) c.self.view_is
    (none_at c.self.inside.rows.items (λ row. tree.get pair_cmp c.self.inside.children row) c.self.invariant c.args.parent c.args.address
    (subst (λ (v : List (List ℕ)). c.args.parent < length v) (sym c.self.view_is) c.requires.known) (sym c.in-None.ensures.value))
