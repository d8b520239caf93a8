use Rattle.std.proofs.Common.{arith, ◌≡◌, sym, ◌∙◌, ap, subst, length, ◌+◌, ◌++◌, ◌∷◌, [], get_or, List, ℕ, suc, ◌<◌}
use Rattle.std.specs.Prelude.{Some, slice_get}
use Rattle.std.specs.Str.{bytes_eq}
use Rattle.std.specs.BTreeMap as tree
use Rattle.std.proofs.Math.Numerals.{add-one}
use Rattle.graph_search.specs.NodeLists.{added}
use Rattle.function_points.specs.Contexts.{pair_cmp, lists_of}
use Rattle.function_points.proofs.ContextLemmas.{child_known, known_added, new_added, new_number, new_contexts, rows_few, updates_at}
use Rattle.function_points.proofs.contexts.Contexts.child.Goals as goal

pub overflow_cast-number : goal.overflow_cast-number
overflow_cast-number c = let few = rows_few c.self.inside.rows.items c.args.self.now
    (λ row. tree.get pair_cmp c.self.inside.children row) c.self.invariant c.self.view_is c.requires.few in omega
    (arith, few, c.len.ensures)

pub overflow_add-number : goal.overflow_add-number
overflow_add-number c = let few = rows_few c.self.inside.rows.items c.args.self.now
    (λ row. tree.get pair_cmp c.self.inside.children row) c.self.invariant c.self.view_is c.requires.few in omega
    (arith, few, c.len.ensures)

pub invariant_of-self-in-None : goal.invariant_of-self-in-None
invariant_of-self-in-None c =
    new_contexts c.self.inside.rows.items c.push.new.self.items (λ row. tree.get pair_cmp c.self.inside.children row)
    (λ row. tree.get pair_cmp c.insert.new.self row) c.self.invariant c.args.parent c.args.address
    (subst (λ (v : List (List ℕ)). c.args.parent < length v) (sym c.self.view_is) c.requires.known) (sym c.in-None.ensures.value)
    (c.in_ok-push-in-None.ensures.items ∙ ap (λ rs. rs ++ (c.args.parent, c.args.address) ∷ []) c.in_ok-reserve-in-None.ensures.items)
    (updates_at c.args.parent c.args.address (c.len.result + 1) (length c.self.inside.rows.items)
    (λ row. tree.get pair_cmp c.self.inside.children row) (λ row. tree.get pair_cmp c.insert.new.self row)
    c.in_ok-insert-in-None.ensures.updates.0 (add-one c.len.result ∙ ap suc
    (c.len.ensures ∙ c.in_ok-reserve-in-None.ensures.len ∙ c.self.inside.rows.ok.0)))

pub returns-in-Some-clause-lists : goal.returns-in-Some-clause-lists
returns-in-Some-clause-lists c =
    subst (λ (v : List (List ℕ)). v ≡ added bytes_eq v (get_or v c.args.parent [] ++ c.args.address ∷ [])) c.self.view_is
    (known_added c.self.inside.rows.items (λ row. tree.get pair_cmp c.self.inside.children row) c.self.invariant c.args.parent
    c.args.address c.in-Some.number.now (sym c.in-Some.ensures.value))

pub returns-in-Some-clause-number : goal.returns-in-Some-clause-number
returns-in-Some-clause-number c =
    subst (λ (v : List (List ℕ)). slice_get v c.in-Some.number.now ≡ Some (get_or v c.args.parent [] ++ c.args.address ∷ [])) c.self.view_is
    (child_known c.self.inside.rows.items (λ row. tree.get pair_cmp c.self.inside.children row) c.self.invariant c.args.parent
    c.args.address c.in-Some.number.now (sym c.in-Some.ensures.value))

pub returns-in_ok-push-in-None-clause-lists : goal.returns-in_ok-push-in-None-clause-lists
returns-in_ok-push-in-None-clause-lists c =
    subst (λ (v : List (List ℕ)). lists_of c.push.new.self.items ≡ added bytes_eq v
    (get_or v c.args.parent [] ++ c.args.address ∷ [])) c.self.view_is
    (new_added c.self.inside.rows.items c.push.new.self.items (λ row. tree.get pair_cmp c.self.inside.children row)
    (λ row. tree.get pair_cmp c.insert.new.self row) c.self.invariant c.args.parent c.args.address
    (subst (λ (v : List (List ℕ)). c.args.parent < length v) (sym c.self.view_is) c.requires.known) (sym c.in-None.ensures.value)
    (c.in_ok-push-in-None.ensures.items ∙ ap (λ rs. rs ++ (c.args.parent, c.args.address) ∷ []) c.in_ok-reserve-in-None.ensures.items)
    (updates_at c.args.parent c.args.address (c.len.result + 1) (length c.self.inside.rows.items)
    (λ row. tree.get pair_cmp c.self.inside.children row) (λ row. tree.get pair_cmp c.insert.new.self row)
    c.in_ok-insert-in-None.ensures.updates.0 (add-one c.len.result ∙ ap suc
    (c.len.ensures ∙ c.in_ok-reserve-in-None.ensures.len ∙ c.self.inside.rows.ok.0))))

pub returns-in_ok-push-in-None-clause-number : goal.returns-in_ok-push-in-None-clause-number
returns-in_ok-push-in-None-clause-number c =
    subst (λ (v : List (List ℕ)). slice_get (lists_of c.push.new.self.items) (c.len.result + 1) ≡ Some
    (get_or v c.args.parent [] ++ c.args.address ∷ [])) c.self.view_is
    (subst (λ n. slice_get (lists_of c.push.new.self.items) n ≡ Some (get_or (lists_of c.self.inside.rows.items) c.args.parent []
    ++ c.args.address ∷ []))
    (sym (add-one c.len.result ∙ ap suc (c.len.ensures ∙ c.in_ok-reserve-in-None.ensures.len ∙ c.self.inside.rows.ok.0)))
    (new_number c.self.inside.rows.items c.push.new.self.items (λ row. tree.get pair_cmp c.self.inside.children row)
    (λ row. tree.get pair_cmp c.insert.new.self row) c.self.invariant c.args.parent c.args.address
    (subst (λ (v : List (List ℕ)). c.args.parent < length v) (sym c.self.view_is) c.requires.known) (sym c.in-None.ensures.value)
    (c.in_ok-push-in-None.ensures.items ∙ ap (λ rs. rs ++ (c.args.parent, c.args.address) ∷ []) c.in_ok-reserve-in-None.ensures.items)
    (updates_at c.args.parent c.args.address (c.len.result + 1) (length c.self.inside.rows.items)
    (λ row. tree.get pair_cmp c.self.inside.children row) (λ row. tree.get pair_cmp c.insert.new.self row)
    c.in_ok-insert-in-None.ensures.updates.0 (add-one c.len.result ∙ ap suc
    (c.len.ensures ∙ c.in_ok-reserve-in-None.ensures.len ∙ c.self.inside.rows.ok.0)))))
