use Rattle.std.proofs.Common.{rules, ◌≡◌, ◌<◌, ◌%◌, ℕ, Bool, List, true, nat_eq, sym, subst, length}
use Rattle.graph_search.specs.NodeLists.{holds}
use Rattle.graph_search.specs.Rows.{row_in}
use Rattle.persistence.specs.PointRows.{line_at}
use Rattle.line_uses.specs.PointMaps.{code_of}
use Rattle.line_uses.specs.Scopes.{all_uses, flag_in}
use Rattle.line_uses.proofs.ScopeLemmas.{all_left, none_left, use_in_block}
use Rattle.line_uses.proofs.scopes.scopes_of.Goals as goal

pub set_scopes-requires-clause-all : goal.set_scopes-requires-clause-all
set_scopes-requires-clause-all c = λ q lt.
    let sets = c.args.sets in
    subst (λ (rows : List (List ℕ)). holds nat_eq q (row_in rows (line_at c.args.tables.now.lines q % sets)) ≡ true)
    (sym c.as_slice-3.ensures.value)
    (subst (λ (ls : List ℕ). holds nat_eq q (row_in c.in_ok-by_set.by_set.items (line_at ls q % sets)) ≡ true) c.lines-lines.ensures
    (c.in_ok-by_set.ensures q (subst (λ (xs : List ℕ). holds nat_eq q xs ≡ true) (sym c.as_slice.ensures.value)
    (c.in_ok-order.ensures q (search rules)))))

pub returns : goal.returns
returns c = λ maps inside.
    let due = all_uses (code_of c.args.tables.now) c.args.blocks.now in
    none_left c.args.sets c.args.ways c.args.tables.now c.args.blocks.now c.set_scopes.new.scopes.items
    (c.in_ok-set_scopes.ensures maps due
    (subst (λ (fs : List Bool). (q : ℕ) → holds nat_eq q due ≡ true → flag_in fs q ≡ true) (sym c.as_slice-2.ensures.value)
    (c.in_ok-flags.ensures.all inside))
    (all_left c.args.sets c.args.ways c.args.tables.now due c.as_slice-4.result.now c.in_ok-scopes.scopes.items c.in_ok-scopes.ensures.none
    (λ p h.
    let b = use_in_block (code_of c.args.tables.now) c.args.blocks.now p h in
    let lt : p < length c.args.tables.now.home = inside b.0 p b.1 in
    subst (λ (xs : List ℕ). holds nat_eq p xs ≡ true) (sym c.as_slice-4.ensures.value) (c.in_ok-order.ensures p (search rules)))))
