use Rattle.std.proofs.Common.{◌∙◌, sym, subst}
use Rattle.tree_law.specs.Ways.{IsIn}
use Rattle.node_elimination.proofs.FinishedLevelLemmas.{if_ok_more}
use Rattle.flow_tree.proofs.LargeTreeLemmas.{node_past}
use Rattle.flow_tree.proofs.PlannedLevelLemmas.{is_given}
use Rattle.flow_tree.proofs.level.plan_between.Goals as goal

pub returns-then-has_large-clause-large : goal.returns-then-has_large-clause-large
returns-then-has_large-clause-large c e k rank h t from to =
    let found = c.has_large.ensures c.if-has_large.true in
    let there = subst (IsIn found.0) (c.as_slice.ensures ∙ sym t.nodes) found.1 in
    node_past k rank h found.0 there (t.large found.0 there found.2)

pub returns-clause-planned : goal.returns-clause-planned
returns-clause-planned c =
    if_ok_more _ _ (λ p f k rank h t from to. f k rank h
    (is_given c.args.nodes.now c.args.rows.now k c.in-Ok.cells.items c.as_slice-3.result.now c.as_slice-4.result.now c.as_slice-3.ensures
    c.as_slice-4.ensures (λ u i. c.in-Ok.ensures u (subst (IsIn u) (c.as_slice-4.ensures ∙ sym c.as_slice-2.ensures) i)) t) from to)
    c.eliminate.result c.eliminate.ensures.planned

pub returns-clause-large : goal.returns-clause-large
returns-clause-large c e k rank h t from to =
    c.eliminate.ensures.large e k rank h
    (is_given c.args.nodes.now c.args.rows.now k c.in-Ok.cells.items c.as_slice-3.result.now c.as_slice-4.result.now c.as_slice-3.ensures
    c.as_slice-4.ensures (λ u i. c.in-Ok.ensures u (subst (IsIn u) (c.as_slice-4.ensures ∙ sym c.as_slice-2.ensures) i)) t) from to
