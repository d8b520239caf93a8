use Rattle.std.proofs.Common.{ℕ, List, Option, length, take, ◌+◌, sym, subst}
use Rattle.wsym_formula.proofs.KeepingLaws.{next_below, next_kept}
use Rattle.wsym_formula.specs.Tables.{IsBelow, meanings}
use Rattle.wsym_formula.specs.Keeping.{AllKept}
use Rattle.wsym_formula.proofs.keeping.keep_marked.Goals as goal

pub keep_one-requires-clause-below : goal.keep_one-requires-clause-below
keep_one-requires-clause-below c =
    subst (λ (os : List (Option ℕ)). IsBelow (length os) c.index-nodes-at.result) (sym c.as_slice.ensures)
    (next_below c.loop-at.table c.args.nodes.now c.loop-at.numbers c.loop-at.at c.index-nodes-at.result c.requires.closed c.loop-at-test.true c.index-nodes-at.is c.loop-at.invariant)

pub loop-at-preserved : goal.loop-at-preserved
loop-at-preserved c =
    let kept : AllKept c.loop-at.table c.as_slice.result.now (meanings (take c.loop-at.at c.args.nodes.now)) = subst (λ (os : List (Option ℕ)). AllKept c.loop-at.table os (meanings (take c.loop-at.at c.args.nodes.now))) (sym c.as_slice.ensures) c.loop-at.invariant in
    subst (λ (os : List (Option ℕ)). AllKept c.keep_one.new.table os (meanings (take (c.loop-at.at + 1) c.args.nodes.now))) (sym c.in_ok-push.ensures.ok)
    (next_kept c.loop-at.table c.keep_one.new.table c.loop-at.numbers c.in_ok-number.number c.args.nodes.now c.loop-at.at c.index-nodes-at.result
    c.in_ok-number.ensures.extends c.loop-at.invariant c.loop-at-test.true c.index-nodes-at.is (c.in_ok-number.ensures.means _ kept))
