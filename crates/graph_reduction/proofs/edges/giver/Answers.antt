use Rattle.std.proofs.Common.{sym, subst, ◌≤◌}
use Rattle.graph_reduction.proofs.GiverRangeLemmas.{no_giver, two_givers, other_giver, own_giver}
use Rattle.graph_reduction.proofs.edges.giver.Goals as goal

pub returns-in-None : goal.returns-in-None
returns-in-None c flow s label owner k h top mine = sym
    (no_giver flow s label owner c.args.into.now k h c.args.target c.in-None.ensures.none)

pub returns-then-first-last : goal.returns-then-first-last
returns-then-first-last c flow s label owner k h top mine =
    sym (two_givers flow s label owner c.args.into.now k h c.args.target c.in-Some.first c.in-Some-last_node.last c.if-first-last.true
    c.in-Some.ensures.some c.in-Some-last_node.ensures.some)

pub returns-then-first-own : goal.returns-then-first-own
returns-then-first-own c flow s label owner k h top mine =
    sym (own_giver flow s label owner c.args.into.now k h c.args.target c.in-Some.first c.args.own top mine c.if-first-own.true
    c.in-Some.ensures.some c.in-Some.ensures.least
    (λ m u a b e. subst (λ x. m ≤ x) (sym c.if-first-last.false) (c.in-Some-last_node.ensures.greatest m u a b e)))

pub returns-else-first-own : goal.returns-else-first-own
returns-else-first-own c flow s label owner k h top mine =
    other_giver flow s label owner c.args.into.now k h c.args.target c.in-Some.first c.args.own top mine c.if-first-own.false
    c.in-Some.ensures.some c.in-Some.ensures.least
    (λ m u a b e. subst (λ x. m ≤ x) (sym c.if-first-last.false) (c.in-Some-last_node.ensures.greatest m u a b e))
