use Rattle.std.proofs.Common.{rules, ◌≡◌, ◌+◌, ◌<◌, ◌≤◌, ◌^◌, ℕ, List, length, min, take, sym, ap, subst, ◌∙◌, arith}
use Rattle.wsym_formula.specs.Counts.{node_counts}
use Rattle.wsym_formula.specs.Tables.{IsBelow, meanings}
use Rattle.wsym_formula.specs.Values.{AllFew}
use Rattle.wsym_formula.specs.declared.nodes.Node.{Node}
use Rattle.wsym_formula.proofs.CountLaws.{AreCounts, counts_go_on, few_of_all, many_at, node_within}
use Rattle.wsym_formula.proofs.counts.has_few_counts.Goals as goal

pub count_of-count-requires : goal.count_of-count-requires
count_of-count-requires c =
    subst (λ (cs : List ℕ). IsBelow (length cs) c.node-item.result) (sym c.as_slice.ensures.value)
    (node_within c.as_slice-node-items.result.now c.loop-node.counts.items c.loop-node.node-index c.node-item.result c.as_slice-node-items.ensures.closed c.loop-node.invariant c.loop-node-test.true c.node-item.is)

pub returns-then-count-ge-LIMIT-clause-many : goal.returns-then-count-ge-LIMIT-clause-many
returns-then-count-ge-LIMIT-clause-many c =
    let node = c.node-item.result in
    let more : 2 ^ 63 ≤ c.count_of-count.result = search rules in
    λ no few. many_at c.as_slice-node-items.result.now c.loop-node.counts.items c.loop-node.node-index c.count_of-count.result node c.as_slice-node-items.ensures.closed c.loop-node.invariant c.loop-node-test.true c.node-item.is
    (c.count_of-count.ensures ∙ ap (λ (cs : List ℕ). min (node_counts cs node) (2 ^ 63)) c.as_slice.ensures.value) more
    (subst (λ (ns : List Node). AllFew (meanings ns)) (sym c.as_slice-node-items.ensures.nodes) few)

pub loop-node-preserved : goal.loop-node-preserved
loop-node-preserved c =
    let node = c.node-item.result in
    let less : c.count_of-count.result < 2 ^ 63 = search rules in
    subst (λ (cs : List ℕ). AreCounts (take (c.loop-node.node-index + 1) c.as_slice-node-items.result.now) cs) (sym c.in_ok-push.ensures.items)
    (counts_go_on c.as_slice-node-items.result.now c.loop-node.counts.items c.loop-node.node-index c.count_of-count.result node c.as_slice-node-items.ensures.closed c.loop-node.invariant c.loop-node-test.true c.node-item.is
    (c.count_of-count.ensures ∙ ap (λ (cs : List ℕ). min (node_counts cs node) (2 ^ 63)) c.as_slice.ensures.value) less)

pub returns-clause-few : goal.returns-clause-few
returns-clause-few c =
    λ yes. subst (λ (ns : List Node). AllFew (meanings ns)) c.as_slice-node-items.ensures.nodes
    (few_of_all c.as_slice-node-items.result.now c.loop-node.counts.items c.loop-node.node-index c.loop-node.invariant c.loop-node-test.false)
