use Rattle.std.proofs.Common.{ℕ, List, length, map, sym, subst, ap, ◌∙◌}
use Rattle.simplifier.proofs.Simplifying.{node_within, numbers_go_on}
use Rattle.wsym_formula.proofs.Growing.{below_one}
use Rattle.wsym_formula.specs.Tables.{AllBelow, IsBelow, meaning_at}
use Rattle.simplifier.specs.Simplified.{known_of, normal_node}
use Rattle.simplifier.proofs.simple.simplify_all.Goals as goal

pub simplify_node-requires-clause-below : goal.simplify_node-requires-clause-below
simplify_node-requires-clause-below c =
    subst (λ (ms : List ℕ). IsBelow (length ms) c.node-item.result) (sym c.as_slice.ensures)
    (node_within (known_of c.args.bounds.now) c.loop-node.table c.args.nodes.now c.loop-node.numbers c.loop-node.node-index c.node-item.result c.requires.closed c.loop-node-test.true c.node-item.is c.loop-node.invariant.means)

pub loop-node-preserved : goal.loop-node-preserved
loop-node-preserved c =
    let k : ℕ = c.in_ok-number.number in
    let one = c.in_ok-number.ensures.means ∙ ap (λ (ms : List ℕ). normal_node (known_of c.args.bounds.now) (map (meaning_at c.loop-node.table) ms) c.node-item.result) c.as_slice.ensures in
    record {
      below = subst (λ (ms : List ℕ). AllBelow (length c.simplify_node.new.table) ms) (sym c.in_ok-push.ensures.ok)
          (below_one c.loop-node.table c.simplify_node.new.table c.loop-node.numbers k c.in_ok-number.ensures.extends c.loop-node.invariant.below c.in_ok-number.ensures.within);
      means = ap (map (meaning_at c.simplify_node.new.table)) c.in_ok-push.ensures.ok
          ∙ numbers_go_on (known_of c.args.bounds.now) c.loop-node.table c.simplify_node.new.table c.args.nodes.now c.loop-node.numbers c.loop-node.node-index k c.node-item.result
          c.in_ok-number.ensures.extends c.loop-node.invariant.below c.requires.closed c.loop-node-test.true c.node-item.is c.loop-node.invariant.means one;
    }
