use Rattle.std.proofs.Common.{rules, subst, List, ℕ}
use Rattle.std.specs.Prelude.{slice_get, ◌≡◌, Some}
use Rattle.graph_reduction.specs.Nodes.{number_in}
use Rattle.interval_loops.proofs.BlockOrderLemmas.{listed_below, nearer, all_over}
use Rattle.interval_loops.proofs.order.order_of.Goals as goal

pub row-requires : goal.row-requires
row-requires g c =
    listed_below (g.G.FlowGraph.flow c.args.graph.now)
    (number_in c.args.label.now) c.args.into.now c.requires.bounded c.requires.held c.requires.labels c.loop-at.into c.loop-at.at
    c.loop-at.at c.loop-at.order.items c.loop-at.invariant
    c.loop-at.at c.listed_at-block.result (subst (λ (xs : List ℕ). slice_get xs c.loop-at.at
    ≡ Some c.listed_at-block.result) c.as_slice.ensures.value c.listed_at-block.ensures)

pub loop-at-smaller : goal.loop-at-smaller
loop-at-smaller g c =
    nearer (g.G.FlowGraph.flow c.args.graph.now) (number_in c.args.label.now) c.args.into.now c.requires.bounded c.requires.held
    c.requires.labels c.loop-at.into c.loop-at.at c.loop-at.at c.loop-at.order.items c.loop-at.invariant
    c.loop-at.at (search rules)

pub loop-at-preserved : goal.loop-at-preserved
loop-at-preserved g c =
    c.in_ok-take_row.ensures (g.G.FlowGraph.flow c.args.graph.now)
    (number_in c.args.label.now) c.args.into.now c.loop-at.at c.requires.bounded c.requires.held c.requires.labels c.number_at.ensures
    c.row.ensures
    (subst (λ (xs : List ℕ). slice_get xs c.loop-at.at
    ≡ Some c.listed_at-block.result) c.as_slice.ensures.value c.listed_at-block.ensures) c.loop-at.invariant

pub returns : goal.returns
returns g c =
    all_over (g.G.FlowGraph.flow c.args.graph.now)
    (number_in c.args.label.now) c.args.into.now c.requires.bounded c.requires.held c.requires.labels c.loop-at.into c.loop-at.at
    c.loop-at.order.items c.loop-at.invariant (search rules)
