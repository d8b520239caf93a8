use Rattle.std.proofs.Common.{◌∙◌, ◌<◌, ◌≤◌, ◌^◌, List, length, ap, sym, subst, arith}
use Rattle.flow_graph.specs.declared.graph.Block.{Block}
use Rattle.flow_graph.specs.Flow.{flow_in}
use Rattle.flow_graph.proofs.FlowLemmas.{all_reached, graph_bounded}
use Rattle.block_points.specs.Numbering.{total_of}
use Rattle.block_points.specs.Tables.{AreLinked, ArePoints}
use Rattle.graph_analyses.specs.GraphAnalyses.{maps_of}
use Rattle.graph_analyses.proofs.GraphLemmas.{uses_in}
use Rattle.graph_uses.proofs.TableLemmas.{block_rows, graph_linked, graph_starts, home_total, rows_inside, within_total}
use Rattle.graph_uses.proofs.finding.graph_uses.Goals as goal

pub number_points-requires-clause-linked : goal.number_points-requires-clause-linked
number_points-requires-clause-linked c =
    let w = c.requires.graph in
    subst AreLinked (sym c.as_slice-2.ensures) (graph_linked w.0 w.1 c.args.graph.now w.2)

pub number_points-requires-clause-some : goal.number_points-requires-clause-some
number_points-requires-clause-some c =
    let w = c.requires.graph in
    subst (λ (bs : List Block). 0 < length bs) (sym c.as_slice-2.ensures) (graph_starts w.0 w.1 c.args.graph.now w.2)

pub uses_of_points-requires-clause-count : goal.uses_of_points-requires-clause-count
uses_of_points-requires-clause-count c =
    let w = c.requires.graph in
    let are =
    subst (λ (bs : List Block). ArePoints c.args.timing.now bs c.in_ok-points.points) c.as_slice-2.ensures c.in_ok-points.ensures in
    let size = home_total w.0 w.1 c.args.graph.now w.2 c.args.timing.now c.args.nest.now c.in_ok-points.points are in
    let sum = ap total_of (sym c.as_slice.ensures) ∙ c.in-Some.ensures.some in
    omega (arith, size, sum)

pub uses_of_points-requires-clause-maps : goal.uses_of_points-requires-clause-maps
uses_of_points-requires-clause-maps c =
    let w = c.requires.graph in
    let are =
    subst (λ (bs : List Block). ArePoints c.args.timing.now bs c.in_ok-points.points) c.as_slice-2.ensures c.in_ok-points.ensures in
    let sum = ap total_of (sym c.as_slice.ensures) ∙ c.in-Some.ensures.some in
    let few : total_of c.args.graph.now.blocks < 2 ^ 32 = omega (arith, sum) in
    c.blocks_of_a_nest_are_a_function.ensures (flow_in c.args.graph.now) c.args.nest.now c.in_ok-points.points.rows
    (maps_of c.args.nest.now c.in_ok-points.points)
    (block_rows w.0 w.1 c.args.graph.now w.2 c.args.timing.now c.args.nest.now c.in_ok-points.points are few)
    (graph_bounded w.0 w.1 c.args.graph.now w.2) (all_reached w.0 w.1 c.args.graph.now w.2) c.requires.nest

pub uses_of_points-requires-clause-inside : goal.uses_of_points-requires-clause-inside
uses_of_points-requires-clause-inside c =
    let w = c.requires.graph in
    let are =
    subst (λ (bs : List Block). ArePoints c.args.timing.now bs c.in_ok-points.points) c.as_slice-2.ensures c.in_ok-points.ensures in
    rows_inside w.0 w.1 c.args.graph.now w.2 c.args.timing.now c.args.nest.now c.in_ok-points.points are

pub returns-clause-leaves : goal.returns-clause-leaves
returns-clause-leaves c =
    let w = c.requires.graph in
    let are =
    subst (λ (bs : List Block). ArePoints c.args.timing.now bs c.in_ok-points.points) c.as_slice-2.ensures c.in_ok-points.ensures in
    uses_in w.0 w.1 c.args.graph.now w.2 c.args.timing.now c.args.nest.now c.requires.nest c.in_ok-points.points are
    c.in_ok-uses.uses c.in_ok-uses.ensures

pub returns-clause-few : goal.returns-clause-few
returns-clause-few c b there =
    let sum = ap total_of (sym c.as_slice.ensures) ∙ c.in-Some.ensures.some in
    let below = within_total c.args.graph.now.blocks b there in
    omega (arith, sum, below)
