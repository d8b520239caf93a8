use Rattle.node_elimination.proofs.LevelStartLemmas.{begun}
use Rattle.node_elimination.proofs.starting.start.Goals as goal

pub returns : goal.returns
returns c k rank h g =
    begun k rank c.args.cells.items c.args.edges.now c.args.nodes.now c.in_ok-level.level c.put_edges.new.self c.put_nodes.new.tally h g
    c.in_ok-level.ensures
    c.in_ok-put_edges.ensures.keeps c.in_ok-put_edges.ensures.order c.in_ok-put_edges.ensures.nodes c.in_ok-put_edges.ensures.leaves
    c.in_ok-put_edges.ensures.gains
    c.in_ok-put_nodes.ensures.gains c.in_ok-put_nodes.ensures.sums.0 c.in_ok-put_nodes.ensures.sums.1
