use Rattle.std.proofs.Common.{rules}
use Rattle.graph_reduction.proofs.MoveLemmas.{edge_moved}
use Rattle.graph_reduction.proofs.edges.move_edge.Goals as goal

pub returns-in_ok-insert : goal.returns-in_ok-insert
returns-in_ok-insert c =
    edge_moved c.args.into.now c.remove.new.self c.insert.new.self c.args.target c.args.source c.args.from c.args.to
    (search rules) c.if-remove.ensures.updates.0 c.in_ok-insert.ensures.updates.0
