use Rattle.std.proofs.Common.{rules}
use Rattle.graph_search.proofs.SearchLemmas.{row_many}
use Rattle.graph_search.proofs.reachable.add_row.Goals as goal

pub returns-then-len-most-clause-many : goal.returns-then-len-most-clause-many
returns-then-len-most-clause-many c h =
    row_many c.args.most c.loop-node.node-index c.args.nodes.now c.loop-node.nodes c.add.new.self c.args.row.now
    c.loop-node.invariant.same c.loop-node-test.true (search rules) (search rules)
