use Rattle.std.proofs.Common.{rules}
use Rattle.graph_reduction.proofs.MemberLemmas.{fewer, one_more, relabels, all_moved}
use Rattle.graph_reduction.proofs.nodes.move_members.Goals as goal

pub loop-block-smaller : goal.loop-block-smaller
loop-block-smaller g c =
    fewer (g.G.FlowGraph.flow c.args.graph.now) c.args.from c.args.to c.requires.apart c.args.label.now.items c.loop-block.label.items
    c.put_at.new.list.items c.loop-block.moved.items c.push.new.self.items
    c.args.into.now c.loop-block.into c.move_row.new.into c.loop-block.members c.remove.new.self c.insert.new.self c.in-Some.block
    c.loop-block.invariant c.in_ok-push.ensures.items c.in-Some.ensures.some
    c.put_at.ensures.size c.put_at.ensures.there

pub loop-block-preserved : goal.loop-block-preserved
loop-block-preserved g c =
    one_more (g.G.FlowGraph.flow c.args.graph.now) c.args.from c.args.to c.requires.apart c.args.label.now.items c.loop-block.label.items
    c.put_at.new.list.items c.loop-block.moved.items c.push.new.self.items
    c.args.into.now c.loop-block.into c.move_row.new.into c.loop-block.members c.remove.new.self c.insert.new.self c.in-Some.block
    c.loop-block.invariant c.in_ok-push.ensures.items c.in-Some.ensures.some
    c.put_at.ensures.size c.put_at.ensures.there c.row.result.now c.row.ensures c.in_ok-move_row.ensures c.remove.ensures.updates.0
    c.in_ok-insert.ensures.updates.0

pub returns-clause-labels : goal.returns-clause-labels
returns-clause-labels g c =
    relabels (g.G.FlowGraph.flow c.args.graph.now) c.args.from c.args.to c.args.label.now.items c.loop-block.label.items
    c.loop-block.moved.items c.args.into.now c.loop-block.into c.loop-block.members
    c.loop-block.invariant c.requires.bounded.few c.requires.from_is c.requires.size (search rules)

pub returns-clause-moved : goal.returns-clause-moved
returns-clause-moved g c =
    all_moved (g.G.FlowGraph.flow c.args.graph.now) c.args.from c.args.to c.args.label.now.items c.loop-block.label.items
    c.loop-block.moved.items c.args.into.now c.loop-block.into c.loop-block.members
    c.loop-block.invariant c.requires.bounded.few c.requires.from_is c.requires.size (search rules)
