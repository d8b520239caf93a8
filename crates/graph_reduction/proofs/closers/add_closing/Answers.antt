use Rattle.std.proofs.Common.{rules}
use Rattle.graph_reduction.specs.Sets.{in_set}
use Rattle.graph_reduction.proofs.ClosingEdgeLemmas.{put_in}
use Rattle.graph_reduction.proofs.closers.add_closing.Goals as goal

pub returns-in_ok-insert : goal.returns-in_ok-insert
returns-in_ok-insert c =
    put_in c.args.closing.now c.insert.new.self c.args.target c.args.block (in_set c.args.into.now c.args.target c.args.node c.args.block)
    (search rules) c.in_ok-insert.ensures.updates.0
