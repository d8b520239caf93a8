use Rattle.graph_reduction.proofs.SourceLemmas.{row_less, row_others}
use Rattle.graph_reduction.proofs.nodes.close_row.Goals as goal

pub loop-source-preserved : goal.loop-source-preserved
loop-source-preserved c =
    record {
      less = row_less c.loop-source.into c.remove.new.self c.args.into.now c.args.target c.args.node c.in-Some.source
          c.remove.ensures.updates.0 c.loop-source.invariant.less;
      others = row_others c.loop-source.into c.remove.new.self c.args.into.now c.args.target c.args.node c.in-Some.source
          c.remove.ensures.updates.0 c.loop-source.invariant.others;
    }
