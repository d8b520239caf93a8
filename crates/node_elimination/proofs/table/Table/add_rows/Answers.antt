use Rattle.std.proofs.Common.{◌∙◌}
use Rattle.node_elimination.proofs.JoinedWayLemmas.{rows_step}
use Rattle.node_elimination.proofs.table.Table.add_rows.Goals as goal

pub loop-from-preserved : goal.loop-from-preserved
loop-from-preserved c =
    record {
      keeps = λ all E k a o b u. rows_step c.args.node c.args.ins.now c.args.outs.now c.loop-from.from-index _ c.loop-from.self
          c.add_row.new.self c.in_ok-add_row.ensures.keeps c.loop-from-test.true all E a o b u
          (c.loop-from.invariant.keeps all E k a o b u);
      leaves = c.in_ok-add_row.ensures.leaves ∙ c.loop-from.invariant.leaves;
      gains = λ live g. c.in_ok-add_row.ensures.gains live (c.loop-from.invariant.gains live g);
    }
