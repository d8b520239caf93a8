use Rattle.std.proofs.Common.{refl, ◌∙◌}
use Rattle.node_elimination.proofs.NodeEdgeLemmas.{out_start, out_step, out_done}
use Rattle.node_elimination.proofs.table.Table.pull_out.Goals as goal

pub loop-to-init : goal.loop-to-init
loop-to-init c = record {
  keeps = out_start c.args.node c.args.self.now c.new-list.result.items c.new-list.ensures.items;
  leaves = refl;
  gains = λ live g. g;
}

pub loop-to-preserved : goal.loop-to-preserved
loop-to-preserved c =
    record {
      keeps = λ all E k a. out_step c.args.node c.in-Some.to c.in-Some-cell.cell c.loop-to.list.items c.push.new.self.items c.loop-to.self
          c.change.new.self c.cell.result c.cell.ensures c.in-Some-cell.is c.in_ok-change-in-Some-cell.ensures.keeps
          c.in_ok-push-in-Some-cell.ensures.items
          all E a (c.loop-to.invariant.keeps all E k a);
      leaves = c.in_ok-change-in-Some-cell.ensures.leaves ∙ c.loop-to.invariant.leaves;
      gains = λ live g. c.in_ok-change-in-Some-cell.ensures.gains live (c.loop-to.invariant.gains live g);
    }

pub returns-clause-keeps : goal.returns-clause-keeps
returns-clause-keeps c all E k a = out_done c.args.node c.loop-to.list.items c.loop-to.self c.in_default.ensures.none all E a
    (c.loop-to.invariant.keeps all E k a)
