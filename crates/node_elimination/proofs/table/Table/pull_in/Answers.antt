use Rattle.std.proofs.Common.{refl, ◌∙◌}
use Rattle.node_elimination.proofs.NodeEdgeLemmas.{in_start, in_step, in_done}
use Rattle.node_elimination.proofs.table.Table.pull_in.Goals as goal

pub loop-from-init : goal.loop-from-init
loop-from-init c = record {
  keeps = in_start c.args.node c.args.self.now c.new-list.result.items c.new-list.ensures.items;
  leaves = refl;
  gains = λ live g. g;
}

pub loop-from-preserved : goal.loop-from-preserved
loop-from-preserved c =
    record {
      keeps = λ all E k a. in_step c.args.node c.in-Some.from c.in-Some-cell.cell c.loop-from.list.items c.push.new.self.items
          c.loop-from.self c.change.new.self c.cell.result c.cell.ensures c.in-Some-cell.is c.in_ok-change-in-Some-cell.ensures.keeps
          c.in_ok-push-in-Some-cell.ensures.items
          all E a (c.loop-from.invariant.keeps all E k a);
      leaves = c.in_ok-change-in-Some-cell.ensures.leaves ∙ c.loop-from.invariant.leaves;
      gains = λ live g. c.in_ok-change-in-Some-cell.ensures.gains live (c.loop-from.invariant.gains live g);
    }

pub returns-clause-keeps : goal.returns-clause-keeps
returns-clause-keeps c all E k a = in_done c.args.node c.loop-from.list.items c.loop-from.self c.in_default.ensures.none all E a
    (c.loop-from.invariant.keeps all E k a)
