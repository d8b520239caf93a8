use Rattle.std.proofs.Common.{refl, ◌∙◌, subst, ℕ}
use Rattle.std.specs.Prelude.{Option}
use Rattle.node_elimination.specs.declared.cells.Cell.{Cell}
use Rattle.node_elimination.specs.Tables.{Keeps}
use Rattle.node_elimination.proofs.JoinedWayLemmas.{row_none, row_step}
use Rattle.node_elimination.proofs.table.Table.add_row.Goals as goal

pub loop-out-init : goal.loop-out-init
loop-out-init c = record {
  keeps = λ all E k p a o. subst (λ (F : ℕ → ℕ → Option Cell). Keeps all F c.args.self.now)
      (row_none c.args.into c.args.node E c.args.from) k;
  leaves = refl;
  gains = λ live g. g;
}

pub loop-out-preserved : goal.loop-out-preserved
loop-out-preserved c =
    record {
      keeps = λ all E k p a o. row_step c.args.from c.args.into c.args.node c.in_ok-way.way c.args.outs.now c.loop-out.out-index _
          c.loop-out.self c.add.new.self c.in_ok-way.ensures c.in_ok-add.ensures.keeps c.loop-out-test.true all E p a o
          (c.loop-out.invariant.keeps all E k p a o);
      leaves = c.in_ok-add.ensures.leaves ∙ c.loop-out.invariant.leaves;
      gains = λ live g. c.in_ok-add.ensures.gains live (c.loop-out.invariant.gains live g);
    }
