use Rattle.std.proofs.Common.{rules, length}
use Rattle.basic_blocks.specs.Chains.{is_flagged}
use Rattle.point_tables.specs.Numbers.{IsLink}
use Rattle.point_tables.specs.Targets.{step_in}
use Rattle.basic_blocks.specs.LivePoints.{before}
use Rattle.point_tables.proofs.LinkLemmas.{table_more, whole_table, one_before}
use Rattle.point_tables.proofs.links.all_backward.Goals as goal

pub loop-at-preserved : goal.loop-at-preserved
loop-at-preserved c =
    record {
      table =
          table_more (λ q p. IsLink (step_in c.args.table.now) (before c.args.rows.now) (is_flagged c.args.flags.now)
          (length c.args.table.now) c.args.entry p q)
          (one_before (step_in c.args.table.now) (before c.args.rows.now) (is_flagged c.args.flags.now)
          (length c.args.table.now) c.args.entry) c.loop-at.at c.loop-at.back c.push.new.self c.backward-from.result
          c.loop-at.invariant.table c.backward-from.ensures c.in_ok-push.ensures.ok;
      within = search rules;
    }

pub returns : goal.returns
returns c = whole_table (λ q p. IsLink (step_in c.args.table.now) (before c.args.rows.now) (is_flagged c.args.flags.now)
    (length c.args.table.now) c.args.entry p q) c.loop-at.at (length c.args.table.now) c.loop-at.back c.loop-at.invariant.table
    c.loop-at.invariant.within (search rules)
