use Rattle.std.proofs.Common.{rules, length}
use Rattle.basic_blocks.specs.Chains.{is_flagged}
use Rattle.point_tables.specs.Numbers.{IsLink}
use Rattle.point_tables.specs.Targets.{step_in}
use Rattle.basic_blocks.specs.LivePoints.{before}
use Rattle.point_tables.proofs.LinkLemmas.{table_more, whole_table, one_next}
use Rattle.point_tables.proofs.links.all_forward.Goals as goal

pub loop-at-preserved : goal.loop-at-preserved
loop-at-preserved c =
    record {
      table =
          table_more (IsLink (step_in c.args.table.now) (before c.args.rows.now) (is_flagged c.args.flags.now)
          (length c.args.table.now) c.args.entry)
          (one_next (step_in c.args.table.now) (before c.args.rows.now) (is_flagged c.args.flags.now)
          (length c.args.table.now) c.args.entry) c.loop-at.at c.loop-at.only c.push.new.self c.forward-next.result
          c.loop-at.invariant.table c.forward-next.ensures c.in_ok-push.ensures.ok;
      within = search rules;
    }

pub returns : goal.returns
returns c = whole_table (IsLink (step_in c.args.table.now) (before c.args.rows.now) (is_flagged c.args.flags.now)
    (length c.args.table.now) c.args.entry) c.loop-at.at (length c.args.table.now) c.loop-at.only c.loop-at.invariant.table
    c.loop-at.invariant.within (search rules)
