use Rattle.std.proofs.Common.{rules, length}
use Rattle.basic_blocks.specs.Chains.{is_flagged}
use Rattle.point_tables.specs.Targets.{step_in}
use Rattle.basic_blocks.specs.LivePoints.{before}
use Rattle.point_tables.proofs.LinkLemmas.{no_forward}
use Rattle.point_tables.proofs.links.forward.Goals as goal

pub returns-in-None-before_of : goal.returns-in-None-before_of
returns-in-None-before_of c =
    no_forward (step_in c.args.table.now) (before c.args.rows.now) (is_flagged c.args.flags.now)
    (length c.args.table.now) c.args.entry c.args.point c.in-Some.next (search rules) (search rules)
