use Rattle.std.proofs.Common.{rules, length}
use Rattle.basic_blocks.specs.Chains.{is_flagged}
use Rattle.point_tables.specs.Targets.{step_in}
use Rattle.basic_blocks.specs.LivePoints.{before}
use Rattle.point_tables.proofs.LinkLemmas.{no_backward, other_next}
use Rattle.point_tables.proofs.links.backward.Goals as goal

pub returns-else-next-point : goal.returns-else-next-point
returns-else-next-point c =
    no_backward (step_in c.args.table.now) (before c.args.rows.now) (is_flagged c.args.flags.now)
    (length c.args.table.now) c.args.entry c.args.point c.in-Some.from (search rules)
    (other_next (step_in c.args.table.now) (before c.args.rows.now) (is_flagged c.args.flags.now)
    (length c.args.table.now) c.args.entry c.in-Some.from c.in-Some-after_of.next c.args.point (search rules) (search rules))

pub returns-in-None-after_of : goal.returns-in-None-after_of
returns-in-None-after_of c =
    no_backward (step_in c.args.table.now) (before c.args.rows.now) (is_flagged c.args.flags.now)
    (length c.args.table.now) c.args.entry c.args.point c.in-Some.from (search rules)
    (λ r o e. c.in-None-after_of.ensures r o)
