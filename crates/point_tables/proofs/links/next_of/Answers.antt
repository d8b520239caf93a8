use Rattle.std.proofs.Common.{rules}
use Rattle.basic_blocks.specs.Chains.{is_flagged}
use Rattle.point_tables.proofs.LinkLemmas.{two_targets}
use Rattle.point_tables.proofs.links.next_of.Goals as goal

pub returns-in-Some-skipped : goal.returns-in-Some-skipped
returns-in-Some-skipped c = two_targets (is_flagged c.args.flags.now) c.args.targets.now c.in-Some.done c.in-Some-skipped.skipped
    c.one_of.result (search rules) (search rules) (search rules)
