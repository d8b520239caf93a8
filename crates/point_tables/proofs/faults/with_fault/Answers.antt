use Rattle.std.proofs.Common.{rules, ◌∙◌}
use Rattle.point_tables.proofs.FaultLemmas.{least_none, least_first, least_stays}
use Rattle.point_tables.proofs.faults.with_fault.Goals as goal

pub returns-then-is_before : goal.returns-then-is_before
returns-then-is_before c faults ps p e d w = least_first faults ps p c.args.found c.in-Some.fault c.args.address (e ∙ c.in-Some.is) d
    (search rules) w

pub returns-else-is_before : goal.returns-else-is_before
returns-else-is_before c faults ps p e d w = least_stays faults ps p c.args.found c.in-Some.fault c.args.address (e ∙ c.in-Some.is) d
    (search rules) w

pub returns-in-None : goal.returns-in-None
returns-in-None c faults ps p e d w = least_none faults ps p c.args.found (e ∙ c.in-None.is) w
