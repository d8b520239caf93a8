use Rattle.std.proofs.Common.{rules}
use Rattle.whole_reports.proofs.VerdictLaws.{good_found, good_only, not_good, refused_first}
use Rattle.whole_reports.proofs.walking.read_report.Goals as goal

pub returns-in-Ok-Good-clause-found : goal.returns-in-Ok-Good-clause-found
returns-in-Ok-Good-clause-found c = good_found c.args.bytes.now c.in-Ok-Good.field-0 c.in-Ok-Good.report c.in-Ok-Good.ensures (search rules)

pub returns-in-Ok-Good-clause-only : goal.returns-in-Ok-Good-clause-only
returns-in-Ok-Good-clause-only c r = good_only c.args.bytes.now c.in-Ok-Good.field-0 c.in-Ok-Good.report r c.in-Ok-Good.ensures (search rules)

pub returns-in-Ok-Bad-clause-bad : goal.returns-in-Ok-Bad-clause-bad
returns-in-Ok-Bad-clause-bad c k e = refused_first c.args.bytes.now c.in-Ok-Bad.field-0 c.in-Ok-Bad.line k c.in-Ok-Bad.ensures (search rules) e

pub returns-in-Ok-Bad-clause-never : goal.returns-in-Ok-Bad-clause-never
returns-in-Ok-Bad-clause-never c r k fit text e = not_good c.args.bytes.now c.in-Ok-Bad.field-0 c.in-Ok-Bad.line r c.in-Ok-Bad.ensures (search rules) fit text
