use Rattle.std.proofs.Common.{◌≡◌, ◌≤◌, ◌+◌, [], drop}
use Rattle.whole_reports.specs.Reports.{report_walk}
use Rattle.whole_reports.proofs.walking.walk.Given as goal

abbrev pub invariant-loop-byte : goal.invariant-loop-byte
invariant-loop-byte l = (report_walk l.number l.line.items l.form (drop l.byte-index l.text) ≡ report_walk 1 [] l.fn.form l.text) × (l.number ≤ l.byte-index + 1)
