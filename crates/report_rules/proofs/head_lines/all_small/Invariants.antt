use Rattle.std.proofs.Common.{◌≡◌, drop}
use Rattle.report_rules.specs.Following.{all_u32}
use Rattle.report_rules.proofs.head_lines.all_small.Given as goal

abbrev pub invariant-loop-number : goal.invariant-loop-number
invariant-loop-number l = all_u32 (drop l.number-index l.numbers) ≡ all_u32 l.numbers
