use Rattle.std.proofs.Common.{◌≡◌, ◌++◌, [], string_bytes, drop}
use Rattle.report_lines.specs.Grammar.{lines_text, block_lines}
use Rattle.whole_reports.proofs.writing.push_blocks.Given as goal

abbrev pub invariant-loop-number : goal.invariant-loop-number
invariant-loop-number l = string_bytes l.out ++ lines_text [] (block_lines l.number (drop l.number l.blocks)) ≡ string_bytes l.fn.out ++ lines_text [] (block_lines 0 l.blocks)
