use Rattle.std.proofs.Common.{◌≡◌, ◌+◌, ◌++◌, string_bytes, drop}
use Rattle.report_lines.specs.Grammar.{lines_text, loop_lines}
use Rattle.whole_reports.proofs.writing.push_loops.Given as goal

abbrev pub invariant-loop-place : goal.invariant-loop-place
invariant-loop-place l = string_bytes l.out ++ lines_text l.params (loop_lines (l.place + 1) (drop l.place l.loops)) ≡ string_bytes l.fn.out ++ lines_text l.params (loop_lines 1 l.loops)
