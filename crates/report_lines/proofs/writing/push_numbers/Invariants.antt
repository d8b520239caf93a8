use Rattle.std.proofs.Common.{◌≡◌, ◌++◌, string_bytes, drop, map}
use Rattle.report_elements.specs.Elements.{in_brackets}
use Rattle.std.specs.Fmt.{decimal}
use Rattle.report_lines.proofs.writing.push_numbers.Given as goal

abbrev pub invariant-loop-number : goal.invariant-loop-number
invariant-loop-number l = string_bytes l.out ++ in_brackets (map decimal (drop l.number-index l.numbers)) ≡ string_bytes l.fn.out ++ in_brackets (map decimal l.numbers)
