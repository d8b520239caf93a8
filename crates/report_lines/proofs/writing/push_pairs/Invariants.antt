use Rattle.std.proofs.Common.{◌≡◌, ◌++◌, string_bytes, drop, map}
use Rattle.report_elements.specs.Elements.{in_brackets}
use Rattle.report_lines.specs.Grammar.{pair_text}
use Rattle.report_lines.proofs.writing.push_pairs.Given as goal

abbrev pub invariant-loop-pair : goal.invariant-loop-pair
invariant-loop-pair l = string_bytes l.out ++ in_brackets (map pair_text (drop l.pair-index l.pairs)) ≡ string_bytes l.fn.out ++ in_brackets (map pair_text l.pairs)
