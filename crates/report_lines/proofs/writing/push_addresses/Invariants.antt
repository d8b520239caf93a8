use Rattle.std.proofs.Common.{◌≡◌, ◌++◌, string_bytes, drop, map}
use Rattle.report_elements.specs.Elements.{in_brackets}
use Rattle.report_elements.specs.Elements.{address_text}
use Rattle.report_lines.proofs.writing.push_addresses.Given as goal

abbrev pub invariant-loop-address : goal.invariant-loop-address
invariant-loop-address l = string_bytes l.out ++ in_brackets (map address_text (drop l.address-index l.addresses)) ≡ string_bytes l.fn.out ++ in_brackets (map address_text l.addresses)
