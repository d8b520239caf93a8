use Rattle.std.proofs.Common.{◌≡◌, [], drop, string_bytes}
use Rattle.report_elements.specs.Names.{ascii_on}
use Rattle.report_elements.proofs.names.name_from.Given as goal

abbrev pub invariant-loop-byte : goal.invariant-loop-byte
invariant-loop-byte l = ascii_on (string_bytes l.text) (drop l.byte-index l.word) ≡ ascii_on [] l.word
