use Rattle.std.proofs.Common.{◌≡◌, drop, []}
use Rattle.report_elements.specs.TreeReading.{run}
use Rattle.report_elements.proofs.trees.walk.Given as goal

abbrev pub invariant-loop-byte : goal.invariant-loop-byte
invariant-loop-byte l = run l.limit l.word.items l.reading (drop l.byte-index l.text) ≡ run l.limit [] l.fn.reading l.text
