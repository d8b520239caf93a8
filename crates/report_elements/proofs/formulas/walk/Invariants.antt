use Rattle.std.proofs.Common.{◌≡◌, [], drop}
use Rattle.report_elements.specs.Constants.{list_of}
use Rattle.report_elements.specs.FormulaReading.{run}
use Rattle.report_elements.proofs.formulas.walk.Given as goal

abbrev pub invariant-loop-byte : goal.invariant-loop-byte
invariant-loop-byte l = run list_of l.limit l.word.items l.reading (drop l.byte-index l.text) ≡ run list_of l.limit [] l.fn.reading l.text
