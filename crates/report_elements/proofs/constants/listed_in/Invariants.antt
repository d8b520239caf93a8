use Rattle.std.proofs.Common.{◌≡◌, [], None, length}
use Rattle.report_elements.specs.ConstantReading.{runs_on}
use Rattle.report_elements.proofs.constants.listed_in.Given as goal

abbrev pub invariant-loop-byte : goal.invariant-loop-byte
invariant-loop-byte l = runs_on l.runs l.value l.digits.items l.left ≡ runs_on [] None [] l.text

abbrev pub decreases-loop-byte : goal.decreases-loop-byte
decreases-loop-byte l = length l.left
