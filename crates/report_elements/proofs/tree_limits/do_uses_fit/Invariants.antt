use Rattle.std.proofs.Common.{◌≡◌, drop}
use Rattle.report_elements.specs.TreeReading.{uses_fit}
use Rattle.report_elements.proofs.tree_limits.do_uses_fit.Given as goal

abbrev pub invariant-loop-used : goal.invariant-loop-used
invariant-loop-used l = uses_fit (drop l.used-index l.uses) ≡ uses_fit l.uses
