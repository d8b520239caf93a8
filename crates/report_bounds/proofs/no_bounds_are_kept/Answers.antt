use Rattle.report_bounds.proofs.KeptLemmas.{unbounded_keeps}
use Rattle.report_bounds.proofs.no_bounds_are_kept.Goals as goal

pub returns : goal.returns
returns c = unbounded_keeps
