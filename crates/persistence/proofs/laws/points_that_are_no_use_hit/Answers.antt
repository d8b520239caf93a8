use Rattle.persistence.proofs.HistoryLemmas.{no_use_hits}
use Rattle.persistence.proofs.laws.points_that_are_no_use_hit.Goals as goal

pub returns : goal.returns
returns c = no_use_hits
