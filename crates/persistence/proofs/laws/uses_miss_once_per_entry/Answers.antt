use Rattle.persistence.proofs.OnceLemmas.{at_most_once}
use Rattle.persistence.proofs.laws.uses_miss_once_per_entry.Goals as goal

pub returns : goal.returns
returns c = at_most_once
