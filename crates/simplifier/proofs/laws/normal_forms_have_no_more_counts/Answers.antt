use Rattle.simplifier.proofs.Counting.{normal_few}
use Rattle.simplifier.proofs.laws.normal_forms_have_no_more_counts.Goals as goal

pub returns : goal.returns
returns c = normal_few
