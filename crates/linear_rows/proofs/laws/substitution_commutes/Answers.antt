use Rattle.linear_rows.proofs.Combining.{substituted_holds}
use Rattle.linear_rows.proofs.laws.substitution_commutes.Goals as goal

pub returns : goal.returns
returns c = substituted_holds
