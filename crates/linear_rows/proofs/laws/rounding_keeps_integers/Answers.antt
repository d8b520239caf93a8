use Rattle.linear_rows.proofs.Normal.{row_of_holds}
use Rattle.linear_rows.proofs.laws.rounding_keeps_integers.Goals as goal

pub returns : goal.returns
returns c = row_of_holds
