use Rattle.linear_rows.proofs.Combining.{combined_holds}
use Rattle.linear_rows.proofs.laws.combination_is_the_weighted_sum.Goals as goal

pub returns : goal.returns
returns c = combined_holds
