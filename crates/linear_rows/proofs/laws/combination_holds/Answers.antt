use Rattle.linear_rows.proofs.Combining.{combined_sound}
use Rattle.linear_rows.proofs.laws.combination_holds.Goals as goal

pub returns : goal.returns
returns c = combined_sound
