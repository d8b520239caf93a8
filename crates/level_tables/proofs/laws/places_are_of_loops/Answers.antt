use Rattle.std.proofs.Common.{refl}
use Rattle.level_tables.proofs.PlaceLemmas.{same_header, same_node}
use Rattle.level_tables.proofs.laws.places_are_of_loops.Goals as goal

pub returns : goal.returns
returns c = λ flow n d b. (same_header flow n d, same_node flow n d b, refl)
