use Rattle.basic_blocks.proofs.LiveLemmas.{live_is_reached}
use Rattle.basic_blocks.proofs.laws.live_points_are_reached.Goals as goal

pub returns : goal.returns
returns c ways start ps rows are i l = live_is_reached ways start ps rows are i l
