use Rattle.point_order.proofs.ArrangementLemmas.{arranged_rise}
use Rattle.point_order.proofs.arrangement.arranged_points_ascend.Goals as goal

pub returns : goal.returns
returns c image entry ls ns are = arranged_rise image entry ls ns are
