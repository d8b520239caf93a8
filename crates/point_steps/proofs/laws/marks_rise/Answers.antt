use Rattle.point_steps.proofs.AccessLemmas.{marks_rise}
use Rattle.point_steps.proofs.laws.marks_rise.Goals as goal

pub returns : goal.returns
returns c = marks_rise
