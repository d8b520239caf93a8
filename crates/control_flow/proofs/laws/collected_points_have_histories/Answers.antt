use Rattle.control_flow.specs.Points.{entry_point}
use Rattle.control_flow.specs.Ways.{ways_from}
use Rattle.control_flow.proofs.WayLemmas.{history_walk, walk_history}
use Rattle.control_flow.proofs.laws.collected_points_have_histories.Goals as goal

pub returns : goal.returns
returns c image entry p = (
  (λ reached. walk_history (ways_from image entry) (entry_point entry) reached.0 p reached.1),
  (λ found. history_walk (ways_from image entry) (entry_point entry) found.0 p found.1),
)
