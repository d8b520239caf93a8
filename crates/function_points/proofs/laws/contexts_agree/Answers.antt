use Rattle.function_points.proofs.ContextLemmas.{same_rows}
use Rattle.function_points.proofs.laws.contexts_agree.Goals as goal

pub returns : goal.returns
returns c rows others look now are too e = same_rows rows others look now are too e
