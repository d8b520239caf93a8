use Rattle.path_facts.proofs.RouteLemmas.{follows}
use Rattle.path_facts.proofs.laws.runs_follow_routes.Goals as goal

pub returns : goal.returns
returns c image t entry stack numbers s n cycles entry_word small followed start run =
    follows image t entry stack numbers s entry_word small start followed n cycles run
