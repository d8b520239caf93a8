use Rattle.std.proofs.Common.{refl}
use Rattle.graph_analyses.proofs.GraphLemmas.{are_analysis}
use Rattle.graph_analyses.proofs.graphs_are_analyses.Goals as goal

pub returns : goal.returns
returns c image t entry g n p u nest is nested are uses levels =
    (nested.1, are_analysis image entry g is t n p are u.scopes nested.1 nest nested.0 nested.2 u refl uses levels)
