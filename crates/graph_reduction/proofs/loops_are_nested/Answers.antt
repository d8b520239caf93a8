use Rattle.std.proofs.Common.{sym, subst}
use Rattle.graph_search.specs.Flows.{edge, leads}
use Rattle.graph_reduction.specs.Reduction.{State, start}
use Rattle.graph_reduction.proofs.NestingLemmas.{are_nested}
use Rattle.graph_reduction.proofs.ReductionLemmas.{IsKept, start_kept, reduced_kept}
use Rattle.graph_reduction.proofs.loops_are_nested.Goals as goal

pub returns : goal.returns
returns c flow s is acyclic =
    let k = subst (λ (t : State). IsKept flow t) (sym is.1) (reduced_kept flow is.0 start (start_kept flow)) in
    are_nested (leads (edge flow)) s.closed flow.entry (record { edges = k.edges; passed = k.passed; ends = λ x n w. acyclic (x, n, w) })
