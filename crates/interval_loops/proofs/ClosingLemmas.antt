-- A reduced graph whose open edges rise has closing edges as the laws want them.
use Rattle.std.proofs.Common.{sym, subst, ℕ}
use Rattle.graph_search.specs.Flows.{Flow, edge, leads}
use Rattle.graph_reduction.specs.Loops.{stays, ClosesLoops}
use Rattle.graph_reduction.specs.Reduction.{State, start, IsReduced}
use Rattle.graph_reduction.proofs.RankLemmas.{ranked_ends}
use Rattle.graph_reduction.proofs.ReductionLemmas.{IsKept, start_kept, reduced_kept}
use Rattle.interval_loops.specs.Rounds.{RisesOpen}

pub closes : (flow : Flow) (s : State) (rank : ℕ → ℕ) → IsReduced flow s → RisesOpen flow s.closed rank → ClosesLoops
    (leads (edge flow)) s.closed flow.entry
closes flow s rank is up =
    let k = subst (λ (t : State). IsKept flow t) (sym is.1) (reduced_kept flow is.0 start (start_kept flow)) in
    record { edges = k.edges; passed = k.passed; ends = ranked_ends (stays (leads (edge flow)) s.closed) rank up }
