use Rattle.std.proofs.Common.{rules, subst, sym, ℕ, List, ◌≡◌}
use Rattle.graph_reduction.specs.NodeStates.{state_in}
use Rattle.interval_loops.specs.Rounds.{RisesOpen}
use Rattle.interval_loops.specs.BlockOrders.{place}
use Rattle.interval_loops.specs.Tables.{closed_of}
use Rattle.interval_loops.proofs.NestLemmas.{deep_in}
use Rattle.interval_loops.proofs.nest.loops.Goals as goal

pub returns-in_err-nest-clause-deep : goal.returns-in_err-nest-clause-deep
returns-in_err-nest-clause-deep g c e =
    let flow = g.G.FlowGraph.flow c.args.graph.now in
    let red = c.in-Ok.ensures.reduced in
    let same = c.in-Ok-tables_of.ensures.same in
    deep_in flow (state_in flow c.in-Ok.nodes) c.as_slice-2.result.now (λ x. place x c.in_ok-order.order.items)
    (subst (λ (rows : List (List ℕ)). (u h : ℕ) → closed_of rows u h ≡
    (state_in (g.G.FlowGraph.flow c.args.graph.now) c.in-Ok.nodes).closed u h) (sym c.as_slice-2.ensures.value) same)
    red c.in_ok-order.ensures.rises (c.in_err-nest.ensures.deep (search rules))

pub returns-clause-ok : goal.returns-clause-ok
returns-clause-ok g c =
    let flow = g.G.FlowGraph.flow c.args.graph.now in
    let red = c.in-Ok.ensures.reduced in
    let same = c.in-Ok-tables_of.ensures.same in (
      state_in flow c.in-Ok.nodes,
      (λ x. place x c.as_slice.result.now),
      c.in_ok-nest.ensures.ok (state_in flow c.in-Ok.nodes) red
          (subst (λ (rows : List (List ℕ)). (u h : ℕ) → closed_of rows u h ≡
          (state_in (g.G.FlowGraph.flow c.args.graph.now) c.in-Ok.nodes).closed u h) (sym c.as_slice-2.ensures.value) same)
          (subst (λ (xs : List ℕ). RisesOpen (g.G.FlowGraph.flow c.args.graph.now)
          (state_in (g.G.FlowGraph.flow c.args.graph.now) c.in-Ok.nodes).closed (λ x. place x xs))
          (sym c.as_slice.ensures.value) c.in_ok-order.ensures.rises),
    )
