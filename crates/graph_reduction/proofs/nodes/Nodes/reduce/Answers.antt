use Rattle.std.proofs.Common.{refl}
use Rattle.graph_reduction.specs.NodeStates.{state_in}
use Rattle.graph_reduction.proofs.EndLemmas.{advance_back, advance_done, turn_smaller}
use Rattle.graph_reduction.proofs.nodes.Nodes.reduce.Goals as goal

pub loop-more-init : goal.loop-more-init
loop-more-init g c = record { whole = c.requires.whole; back = (0, c.requires.start); done = λ e. absurd (cc) }

pub loop-more-smaller : goal.loop-more-smaller
loop-more-smaller g c =
    let flow = g.G.FlowGraph.flow c.args.graph.now in
    turn_smaller flow flow (state_in flow c.loop-more.self)
    (state_in flow c.advance.new.self) c.loop-more.more c.in_ok-more.more c.loop-more-test.true refl c.loop-more.invariant.back
    c.in_ok-more.ensures.went

pub loop-more-preserved : goal.loop-more-preserved
loop-more-preserved g c =
    let flow = g.G.FlowGraph.flow c.args.graph.now in
    record {
      whole = c.in_ok-more.ensures.whole;
      back = advance_back flow flow (state_in flow c.loop-more.self)
          (state_in flow c.advance.new.self) c.in_ok-more.more refl c.loop-more.invariant.back c.in_ok-more.ensures.went;
      done = advance_done flow flow (state_in flow c.loop-more.self)
          (state_in flow c.advance.new.self) c.in_ok-more.more refl c.in_ok-more.ensures.went;
    }
