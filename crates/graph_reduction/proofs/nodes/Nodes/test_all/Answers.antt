use Rattle.std.proofs.Common.{refl, ◌∙◌, ◌+◌, ap, subst}
use Rattle.std.specs.Prelude.{◌==◌, nat_lt}
use Rattle.graph_reduction.specs.Nodes.{Refreshes}
use Rattle.graph_reduction.specs.Reduction.{State}
use Rattle.graph_reduction.specs.NodeStates.{state_in}
use Rattle.graph_reduction.proofs.CloseLemmas.{state_over}
use Rattle.graph_reduction.proofs.JoinLemmas.{ready_over}
use Rattle.graph_reduction.proofs.RefreshLemmas.{refreshes}
use Rattle.graph_reduction.proofs.StartLemmas.{tests_begin, below_or_at}
use Rattle.graph_reduction.proofs.nodes.Nodes.test_all.Goals as goal

pub loop-block-init : goal.loop-block-init
loop-block-init g c =
    record {
      same = (refl, refl, refl, refl);
      tested = tests_begin (g.G.FlowGraph.flow c.args.graph.now) (state_in
          (g.G.FlowGraph.flow c.args.graph.now) c.args.self.now) c.args.self.now.ones c.args.self.now.twos;
    }

pub test-requires : goal.test-requires
test-requires g c =
    let flow = g.G.FlowGraph.flow c.args.graph.now in
    let same = c.loop-block.invariant.same in
    let o = c.args.self.now in
    let n = c.loop-block.self in
    ready_over flow o.label.items n.label.items o.owner.items n.owner.items o.into n.into (ap (λ v. v.items) same.0)
    (ap (λ v. v.items) same.1) same.3 c.requires

pub loop-block-preserved : goal.loop-block-preserved
loop-block-preserved g c =
    let flow = g.G.FlowGraph.flow c.args.graph.now in
    let same = c.loop-block.invariant.same in
    let now = c.in_ok-test.ensures.same in
    let o = c.args.self.now in
    let n = c.loop-block.self in
    let r = c.test.new.self in
    record {
      same = (now.0 ∙ same.0, now.1 ∙ same.1, now.2 ∙ same.2, now.3 ∙ same.3);
      tested =
          refreshes flow (state_in flow o) (λ q. nat_lt q c.loop-block.block) (λ q. q == c.loop-block.block)
          (λ q. nat_lt q (c.loop-block.block + 1)) o.ones n.ones r.ones o.twos n.twos r.twos
          c.loop-block.invariant.tested
          (subst (λ (s : State). Refreshes flow s (λ q. q == c.loop-block.block) n.ones r.ones n.twos r.twos)
          (state_over flow o.label.items n.label.items o.owner.items n.owner.items o.into n.into (ap (λ v. v.items) same.0)
          (ap (λ v. v.items) same.1) same.3) c.in_ok-test.ensures.tested)
          (λ q. below_or_at q c.loop-block.block);
    }
