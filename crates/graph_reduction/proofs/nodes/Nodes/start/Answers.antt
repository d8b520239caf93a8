use Rattle.std.proofs.Common.{◌≡◌, ◌∙◌, ap, subst, ℕ, rules}
use Rattle.graph_reduction.specs.FirstNodes.{AreOwn, FirstEdges, FirstMembers}
use Rattle.graph_reduction.proofs.CloseLemmas.{state_over, nodes_over}
use Rattle.graph_reduction.proofs.StartLemmas.{own_more, members_more, edges_more, nodes_start, state_start, none_in}
use Rattle.graph_reduction.proofs.nodes.Nodes.start.Goals as goal

pub loop-block-preserved : goal.loop-block-preserved
loop-block-preserved g c =
    let flow = g.G.FlowGraph.flow c.args.graph.now in
    let inv = c.loop-block.invariant in
    record {
      label = own_more c.loop-block.block c.loop-block.label.items c.push.new.self.items inv.label c.in_ok-push.ensures.items;
      owner = own_more c.loop-block.block c.loop-block.owner.items c.push-in-loop-block.new.self.items inv.owner
          c.in_ok-push-2.ensures.items;
      members = members_more c.loop-block.block c.loop-block.members c.insert.new.self inv.members c.in_ok-insert.ensures.updates.0;
      into = edges_more flow c.loop-block.block c.loop-block.into c.add_row.new.into c.row.result.now c.row.ensures inv.into
          c.in_ok-add_row.ensures;
    }

pub returns-clause-whole : goal.returns-clause-whole
returns-clause-whole g c =
    let flow = g.G.FlowGraph.flow c.args.graph.now in
    let inv = c.loop-block.invariant in
    let all : c.loop-block.block ≡ flow.count = search rules in
    let L = c.loop-block.label.items in
    let O = c.loop-block.owner.items in
    let new = c.test_all.new.self in
    let same = c.in_ok-test_all.ensures.same in
    let l : AreOwn flow.count L = subst (λ (n : ℕ). AreOwn n L) all inv.label in
    let o : AreOwn flow.count O = subst (λ (n : ℕ). AreOwn n O) all inv.owner in
    let m : FirstMembers flow.count c.loop-block.members = subst (λ (n : ℕ). FirstMembers n c.loop-block.members) all inv.members in
    let i : FirstEdges flow flow.count c.loop-block.into = subst (λ (n : ℕ). FirstEdges flow n c.loop-block.into) all inv.into in
    nodes_over flow L new.label.items O new.owner.items c.loop-block.members new.members c.loop-block.into new.into new.ones new.twos
    (ap (λ v. v.items) same.0) (ap (λ v. v.items) same.1) same.2 same.3
    (nodes_start flow c.requires L O c.loop-block.members c.loop-block.into l o m i c.new.result new.ones c.new-2.result new.twos
    (none_in c.new.result c.new.ensures.empty) (none_in c.new-2.result c.new-2.ensures.empty) c.in_ok-test_all.ensures.tested)

pub returns-clause-start : goal.returns-clause-start
returns-clause-start g c =
    let flow = g.G.FlowGraph.flow c.args.graph.now in
    let inv = c.loop-block.invariant in
    let all : c.loop-block.block ≡ flow.count = search rules in
    let L = c.loop-block.label.items in
    let O = c.loop-block.owner.items in
    let new = c.test_all.new.self in
    let same = c.in_ok-test_all.ensures.same in
    let l : AreOwn flow.count L = subst (λ (n : ℕ). AreOwn n L) all inv.label in
    let o : AreOwn flow.count O = subst (λ (n : ℕ). AreOwn n O) all inv.owner in
    let m : FirstMembers flow.count c.loop-block.members = subst (λ (n : ℕ). FirstMembers n c.loop-block.members) all inv.members in
    let i : FirstEdges flow flow.count c.loop-block.into = subst (λ (n : ℕ). FirstEdges flow n c.loop-block.into) all inv.into in
    state_over flow L new.label.items O new.owner.items c.loop-block.into new.into (ap (λ v. v.items) same.0)
    (ap (λ v. v.items) same.1) same.3
    ∙ state_start flow c.requires L O c.loop-block.members c.loop-block.into l o m i
