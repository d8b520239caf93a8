use Rattle.std.proofs.Common.{◌≡◌, ◌∙◌, ap, ℕ, List}
use Rattle.graph_reduction.specs.Nodes.{number_in}
use Rattle.graph_reduction.proofs.CloseLemmas.{ready_closed, state_closed, tested_closed, state_over, nodes_over}
use Rattle.graph_reduction.proofs.nodes.Nodes.close.Goals as goal

pub returns-clause-whole : goal.returns-clause-whole
returns-clause-whole g c =
    let flow = g.G.FlowGraph.flow c.args.graph.now in
    let old = c.args.self.now in
    let new = c.test.new.self in
    let mine : c.number_at-node.result ≡ number_in old.label.items c.args.head = c.number_at-node.ensures ∙ ap
    (λ (xs : List ℕ). number_in xs c.args.head) c.as_slice.ensures.value in
    let label = number_in old.label.items in
    let owner = number_in old.owner.items in
    let same = c.in_ok-test.ensures.same in
    nodes_over flow old.label.items new.label.items old.owner.items new.owner.items old.members new.members c.close_row.new.into new.into
    new.ones new.twos
    (ap (λ v. v.items) same.0) (ap (λ v. v.items) same.1) same.2 same.3
    (record {
      label_size = c.requires.whole.label_size;
      owner_size = c.requires.whole.owner_size;
      ready = ready_closed flow label owner old.into c.close_row.new.into c.requires.whole.ready c.args.head c.number_at-node.result mine
          c.requires.top c.close_row.ensures.gone c.close_row.ensures.less c.close_row.ensures.others;
      here = c.requires.whole.here;
      tested = tested_closed flow label owner old.into c.close_row.new.into c.requires.whole.ready c.args.head c.number_at-node.result mine
          c.requires.top c.close_row.ensures.gone c.close_row.ensures.less c.close_row.ensures.others
          old.ones old.twos new.ones new.twos c.requires.whole.tested c.in_ok-test.ensures.tested;
    })

pub returns-clause-closed : goal.returns-clause-closed
returns-clause-closed g c =
    let flow = g.G.FlowGraph.flow c.args.graph.now in
    let old = c.args.self.now in
    let new = c.test.new.self in
    let mine : c.number_at-node.result ≡ number_in old.label.items c.args.head = c.number_at-node.ensures ∙ ap
    (λ (xs : List ℕ). number_in xs c.args.head) c.as_slice.ensures.value in
    let same = c.in_ok-test.ensures.same in
    state_over flow old.label.items new.label.items old.owner.items new.owner.items c.close_row.new.into new.into (ap (λ v. v.items) same.0)
    (ap (λ v. v.items) same.1) same.3
    ∙ state_closed flow (number_in old.label.items)
    (number_in old.owner.items) old.into c.close_row.new.into c.requires.whole.ready c.args.head c.number_at-node.result mine
    c.requires.top c.close_row.ensures.gone c.close_row.ensures.less c.close_row.ensures.others
