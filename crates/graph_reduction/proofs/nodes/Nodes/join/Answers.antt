use Rattle.std.proofs.Common.{refl, ◌∙◌, ap, subst, ℕ, List}
use Rattle.std.specs.Prelude.{◌==◌}
use Rattle.std.specs.List.{list_any}
use Rattle.graph_reduction.specs.Nodes.{number_in, state_of, Refreshes}
use Rattle.graph_reduction.specs.Reduction.{State}
use Rattle.graph_reduction.proofs.CloseLemmas.{state_over, nodes_over}
use Rattle.graph_reduction.proofs.JoinLemmas.{ready_put, state_put, tested_put, touched, ready_over}
use Rattle.graph_reduction.proofs.nodes.Nodes.join.Goals as goal

pub refresh_rows-requires-clause-ready : goal.refresh_rows-requires-clause-ready
refresh_rows-requires-clause-ready g c =
    let flow = g.G.FlowGraph.flow c.args.graph.now in
    let old = c.args.self.now in
    ready_over flow c.move_members.new.label.items c.as_slice.result.now c.put_at.new.list.items c.as_slice-2.result.now
    c.move_members.new.into c.move_members.new.into c.as_slice.ensures.value c.as_slice-2.ensures.value refl
    (ready_put flow old.label.items old.owner.items old.members old.into old.ones old.twos c.requires.whole c.args.v c.args.g c.args.from
    c.args.to c.requires.fits c.requires.sides
    c.requires.highest.0 c.requires.highest.1 c.requires.highest.2 c.requires.highest.3
    c.move_members.new.label.items c.put_at.new.list.items c.in_ok-moved.moved.items c.move_members.new.into c.in_ok-moved.ensures.labels
    c.put_at.ensures.there c.in_ok-moved.ensures.held c.in_ok-moved.ensures.open c.in_ok-moved.ensures.moved)

pub test-requires : goal.test-requires
test-requires g c =
    let flow = g.G.FlowGraph.flow c.args.graph.now in
    let old = c.args.self.now in
    ready_put flow old.label.items old.owner.items old.members old.into old.ones old.twos c.requires.whole c.args.v c.args.g c.args.from
    c.args.to c.requires.fits c.requires.sides
    c.requires.highest.0 c.requires.highest.1 c.requires.highest.2 c.requires.highest.3
    c.move_members.new.label.items c.put_at.new.list.items c.in_ok-moved.moved.items c.move_members.new.into c.in_ok-moved.ensures.labels
    c.put_at.ensures.there c.in_ok-moved.ensures.held c.in_ok-moved.ensures.open c.in_ok-moved.ensures.moved

pub test-requires-2 : goal.test-requires-2
test-requires-2 g c =
    let flow = g.G.FlowGraph.flow c.args.graph.now in
    let old = c.args.self.now in
    let same = c.in_ok-test.ensures.same in
    ready_over flow c.move_members.new.label.items c.test.new.self.label.items c.put_at.new.list.items c.test.new.self.owner.items
    c.move_members.new.into c.test.new.self.into (ap (λ v. v.items) same.0) (ap (λ v. v.items) same.1) same.3
    (ready_put flow old.label.items old.owner.items old.members old.into old.ones old.twos c.requires.whole c.args.v c.args.g c.args.from
    c.args.to c.requires.fits c.requires.sides
    c.requires.highest.0 c.requires.highest.1 c.requires.highest.2 c.requires.highest.3
    c.move_members.new.label.items c.put_at.new.list.items c.in_ok-moved.moved.items c.move_members.new.into c.in_ok-moved.ensures.labels
    c.put_at.ensures.there c.in_ok-moved.ensures.held c.in_ok-moved.ensures.open c.in_ok-moved.ensures.moved)

pub returns-clause-whole : goal.returns-clause-whole
returns-clause-whole g c =
    let flow = g.G.FlowGraph.flow c.args.graph.now in
    let old = c.args.self.now in
    let new = c.test-2.new.self in
    let L = c.move_members.new.label.items in
    let O = c.put_at.new.list.items in
    let I = c.move_members.new.into in
    let one = c.in_ok-test.ensures.same in
    let two = c.in_ok-test-2.ensures.same in
    let s' : State = state_of flow (number_in L) (number_in O) I in
    let f1 : Refreshes flow s' (touched flow old.label.items old.owner.items old.members old.into old.ones old.twos c.requires.whole
    c.args.v c.args.g c.args.from c.args.to c.requires.fits c.requires.sides
    c.requires.highest.0 c.requires.highest.1 c.requires.highest.2 c.requires.highest.3
    L O c.in_ok-moved.moved.items I c.in_ok-moved.ensures.labels c.put_at.ensures.there c.in_ok-moved.ensures.held
    c.in_ok-moved.ensures.open c.in_ok-moved.ensures.moved) old.ones c.refresh_rows.new.ones old.twos c.refresh_rows.new.twos =
    subst (λ (s : State). Refreshes flow s (λ q. list_any (λ u. list_any (λ t. t == q)
    (flow.next u)) c.in_ok-moved.moved.items) old.ones c.refresh_rows.new.ones old.twos c.refresh_rows.new.twos)
    (state_over flow L c.as_slice.result.now O c.as_slice-2.result.now I I c.as_slice.ensures.value c.as_slice-2.ensures.value refl)
    (subst (λ (xs : List ℕ). Refreshes flow (state_of flow (number_in c.as_slice.result.now) (number_in c.as_slice-2.result.now) I)
    (λ q. list_any (λ u. list_any (λ t. t == q) (flow.next u)) xs) old.ones c.refresh_rows.new.ones old.twos c.refresh_rows.new.twos)
    c.as_slice-3.ensures.value c.in_ok-refresh_rows.ensures) in
    let f3 : Refreshes flow s' (λ q. q == c.args.v) c.test.new.self.ones new.ones c.test.new.self.twos new.twos =
    subst (λ (s : State). Refreshes flow s (λ q. q == c.args.v) c.test.new.self.ones new.ones c.test.new.self.twos new.twos)
    (state_over flow L c.test.new.self.label.items O c.test.new.self.owner.items I c.test.new.self.into (ap (λ v. v.items) one.0)
    (ap (λ v. v.items) one.1) one.3) c.in_ok-test-2.ensures.tested in
    nodes_over flow L new.label.items O new.owner.items c.move_members.new.members new.members I new.into new.ones new.twos
    (ap (λ v. v.items) (two.0 ∙ one.0)) (ap (λ v. v.items) (two.1 ∙ one.1)) (two.2 ∙ one.2) (two.3 ∙ one.3)
    (record {
      label_size = c.in_ok-moved.ensures.size ∙ c.requires.whole.label_size;
      owner_size = c.put_at.ensures.size ∙ c.requires.whole.owner_size;
      ready =
          ready_put flow old.label.items old.owner.items old.members old.into old.ones old.twos c.requires.whole c.args.v c.args.g
          c.args.from c.args.to c.requires.fits c.requires.sides
          c.requires.highest.0 c.requires.highest.1 c.requires.highest.2 c.requires.highest.3
          L O c.in_ok-moved.moved.items I c.in_ok-moved.ensures.labels c.put_at.ensures.there c.in_ok-moved.ensures.held
          c.in_ok-moved.ensures.open c.in_ok-moved.ensures.moved;
      here = c.in_ok-moved.ensures.members;
      tested =
          tested_put flow old.label.items old.owner.items old.members old.into old.ones old.twos c.requires.whole c.args.v c.args.g
          c.args.from c.args.to c.requires.fits c.requires.sides
          c.requires.highest.0 c.requires.highest.1 c.requires.highest.2 c.requires.highest.3
          L O c.in_ok-moved.moved.items I c.in_ok-moved.ensures.labels c.put_at.ensures.there c.in_ok-moved.ensures.held
          c.in_ok-moved.ensures.open c.in_ok-moved.ensures.moved
          c.refresh_rows.new.ones c.refresh_rows.new.twos c.test.new.self.ones c.test.new.self.twos new.ones new.twos f1
          c.in_ok-test.ensures.tested f3;
    })

pub returns-clause-put : goal.returns-clause-put
returns-clause-put g c =
    let flow = g.G.FlowGraph.flow c.args.graph.now in
    let old = c.args.self.now in
    let new = c.test-2.new.self in
    let L = c.move_members.new.label.items in
    let O = c.put_at.new.list.items in
    let I = c.move_members.new.into in
    let one = c.in_ok-test.ensures.same in
    let two = c.in_ok-test-2.ensures.same in
    state_over flow L new.label.items O new.owner.items I new.into (ap (λ v. v.items) (two.0 ∙ one.0)) (ap (λ v. v.items) (two.1 ∙ one.1))
    (two.3 ∙ one.3)
    ∙ state_put flow old.label.items old.owner.items old.members old.into old.ones old.twos c.requires.whole c.args.v c.args.g c.args.from
    c.args.to c.requires.fits c.requires.sides
    c.requires.highest.0 c.requires.highest.1 c.requires.highest.2 c.requires.highest.3
    L O c.in_ok-moved.moved.items I c.in_ok-moved.ensures.labels c.put_at.ensures.there c.in_ok-moved.ensures.held
    c.in_ok-moved.ensures.open c.in_ok-moved.ensures.moved
