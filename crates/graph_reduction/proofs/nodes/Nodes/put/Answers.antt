use Rattle.std.proofs.Common.{◌≡◌, ◌∙◌, sym, ap, ℕ, List}
use Rattle.graph_reduction.specs.Nodes.{number_in}
use Rattle.graph_reduction.proofs.AdvanceLemmas.{two_fits, some_gives, none_gives, highest, two_step}
use Rattle.graph_reduction.proofs.nodes.Nodes.put.Goals as goal

pub join-requires-clause-fits : goal.join-requires-clause-fits
join-requires-clause-fits g c =
    let flow = g.G.FlowGraph.flow c.args.graph.now in
    let o = c.args.self.now in
    let fits = two_fits flow o.label.items o.owner.items o.members o.into o.ones o.twos c.requires.whole c.args.v (sym c.requires.least) in
    let mine : c.number_at-first.result ≡ number_in o.label.items c.args.v = c.number_at-first.ensures ∙ ap
    (λ (xs : List ℕ). number_in xs c.args.v) c.as_slice.ensures.value in
    fits.0

pub join-requires-clause-gives : goal.join-requires-clause-gives
join-requires-clause-gives g c =
    let flow = g.G.FlowGraph.flow c.args.graph.now in
    let o = c.args.self.now in
    let fits = two_fits flow o.label.items o.owner.items o.members o.into o.ones o.twos c.requires.whole c.args.v (sym c.requires.least) in
    let mine : c.number_at-first.result ≡ number_in o.label.items c.args.v = c.number_at-first.ensures ∙ ap
    (λ (xs : List ℕ). number_in xs c.args.v) c.as_slice.ensures.value in
    let is : c.number_at-g.result ≡ number_in o.owner.items c.in-Some.other = c.number_at-g.ensures ∙ ap
    (λ (xs : List ℕ). number_in xs c.in-Some.other) c.as_slice-in-Some.ensures.value in
    let theirs : c.number_at-second.result ≡ number_in o.label.items c.number_at-g.result = c.number_at-second.ensures ∙ ap
    (λ (xs : List ℕ). number_in xs c.number_at-g.result) c.as_slice-in-Some-2.ensures.value in
    let given = some_gives flow o.label.items o.owner.items o.members o.into o.ones o.twos c.requires.whole c.args.v
    c.number_at-first.result c.in-Some.other c.number_at-g.result mine is fits.0 c.in-Some.ensures in
    given

pub join-requires-clause-highest : goal.join-requires-clause-highest
join-requires-clause-highest g c =
    let flow = g.G.FlowGraph.flow c.args.graph.now in
    let o = c.args.self.now in
    let fits = two_fits flow o.label.items o.owner.items o.members o.into o.ones o.twos c.requires.whole c.args.v (sym c.requires.least) in
    let mine : c.number_at-first.result ≡ number_in o.label.items c.args.v = c.number_at-first.ensures ∙ ap
    (λ (xs : List ℕ). number_in xs c.args.v) c.as_slice.ensures.value in
    let is : c.number_at-g.result ≡ number_in o.owner.items c.in-Some.other = c.number_at-g.ensures ∙ ap
    (λ (xs : List ℕ). number_in xs c.in-Some.other) c.as_slice-in-Some.ensures.value in
    let theirs : c.number_at-second.result ≡ number_in o.label.items c.number_at-g.result = c.number_at-second.ensures ∙ ap
    (λ (xs : List ℕ). number_in xs c.number_at-g.result) c.as_slice-in-Some-2.ensures.value in
    let given = some_gives flow o.label.items o.owner.items o.members o.into o.ones o.twos c.requires.whole c.args.v
    c.number_at-first.result c.in-Some.other c.number_at-g.result mine is fits.0 c.in-Some.ensures in
    let h = highest flow o.label.items o.owner.items o.members o.into o.ones o.twos c.requires.whole c.args.v c.number_at-g.result
    c.number_at-first.result c.number_at-second.result fits.0 fits.1 given mine theirs in
    (h.0, h.1, h.2, λ e. h.3 (sym e))

pub join-requires-else-large-small-clause-fits : goal.join-requires-else-large-small-clause-fits
join-requires-else-large-small-clause-fits g c =
    let flow = g.G.FlowGraph.flow c.args.graph.now in
    let o = c.args.self.now in
    let fits = two_fits flow o.label.items o.owner.items o.members o.into o.ones o.twos c.requires.whole c.args.v (sym c.requires.least) in
    let mine : c.number_at-first.result ≡ number_in o.label.items c.args.v = c.number_at-first.ensures ∙ ap
    (λ (xs : List ℕ). number_in xs c.args.v) c.as_slice.ensures.value in
    fits.0

pub join-requires-else-large-small-clause-gives : goal.join-requires-else-large-small-clause-gives
join-requires-else-large-small-clause-gives g c =
    let flow = g.G.FlowGraph.flow c.args.graph.now in
    let o = c.args.self.now in
    let fits = two_fits flow o.label.items o.owner.items o.members o.into o.ones o.twos c.requires.whole c.args.v (sym c.requires.least) in
    let mine : c.number_at-first.result ≡ number_in o.label.items c.args.v = c.number_at-first.ensures ∙ ap
    (λ (xs : List ℕ). number_in xs c.args.v) c.as_slice.ensures.value in
    let is : c.number_at-g.result ≡ number_in o.owner.items c.in-Some.other = c.number_at-g.ensures ∙ ap
    (λ (xs : List ℕ). number_in xs c.in-Some.other) c.as_slice-in-Some.ensures.value in
    let theirs : c.number_at-second.result ≡ number_in o.label.items c.number_at-g.result = c.number_at-second.ensures ∙ ap
    (λ (xs : List ℕ). number_in xs c.number_at-g.result) c.as_slice-in-Some-2.ensures.value in
    let given = some_gives flow o.label.items o.owner.items o.members o.into o.ones o.twos c.requires.whole c.args.v
    c.number_at-first.result c.in-Some.other c.number_at-g.result mine is fits.0 c.in-Some.ensures in
    given

pub join-requires-else-large-small-clause-highest : goal.join-requires-else-large-small-clause-highest
join-requires-else-large-small-clause-highest g c =
    let flow = g.G.FlowGraph.flow c.args.graph.now in
    let o = c.args.self.now in
    let fits = two_fits flow o.label.items o.owner.items o.members o.into o.ones o.twos c.requires.whole c.args.v (sym c.requires.least) in
    let mine : c.number_at-first.result ≡ number_in o.label.items c.args.v = c.number_at-first.ensures ∙ ap
    (λ (xs : List ℕ). number_in xs c.args.v) c.as_slice.ensures.value in
    let is : c.number_at-g.result ≡ number_in o.owner.items c.in-Some.other = c.number_at-g.ensures ∙ ap
    (λ (xs : List ℕ). number_in xs c.in-Some.other) c.as_slice-in-Some.ensures.value in
    let theirs : c.number_at-second.result ≡ number_in o.label.items c.number_at-g.result = c.number_at-second.ensures ∙ ap
    (λ (xs : List ℕ). number_in xs c.number_at-g.result) c.as_slice-in-Some-2.ensures.value in
    let given = some_gives flow o.label.items o.owner.items o.members o.into o.ones o.twos c.requires.whole c.args.v
    c.number_at-first.result c.in-Some.other c.number_at-g.result mine is fits.0 c.in-Some.ensures in
    highest flow o.label.items o.owner.items o.members o.into o.ones o.twos c.requires.whole c.args.v c.number_at-g.result
    c.number_at-first.result c.number_at-second.result fits.0 fits.1 given mine theirs

pub returns-in_ok-join-in-Some-clause-went : goal.returns-in_ok-join-in-Some-clause-went
returns-in_ok-join-in-Some-clause-went g c =
    let flow = g.G.FlowGraph.flow c.args.graph.now in
    let o = c.args.self.now in
    let fits = two_fits flow o.label.items o.owner.items o.members o.into o.ones o.twos c.requires.whole c.args.v (sym c.requires.least) in
    let mine : c.number_at-first.result ≡ number_in o.label.items c.args.v = c.number_at-first.ensures ∙ ap
    (λ (xs : List ℕ). number_in xs c.args.v) c.as_slice.ensures.value in
    let is : c.number_at-g.result ≡ number_in o.owner.items c.in-Some.other = c.number_at-g.ensures ∙ ap
    (λ (xs : List ℕ). number_in xs c.in-Some.other) c.as_slice-in-Some.ensures.value in
    let theirs : c.number_at-second.result ≡ number_in o.label.items c.number_at-g.result = c.number_at-second.ensures ∙ ap
    (λ (xs : List ℕ). number_in xs c.number_at-g.result) c.as_slice-in-Some-2.ensures.value in
    let given = some_gives flow o.label.items o.owner.items o.members o.into o.ones o.twos c.requires.whole c.args.v
    c.number_at-first.result c.in-Some.other c.number_at-g.result mine is fits.0 c.in-Some.ensures in
    two_step flow o.label.items o.owner.items o.members o.into o.ones o.twos c.requires.whole c.args.v c.number_at-g.result _
    (sym c.requires.none) (sym c.requires.least) given c.in_ok-join-in-Some.ensures.put

pub returns-in_ok-join-in-Some-2-clause-went : goal.returns-in_ok-join-in-Some-2-clause-went
returns-in_ok-join-in-Some-2-clause-went g c =
    let flow = g.G.FlowGraph.flow c.args.graph.now in
    let o = c.args.self.now in
    let fits = two_fits flow o.label.items o.owner.items o.members o.into o.ones o.twos c.requires.whole c.args.v (sym c.requires.least) in
    let mine : c.number_at-first.result ≡ number_in o.label.items c.args.v = c.number_at-first.ensures ∙ ap
    (λ (xs : List ℕ). number_in xs c.args.v) c.as_slice.ensures.value in
    let is : c.number_at-g.result ≡ number_in o.owner.items c.in-Some.other = c.number_at-g.ensures ∙ ap
    (λ (xs : List ℕ). number_in xs c.in-Some.other) c.as_slice-in-Some.ensures.value in
    let theirs : c.number_at-second.result ≡ number_in o.label.items c.number_at-g.result = c.number_at-second.ensures ∙ ap
    (λ (xs : List ℕ). number_in xs c.number_at-g.result) c.as_slice-in-Some-2.ensures.value in
    let given = some_gives flow o.label.items o.owner.items o.members o.into o.ones o.twos c.requires.whole c.args.v
    c.number_at-first.result c.in-Some.other c.number_at-g.result mine is fits.0 c.in-Some.ensures in
    two_step flow o.label.items o.owner.items o.members o.into o.ones o.twos c.requires.whole c.args.v c.number_at-g.result _
    (sym c.requires.none) (sym c.requires.least) given c.in_ok-join-in-Some-2.ensures.put

pub returns-in-None-clause-went : goal.returns-in-None-clause-went
returns-in-None-clause-went g c =
    let flow = g.G.FlowGraph.flow c.args.graph.now in
    let o = c.args.self.now in
    let fits = two_fits flow o.label.items o.owner.items o.members o.into o.ones o.twos c.requires.whole c.args.v (sym c.requires.least) in
    let mine : c.number_at-first.result ≡ number_in o.label.items c.args.v = c.number_at-first.ensures ∙ ap
    (λ (xs : List ℕ). number_in xs c.args.v) c.as_slice.ensures.value in
    absurd (none_gives flow o.label.items o.owner.items o.members o.into o.ones o.twos c.requires.whole c.args.v c.number_at-first.result
    mine fits.0 c.in-None.ensures)
