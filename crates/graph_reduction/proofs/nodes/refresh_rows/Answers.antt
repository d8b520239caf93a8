use Rattle.std.proofs.Common.{◌≡◌, refl, ◌∙◌, ◌+◌, sym, ap, ℕ, List, take, get_or, subst}
use Rattle.std.specs.Prelude.{◌==◌, ◌||◌}
use Rattle.std.specs.List.{list_any}
use Rattle.std.proofs.lemmas.Bool.{eq-eqb}
use Rattle.std.proofs.lemmas.List.Folds.{list_any_at, list_any_more}
use Rattle.graph_reduction.specs.Nodes.{number_in, state_of, Refreshes}
use Rattle.std.proofs.lemmas.List.{take_all}
use Rattle.graph_reduction.proofs.RefreshLemmas.{refreshes}
use Rattle.graph_reduction.proofs.nodes.refresh_rows.Goals as goal

pub row-requires : goal.row-requires
row-requires g c =
    let u = get_or c.args.blocks.now c.loop-block.block-index 0 in
    c.requires.inside u (list_any_at (λ y. y == u) c.args.blocks.now c.loop-block.block-index 0 c.loop-block-test.true (eq-eqb u u refl))

pub loop-block-preserved : goal.loop-block-preserved
loop-block-preserved g c =
    let flow = g.G.FlowGraph.flow c.args.graph.now in
    let s = state_of flow (number_in c.args.label.now) (number_in c.args.owner.now) c.args.into.now in
    let F = λ (q u : ℕ). list_any (λ t. t == q) (flow.next u) in
    refreshes flow s (λ q. list_any (F q) (take c.loop-block.block-index c.args.blocks.now)) (λ q. list_any (λ t. t == q) c.row.result.now)
    (λ q. list_any (F q) (take (c.loop-block.block-index + 1) c.args.blocks.now))
    c.args.ones.now c.loop-block.ones c.refresh_row.new.ones c.args.twos.now c.loop-block.twos c.refresh_row.new.twos c.loop-block.invariant
    c.in_ok-refresh_row.ensures
    (λ q. list_any_more (F q) c.args.blocks.now c.loop-block.block-index 0 c.loop-block-test.true
    ∙ ap (λ (row : List ℕ). list_any (F q) (take c.loop-block.block-index c.args.blocks.now) || list_any (λ t. t == q) row)
    (sym c.row.ensures))

pub returns : goal.returns
returns g c =
    let flow = g.G.FlowGraph.flow c.args.graph.now in
    let s = state_of flow (number_in c.args.label.now) (number_in c.args.owner.now) c.args.into.now in
    let all : take c.loop-block.block-index c.args.blocks.now
    ≡ c.args.blocks.now = take_all c.loop-block.block-index c.args.blocks.now c.loop-block-test.false in
    subst (λ (xs : List ℕ). Refreshes flow s (λ q. list_any (λ u. list_any (λ t. t == q)
    (flow.next u)) xs) c.args.ones.now c.loop-block.ones c.args.twos.now c.loop-block.twos) all c.loop-block.invariant
