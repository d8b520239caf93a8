use Rattle.std.proofs.Common.{rules, length, List, ℕ, ◌≡◌, subst, ap, ◌∙◌, true}
use Rattle.std.specs.Prelude.{nat_eq}
use Rattle.graph_search.specs.NodeLists.{holds}
use Rattle.interval_loops.specs.Tables.{AreSoFar, closed_of}
use Rattle.interval_loops.specs.Nests.{nest_by}
use Rattle.interval_loops.proofs.NestLemmas.{headers_within, numbered_all, nest_whole}
use Rattle.interval_loops.proofs.nest.nest_in.Goals as goal

pub nest_from-requires-clause-inside : goal.nest_from-requires-clause-inside
nest_from-requires-clause-inside g c h k =
    let flow = g.G.FlowGraph.flow c.args.graph.now in
    let m = c.in-Ok.ensures in
    headers_within flow c.args.closers.now c.args.before.now c.in_ok-around.around.items c.args.order.now c.numbers.new.headers.items
    c.in-Ok.numbers.items c.requires.sources
    (numbered_all flow c.args.closers.now c.args.before.now c.numbers.new.headers.items c.in-Ok.numbers.items c.requires.sources m)
    (subst (λ (hs : List ℕ). AreSoFar (g.G.FlowGraph.flow c.args.graph.now) (closed_of c.args.closers.now) c.args.order.now hs
    (length c.args.order.now) c.in_ok-around.around.items) c.as_slice.ensures.value c.in_ok-around.ensures.ok)
    h (subst (λ (xs : List ℕ). holds nat_eq h xs ≡ true) c.as_slice-3.ensures.value k)

pub returns-clause-ok : goal.returns-clause-ok
returns-clause-ok g c t red same up =
    let flow = g.G.FlowGraph.flow c.args.graph.now in
    let m = c.in-Ok.ensures in
    let made : c.in_ok-nest.nest ≡ nest_by c.as_slice-3.result.now c.args.closers.now c.in_ok-around.around.items = search rules in
    nest_whole flow c.args.closers.now c.args.before.now c.in_ok-around.around.items c.args.order.now c.numbers.new.headers.items
    c.in-Ok.numbers.items c.in_ok-nest.nest c.requires.sources c.requires.all m
    (subst (λ (hs : List ℕ). AreSoFar (g.G.FlowGraph.flow c.args.graph.now) (closed_of c.args.closers.now) c.args.order.now hs
    (length c.args.order.now) c.in_ok-around.around.items) c.as_slice.ensures.value c.in_ok-around.ensures.ok)
    c.requires.rising (made ∙ ap (λ (hs : List ℕ). nest_by hs c.args.closers.now c.in_ok-around.around.items) c.as_slice-3.ensures.value) t
    red same up
