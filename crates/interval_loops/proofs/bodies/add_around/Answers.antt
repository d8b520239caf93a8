use Rattle.std.proofs.Common.{rules, sym, ◌∙◌, ℕ, true}
use Rattle.std.specs.Prelude.{nat_eq, ◌≡◌}
use Rattle.graph_search.specs.NodeLists.{holds}
use Rattle.graph_search.specs.Walks.{Reached}
use Rattle.graph_search.specs.Searches.{steps_to}
use Rattle.interval_loops.specs.Tables.{back_step}
use Rattle.interval_loops.proofs.LoopRowLemmas.{no_header, next_number, deep_number}
use Rattle.interval_loops.proofs.bodies.add_around.Goals as goal

pub returns-then-number-eq0-clause-ok : goal.returns-then-number-eq0-clause-ok
returns-then-number-eq0-clause-ok g c =
    no_header (g.G.FlowGraph.flow c.args.graph.now) c.args.closers.now c.args.before.now c.requires.sources c.args.order.now
    c.args.headers.now c.args.numbers.now c.requires.all c.requires.numbered
    c.args.at c.listed_at-block.result c.args.around.now.items c.listed_at-block.ensures
    (sym c.number_of-number.ensures ∙ c.if-number-eq0.true) c.requires.so_far

pub returns-in_err-add_loop-clause-deep : goal.returns-in_err-add_loop-clause-deep
returns-in_err-add_loop-clause-deep g c e =
    let found : (x : ℕ) → holds nat_eq x c.mark_loop.new.marks.nodes ≡ true → Reached
    (steps_to nat_eq (back_step c.args.closers.now c.args.before.now c.listed_at-block.result)) c.listed_at-block.result x = search
    rules in
    deep_number (g.G.FlowGraph.flow c.args.graph.now) c.args.closers.now c.args.before.now c.requires.sources c.args.order.now
    c.args.headers.now c.args.numbers.now c.requires.all c.requires.numbered
    c.args.at c.listed_at-block.result c.number_of-number.result c.args.around.now.items c.mark_loop.new.marks.nodes
    c.listed_at-block.ensures c.number_of-number.ensures c.if-number-eq0.false
    found (c.in_err-add_loop.ensures.deep (search rules)) c.requires.so_far

pub returns-clause-ok : goal.returns-clause-ok
returns-clause-ok g c =
    let found : (x : ℕ) → holds nat_eq x c.mark_loop.new.marks.nodes ≡ true → Reached
    (steps_to nat_eq (back_step c.args.closers.now c.args.before.now c.listed_at-block.result)) c.listed_at-block.result x = search
    rules in
    let all : (x : ℕ) → Reached (steps_to nat_eq (back_step c.args.closers.now c.args.before.now c.listed_at-block.result))
    c.listed_at-block.result x → holds nat_eq x c.mark_loop.new.marks.nodes ≡ true = search rules in
    next_number (g.G.FlowGraph.flow c.args.graph.now) c.args.closers.now c.args.before.now c.requires.sources c.args.order.now
    c.args.headers.now c.args.numbers.now c.requires.all c.requires.numbered
    c.args.at c.listed_at-block.result c.number_of-number.result c.args.around.now.items c.add_loop.new.around.items
    c.mark_loop.new.marks.nodes c.listed_at-block.ensures c.number_of-number.ensures c.if-number-eq0.false
    c.in_ok-add_loop.ensures.size found all c.in_ok-add_loop.ensures.ok c.in_ok-add_loop.ensures.few c.requires.so_far
