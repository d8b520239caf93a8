use Rattle.std.proofs.Common.{◌-◌, ◌^◌, arith}
use Rattle.std.specs.Range.{range_inclusive_start, range_inclusive_end}
use Rattle.graph_reduction.proofs.RangeLemmas.{row_of, last_held, last_most, none_held}
use Rattle.graph_reduction.proofs.edges.last_node.Goals as goal

pub returns-in-Some-clause-some : goal.returns-in-Some-clause-some
returns-in-Some-clause-some c =
    let row = row_of c.args.into.now c.args.target (2 ^ 32 - 1) (range_inclusive_start c.new.result)
    (range_inclusive_end c.new.result) c.range.result c.new.ensures.start c.new.ensures.end
    (c.range.ensures.in_range c.new.ensures.exhausted) in
    last_held c.args.into.now c.args.target (2 ^ 32 - 1) c.range.result c.next_back.new.self c.in-Some.edge.now row c.in-Some.ensures.steps

pub returns-in-Some-clause-greatest : goal.returns-in-Some-clause-greatest
returns-in-Some-clause-greatest c n u a b held =
    let row = row_of c.args.into.now c.args.target (2 ^ 32 - 1) (range_inclusive_start c.new.result)
    (range_inclusive_end c.new.result) c.range.result c.new.ensures.start c.new.ensures.end
    (c.range.ensures.in_range c.new.ensures.exhausted) in
    last_most c.args.into.now c.args.target (2 ^ 32 - 1) c.range.result c.next_back.new.self c.in-Some.edge.now row c.in-Some.ensures.steps
    n u (omega (arith, a)) (omega (arith, b)) held

pub returns-in-None-clause-none : goal.returns-in-None-clause-none
returns-in-None-clause-none c n u a b =
    let row = row_of c.args.into.now c.args.target (2 ^ 32 - 1) (range_inclusive_start c.new.result)
    (range_inclusive_end c.new.result) c.range.result c.new.ensures.start c.new.ensures.end
    (c.range.ensures.in_range c.new.ensures.exhausted) in
    none_held c.args.into.now c.args.target (2 ^ 32 - 1) c.range.result row c.in-None.ensures.steps.0 n u (omega (arith, a))
    (omega (arith, b))
