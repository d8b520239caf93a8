use Rattle.std.proofs.Common.{◌-◌, ◌^◌, arith}
use Rattle.std.specs.Range.{range_inclusive_start, range_inclusive_end}
use Rattle.graph_reduction.proofs.SourceLemmas.{part_of, part_held, part_empty}
use Rattle.graph_reduction.proofs.nodes.first_source.Goals as goal

pub returns-in-Some-clause-some : goal.returns-in-Some-clause-some
returns-in-Some-clause-some c =
    let part = part_of c.args.into.now c.args.target c.args.node (2 ^ 32 - 1) (range_inclusive_start c.new.result)
    (range_inclusive_end c.new.result) c.range.result c.new.ensures.start c.new.ensures.end
    (c.range.ensures.in_range c.new.ensures.exhausted) in
    part_held c.args.into.now c.args.target c.args.node
    (2 ^ 32 - 1) c.range.result c.next.new.self c.in-Some.edge.now part c.in-Some.ensures.steps

pub returns-in-None-clause-none : goal.returns-in-None-clause-none
returns-in-None-clause-none c u b =
    let part = part_of c.args.into.now c.args.target c.args.node (2 ^ 32 - 1) (range_inclusive_start c.new.result)
    (range_inclusive_end c.new.result) c.range.result c.new.ensures.start c.new.ensures.end
    (c.range.ensures.in_range c.new.ensures.exhausted) in
    part_empty c.args.into.now c.args.target c.args.node (2 ^ 32 - 1) c.range.result part c.in-None.ensures.steps.0 u (omega (arith, b))
