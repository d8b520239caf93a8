use Rattle.std.proofs.Common.{rules, length, ◌∙◌}
use Rattle.interval_loops.proofs.MemberRowLemmas.{block_inside, was_long, rows_next, few_next}
use Rattle.interval_loops.proofs.bodies.add_loop.Goals as goal

pub add_one-requires : goal.add_one-requires
add_one-requires c = block_inside (length c.args.around.now.items)
    (length c.loop-at.around.items) c.loop-at.at c.get.result c.args.marks.now.nodes c.requires.inside c.get.ensures
    c.loop-at.invariant.size

pub returns-in_err-add_one-clause-deep : goal.returns-in_err-add_one-clause-deep
returns-in_err-add_one-clause-deep c e =
    was_long c.args.around.now.items c.loop-at.around.items c.loop-at.at c.get.result c.args.number c.args.marks.now.nodes c.get.ensures
    c.requires.distinct c.loop-at.invariant.rows (c.in_err-add_one.ensures.deep (search rules))

pub loop-at-preserved : goal.loop-at-preserved
loop-at-preserved c =
    record {
      size = c.in_ok-add_one.ensures.ok.0 ∙ c.loop-at.invariant.size;
      rows = rows_next c.args.around.now.items c.loop-at.around.items c.loop-at.at c.get.result c.args.number c.args.marks.now.nodes
          c.get.ensures c.requires.distinct c.loop-at.invariant.rows c.add_one.new.around.items c.in_ok-add_one.ensures.ok.1;
      few = few_next c.args.around.now.items c.loop-at.around.items c.loop-at.at c.get.result c.args.number c.args.marks.now.nodes
          c.get.ensures c.requires.distinct c.loop-at.invariant.rows c.loop-at.invariant.few c.in_ok-add_one.ensures.few;
    }
