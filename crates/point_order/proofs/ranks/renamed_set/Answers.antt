use Rattle.std.proofs.Common.{rules, arith, subst}
use Rattle.std.specs.BTreeSet as tree
use Rattle.function_points.specs.Contexts.{pair_cmp}
use Rattle.point_order.proofs.RankLemmas.{one_renamed}
use Rattle.point_order.proofs.PlaceLemmas.{at_place}
use Rattle.point_order.proofs.ranks.renamed_set.Goals as goal

pub bounds-ranks-context : goal.bounds-ranks-context
bounds-ranks-context c = c.requires c.get-context.result
    (at_place c.args.numbers.now c.loop-at.at c.get-context.result c.get-context.ensures)

pub loop-at-preserved : goal.loop-at-preserved
loop-at-preserved c =
    record {
      within = let l = c.loop-at-test.true in omega (arith, l, c.len.ensures);
      set =
          one_renamed c.args.ranks.now c.args.numbers.now c.loop-at.at c.get-context.result (tree.contains pair_cmp c.loop-at.set)
          (tree.contains pair_cmp c.insert.new.self) c.get-context.ensures c.in_ok-insert.ensures.updates.0 c.loop-at.invariant.set;
    }
