use Rattle.std.proofs.Common.{get_or, arith}
use Rattle.point_tables.proofs.FaultLemmas.{pair_in}
use Rattle.flow_graph.specs.Graphs.{returns_in}
use Rattle.function_frames.proofs.PointLemmas.{added_site}
use Rattle.function_frames.proofs.points.sites_of.Goals as goal

pub add_site-requires-clause-there : goal.add_site-requires-clause-there
add_site-requires-clause-there c =
    c.requires.under (get_or c.args.points.now c.loop-at.at (0, 0)) (pair_in c.args.points.now c.loop-at.at (0, 0) c.loop-at-test.true)

pub add_site-requires-clause-clear : goal.add_site-requires-clause-clear
add_site-requires-clause-clear c =
    c.requires.clear (get_or c.args.points.now c.loop-at.at (0, 0)) (pair_in c.args.points.now c.loop-at.at (0, 0) c.loop-at-test.true)

pub loop-at-preserved : goal.loop-at-preserved
loop-at-preserved c =
    let l = c.loop-at-test.true in
    let long = c.requires.long in
    let added = c.in_ok-add_site.ensures in
    record {
      within = omega (arith, l);
      made =
          added_site c.args.image.now (returns_in c.args.contexts.now) c.args.points.now c.args.table.now c.loop-at.at
          c.loop-at.sites.items c.add_site.new.sites.items added.0 _ c.loop-at.invariant.made added.1 (omega (arith, l, long)) added.2
          added.3;
    }
