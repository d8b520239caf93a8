use Rattle.std.specs.Prelude.{◌-◌}
use Rattle.interval_loops.specs.Nests.{depth_of}
use Rattle.node_elimination.proofs.FinishedLevelLemmas.{if_ok_more}
use Rattle.level_tables.proofs.LevelNestLemmas.{are_tasks, fits_in, is_levels, nest, rank_of, tables_at}
use Rattle.level_tables.proofs.trees.tree.Goals as goal

pub function_tree-requires : goal.function_tree-requires
function_tree-requires g c =
    let flow = g.G.FlowGraph.flow c.args.graph.now in
    let n = c.args.nest.now in
    let r = c.requires in
    let fits = fits_in c.count-count.result flow.count c.count-count.ensures c.if-count.false in
    record {
      described = (
        nest flow r.bounded r.reached n r.nest c.args.uses.now r.uses c.in-Ok.levels.items c.in-Ok.ensures fits,
        (λ d. 16 - depth_of n d),
        (λ d. rank_of flow r.bounded r.reached n r.nest c.args.uses.now r.uses c.in-Ok.levels.items c.in-Ok.ensures fits),
        record {
          tables = tables_at flow r.bounded r.reached n r.nest c.args.uses.now r.uses c.in-Ok.levels.items c.in-Ok.ensures fits
              c.count-count.result c.count-count.ensures c.as_slice.result.now c.as_slice.ensures.value;
          tasks = are_tasks flow r.bounded r.reached n r.nest c.args.uses.now r.uses c.in-Ok.levels.items c.in-Ok.ensures fits;
        },
      );
    }

pub returns-clause-exact : goal.returns-clause-exact
returns-clause-exact g c =
    let flow = g.G.FlowGraph.flow c.args.graph.now in
    let n = c.args.nest.now in
    let r = c.requires in
    let fits = fits_in c.count-count.result flow.count c.count-count.ensures c.if-count.false in
    if_ok_more _ _ (λ t all. (let k = all (nest flow r.bounded r.reached n r.nest c.args.uses.now r.uses c.in-Ok.levels.items c.in-Ok.ensures
    fits) (λ d. 16 - depth_of n d)
    (λ d. rank_of flow r.bounded r.reached n r.nest c.args.uses.now r.uses c.in-Ok.levels.items c.in-Ok.ensures fits)
    (record {
      tables = tables_at flow r.bounded r.reached n r.nest c.args.uses.now r.uses c.in-Ok.levels.items c.in-Ok.ensures fits
          c.count-count.result c.count-count.ensures c.as_slice.result.now c.as_slice.ensures.value;
      tasks = are_tasks flow r.bounded r.reached n r.nest c.args.uses.now r.uses c.in-Ok.levels.items c.in-Ok.ensures fits;
    }) in (
      (
        nest flow r.bounded r.reached n r.nest c.args.uses.now r.uses c.in-Ok.levels.items c.in-Ok.ensures fits,
        is_levels flow r.bounded r.reached n r.nest c.args.uses.now r.uses c.in-Ok.levels.items c.in-Ok.ensures fits,
        k.0,
      ),
      k.1,
      k.2,
    )))
    c.function_tree.result c.function_tree.ensures.exact

pub returns-clause-large : goal.returns-clause-large
returns-clause-large g c e =
    let flow = g.G.FlowGraph.flow c.args.graph.now in
    let n = c.args.nest.now in
    let r = c.requires in
    let fits = fits_in c.count-count.result flow.count c.count-count.ensures c.if-count.false in (
      nest flow r.bounded r.reached n r.nest c.args.uses.now r.uses c.in-Ok.levels.items c.in-Ok.ensures fits,
      is_levels flow r.bounded r.reached n r.nest c.args.uses.now r.uses c.in-Ok.levels.items c.in-Ok.ensures fits,
      c.function_tree.ensures.large e (nest flow r.bounded r.reached n r.nest c.args.uses.now r.uses c.in-Ok.levels.items c.in-Ok.ensures
          fits) (λ d. 16 - depth_of n d)
          (λ d. rank_of flow r.bounded r.reached n r.nest c.args.uses.now r.uses c.in-Ok.levels.items c.in-Ok.ensures fits)
          (record {
            tables = tables_at flow r.bounded r.reached n r.nest c.args.uses.now r.uses c.in-Ok.levels.items c.in-Ok.ensures fits
                c.count-count.result c.count-count.ensures c.as_slice.result.now c.as_slice.ensures.value;
            tasks = are_tasks flow r.bounded r.reached n r.nest c.args.uses.now r.uses c.in-Ok.levels.items c.in-Ok.ensures fits;
          }),
    )
