use Rattle.std.proofs.Common.{◌<◌, ◌∙◌, ap, sym, subst, length, arith}
use Rattle.std.specs.Prelude.{Contains}
use Rattle.flow_graph.specs.Graphs.{returns_in}
use Rattle.function_frames.specs.Points.{AreLists}
use Rattle.function_frames.proofs.PointLemmas.{are_frame_points, graph_clear, graph_few, graph_lists, graph_long, if_ok, made_of}
use Rattle.function_frames.proofs.frames.frame_points.Goals as goal

pub sites_of-requires-clause-lists : goal.sites_of-requires-clause-lists
sites_of-requires-clause-lists c = subst AreLists (sym c.as_slice.ensures)
    (graph_lists c.args.image.now c.args.function.now.graph.entry c.args.function.now c.requires.graph)

pub sites_of-requires-clause-under : goal.sites_of-requires-clause-under
sites_of-requires-clause-under c n i =
    subst (λ cs. n.0 < length (returns_in cs)) (sym c.as_slice.ensures)
    (c.requires.graph.arranged.under n (subst (λ ns. Contains ns n) c.as_slice-2.ensures i))

pub sites_of-requires-clause-clear : goal.sites_of-requires-clause-clear
sites_of-requires-clause-clear c n i =
    graph_clear c.args.image.now c.args.function.now.graph.entry c.args.function.now c.requires.graph n
    (subst (λ ns. Contains ns n) c.as_slice-2.ensures i)

pub sites_of-requires-clause-long : goal.sites_of-requires-clause-long
sites_of-requires-clause-long c =
    ap length c.as_slice-3.ensures ∙ graph_long c.args.image.now c.args.function.now.graph.entry c.args.function.now c.requires.graph
    ∙ sym (ap length c.as_slice-2.ensures)

pub returns-clause-points : goal.returns-clause-points
returns-clause-points c =
    if_ok _ _ (λ sites a. are_frame_points c.args.image.now c.args.function.now.graph.entry c.args.function.now c.requires.graph
    c.args.start c.requires.start sites.items
    (made_of c.args.image.now c.args.function.now c.as_slice.result.now c.as_slice-2.result.now c.as_slice-3.result.now sites.items
    c.as_slice.ensures c.as_slice-2.ensures c.as_slice-3.ensures a)) c.sites_of.result c.sites_of.ensures

pub returns-clause-few : goal.returns-clause-few
returns-clause-few c =
    let few = graph_few c.args.image.now c.args.function.now.graph.entry c.args.function.now c.requires.graph in
    if_ok _ _ (λ sites a. let long = a.long in let same = ap length c.as_slice-2.ensures in omega (arith, few, long, same))
    c.sites_of.result c.sites_of.ensures
