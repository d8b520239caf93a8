use Rattle.std.proofs.Common.{◌<◌, ◌^◌, ◌≡◌, subst, sym, length, arith}
use Rattle.std.specs.Prelude.{Some, slice_get}
use Rattle.function_frames.proofs.PointLemmas.{graph_few, graph_start}
use Rattle.function_frames.proofs.frames.start_of.Goals as goal

pub number_of-requires-clause-few : goal.number_of-requires-clause-few
number_of-requires-clause-few c =
    let few = graph_few c.args.image.now c.args.function.now.graph.entry c.args.function.now c.requires in
    subst (λ ns. length ns < 2 ^ 32) (sym c.as_slice.ensures) (omega (arith, few))

pub returns-in-Some : goal.returns-in-Some
returns-in-Some c =
    subst (λ ns. slice_get ns c.in-Some.number ≡ Some (0, c.args.function.now.graph.entry)) c.as_slice.ensures (c.in-Some.ensures)

pub returns-in-None : goal.returns-in-None
returns-in-None c =
    let there = graph_start c.args.image.now c.args.function.now.graph.entry c.args.function.now c.requires in
    absurd (c.in-None.ensures there.0
    (subst (λ ns. slice_get ns there.0 ≡ Some (0, c.args.function.now.graph.entry)) (sym c.as_slice.ensures) there.1))
