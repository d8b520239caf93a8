use Rattle.std.proofs.Common.{arith}
use Rattle.flow_graph.specs.Tables.{points_of}
use Rattle.function_frames.proofs.PointLemmas.{if_err, on_ok}
use Rattle.function_frames.proofs.frames.facts_of.Goals as goal

pub frames-requires-clause-few : goal.frames-requires-clause-few
frames-requires-clause-few c = let few = c.requires.few in omega (arith, few)

pub frames-requires-clause-starts : goal.frames-requires-clause-starts
frames-requires-clause-starts c = c.requires.points.starts

pub frames-requires-clause-inside : goal.frames-requires-clause-inside
frames-requires-clause-inside c = c.requires.points.inside

pub returns-clause-lost : goal.returns-clause-lost
returns-clause-lost c =
    on_ok _ _ (λ none. none c.args.image.now c.args.function.now.graph.entry (points_of c.args.function.now) c.requires.points)
    c.frames.result c.frames.ensures.lost

pub returns-clause-over : goal.returns-clause-over
returns-clause-over c =
    on_ok _ _ (λ none. none c.args.image.now c.args.function.now.graph.entry (points_of c.args.function.now) c.requires.points)
    c.frames.result c.frames.ensures.over

pub returns-clause-unproved : goal.returns-clause-unproved
returns-clause-unproved c =
    on_ok _ _ (λ none. none c.args.image.now c.args.function.now.graph.entry (points_of c.args.function.now) c.requires.points)
    c.frames.result c.frames.ensures.unproved

pub returns-clause-refused : goal.returns-clause-refused
returns-clause-refused c =
    if_err _ _ (λ why is. is c.args.image.now c.args.function.now.graph.entry (points_of c.args.function.now) c.requires.points)
    c.frames.result c.frames.ensures.refused
