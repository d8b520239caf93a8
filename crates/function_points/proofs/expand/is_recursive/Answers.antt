use Rattle.std.proofs.Common.{[], get_or}
use Rattle.control_flow.specs.Controls.{calls}
use Rattle.function_points.proofs.ContextLemmas.{found_open}
use Rattle.function_points.proofs.expand.is_recursive.Goals as goal

pub returns-then-goes_to : goal.returns-then-goes_to
returns-then-goes_to c =
    found_open (calls c.args.image.now) c.args.entry c.args.target c.in-Some.after (get_or c.args.contexts.now c.in-Some.parent [])
    (get_or c.args.contexts.now c.loop-parent.at []) (get_or c.args.contexts.now c.args.context [])
    c.in-Some.ensures.some.1 c.if-goes_to.ensures c.loop-parent.invariant.same
