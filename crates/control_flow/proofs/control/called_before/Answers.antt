use Rattle.std.proofs.Common.{◌∙◌, ap}
use Rattle.control_flow.specs.Controls.{call_in}
use Rattle.control_flow.proofs.ControlLemmas.{calls_fit}
use Rattle.control_flow.proofs.control.called_before.Goals as goal

pub returns : goal.returns
returns c = c.call.ensures ∙ ap call_in c.control_at.ensures ∙ calls_fit c.args.image.now _
