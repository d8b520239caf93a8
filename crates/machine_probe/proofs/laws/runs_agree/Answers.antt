use Rattle.machine_probe.proofs.Agreeing.{agree}
use Rattle.machine_probe.proofs.laws.runs_agree.Goals as goal

pub returns : goal.returns
returns c = agree
