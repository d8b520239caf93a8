use Rattle.machine_probe.proofs.Ongoing.{ran_lists}
use Rattle.machine_probe.proofs.laws.returned_runs_are_lists.Goals as goal

pub returns : goal.returns
returns c old now steps n spent before probes events ran = ran_lists old now steps n spent before probes events ran
