use Rattle.control_flow.proofs.ControlLemmas.{ways_fit, faults_fit}
use Rattle.control_flow.proofs.laws.controls_give_ways_and_faults.Goals as goal

pub returns-clause-ways : goal.returns-clause-ways
returns-clause-ways c image entry p = ways_fit image entry p

pub returns-clause-faults : goal.returns-clause-faults
returns-clause-faults c image entry p = faults_fit image entry p
