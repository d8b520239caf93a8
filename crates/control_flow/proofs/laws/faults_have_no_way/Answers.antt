use Rattle.control_flow.proofs.WayLemmas.{faults_fit}
use Rattle.control_flow.proofs.laws.faults_have_no_way.Goals as goal

pub returns-clause-none : goal.returns-clause-none
returns-clause-none c image entry p = (faults_fit image entry p).0

pub returns-clause-some : goal.returns-clause-some
returns-clause-some c image entry p = (faults_fit image entry p).1
