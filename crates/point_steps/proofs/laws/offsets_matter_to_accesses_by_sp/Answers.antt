use Rattle.point_steps.proofs.AccessLemmas.{marks_even, sources_even}
use Rattle.point_steps.proofs.laws.offsets_matter_to_accesses_by_sp.Goals as goal

pub returns-clause-sources : goal.returns-clause-sources
returns-clause-sources c = sources_even

pub returns-clause-marks : goal.returns-clause-marks
returns-clause-marks c = marks_even
