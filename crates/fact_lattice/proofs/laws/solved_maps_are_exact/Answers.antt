use Rattle.fact_lattice.proofs.SolvedLemmas.{none_lost, offset_everywhere, known_everywhere, kept_everywhere, over_everywhere}
use Rattle.fact_lattice.proofs.SolvedLemmas.{unproved_everywhere, unreached}
use Rattle.fact_lattice.proofs.laws.solved_maps_are_exact.Goals as goal

pub returns-clause-lost : goal.returns-clause-lost
returns-clause-lost c = none_lost

pub returns-clause-offset : goal.returns-clause-offset
returns-clause-offset c = offset_everywhere

pub returns-clause-known : goal.returns-clause-known
returns-clause-known c = known_everywhere

pub returns-clause-kept : goal.returns-clause-kept
returns-clause-kept c = kept_everywhere

pub returns-clause-over : goal.returns-clause-over
returns-clause-over c = over_everywhere

pub returns-clause-unproved : goal.returns-clause-unproved
returns-clause-unproved c = unproved_everywhere

pub returns-clause-unreached : goal.returns-clause-unreached
returns-clause-unreached c = unreached
