use Rattle.copy_facts.proofs.QueryLemmas.{kept_exactly, known_exactly, offset_exactly}
use Rattle.copy_facts.proofs.queries.frames_are_exact.Goals as goal

pub returns-clause-known : goal.returns-clause-known
returns-clause-known c = known_exactly

pub returns-clause-kept : goal.returns-clause-kept
returns-clause-kept c = kept_exactly

pub returns-clause-offset : goal.returns-clause-offset
returns-clause-offset c = offset_exactly
