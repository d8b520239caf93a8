use Rattle.persistence.proofs.ScopeLemmas.{never_both, one_scope}
use Rattle.persistence.proofs.laws.scopes_agree.Goals as goal

pub returns-clause-one : goal.returns-clause-one
returns-clause-one c = one_scope

pub returns-clause-none : goal.returns-clause-none
returns-clause-none c = never_both
