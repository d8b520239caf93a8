use Rattle.path_facts.proofs.StackUseLemmas.{followed_proved, proved_followed}
use Rattle.path_facts.proofs.laws.followed_unless_returns_are_unproved.Goals as goal

pub returns-clause-followed : goal.returns-clause-followed
returns-clause-followed c image entry stack clear none = proved_followed image entry stack clear none

pub returns-clause-proved : goal.returns-clause-proved
returns-clause-proved c image entry stack followed p u = followed_proved image entry stack followed p u
