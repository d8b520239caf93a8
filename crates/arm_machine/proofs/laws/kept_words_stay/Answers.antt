use Rattle.arm_machine.proofs.StoreLemmas.{effect_kept, kept_stays}
use Rattle.arm_machine.proofs.laws.kept_words_stay.Goals as goal

pub returns-clause-store : goal.returns-clause-store
returns-clause-store c image s width base a v saves q other none x holds = kept_stays image s width base a v saves q other none x holds

pub returns-clause-effect : goal.returns-clause-effect
returns-clause-effect c image s o q other x holds = effect_kept image s o q other x holds
