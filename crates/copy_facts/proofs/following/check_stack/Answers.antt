use Rattle.copy_facts.proofs.FrameLemmas.{solved_none_lost}
use Rattle.copy_facts.proofs.following.check_stack.Goals as goal

pub returns-clause-lost : goal.returns-clause-lost
returns-clause-lost c image entry ps a = solved_none_lost image entry c.args.stack c.args.start ps c.args.sites.now a _ c.requires.solved
