use Rattle.path_facts.proofs.Example.{example_followed}
use Rattle.path_facts.proofs.laws.an_example_is_followed.Goals as goal

pub returns : goal.returns
returns c = example_followed
