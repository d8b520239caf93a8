use Rattle.std.proofs.Common.{slice_index}
use Rattle.path_facts.proofs.FactLemmas.{says_true}
use Rattle.path_facts.proofs.laws.sources_give_facts.Goals as goal

pub returns : goal.returns
returns c start s f source v = says_true start (slice_index start 13) s f source v
