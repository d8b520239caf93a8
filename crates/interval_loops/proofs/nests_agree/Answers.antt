use Rattle.interval_loops.proofs.AgreementLemmas as agreeing
use Rattle.interval_loops.proofs.nests_agree.Goals as goal

pub returns : goal.returns
returns c flow n m bounded reach is are = agreeing.nests_agree flow bounded reach n m is are
