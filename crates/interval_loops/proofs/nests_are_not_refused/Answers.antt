use Rattle.interval_loops.proofs.AgreementLemmas.{never_refused}
use Rattle.interval_loops.proofs.nests_are_not_refused.Goals as goal

pub returns : goal.returns
returns c flow n s bounded reach is red = never_refused flow bounded reach n is s red
