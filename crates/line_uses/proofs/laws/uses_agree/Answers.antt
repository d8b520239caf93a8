use Rattle.line_uses.proofs.AgreementLemmas.{agree}
use Rattle.line_uses.proofs.laws.uses_agree.Goals as goal

pub returns : goal.returns
returns c = agree
