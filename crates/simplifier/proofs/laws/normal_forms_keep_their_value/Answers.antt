use Rattle.simplifier.proofs.AltLaws.{normal_alt_is}
use Rattle.simplifier.proofs.NormalLaws.{keeps_value}
use Rattle.simplifier.proofs.laws.normal_forms_keep_their_value.Goals as goal

pub returns : goal.returns
returns c = λ bounds known agree. keeps_value bounds known agree (normal_alt_is bounds)
