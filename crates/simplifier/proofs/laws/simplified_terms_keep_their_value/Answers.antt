use Rattle.wsym_formula.specs.Values.{bound_at}
use Rattle.simplifier.proofs.AltLaws.{normal_alt_is}
use Rattle.simplifier.proofs.NormalLaws.{keeps_value}
use Rattle.simplifier.specs.Simplified.{known_of}
use Rattle.simplifier.proofs.Knowing.{known_agrees}
use Rattle.simplifier.proofs.laws.simplified_terms_keep_their_value.Goals as goal

pub returns : goal.returns
returns c = λ bounds values. keeps_value (bound_at bounds values) (known_of bounds) (λ id m e. known_agrees bounds values id m e) (normal_alt_is (bound_at bounds values))
