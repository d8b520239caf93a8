use Rattle.simplifier.proofs.Shrinking.{no_larger}
use Rattle.simplifier.proofs.laws.normal_forms_are_no_larger.Goals as goal

pub returns-clause-nodes : goal.returns-clause-nodes
returns-clause-nodes c = λ known term. (no_larger known term).nodes

pub returns-clause-nesting : goal.returns-clause-nesting
returns-clause-nesting c = λ known term. (no_larger known term).deep
