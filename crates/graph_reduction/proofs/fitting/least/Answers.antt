use Rattle.std.proofs.lemmas.Bool.{false≢true}
use Rattle.graph_reduction.proofs.LeastLemmas.{least_some, least_none}
use Rattle.graph_reduction.proofs.fitting.least.Goals as goal

pub returns-in-Some : goal.returns-in-Some
returns-in-Some c = least_some c.args.fitting.now c.in-Some.number.now c.in-Some.ensures.member c.in-Some.ensures.least

pub returns-in-None : goal.returns-in-None
returns-in-None c = least_none c.args.fitting.now (λ some. false≢true (c.in-None.ensures.variant.1 some))
