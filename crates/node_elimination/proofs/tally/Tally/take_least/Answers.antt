use Rattle.std.proofs.lemmas.Bool.{false≢true}
use Rattle.node_elimination.proofs.GainLemmas.{least_live, rest_live, none_live, kept_live}
use Rattle.node_elimination.proofs.tally.Tally.take_least.Goals as goal

pub returns-in-Some-clause-least : goal.returns-in-Some-clause-least
returns-in-Some-clause-least c = least_live c.args.self.now c.in-Some.pair.0 c.in-Some.pair.1 c.in-Some.ensures.member
    c.in-Some.ensures.least

pub returns-in-Some-clause-rest : goal.returns-in-Some-clause-rest
returns-in-Some-clause-rest c = rest_live c.args.self.now c.pop_first.new.self c.in-Some.pair.0 c.in-Some.pair.1 c.in-Some.ensures.member
    c.in-Some.ensures.updates.0

pub returns-in-None-clause-none : goal.returns-in-None-clause-none
returns-in-None-clause-none c = none_live c.args.self.now (λ some. false≢true (c.in-None.ensures.variant.1 some))

pub returns-in-None-clause-kept : goal.returns-in-None-clause-kept
returns-in-None-clause-kept c = kept_live c.args.self.now c.pop_first.new.self c.in-None.ensures.unchanged
