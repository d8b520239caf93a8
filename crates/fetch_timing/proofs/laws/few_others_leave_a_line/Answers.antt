use Rattle.fetch_timing.proofs.Staying.{costs_nothing, newest, spared, spared_all}
use Rattle.fetch_timing.proofs.laws.few_others_leave_a_line.Goals as goal

pub returns-clause-first : goal.returns-clause-first
returns-clause-first c = λ t sets others line w is. newest t others line w sets is

pub returns-clause-stays : goal.returns-clause-stays
returns-clause-stays c = λ t sets others line fetch w is few spares s. spared t others line w sets fetch is few spares s

pub returns-clause-all : goal.returns-clause-all
returns-clause-all c = λ t sets others line fetches w is few spares s. spared_all t others line w sets fetches is few spares s

pub returns-clause-hit : goal.returns-clause-hit
returns-clause-hit c = costs_nothing
