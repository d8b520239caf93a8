use Rattle.wsymb_top.proofs.Answering.{answered_refusal, answered_text, given, read_fault, usage}
use Rattle.wsymb_top.proofs.Deciding.{one_analysis, only}
use Rattle.wsymb_top.proofs.top.wsymb.Goals as goal

pub returns-in-Ok-clause-answered : goal.returns-in-Ok-clause-answered
returns-in-Ok-clause-answered g c = answered_text _ _ _ _ (rw c.as_slice.ensures.value at c.in-Ok.ensures.text) (rw c.as_slice-in-Ok.ensures.value at c.deliver.ensures.delivered)

pub returns-in-Ok-clause-only : goal.returns-in-Ok-clause-only
returns-in-Ok-clause-only g c = only _ _ _ c.results_agree.ensures (one_analysis c.analyses_agree.ensures.none c.analyses_agree.ensures.one) (returns-in-Ok-clause-answered g c)

pub returns-in-Ok-clause-given : goal.returns-in-Ok-clause-given
returns-in-Ok-clause-given g c = given _ _ _ _ c.reports_are_read.ensures.found (rw c.as_slice.ensures.value at c.in-Ok.ensures.text) (rw c.as_slice-in-Ok.ensures.value at c.deliver.ensures.delivered)

pub returns-clause-answered : goal.returns-clause-answered
returns-clause-answered g c = answered_refusal _ _ _ _ (rw c.as_slice.ensures.value at c.in-Err.ensures.refused) c.refuse.ensures.refused

pub returns-clause-only : goal.returns-clause-only
returns-clause-only g c = only _ _ _ c.results_agree.ensures (one_analysis c.analyses_agree.ensures.none c.analyses_agree.ensures.one) (returns-clause-answered g c)

pub returns-clause-usage : goal.returns-clause-usage
returns-clause-usage g c = usage _ _ _ _ (rw c.as_slice.ensures.value at c.in-Err.ensures.refused) c.refuse.ensures.refused

pub returns-clause-read_fault : goal.returns-clause-read_fault
returns-clause-read_fault g c = read_fault _ _ _ _ (rw c.as_slice.ensures.value at c.in-Err.ensures.refused) c.refuse.ensures.refused
