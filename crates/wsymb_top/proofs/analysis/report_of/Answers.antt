use Rattle.wsymb_top.proofs.Answering.{of_refused_analysis}
use Rattle.wsymb_top.proofs.analysis.report_of.Goals as goal

pub returns-clause-refused : goal.returns-clause-refused
returns-clause-refused c = of_refused_analysis c.args.setup c.args.job.now c.in-Err.why c.in-Err.ensures.refused
