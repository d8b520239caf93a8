use Rattle.wsymb_top.proofs.Answering.{no_image}
use Rattle.wsymb_top.proofs.jobs.load.Goals as goal

pub returns-in-Err-clause-refused : goal.returns-in-Err-clause-refused
returns-in-Err-clause-refused c free =
    no_image c.args.task.now c.args.files.now c.file_at.result.now c.in-Err.why c.file_at.ensures (c.in-Err.ensures.refused free)
