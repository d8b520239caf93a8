use Rattle.wsymb_top.proofs.Answering.{unanswered}
use Rattle.wsymb_top.proofs.commands.answer_command.Goals as goal

pub returns-in-Err-clause-refused : goal.returns-in-Err-clause-refused
returns-in-Err-clause-refused g c =
    unanswered (g.F.Shelf.content c.args.shelf.now) (g.F.Shelf.faults c.args.shelf.now) (g.F.Shelf.faults c.files_in.new.shelf) _ c.args.command
    c.in-Err.why c.in-Err.ensures.refused
