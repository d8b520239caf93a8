use Rattle.point_steps.proofs.ChangeLemmas.{changes_are_short, marks_stay, only_stores_change, sources_stay}
use Rattle.point_steps.proofs.changes.stack_change.Goals as goal

pub returns-clause-sources : goal.returns-clause-sources
returns-clause-sources c = rw c.op_change.ensures (sources_stay c.args.offset c.args.insn.now.op)

pub returns-clause-marks : goal.returns-clause-marks
returns-clause-marks c = rw c.op_change.ensures (marks_stay c.args.offset c.args.insn.now.op)

pub returns-clause-short : goal.returns-clause-short
returns-clause-short c = rw c.op_change.ensures (changes_are_short c.args.offset c.args.insn.now.op)

pub returns-clause-others : goal.returns-clause-others
returns-clause-others c = rw c.op_change.ensures (only_stores_change c.args.offset c.args.insn.now.op)
