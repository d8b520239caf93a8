use Rattle.report_elements.proofs.TreeLaws.{read_only}
use Rattle.report_elements.proofs.trees.trees_are_read.Goals as goal

pub returns-clause-only : goal.returns-clause-only
returns-clause-only c = read_only
