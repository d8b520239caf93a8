use Rattle.persistence.proofs.ReturnLemmas.{returns_hit}
use Rattle.persistence.proofs.laws.few_younger_lines_leave_a_line.Goals as goal

pub returns : goal.returns
returns c = returns_hit
