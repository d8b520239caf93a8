use Rattle.copy_facts.proofs.JoinedLemmas.{PartlyJoined}
use Rattle.copy_facts.proofs.joining.join_words.Given as goal

abbrev pub invariant-loop-entry : goal.invariant-loop-entry
invariant-loop-entry l = PartlyJoined l.stack l.left l.right l.entry-index l.out.items l.changed
