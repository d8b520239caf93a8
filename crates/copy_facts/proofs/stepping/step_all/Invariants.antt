use Rattle.std.proofs.Common.{◌-◌, ◌≤◌}
use Rattle.copy_facts.specs.Points.{stepped_entry}
use Rattle.copy_facts.specs.Tables.{AreEntriesTo}
use Rattle.copy_facts.proofs.stepping.step_all.Given as goal

abbrev pub invariant-loop-word : goal.invariant-loop-word
invariant-loop-word l = record {
  within : l.word ≤ l.to;
  entries : AreEntriesTo
      (stepped_entry l.stack l.site l.done l.facts) l.word l.out.items;
}

abbrev pub decreases-loop-word : goal.decreases-loop-word
decreases-loop-word l = l.to - l.word
