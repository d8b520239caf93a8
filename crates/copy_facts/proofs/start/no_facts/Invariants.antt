use Rattle.std.proofs.Common.{◌-◌, ◌≡◌, ◌≤◌, ℕ, None, get_or, length}
use Rattle.copy_facts.proofs.start.no_facts.Given as goal

abbrev pub invariant-loop-at : goal.invariant-loop-at
invariant-loop-at l = record {
  within : l.at ≤ l.count;
  long : length l.facts.items ≡ l.at;
  none : (p : ℕ) → get_or l.facts.items p None
      ≡ None;
}

abbrev pub decreases-loop-at : goal.decreases-loop-at
decreases-loop-at l = l.count - l.at
