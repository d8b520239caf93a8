use Rattle.std.proofs.Common.{◌-◌, ◌≤◌, length}
use Rattle.std.specs.Prelude.{slice_get}
use Rattle.copy_facts.specs.Frames.{IsLeastTo, IsUnprovedNumber, address_in}
use Rattle.copy_facts.proofs.least.first_unproved.Given as goal

abbrev pub invariant-loop-at : goal.invariant-loop-at
invariant-loop-at l = record {
  within : l.at ≤ length l.sites;
  least : IsLeastTo (IsUnprovedNumber l.sites l.facts)
      (λ i. address_in (slice_get l.sites i)) l.at l.found;
}

abbrev pub decreases-loop-at : goal.decreases-loop-at
decreases-loop-at l = length l.sites - l.at
