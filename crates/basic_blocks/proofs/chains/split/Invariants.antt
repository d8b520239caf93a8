use Rattle.std.proofs.Common.{◌-◌, length}
use Rattle.basic_blocks.specs.Chains.{is_flagged}
use Rattle.basic_blocks.proofs.SplitLemmas.{Cut}
use Rattle.basic_blocks.proofs.chains.split.Given as goal

abbrev pub invariant-loop-at : goal.invariant-loop-at
invariant-loop-at l = Cut l.only (is_flagged l.flags) l.at l.chains

abbrev pub decreases-loop-at : goal.decreases-loop-at
decreases-loop-at l = length l.only - l.at
