use Rattle.std.proofs.Common.{◌≡◌, ◌≤◌, length, true}
use Rattle.std.specs.List.{find}
use Rattle.elf32_image.specs.Index.{ascend, has_address}
use Rattle.elf32_image.proofs.lookup.holder.Given as goal

abbrev pub invariant-loop-left : goal.invariant-loop-left
invariant-loop-left l = record {
  within : length l.left ≤ length l.loaded;
  apart : ascend 0 l.left ≡ true;
  same : find (has_address l.address) l.left ≡ find (has_address l.address) l.loaded;
}

abbrev pub decreases-loop-left : goal.decreases-loop-left
decreases-loop-left l = length l.left
