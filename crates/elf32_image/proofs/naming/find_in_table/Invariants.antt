use Rattle.std.proofs.Common.{◌≡◌, ◌*◌, ◌≤◌, length}
use Rattle.elf32_image.specs.Names.{agreed}
use Rattle.elf32_image.proofs.Finding.{values_left}
use Rattle.elf32_image.proofs.naming.find_in_table.Given as goal

abbrev pub invariant-loop-left : goal.invariant-loop-left
invariant-loop-left l = record {
  room : 16 * l.left ≤ length l.rest;
  same : agreed l.found (values_left l.name l.names l.left l.rest) ≡ agreed l.fn.before (values_left l.name l.names l.count l.table);
}

abbrev pub decreases-loop-left : goal.decreases-loop-left
decreases-loop-left l = l.left
