use Rattle.std.proofs.Common.{◌≡◌, ◌*◌, ◌≤◌, ◌++◌, length, filter}
use Rattle.elf32_image.specs.Segments.{is_loaded, program_headers}
use Rattle.elf32_image.proofs.reading.read_loaded.Given as goal

abbrev pub invariant-loop-left : goal.invariant-loop-left
invariant-loop-left l = record {
  room : 32 * l.left ≤ length l.rest;
  same : l.loaded.items ++ filter is_loaded (program_headers l.left l.rest) ≡ filter is_loaded (program_headers l.count l.table);
}

abbrev pub decreases-loop-left : goal.decreases-loop-left
decreases-loop-left l = l.left
