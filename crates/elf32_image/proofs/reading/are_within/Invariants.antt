use Rattle.std.proofs.Common.{◌≡◌, ◌*◌, ◌≤◌, length, filter}
use Rattle.std.specs.List.{list_all}
use Rattle.elf32_image.specs.Segments.{is_loaded, is_within, program_headers}
use Rattle.elf32_image.proofs.reading.are_within.Given as goal

abbrev pub invariant-loop-left : goal.invariant-loop-left
invariant-loop-left l = record {
  room : 32 * l.left ≤ length l.rest;
  same : list_all (is_within l.file_size) (filter is_loaded (program_headers l.left l.rest)) ≡ list_all (is_within l.file_size) (filter is_loaded (program_headers l.count l.table));
}

abbrev pub decreases-loop-left : goal.decreases-loop-left
decreases-loop-left l = l.left
