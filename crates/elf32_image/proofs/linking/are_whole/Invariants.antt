use Rattle.std.proofs.Common.{◌≡◌, ◌*◌, ◌≤◌, length}
use Rattle.std.specs.List.{list_all}
use Rattle.elf32_image.specs.Sections.{is_whole, section_headers}
use Rattle.elf32_image.proofs.linking.are_whole.Given as goal

abbrev pub invariant-loop-left : goal.invariant-loop-left
invariant-loop-left l = record {
  room : 40 * l.left ≤ length l.rest;
  same : list_all (is_whole l.file_size (section_headers l.count l.table)) (section_headers l.left l.rest) ≡ list_all (is_whole l.file_size (section_headers l.count l.table)) (section_headers l.count l.table);
}

abbrev pub decreases-loop-left : goal.decreases-loop-left
decreases-loop-left l = l.left
