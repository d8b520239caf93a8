use Rattle.std.proofs.Common.{◌≡◌, ◌*◌, ◌≤◌, length, None, true}
use Rattle.std.specs.List.{list_all}
use Rattle.elf32_image.specs.Names.{agreed}
use Rattle.elf32_image.specs.Sections.{is_whole, section_headers}
use Rattle.elf32_image.proofs.Finding.{section_values}
use Rattle.elf32_image.proofs.naming.find_in_sections.Given as goal

abbrev pub invariant-loop-left : goal.invariant-loop-left
invariant-loop-left l = record {
  room : 40 * l.left ≤ length l.rest;
  whole : list_all (is_whole (length l.file) (section_headers l.count l.table)) (section_headers l.left l.rest) ≡ true;
  same : agreed l.found (section_values l.name l.file (section_headers l.count l.table) l.left l.rest) ≡ agreed None (section_values l.name l.file (section_headers l.count l.table) l.count l.table);
}

abbrev pub decreases-loop-left : goal.decreases-loop-left
decreases-loop-left l = l.left
