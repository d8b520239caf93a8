use Rattle.std.proofs.Common.{◌∙◌, sym, ap, arith, Some}
use Rattle.elf32_image.specs.Sections.{section_header}
use Rattle.elf32_image.specs.declared.format.SectionHeader.{SectionHeader}
use Rattle.elf32_image.proofs.Steps.{section_at, section_past}
use Rattle.elf32_image.proofs.linking.linked.Goals as goal

pub returns-then-section-from : goal.returns-then-section-from
returns-then-section-from c =
    ap (λ (s : SectionHeader). Some s) (c.read.ensures ∙ ap section_header c.from_offset-entry.ensures)
    ∙ sym (section_at c.args.count c.args.section.now.sh_link c.args.table.now (omega arith))

pub returns-else-section-from : goal.returns-else-section-from
returns-else-section-from c = sym (section_past c.args.count c.args.section.now.sh_link c.args.table.now (omega arith))
