use Rattle.elf32_image.proofs.Parts.{name_found, section_room, sections_are_whole}
use Rattle.elf32_image.proofs.image.Image.function.Goals as goal

pub value_of-requires-clause-within : goal.value_of-requires-clause-within
value_of-requires-clause-within c =
    section_room c.self.inside.file.items c.as_slice-file.result.now c.from_offset-sections.result.now c.self.inside.header c.as_slice-file.ensures.value c.from_offset-sections.ensures c.self.invariant.complete

pub value_of-requires-clause-whole : goal.value_of-requires-clause-whole
value_of-requires-clause-whole c =
    sections_are_whole c.self.inside.file.items c.as_slice-file.result.now c.from_offset-sections.result.now c.self.inside.header c.as_slice-file.ensures.value c.from_offset-sections.ensures c.self.invariant.complete

pub returns : goal.returns
returns c =
    name_found c.args.self.now c.self.inside.file.items c.as_slice-file.result.now c.from_offset-sections.result.now c.args.name.now c.as_bytes.result.now c.self.inside.header c.value_of.result
    c.self.view_is c.as_slice-file.ensures.value c.from_offset-sections.ensures c.as_bytes.ensures.value c.value_of.ensures
