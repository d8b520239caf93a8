use Rattle.elf32_image.proofs.Parts.{holder_has, holder_within}
use Rattle.elf32_image.proofs.image.Image.loaded.Goals as goal

pub byte-byte-requires-clause-within : goal.byte-byte-requires-clause-within
byte-byte-requires-clause-within c =
    holder_within c.args.address c.in-Some.segment.now c.as_slice.result.now c.self.inside.loaded.items c.self.inside.file.items c.as_slice-in-Some.result.now c.in-Some.ensures c.as_slice.ensures.value c.as_slice-in-Some.ensures.value c.self.invariant.within

pub byte-byte-requires-clause-inside : goal.byte-byte-requires-clause-inside
byte-byte-requires-clause-inside c = holder_has c.args.address c.in-Some.segment.now c.as_slice.result.now c.in-Some.ensures
