use Rattle.elf32_image.proofs.Parts.{has_first, has_last, word_within}
use Rattle.elf32_image.proofs.image.Image.constant_at.Goals as goal

pub word-requires-clause-within : goal.word-requires-clause-within
word-requires-clause-within c =
    word_within c.args.address c.in-Some.segment.now c.as_slice.result.now c.self.inside.loaded.items c.self.inside.file.items c.as_slice-else-is_writable.result.now c.in-Some.ensures c.as_slice.ensures.value c.as_slice-else-is_writable.ensures.value c.self.invariant.within

pub word-requires-clause-first : goal.word-requires-clause-first
word-requires-clause-first c = has_first c.args.address c.in-Some.segment.now c.as_slice.result.now c.in-Some.ensures

pub word-requires-clause-last : goal.word-requires-clause-last
word-requires-clause-last c = has_last c.args.address c.in-Some.segment.now c.as_slice.result.now c.in-Some.ensures
