use Rattle.std.proofs.Common.{rules, ◌∙◌, sym}
use Rattle.elf32_image.proofs.Ascent.{has_word}
use Rattle.elf32_image.proofs.image.word_holder.Goals as goal

pub returns-in-Some : goal.returns-in-Some
returns-in-Some c = has_word _ _ _ c.requires.apart (search rules) (sym c.has_address.ensures ∙ c.if-has_address.true)
