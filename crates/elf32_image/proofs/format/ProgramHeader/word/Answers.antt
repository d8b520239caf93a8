use Rattle.std.proofs.Common.{◌+◌, ◌-◌, refl, arith}
use Rattle.std.proofs.lemmas.Bool.{and_parts, leb-true}
use Rattle.elf32_image.proofs.Words.{word_in_file}
use Rattle.elf32_image.proofs.format.ProgramHeader.word.Goals as goal

pub returns-then-from : goal.returns-then-from
returns-then-from c =
    let word = word_in_file c.args.file.now c.args.self.now c.args.address (c.args.self.now.p_offset + (c.args.address - c.args.self.now.p_vaddr)) refl (leb-true _ _ (and_parts _ _ c.requires.first).0) (omega arith) in
    omega (arith, c.from_le_bytes.ensures, word)
