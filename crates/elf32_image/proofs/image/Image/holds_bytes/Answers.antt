use Rattle.std.proofs.Common.{subst}
use Rattle.elf32_image.specs.Bytes.{AreBytes, HoldsBytes}
use Rattle.elf32_image.proofs.Numbers.{constants_of_bytes, holds_bytes, words_of_bytes}
use Rattle.elf32_image.proofs.image.Image.holds_bytes.Goals as goal

-- the bytes that an image holds are those of its file
bytes_here : (c : goal.After-are_bytes) → HoldsBytes c.args.self.now
bytes_here c = subst HoldsBytes c.self.view_is (holds_bytes c.self.inside.file.items c.self.inside.header (subst AreBytes c.as_slice.ensures.value c.are_bytes.ensures))

pub returns-clause-bytes : goal.returns-clause-bytes
returns-clause-bytes c = bytes_here c

pub returns-clause-words : goal.returns-clause-words
returns-clause-words c = words_of_bytes c.args.self.now (bytes_here c)

pub returns-clause-constants : goal.returns-clause-constants
returns-clause-constants c = constants_of_bytes c.args.self.now (bytes_here c)
