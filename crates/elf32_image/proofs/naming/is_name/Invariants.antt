use Rattle.std.proofs.Common.{◌≡◌, length}
use Rattle.std.specs.Str.{bytes_eq}
use Rattle.elf32_image.specs.Sections.{until_zero}
use Rattle.elf32_image.proofs.naming.is_name.Given as goal

abbrev pub invariant-loop-byte : goal.invariant-loop-byte
invariant-loop-byte l = bytes_eq (until_zero l.bytes_left) l.name_left ≡ bytes_eq (until_zero l.bytes) l.name

abbrev pub decreases-loop-byte : goal.decreases-loop-byte
decreases-loop-byte l = length l.bytes_left
