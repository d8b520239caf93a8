-- Fields in the encoding ELFDATA2LSB: the least significant byte stands first.
-- System V ABI, chapter 4, 'Data Representation' and 'ELF Identification'.
use Rattle.std.specs.Prelude.{ℕ, List, drop, slice_index}
use Rattle.byteorder.specs.Endian.{little_number}

-- an unsigned char
abbrev pub byte_field : List ℕ → ℕ → ℕ
byte_field bytes offset = slice_index bytes offset

-- an Elf32_Half, of two bytes
abbrev pub half_field : List ℕ → ℕ → ℕ
half_field bytes offset = little_number 2 (drop offset bytes)

-- an Elf32_Word, Elf32_Off or Elf32_Addr, of four bytes
abbrev pub word_field : List ℕ → ℕ → ℕ
word_field bytes offset = little_number 4 (drop offset bytes)
