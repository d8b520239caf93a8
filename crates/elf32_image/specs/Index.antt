-- The program headers of the loaded segments in the order of their addresses, in which look-ups are done.
use Rattle.std.specs.Prelude.{◌≡◌, ℕ, ◌+◌, ◌*◌, ◌/◌, ◌%◌, ◌==◌, ◌&&◌, Bool, true, nat_le, nat_lt, List, [], ◌∷◌, length, Some, option_map}
use Rattle.std.specs.List.{find, list_all}
use Rattle.elf32_image.specs.Bytes.{byte_of, covers}
use Rattle.elf32_image.specs.Parts.{Segment}
use Rattle.elf32_image.specs.Segments.{image_with, is_complete, is_within, segment_of}
use Rattle.elf32_image.specs.declared.format.FileHeader.{FileHeader}
use Rattle.elf32_image.specs.declared.format.ProgramHeader.{ProgramHeader}

-- each segment begins at or after the end of the one before, the first at `floor` or after it
abbrev pub ascend : ℕ → List ProgramHeader → Bool
ascend floor [] = true
ascend floor (header ∷ headers) = nat_le floor header.p_vaddr && ascend (header.p_vaddr + header.p_memsz) headers

-- the address is one of the header's segment
abbrev pub has_address : ℕ → ProgramHeader → Bool
has_address address header = nat_le header.p_vaddr address && nat_lt address (header.p_vaddr + header.p_memsz)

-- the header's segment may be executed (PF_X), or written (PF_W)
abbrev pub executes : ProgramHeader → Bool
executes header = header.p_flags % 2 == 1

abbrev pub writes : ProgramHeader → Bool
writes header = header.p_flags / 2 % 2 == 1

-- the word of four of a segment's bytes
abbrev pub word_in : Segment → ℕ → ℕ
word_in segment address =
    byte_of segment address + 256 * byte_of segment (address + 1)
    + 65536 * byte_of segment (address + 2) + 16777216 * byte_of segment (address + 3)

-- The headers are those of the loaded segments of a file with this header, in the order of their addresses.
pub record IsIndex (file : List ℕ) (header : FileHeader) (loaded : List ProgramHeader) : Type 0 where
  pub complete : is_complete file header ≡ true
  pub within : list_all (is_within (length file)) loaded ≡ true
  pub apart : ascend 0 loaded ≡ true
  pub held : (address : ℕ) → find (covers address) (image_with file header).segments ≡ option_map (segment_of file) (find (has_address address) loaded)

-- The header's segment has the four bytes at the address.
pub record HasWord (loaded : List ProgramHeader) (address : ℕ) (header : ProgramHeader) : Type 0 where
  pub first : find (has_address address) loaded ≡ Some header
  pub second : find (has_address (address + 1)) loaded ≡ Some header
  pub third : find (has_address (address + 2)) loaded ≡ Some header
  pub fourth : find (has_address (address + 3)) loaded ≡ Some header
