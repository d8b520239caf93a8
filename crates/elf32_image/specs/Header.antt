-- The file header of an ELF32 executable for ARM.
-- System V ABI, chapter 4, 'ELF Header' and 'ELF Identification'; the machine's number is that of
-- 'ELF for the Arm Architecture'.
use Rattle.std.specs.Prelude.{ℕ, ◌==◌, ◌&&◌, ◌||◌, Bool, if◌then◌else◌, nat_eq, nat_le, List, [], ◌∷◌, length, Option, Some, None}
use Rattle.std.specs.List.{starts_with}
use Rattle.elf32_image.specs.Fields.{byte_field, half_field, word_field}
use Rattle.elf32_image.specs.declared.format.FileHeader.{FileHeader}

-- what stands where in the header

abbrev pub e_type : List ℕ → ℕ
e_type bytes = half_field bytes 16

abbrev pub e_machine : List ℕ → ℕ
e_machine bytes = half_field bytes 18

abbrev pub e_phoff : List ℕ → ℕ
e_phoff bytes = word_field bytes 28

abbrev pub e_shoff : List ℕ → ℕ
e_shoff bytes = word_field bytes 32

abbrev pub e_phentsize : List ℕ → ℕ
e_phentsize bytes = half_field bytes 42

abbrev pub e_phnum : List ℕ → ℕ
e_phnum bytes = half_field bytes 44

abbrev pub e_shentsize : List ℕ → ℕ
e_shentsize bytes = half_field bytes 46

abbrev pub e_shnum : List ℕ → ℕ
e_shnum bytes = half_field bytes 48

-- the bytes begin with the magic number 7F 'E' 'L' 'F'
abbrev pub has_magic : List ℕ → Bool
has_magic bytes = starts_with nat_eq bytes (0x7f ∷ 0x45 ∷ 0x4c ∷ 0x46 ∷ [])

-- objects of 32 bits (ELFCLASS32), least significant byte first (ELFDATA2LSB), version 1 (EV_CURRENT)
abbrev pub is_identified : List ℕ → Bool
is_identified bytes = has_magic bytes && byte_field bytes 4 == 1 && byte_field bytes 5 == 1 && byte_field bytes 6 == 1

-- a table is empty, or its entries have the format's size
abbrev pub has_entries_of : ℕ → ℕ → ℕ → Bool
has_entries_of size entry_size count = count == 0 || entry_size == size

-- an executable (ET_EXEC) for ARM (EM_ARM)
abbrev pub has_required_values : List ℕ → Bool
has_required_values bytes =
    is_identified bytes && e_type bytes == 2 && e_machine bytes == 40
    && has_entries_of 32 (e_phentsize bytes) (e_phnum bytes)
    && has_entries_of 40 (e_shentsize bytes) (e_shnum bytes)

-- the header of the file, None where it is none of an ELF32 executable for ARM
abbrev pub header_of : List ℕ → Option FileHeader
header_of bytes =
    if nat_le 52 (length bytes) && has_required_values bytes
    then Some (record {
      program_offset = e_phoff bytes;
      program_count = e_phnum bytes;
      section_offset = e_shoff bytes;
      section_count = e_shnum bytes;
    })
    else None
