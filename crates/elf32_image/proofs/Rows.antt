-- The definitions, computed on an executable of 92 bytes: a file header, one program header, and two
-- instructions that are loaded at 0x8000.
use Rattle.std.proofs.Common.{◌≡◌, ℕ, true, false, List, [], ◌∷◌, ◌++◌, drop, take, Some, Ok, Err, refl}
use Rattle.elf32_image.specs.Bytes.{is_code, word_at, constant_at, loaded}
use Rattle.elf32_image.specs.Header.{header_of}
use Rattle.elf32_image.specs.Parts.{ImageValue, Segment}
use Rattle.elf32_image.specs.Segments.{has_overlap, image_of, image_with, is_complete}
use Rattle.elf32_image.specs.Names.{function_of}
use Rattle.elf32_image.specs.Sections.{until_zero}
use Rattle.elf32_image.specs.declared.refusal.NameRefusal.TheVariants.{NoSymbol, TwoSymbols, ThumbCode}
use Rattle.elf32_image.specs.declared.image.Loaded.TheVariants.{No, ReadOnly}
use Rattle.elf32_image.specs.declared.refusal.ElfRefusal.TheVariants.{NotElf32Arm, Truncated}

abbrev file_header : List ℕ
file_header =
    0x7f ∷ 0x45 ∷ 0x4c ∷ 0x46 ∷ 0x01 ∷ 0x01 ∷ 0x01 ∷ 0x00 ∷ 0x00 ∷ 0x00 ∷ 0x00 ∷ 0x00 ∷ 0x00 ∷ 0x00 ∷ 0x00 ∷ 0x00
    ∷ 0x02 ∷ 0x00 ∷ 0x28 ∷ 0x00 ∷ 0x01 ∷ 0x00 ∷ 0x00 ∷ 0x00 ∷ 0x00 ∷ 0x80 ∷ 0x00 ∷ 0x00 ∷ 0x34 ∷ 0x00 ∷ 0x00 ∷ 0x00
    ∷ 0x00 ∷ 0x00 ∷ 0x00 ∷ 0x00 ∷ 0x00 ∷ 0x00 ∷ 0x00 ∷ 0x00 ∷ 0x34 ∷ 0x00 ∷ 0x20 ∷ 0x00 ∷ 0x01 ∷ 0x00 ∷ 0x00 ∷ 0x00 ∷ 0x00 ∷ 0x00 ∷ 0x00 ∷ 0x00 ∷ []

abbrev program_table : List ℕ
program_table =
    0x01 ∷ 0x00 ∷ 0x00 ∷ 0x00 ∷ 0x54 ∷ 0x00 ∷ 0x00 ∷ 0x00 ∷ 0x00 ∷ 0x80 ∷ 0x00 ∷ 0x00 ∷ 0x00 ∷ 0x80 ∷ 0x00 ∷ 0x00
    ∷ 0x08 ∷ 0x00 ∷ 0x00 ∷ 0x00 ∷ 0x08 ∷ 0x00 ∷ 0x00 ∷ 0x00 ∷ 0x05 ∷ 0x00 ∷ 0x00 ∷ 0x00 ∷ 0x04 ∷ 0x00 ∷ 0x00 ∷ 0x00 ∷ []

abbrev instructions : List ℕ
instructions = 0x01 ∷ 0x00 ∷ 0xa0 ∷ 0xe3 ∷ 0x1e ∷ 0xff ∷ 0x2f ∷ 0xe1 ∷ []

abbrev file : List ℕ
file = file_header ++ program_table ++ instructions

abbrev image : ImageValue
image = record { segments = record { address = 0x8000; bytes = instructions; size = 8; flags = 5 } ∷ []; functions = [] }

pub header : header_of file ≡ Some (record { program_offset = 52; program_count = 1; section_offset = 0; section_count = 0 })
header = refl

pub whole : image_of file ≡ Ok image
unfolding image_with is_complete
whole = refl

-- a byte of the file header is missing
pub short_header : image_of (take 51 file) ≡ Err NotElf32Arm
short_header = refl

-- the table of program headers is missing
pub no_table : image_of (take 52 file) ≡ Err Truncated
unfolding image_with is_complete
no_table = refl

-- a byte of the segment is missing
pub short_segment : image_of (take 91 file) ≡ Err Truncated
unfolding image_with is_complete
short_segment = refl

pub code : is_code image 0x8004 ≡ true
code = refl

pub no_code : is_code image 0x8002 ≡ false
no_code = refl

pub code_ends : is_code image 0x8008 ≡ false
code_ends = refl

pub word : word_at image 0x8004 ≡ Some 0xe12fff1e
word = refl

pub constant : constant_at image 0x8000 ≡ Some 0xe3a00001
constant = refl

pub last_byte : loaded image 0x8007 ≡ ReadOnly 0xe1
last_byte = refl

pub after : loaded image 0x8008 ≡ No
after = refl

-- segments that touch share no address, and those that meet in a zero do
abbrev part : ℕ → ℕ → Segment
part address size = record { address = address; bytes = []; size = size; flags = 5 }

pub touching : has_overlap (part 0x8008 8 ∷ part 0x8000 8 ∷ []) ≡ false
touching = refl

pub sharing : has_overlap (part 0x8007 8 ∷ part 0x9000 8 ∷ part 0x8000 8 ∷ []) ≡ true
sharing = refl

-- the names f, g twice with one value, h with two values, and i with an odd one
abbrev named : ImageValue
named = record {
  segments = [];
  functions =
      record { name = 102 ∷ []; value = 0x8000 } ∷ record { name = 103 ∷ []; value = 0x8004 } ∷ record { name = 103 ∷ []; value = 0x8004 }
      ∷ record { name = 104 ∷ []; value = 0x8001 } ∷ record { name = 104 ∷ []; value = 0x8000 } ∷ record { name = 105 ∷ []; value = 0x8001 } ∷ [];
}

pub one_symbol : function_of named (102 ∷ []) ≡ Ok 0x8000
one_symbol = refl

pub equal_symbols : function_of named (103 ∷ []) ≡ Ok 0x8004
equal_symbols = refl

pub two_symbols : function_of named (104 ∷ []) ≡ Err TwoSymbols
two_symbols = refl

pub thumb_code : function_of named (105 ∷ []) ≡ Err ThumbCode
thumb_code = refl

pub no_symbol : function_of named [] ≡ Err NoSymbol
no_symbol = refl

-- a name ends before a zero byte or at the end, and one after the end is empty
pub name_ends : until_zero (102 ∷ 111 ∷ 0 ∷ 103 ∷ []) ≡ 102 ∷ 111 ∷ []
name_ends = refl

pub name_behind : until_zero (drop 9 (102 ∷ 0 ∷ [])) ≡ []
name_behind = refl
