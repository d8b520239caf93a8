-- What the parts of an image say of its look-ups.
use Rattle.std.proofs.Common.{◌≡◌, ℕ, ◌+◌, ◌*◌, ◌≤◌, true, List, length, drop, Some, Result, sym, ap, ◌∙◌}
use Rattle.std.specs.List.{find, list_all}
use Rattle.elf32_image.specs.Index.{has_address, HasWord}
use Rattle.elf32_image.specs.Names.{function_of, one_value, values_of}
use Rattle.elf32_image.specs.Parts.{ImageValue}
use Rattle.elf32_image.specs.Sections.{functions_of, is_whole, section_headers}
use Rattle.elf32_image.specs.Segments.{image_with, is_complete, is_within}
use Rattle.elf32_image.specs.declared.format.FileHeader.{FileHeader}
use Rattle.elf32_image.specs.declared.format.ProgramHeader.{ProgramHeader}
use Rattle.elf32_image.specs.declared.refusal.NameRefusal.{NameRefusal}
use Rattle.elf32_image.proofs.Ascent.{found_all, found_passes}
use Rattle.elf32_image.proofs.Overlaps.{functions_are, sections_whole, sections_within}
use Rattle.elf32_image.proofs.Steps.{table_room}

-- a segment that is found is within the file, and has the address
pub holder_within : (a : ℕ) (h : ProgramHeader) (hs all : List ProgramHeader) (file bytes : List ℕ) → Some h ≡ find (has_address a) hs → hs ≡ all → bytes ≡ file → list_all (is_within (length file)) all ≡ true → is_within (length bytes) h ≡ true
holder_within a h hs all file bytes there is same within =
    found_all (has_address a) (is_within (length bytes)) h hs (sym there)
    (ap (list_all (is_within (length bytes))) is ∙ ap (λ (l : List ℕ). list_all (is_within (length l)) all) same ∙ within)

pub holder_has : (a : ℕ) (h : ProgramHeader) (hs : List ProgramHeader) → Some h ≡ find (has_address a) hs → has_address a h ≡ true
holder_has a h hs there = found_passes (has_address a) h hs (sym there)

-- the same of a segment that has a word
pub word_within : (a : ℕ) (h : ProgramHeader) (hs all : List ProgramHeader) (file bytes : List ℕ) → HasWord hs a h → hs ≡ all → bytes ≡ file → list_all (is_within (length file)) all ≡ true → is_within (length bytes) h ≡ true
word_within a h hs all file bytes there = holder_within a h hs all file bytes (sym there.first)

pub has_first : (a : ℕ) (h : ProgramHeader) (hs : List ProgramHeader) → HasWord hs a h → has_address a h ≡ true
has_first a h hs there = found_passes (has_address a) h hs there.first

pub has_last : (a : ℕ) (h : ProgramHeader) (hs : List ProgramHeader) → HasWord hs a h → has_address (a + 3) h ≡ true
has_last a h hs there = found_passes (has_address (a + 3)) h hs there.fourth

-- the section headers are in the file, and the symbol tables whole
pub section_room : (items file sections : List ℕ) (header : FileHeader) → file ≡ items → sections ≡ drop header.section_offset file → is_complete items header ≡ true → 40 * header.section_count ≤ length sections
section_room items file sections header same from whole =
    table_room 40 header.section_offset header.section_count items sections (from ∙ ap (drop header.section_offset) same) (sections_within items header whole)

pub sections_are_whole : (items file sections : List ℕ) (header : FileHeader) → file ≡ items → sections ≡ drop header.section_offset file → is_complete items header ≡ true → list_all (is_whole (length file) (section_headers header.section_count sections)) (section_headers header.section_count sections) ≡ true
sections_are_whole items file sections header same from whole =
    ap (λ (l : List ℕ). list_all (is_whole (length file) (section_headers header.section_count l)) (section_headers header.section_count l)) from
    ∙ ap (λ (l : List ℕ). list_all (is_whole (length l) (section_headers header.section_count (drop header.section_offset l))) (section_headers header.section_count (drop header.section_offset l))) same
    ∙ sections_whole items header whole

-- the value of a name is that of the image
pub name_found : (image : ImageValue) (items file sections name bytes : List ℕ) (header : FileHeader) (r : Result ℕ NameRefusal) → image_with items header ≡ image → file ≡ items → sections ≡ drop header.section_offset file → bytes ≡ name → r ≡ one_value (values_of bytes (functions_of file (section_headers header.section_count sections))) → r ≡ function_of image name
name_found image items file sections name bytes header r view same from read found =
    found
    ∙ ap (λ (b : List ℕ). one_value (values_of b (functions_of file (section_headers header.section_count sections)))) read
    ∙ ap (λ (s : List ℕ). one_value (values_of name (functions_of file (section_headers header.section_count s)))) from
    ∙ ap (λ (f : List ℕ). one_value (values_of name (functions_of f (section_headers header.section_count (drop header.section_offset f))))) same
    ∙ ap (λ fs. one_value (values_of name fs)) (sym (functions_are items header))
    ∙ ap (λ (i : ImageValue). function_of i name) view
