-- From the bytes of a file to its image.
-- System V ABI, chapter 5, 'Program Header' and 'Program Loading'; sections are those of chapter 4.
use Rattle.std.specs.Prelude.{ℕ, zero, suc, ◌+◌, ◌*◌, ◌^◌, ◌==◌, ◌&&◌, ◌||◌, Bool, false, if◌then◌else◌, min, max, nat_le, nat_lt, List, [], ◌∷◌, length, drop, take, map, Option, None, Some, Result, Ok, Err}
use Rattle.std.specs.List.{filter, list_all, list_any}
use Rattle.elf32_image.specs.Fields.{word_field}
use Rattle.elf32_image.specs.Header.{header_of}
use Rattle.elf32_image.specs.Parts.{Segment, ImageValue}
use Rattle.elf32_image.specs.Sections.{section_headers, is_whole, functions_of}
use Rattle.elf32_image.specs.declared.format.FileHeader.{FileHeader}
use Rattle.elf32_image.specs.declared.format.ProgramHeader.{ProgramHeader}
use Rattle.elf32_image.specs.declared.format.SectionHeader.{SectionHeader}
use Rattle.elf32_image.specs.declared.refusal.ElfRefusal.{ElfRefusal}
use Rattle.elf32_image.specs.declared.refusal.ElfRefusal.TheVariants.{NotElf32Arm, Truncated, SegmentsOverlap}

-- the program header at the head of the bytes
abbrev pub program_header : List ℕ → ProgramHeader
program_header bytes = record {
  p_type = word_field bytes 0;
  p_offset = word_field bytes 4;
  p_vaddr = word_field bytes 8;
  p_filesz = word_field bytes 16;
  p_memsz = word_field bytes 20;
  p_flags = word_field bytes 24;
}

-- n program headers of 32 bytes, one after the other
abbrev pub program_headers : ℕ → List ℕ → List ProgramHeader
program_headers zero table = []
program_headers (suc count) table = program_header table ∷ program_headers count (drop 32 table)

-- the header is of a segment that is loaded (PT_LOAD) and takes memory
abbrev pub is_loaded : ProgramHeader → Bool
is_loaded header = header.p_type == 1 && nat_lt 0 header.p_memsz

-- the segment's bytes are the file's and fit the segment, and the segment fits the memory
abbrev pub is_within : ℕ → ProgramHeader → Bool
is_within file_size header =
    nat_le (header.p_offset + header.p_filesz) file_size
    && nat_le header.p_filesz header.p_memsz
    && nat_le (header.p_vaddr + header.p_memsz) (2 ^ 32)

-- what a header loads: its address, its bytes from the file, its size in memory and its flags
abbrev pub segment_of : List ℕ → ProgramHeader → Segment
segment_of file header = record {
  address = header.p_vaddr;
  bytes = take header.p_filesz (drop header.p_offset file);
  size = header.p_memsz;
  flags = header.p_flags;
}

-- the program headers of the loaded segments of a file with this header
abbrev pub loaded_headers : List ℕ → FileHeader → List ProgramHeader
loaded_headers file header = filter is_loaded (program_headers header.program_count (drop header.program_offset file))

-- the section headers of a file with this header
abbrev pub sections_of : List ℕ → FileHeader → List SectionHeader
sections_of file header = section_headers header.section_count (drop header.section_offset file)

-- a table of n entries of a size is empty or ends within the file
abbrev pub table_is_within : ℕ → ℕ → ℕ → ℕ → Bool
table_is_within file_size entry_size offset count = count == 0 || nat_le (offset + entry_size * count) file_size

-- all that is read of a file with this header is within the file and the memory
unfoldable pub is_complete : List ℕ → FileHeader → Bool
is_complete file header =
    table_is_within (length file) 32 header.program_offset header.program_count
    && table_is_within (length file) 40 header.section_offset header.section_count
    && list_all (is_within (length file)) (loaded_headers file header)
    && list_all (is_whole (length file) (sections_of file header)) (sections_of file header)

-- the two share an address: the greater of their first addresses lies before the end of both
abbrev pub overlaps : Segment → Segment → Bool
overlaps a b = nat_lt (max a.address b.address) (min (a.address + a.size) (b.address + b.size))

-- two of the segments share an address
abbrev pub has_overlap : List Segment → Bool
has_overlap [] = false
has_overlap (segment ∷ segments) = list_any (overlaps segment) segments || has_overlap segments

-- the image that a file with this header gives
unfoldable pub image_with : List ℕ → FileHeader → ImageValue
image_with file header = record {
  segments = map (segment_of file) (loaded_headers file header);
  functions = functions_of file (sections_of file header);
}

-- the image of a file with this header, or why it has none
abbrev pub image_under : List ℕ → Option FileHeader → Result ImageValue ElfRefusal
image_under file None = Err NotElf32Arm
image_under file (Some header) =
    if is_complete file header
    then (if has_overlap (image_with file header).segments then Err SegmentsOverlap else Ok (image_with file header))
    else Err Truncated

-- the image of a file, or why it has none
abbrev pub image_of : List ℕ → Result ImageValue ElfRefusal
image_of file = image_under file (header_of file)
