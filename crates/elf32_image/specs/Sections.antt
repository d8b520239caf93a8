-- Section headers, symbol tables and string tables.
-- System V ABI, chapter 4, 'Sections', 'String Table' and 'Symbol Table'.
use Rattle.std.specs.Prelude.{ℕ, zero, suc, ◌+◌, ◌/◌, ◌%◌, ◌==◌, ◌&&◌, ◌||◌, Bool, false, not, if◌then◌else◌, nat_le, List, [], ◌∷◌, drop, take, map, slice_get, Option, None, Some}
use Rattle.std.specs.List.{filter, flat_map}
use Rattle.elf32_image.specs.Fields.{byte_field, half_field, word_field}
use Rattle.elf32_image.specs.Parts.{FunctionSymbol}
use Rattle.elf32_image.specs.declared.format.SectionHeader.{SectionHeader}
use Rattle.elf32_image.specs.declared.format.Symbol.{Symbol}

-- the section header at the head of the bytes
abbrev pub section_header : List ℕ → SectionHeader
section_header bytes = record {
  sh_type = word_field bytes 4;
  sh_offset = word_field bytes 16;
  sh_size = word_field bytes 20;
  sh_link = word_field bytes 24;
}

-- n section headers of 40 bytes, one after the other
abbrev pub section_headers : ℕ → List ℕ → List SectionHeader
section_headers zero table = []
section_headers (suc count) table = section_header table ∷ section_headers count (drop 40 table)

-- the section is a symbol table (SHT_SYMTAB)
abbrev pub is_symbol_table : SectionHeader → Bool
is_symbol_table section = section.sh_type == 2

-- the symbols of a symbol table; they have 16 bytes, and what is left of it after the last is none
abbrev pub symbol_count : SectionHeader → ℕ
symbol_count section = section.sh_size / 16

-- a table of n entries has none, or ends within the file
abbrev pub ends_within : ℕ → ℕ → SectionHeader → Bool
ends_within file_size entries section = entries == 0 || nat_le (section.sh_offset + section.sh_size) file_size

-- there is such a section, and it is empty or ends within the file
abbrev pub is_there : ℕ → Option SectionHeader → Bool
is_there file_size None = false
is_there file_size (Some section) = ends_within file_size section.sh_size section

-- the section is no symbol table; or it and the section that its sh_link names end within the file
abbrev pub is_whole : ℕ → List SectionHeader → SectionHeader → Bool
is_whole file_size sections section =
    not (is_symbol_table section)
    || (ends_within file_size (symbol_count section) section && is_there file_size (slice_get sections section.sh_link))

-- the bytes of a section in the file
abbrev pub bytes_of : List ℕ → Option SectionHeader → List ℕ
bytes_of file None = []
bytes_of file (Some section) = take section.sh_size (drop section.sh_offset file)

-- the symbol at the head of the bytes
abbrev pub symbol_at : List ℕ → Symbol
symbol_at bytes = record {
  st_name = word_field bytes 0;
  st_value = word_field bytes 4;
  st_info = byte_field bytes 12;
  st_shndx = half_field bytes 14;
}

-- n symbols of 16 bytes, one after the other
abbrev pub symbols : ℕ → List ℕ → List Symbol
symbols zero table = []
symbols (suc count) table = symbol_at table ∷ symbols count (drop 16 table)

-- the symbol is of a function (STT_FUNC) and defined (its section is not SHN_UNDEF)
abbrev pub is_function : Symbol → Bool
is_function symbol = symbol.st_info % 16 == 2 && not (symbol.st_shndx == 0)

-- the bytes before the first zero byte
abbrev pub until_zero : List ℕ → List ℕ
until_zero [] = []
until_zero (byte ∷ bytes) = if byte == 0 then [] else byte ∷ until_zero bytes

-- a symbol with its name in the string table
abbrev pub named_in : List ℕ → Symbol → FunctionSymbol
named_in strings symbol = record { name = until_zero (drop symbol.st_name strings); value = symbol.st_value }

-- the function symbols among n symbols, with their names in the string table
abbrev pub functions_among : List ℕ → ℕ → List ℕ → List FunctionSymbol
functions_among strings count table = map (named_in strings) (filter is_function (symbols count table))

-- the function symbols of a symbol table, none of another section
abbrev pub functions_in : List ℕ → List SectionHeader → SectionHeader → List FunctionSymbol
functions_in file sections section =
    if is_symbol_table section
    then functions_among (bytes_of file (slice_get sections section.sh_link)) (symbol_count section) (drop section.sh_offset file)
    else []

-- the function symbols of a file with these sections
abbrev pub functions_of : List ℕ → List SectionHeader → List FunctionSymbol
functions_of file sections = flat_map (functions_in file sections) sections
