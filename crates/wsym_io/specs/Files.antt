-- The files that a list of `ShelfFile` stands for.
use Rattle.std.specs.Prelude.{List, map}
use Rattle.std.specs.String.{string_bytes}
use Rattle.wsym_io.specs.Io.{File}
use Rattle.wsym_io.specs.declared.shelves.ShelfFile.{ShelfFile}

abbrev pub file_of : ShelfFile → File
file_of file = record { name = string_bytes file.name; bytes = file.bytes.items }

abbrev pub files_of : List ShelfFile → List File
files_of files = map file_of files
