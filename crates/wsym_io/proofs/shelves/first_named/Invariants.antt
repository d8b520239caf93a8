use Rattle.std.proofs.Common.{◌≡◌, drop}
use Rattle.wsym_io.specs.Io.{file_bytes, has_file}
use Rattle.wsym_io.specs.Files.{files_of}
use Rattle.wsym_io.proofs.shelves.first_named.Given as goal

-- what the files that are left say is what all of them say
abbrev pub invariant-loop-file : goal.invariant-loop-file
invariant-loop-file l = record {
  bytes : file_bytes (files_of (drop l.file-index l.files)) l.name ≡ file_bytes (files_of l.files) l.name;
  there : has_file (files_of (drop l.file-index l.files)) l.name ≡ has_file (files_of l.files) l.name;
}
