use Rattle.std.proofs.Common.{◌≡◌, ◌≤◌, ◌++◌, false, List, ℕ, drop}
use Rattle.wsym_io.specs.Io.{IfTold}
use Rattle.input_files.specs.Inputs.{bytes_of, is_any_long}
use Rattle.input_files.proofs.FileLemmas.{IsLifted}
use Rattle.input_files.proofs.reading.read_files.Given as goal

abbrev pub invariant-loop-name : goal.invariant-loop-name
invariant-loop-name g l = record {
  told : IfTold (g.F.Shelf.content l.fn.shelf) (λ shelf.
      l.files.items ++ bytes_of shelf (drop l.name-index l.names) ≡ bytes_of shelf l.names);
  short : is_any_long l.files.items ≡ false;
  content : g.F.Shelf.content l.shelf ≡ g.F.Shelf.content l.fn.shelf;
  later : (other : List ℕ) → g.F.Shelf.faults l.fn.shelf other ≤ g.F.Shelf.faults l.shelf other;
  lifted : IsLifted (g.F.Shelf.content l.fn.shelf) (g.F.Shelf.faults l.fn.shelf) (drop l.name-index l.names) l.names;
}
