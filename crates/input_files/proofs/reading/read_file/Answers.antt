use Rattle.std.proofs.Common.{◌≡◌, arith, subst, sym, List, ℕ}
use Rattle.wsym_io.specs.Io.{IfTold, file_bytes}
use Rattle.input_files.proofs.FileLemmas.{told_long, told_short}
use Rattle.input_files.proofs.reading.read_file.Goals as goal

pub returns-then-len-gt-LONGEST-clause-refused : goal.returns-then-len-gt-LONGEST-clause-refused
returns-then-len-gt-LONGEST-clause-refused g c =
    told_long (g.F.Shelf.content c.args.shelf.now) c.args.name.now c.in-Ok.bytes.items c.in-Ok.ensures.told
    (omega (arith, c.len.ensures, c.if-len-gt-LONGEST.true))

pub returns-else-len-gt-LONGEST-clause-told : goal.returns-else-len-gt-LONGEST-clause-told
returns-else-len-gt-LONGEST-clause-told g c =
    subst (λ (bytes : List ℕ). IfTold (g.F.Shelf.content c.args.shelf.now) (λ files. bytes ≡ file_bytes files c.args.name.now)) (sym c.from_vec.ensures)
    (told_short (g.F.Shelf.content c.args.shelf.now) c.args.name.now c.in-Ok.bytes.items c.in-Ok.ensures.told
    (omega (arith, c.len.ensures, c.if-len-gt-LONGEST.false)))
