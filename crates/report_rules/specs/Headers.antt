-- Loops that were read, and which blocks are their headers.
use Rattle.std.specs.Prelude.{ℕ, ◌==◌, if◌then◌else◌, Bool, true, false, List, [], ◌∷◌, ◌++◌}
use Rattle.report_lines.specs.declared.report.ReportLoop.{ReportLoop}
use Rattle.wsym_terms.specs.declared.bounds.Atom.{Atom}

-- rows of version 1 stand at headers of loops
abbrev pub is_header : List ReportLoop → ℕ → Bool
is_header [] block = false
is_header (l ∷ loops) block = if l.header == block then true else is_header loops block

-- a loop without atoms yet
abbrev pub new_loop : ℕ → ℕ → ReportLoop
new_loop header depth = record { header = header; depth = depth; bound = record { atoms = [] } }

-- one more atom for the last loop
abbrev pub with_atom : List ReportLoop → Atom → List ReportLoop
with_atom [] a = []
with_atom (l ∷ []) a =
    record { header = l.header; depth = l.depth; bound = record { atoms = l.bound.atoms ++ a ∷ [] } } ∷ []
with_atom (l ∷ m ∷ loops) a = l ∷ with_atom (m ∷ loops) a
