use Rattle.std.proofs.Common.{ap, ◌∙◌, map, length, ◌+◌, ◌++◌, string_bytes, List}
use Rattle.report_lines.specs.Grammar.{line_text, lines_text}
use Rattle.report_lines.specs.declared.report.Line.TheVariants as line
use Rattle.wsym_terms.specs.declared.bounds.Atom.{Atom}
use Rattle.whole_reports.proofs.Parts.{loops_step}
use Rattle.whole_reports.proofs.writing.push_loops.Goals as goal

pub loop-place-preserved : goal.loop-place-preserved
loop-place-preserved c =
    let params = c.args.params.now in
    let l = c.index-loops-place.result in
    let atoms = c.in_ok-push_atoms.ensures ∙ ap (λ (atoms : List Atom). string_bytes c.end_line.new.out ++ lines_text params (map line.Atom atoms)) c.as_slice-atoms.ensures in
    let first = c.in_ok-push_loop.ensures ∙ ap (λ (atoms : List Atom). string_bytes c.loop-place.out ++ line_text params (line.Loop (c.loop-place.place + 1) l.header l.depth (length atoms))) c.as_slice-atoms.ensures in
    loops_step params c.args.loops.now c.loop-place.place l (string_bytes c.loop-place.out) (string_bytes c.push_loop.new.out) (string_bytes c.end_line.new.out) (string_bytes c.push_atoms.new.out) _ c.loop-place-test.true c.index-loops-place.is c.loop-place.invariant first c.in_ok-end_line.ensures atoms
