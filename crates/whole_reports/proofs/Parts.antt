-- The text of a report as the texts of its parts, one after another.
use Rattle.std.proofs.Common.{◌≡◌, ℕ, ◌+◌, ◌<◌, length, drop, get_or, drop-cons, add-one, List, [], ◌∷◌, ◌++◌, refl, sym, ap, ◌∙◌, append_assoc, map}
use Rattle.wsym_terms.specs.declared.bounds.ParamRange.{ParamRange}
use Rattle.report_lines.specs.declared.report.ReportBlock.{ReportBlock}
use Rattle.report_lines.specs.declared.report.ReportLoop.{ReportLoop}
use Rattle.report_lines.specs.declared.report.Proof.{Proof}
use Rattle.report_lines.specs.declared.report.Report.{Report}
use Rattle.report_lines.specs.declared.report.Line.{Line}
use Rattle.report_lines.specs.declared.report.Line.TheVariants as line
use Rattle.report_lines.specs.Grammar.{block_lines, fact_lines, line_text, lines_text, loop_lines, text_of}

pub lines_text_both : (params : List ParamRange) (xs ys : List Line) → lines_text params (xs ++ ys) ≡ lines_text params xs ++ lines_text params ys
lines_text_both params [] ys = refl
lines_text_both params (x ∷ xs) ys =
    ap (λ (rest : List ℕ). line_text params x ++ (10 ∷ rest)) (lines_text_both params xs ys)
    ∙ sym (append_assoc (line_text params x) (10 ∷ lines_text params xs) (lines_text params ys))

-- a loop's own line
abbrev pub header_line : ℕ → ReportLoop → Line
header_line i l = line.Loop i l.header l.depth (length l.bound.atoms)

-- a loop and its atoms, and then the further loops
pub loop_and_atoms : (params : List ParamRange) (i : ℕ) (l : ReportLoop) (loops : List ReportLoop) → lines_text params (loop_lines i (l ∷ loops)) ≡ line_text params (header_line i l) ++ (10 ∷ (lines_text params (map line.Atom l.bound.atoms) ++ lines_text params (loop_lines (i + 1) loops)))
loop_and_atoms params i l loops =
    ap (λ (rest : List ℕ). line_text params (header_line i l) ++ (10 ∷ rest)) (lines_text_both params (map line.Atom l.bound.atoms) (loop_lines (i + 1) loops))

-- one turn of the loop over the loops
pub loops_step : (params : List ParamRange) (all : List ReportLoop) (i : ℕ) (l : ReportLoop) (now mid fed end goal : List ℕ) → i < length all → l ≡ get_or all i l → now ++ lines_text params (loop_lines (i + 1) (drop i all)) ≡ goal → mid ≡ now ++ line_text params (header_line (i + 1) l) → fed ≡ mid ++ 10 ∷ [] → end ≡ fed ++ lines_text params (map line.Atom l.bound.atoms) → end ++ lines_text params (loop_lines (i + 1 + 1) (drop (i + 1) all)) ≡ goal
loops_step params all i l now mid fed end goal within is kept first feed atoms =
    let next : drop i all ≡ l ∷ drop (i + 1) all = rw (add-one, drop-cons all i l within, ← is) refl in
    let rest = lines_text params (loop_lines (i + 1 + 1) (drop (i + 1) all)) in
    let opened : lines_text params (loop_lines (i + 1) (drop i all)) ≡ line_text params (header_line (i + 1) l) ++ (10 ∷ (lines_text params (map line.Atom l.bound.atoms) ++ rest)) =
    ap (λ (ls : List ReportLoop). lines_text params (loop_lines (i + 1) ls)) next ∙ loop_and_atoms params (i + 1) l (drop (i + 1) all) in
    let moved : end ++ rest ≡ now ++ (line_text params (header_line (i + 1) l) ++ (10 ∷ (lines_text params (map line.Atom l.bound.atoms) ++ rest))) =
    simp (atoms, feed, first, append_assoc) in
    moved ∙ ap (λ (tail : List ℕ). now ++ tail) (sym opened) ∙ kept

-- no name of a parameter stands in the line of a parameter, a block or a proof
params_alike : (params ps : List ParamRange) → lines_text params (map line.Param ps) ≡ lines_text [] (map line.Param ps)
params_alike params [] = refl
params_alike params (p ∷ ps) = ap (λ (rest : List ℕ). line_text [] (line.Param p) ++ (10 ∷ rest)) (params_alike params ps)

blocks_alike : (params : List ParamRange) (i : ℕ) (bs : List ReportBlock) → lines_text params (block_lines i bs) ≡ lines_text [] (block_lines i bs)
blocks_alike params i [] = refl
blocks_alike params i (b ∷ bs) = ap (λ (rest : List ℕ). line_text [] (line.Block i b) ++ (10 ∷ rest)) (blocks_alike params (i + 1) bs)

proofs_alike : (params : List ParamRange) (ps : List Proof) → lines_text params (map line.Proof ps) ≡ lines_text [] (map line.Proof ps)
proofs_alike params [] = refl
proofs_alike params (p ∷ ps) = ap (λ (rest : List ℕ). line_text [] (line.Proof p) ++ (10 ∷ rest)) (proofs_alike params ps)

abbrev pub head_of : Report → List Line
head_of r = line.Version r.version ∷ line.Function r.entry r.stack ∷ line.Timing r.timing ∷ []

abbrev pub tail_of : Report → List Line
tail_of r = line.Tree r.tree ∷ line.Formula r.formula ∷ line.End ∷ []

abbrev pub sections_of : Report → List ℕ
sections_of r =
    lines_text [] (map line.Param r.params) ++ (lines_text [] (block_lines 0 r.blocks) ++ (lines_text r.params (loop_lines 1 r.loops)
    ++ (lines_text r.params (map line.Row r.rows) ++ (lines_text r.params (fact_lines 0 r.facts) ++ lines_text [] (map line.Proof r.proofs)))))

seven_parts : (params : List ParamRange) (a b c d e f g h : List Line) → lines_text params (a ++ (b ++ (c ++ (d ++ (e ++ (f ++ (g ++ h))))))) ≡ lines_text params a ++ ((lines_text params b ++ (lines_text params c ++ (lines_text params d ++ (lines_text params e ++ (lines_text params f ++ lines_text params g))))) ++ lines_text params h)
seven_parts params a b c d e f g h = simp (lines_text_both, append_assoc)

pub text_in_parts : (r : Report) → text_of r ≡ lines_text [] (head_of r) ++ (sections_of r ++ lines_text [] (tail_of r))
text_in_parts r =
    let ps = r.params in
    let loops = lines_text ps (loop_lines 1 r.loops) in
    let rows = lines_text ps (map line.Row r.rows) in
    let facts = lines_text ps (fact_lines 0 r.facts) in
    seven_parts ps (head_of r) (map line.Param ps) (block_lines 0 r.blocks) (loop_lines 1 r.loops) (map line.Row r.rows) (fact_lines 0 r.facts) (map line.Proof r.proofs) (tail_of r)
    ∙ (λ i. lines_text [] (head_of r) ++ ((params_alike ps ps i ++ (blocks_alike ps 0 r.blocks i ++ (loops ++ (rows ++ (facts ++ proofs_alike ps r.proofs i))))) ++ lines_text [] (tail_of r)))

-- three pieces after one another
pub three_pieces : (o0 o1 o2 o3 p1 p2 p3 : List ℕ) → o0 ≡ [] → o1 ≡ o0 ++ p1 → o2 ≡ o1 ++ p2 → o3 ≡ o2 ++ p3 → o3 ≡ p1 ++ (p2 ++ p3)
three_pieces o0 o1 o2 o3 p1 p2 p3 e0 e1 e2 e3 = simp (e3, e2, e1, e0, append_assoc)

-- three lines after one another
pub three_lines : (o0 o1 o2 o3 o4 o5 o6 a b c : List ℕ) → o1 ≡ o0 ++ a → o2 ≡ o1 ++ 10 ∷ [] → o3 ≡ o2 ++ b → o4 ≡ o3 ++ 10 ∷ [] → o5 ≡ o4 ++ c → o6 ≡ o5 ++ 10 ∷ [] → o6 ≡ o0 ++ (a ++ (10 ∷ (b ++ (10 ∷ (c ++ (10 ∷ []))))))
three_lines o0 o1 o2 o3 o4 o5 o6 a b c e1 e2 e3 e4 e5 e6 = simp (e6, e5, e4, e3, e2, e1, append_assoc)
