-- The text of a report, version 1 and version 2: its lines, each ended by one line feed; a line is its words with one
-- space between two.
use Rattle.std.specs.Prelude.{ℕ, ◌+◌, List, [], ◌∷◌, ◌++◌, codes, length, map}
use Rattle.std.specs.Fmt.{decimal, signed_decimal}
use Rattle.wsym_terms.specs.declared.bounds.ParamRange.{ParamRange}
use Rattle.fetch_timing.specs.declared.timing.Timing.{Timing}
use Rattle.report_lines.specs.declared.report.ReportBlock.{ReportBlock}
use Rattle.report_lines.specs.declared.report.ReportLoop.{ReportLoop}
use Rattle.report_elements.specs.Elements.{address_text, in_brackets, tree_text, term_text, coef_text, row_term_text}
use Rattle.report_lines.specs.declared.report.Fact.{Fact}
use Rattle.report_lines.specs.declared.report.Way.{Way}
use Rattle.report_lines.specs.declared.report.Way.TheVariants as way
use Rattle.report_lines.specs.declared.report.About.{About}
use Rattle.report_lines.specs.declared.report.About.TheVariants as about
use Rattle.row_elimination.specs.declared.weights.Multiplier.{Multiplier}
use Rattle.report_lines.specs.declared.report.Proof.{Proof}
use Rattle.report_lines.specs.declared.report.Report.{Report}
use Rattle.report_lines.specs.declared.report.Line.{Line}
use Rattle.report_lines.specs.declared.report.Line.TheVariants as line

-- a keyword and words, with a space before each word
abbrev pub joined : List ℕ → List (List ℕ) → List ℕ
joined key words = key ++ in_brackets words

-- K*M
abbrev pub pair_text : Multiplier → List ℕ
pair_text m = decimal m.row ++ (42 ∷ decimal m.factor)

-- start, done U I, skip U I
abbrev pub way_words : Way → List (List ℕ)
way_words way.Start = codes "start" ∷ []
way_words (way.Done block index) = codes "done" ∷ decimal block ∷ decimal index ∷ []
way_words (way.Skip block index) = codes "skip" ∷ decimal block ∷ decimal index ∷ []

-- D PAIR*
abbrev pub ending_words : Proof → List (List ℕ)
ending_words p = decimal p.divisor ∷ map pair_text p.pairs

-- step F WAY D PAIR*, low B I D PAIR*, high B I D PAIR*, turn L A WAY D PAIR*; the last kind is in no report
abbrev pub proof_key : About → List ℕ
proof_key (about.Fact number) = codes "step"
proof_key (about.Low block index) = codes "low"
proof_key (about.High block index) = codes "high"
proof_key (about.Turn id atom) = codes "turn"
proof_key (about.Closing place row) = codes "closing"

abbrev pub proof_words : Proof → About → List (List ℕ)
proof_words p (about.Fact number) = decimal number ∷ (way_words p.way ++ ending_words p)
proof_words p (about.Low block index) = decimal block ∷ decimal index ∷ ending_words p
proof_words p (about.High block index) = decimal block ∷ decimal index ∷ ending_words p
proof_words p (about.Turn id atom) = decimal id ∷ decimal atom ∷ (way_words p.way ++ ending_words p)
proof_words p (about.Closing place row) = decimal place ∷ decimal row ∷ (way_words p.way ++ ending_words p)

-- what a line of a proof says before D PAIR*
abbrev pub about_text : About → Way → List ℕ
about_text (about.Fact number) w = codes "step" ++ (32 ∷ (decimal number ++ in_brackets (way_words w)))
about_text (about.Low block index) w = codes "low" ++ (32 ∷ (decimal block ++ (32 ∷ decimal index)))
about_text (about.High block index) w = codes "high" ++ (32 ∷ (decimal block ++ (32 ∷ decimal index)))
about_text (about.Turn id atom) w =
    codes "turn" ++ (32 ∷ (decimal id ++ (32 ∷ (decimal atom ++ in_brackets (way_words w)))))
about_text (about.Closing place row) w =
    codes "closing" ++ (32 ∷ (decimal place ++ (32 ∷ (decimal row ++ in_brackets (way_words w)))))

abbrev pub timing_numbers : Timing → List ℕ
timing_numbers t = t.sets ∷ t.ways ∷ t.line ∷ t.miss ∷ t.skipped ∷ t.register ∷ t.classes

-- the words of a line after its keyword, where parameters give the names; a tree and a formula have no words
abbrev pub line_words : List ParamRange → Line → List (List ℕ)
line_words params (line.Version v) = decimal v ∷ []
line_words params (line.Function entry stack) = address_text entry ∷ codes "stack" ∷ decimal stack ∷ []
line_words params (line.Timing t) = map decimal (timing_numbers t)
line_words params (line.Param p) =
    p.name ∷ (114 ∷ decimal p.register) ∷ signed_decimal p.low ∷ signed_decimal p.high ∷ []
line_words params (line.Block i b) = decimal i ∷ address_text b.address ∷ decimal b.points ∷ map address_text b.returns
line_words params (line.Loop i header depth atoms) =
    decimal i ∷ codes "header" ∷ decimal header ∷ codes "depth" ∷ decimal depth ∷ codes "atoms" ∷ decimal atoms ∷ []
line_words params (line.Atom a) = signed_decimal a.constant ∷ signed_decimal a.divisor ∷ map (coef_text params) a.coefs
line_words params (line.Row r) =
    decimal r.block ∷ signed_decimal r.row.constant ∷ map (row_term_text params) r.row.terms
line_words params (line.Fact i q) =
    decimal i ∷ decimal q.block ∷ decimal q.index ∷ signed_decimal q.row.constant
    ∷ map (row_term_text params) q.row.terms
line_words params (line.Proof p) = proof_words p p.about
line_words params (line.Tree t) = []
line_words params (line.Formula t) = []
line_words params line.End = []

abbrev pub line_text : List ParamRange → Line → List ℕ
line_text params (line.Version v) = joined (codes "wsymb") (line_words params (line.Version v))
line_text params (line.Function entry stack) = joined (codes "function") (line_words params (line.Function entry stack))
line_text params (line.Timing t) = joined (codes "timing") (line_words params (line.Timing t))
line_text params (line.Param p) = joined (codes "param") (line_words params (line.Param p))
line_text params (line.Block i b) = joined (codes "block") (line_words params (line.Block i b))
line_text params (line.Loop i header depth atoms) =
    joined (codes "loop") (line_words params (line.Loop i header depth atoms))
line_text params (line.Atom a) = joined (codes "atom") (line_words params (line.Atom a))
line_text params (line.Row r) = joined (codes "row") (line_words params (line.Row r))
line_text params (line.Fact i q) = joined (codes "fact") (line_words params (line.Fact i q))
line_text params (line.Proof p) = joined (proof_key p.about) (line_words params (line.Proof p))
line_text params (line.Tree t) = codes "tree " ++ tree_text t
line_text params (line.Formula t) = codes "formula " ++ term_text t
line_text params line.End = codes "end"

-- blocks and facts are numbered from 0, loops from 1, each loop followed by its atoms
abbrev pub block_lines : ℕ → List ReportBlock → List Line
block_lines i [] = []
block_lines i (b ∷ blocks) = line.Block i b ∷ block_lines (i + 1) blocks

abbrev pub loop_lines : ℕ → List ReportLoop → List Line
loop_lines i [] = []
loop_lines i (l ∷ loops) =
    line.Loop i l.header l.depth (length l.bound.atoms) ∷ (map line.Atom l.bound.atoms ++ loop_lines (i + 1) loops)

abbrev pub fact_lines : ℕ → List Fact → List Line
fact_lines i [] = []
fact_lines i (q ∷ facts) = line.Fact i q ∷ fact_lines (i + 1) facts

abbrev pub lines_of : Report → List Line
lines_of r =
    line.Version r.version ∷ line.Function r.entry r.stack ∷ line.Timing r.timing ∷ (map line.Param r.params
    ++ (block_lines 0 r.blocks ++ (loop_lines 1 r.loops ++ (map line.Row r.rows
    ++ (fact_lines 0 r.facts ++ (map line.Proof r.proofs
    ++ (line.Tree r.tree ∷ line.Formula r.formula ∷ line.End ∷ [])))))))

abbrev pub lines_text : List ParamRange → List Line → List ℕ
lines_text params [] = []
lines_text params (l ∷ ls) = line_text params l ++ (10 ∷ lines_text params ls)

-- the text of a report
abbrev pub text_of : Report → List ℕ
text_of r = lines_text r.params (lines_of r)
