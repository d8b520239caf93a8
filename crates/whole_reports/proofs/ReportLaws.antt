-- The whole report: what was read, the lines that it stands for, and their text.
use Rattle.std.proofs.Common.{nat_lt, ◌<◌, ℕ, ◌+◌, ◌-◌, ◌≡◌, ◌&&◌, ◌==◌, Bool, true, false, List, [], ◌∷◌, ◌++◌, Option, Some, None, Result, Ok, Err, refl, sym, ap, ◌∙◌, append_assoc, append-nil, length, map, if◌then◌else◌, arith}
use Rattle.std.proofs.lemmas.Bool.{eqb-true}
use Rattle.wsym_terms.specs.declared.bounds.ParamRange.{ParamRange}
use Rattle.wsym_terms.specs.declared.bounds.Atom.{Atom}
use Rattle.fetch_timing.specs.declared.timing.Timing.{Timing}
use Rattle.wsym_terms.specs.declared.trees.Tree.{Tree}
use Rattle.wsym_formula.specs.declared.terms.Term.{Term}
use Rattle.report_lines.specs.declared.report.ReportBlock.{ReportBlock}
use Rattle.report_lines.specs.declared.report.ReportLoop.{ReportLoop}
use Rattle.report_lines.specs.declared.report.ReportRow.{ReportRow}
use Rattle.report_lines.specs.declared.report.Fact.{Fact}
use Rattle.report_lines.specs.declared.report.Proof.{Proof}
use Rattle.report_rules.specs.declared.forms.Function.{Function}
use Rattle.report_rules.specs.declared.forms.Form.{Form}
use Rattle.report_lines.specs.declared.report.Report.{Report}
use Rattle.report_lines.specs.declared.report.Line.{Line}
use Rattle.report_lines.specs.declared.report.Line.TheVariants as line
use Rattle.whole_reports.specs.Walk.{IsFirstBad}
use Rattle.report_rules.specs.Steps.{all_may, final as final_of, spelled as spelled_of}
use Rattle.report_lines.specs.Grammar.{block_lines, fact_lines, line_text, lines_of, lines_text, loop_lines, text_of}
use Rattle.whole_reports.specs.Reports.{done, done_with, is_well_formed, read_line, report_of, whole}
use Rattle.report_rules.specs.Following.{after, atom_ok, block_ok, fact_ok, has, holds, is_level, loop_ok, may, names_text, no_blocks, no_facts, no_formula, no_function, no_loops, no_params, no_proofs, no_rows, no_timing, no_tree, put, start, u32_ok}
use Rattle.report_rules.specs.Headers.{with_atom}
use Rattle.whole_reports.proofs.WalkLaws.{walk_bad, walk_bad_only, walk_found, walk_only}
use Rattle.whole_reports.proofs.StepLaws.{both, final_both, spelled_both, spells_all, spells_is}
use Rattle.whole_reports.proofs.KindLaws.{lt_is, split3, split4, split6}
use Rattle.whole_reports.proofs.OtherLaws.{exact, no_feed, reads}

abbrev final : Form → List Line → Form
final = final_of names_text may put

abbrev spelled : Form → List Line → List ℕ
spelled = spelled_of names_text may put

-- what was read after the lines of each section

final_params : (ps : List ParamRange) (f : Form) → final f (map line.Param ps) ≡ record f { params = f.params ++ ps }
final_params [] f = ap (λ (xs : List ParamRange). record f { params = xs }) (sym (append-nil f.params))
final_params (p ∷ ps) f = final_params ps (put f (line.Param p)) ∙ ap (λ (xs : List ParamRange). record f { params = xs }) (append_assoc f.params (p ∷ []) ps)

final_blocks : (bs : List ReportBlock) (i : ℕ) (f : Form) → final f (block_lines i bs) ≡ record f { blocks = f.blocks ++ bs }
final_blocks [] i f = ap (λ (xs : List ReportBlock). record f { blocks = xs }) (sym (append-nil f.blocks))
final_blocks (b ∷ bs) i f = final_blocks bs (i + 1) (put f (line.Block i b)) ∙ ap (λ (xs : List ReportBlock). record f { blocks = xs }) (append_assoc f.blocks (b ∷ []) bs)

final_rows : (rs : List ReportRow) (f : Form) → final f (map line.Row rs) ≡ record f { rows = f.rows ++ rs }
final_rows [] f = ap (λ (xs : List ReportRow). record f { rows = xs }) (sym (append-nil f.rows))
final_rows (r ∷ rs) f = final_rows rs (put f (line.Row r)) ∙ ap (λ (xs : List ReportRow). record f { rows = xs }) (append_assoc f.rows (r ∷ []) rs)

final_facts : (qs : List Fact) (i : ℕ) (f : Form) → final f (fact_lines i qs) ≡ record f { facts = f.facts ++ qs }
final_facts [] i f = ap (λ (xs : List Fact). record f { facts = xs }) (sym (append-nil f.facts))
final_facts (q ∷ qs) i f = final_facts qs (i + 1) (put f (line.Fact i q)) ∙ ap (λ (xs : List Fact). record f { facts = xs }) (append_assoc f.facts (q ∷ []) qs)

final_proofs : (ps : List Proof) (f : Form) → final f (map line.Proof ps) ≡ record f { proofs = f.proofs ++ ps }
final_proofs [] f = ap (λ (xs : List Proof). record f { proofs = xs }) (sym (append-nil f.proofs))
final_proofs (p ∷ ps) f = final_proofs ps (put f (line.Proof p)) ∙ ap (λ (xs : List Proof). record f { proofs = xs }) (append_assoc f.proofs (p ∷ []) ps)

abbrev with_atoms : ReportLoop → List Atom → ReportLoop
with_atoms l atoms = record { header = l.header; depth = l.depth; bound = record { atoms = l.bound.atoms ++ atoms } }

last_with : (front : List ReportLoop) (l : ReportLoop) (a : Atom) → with_atom (front ++ l ∷ []) a ≡ front ++ with_atoms l (a ∷ []) ∷ []
last_with [] l a = refl
last_with (x ∷ []) l a = refl
last_with (x ∷ y ∷ front) l a = ap (λ (ls : List ReportLoop). x ∷ ls) (last_with (y ∷ front) l a)

less_one : (n : ℕ) → (n + 1) - 1 ≡ n
less_one n = omega arith

final_atoms : (atoms : List Atom) (f : Form) (front : List ReportLoop) (l : ReportLoop) → f.loops ≡ front ++ l ∷ [] → f.owed ≡ length atoms → final f (map line.Atom atoms) ≡ record f { loops = front ++ with_atoms l atoms ∷ []; owed = 0 }
final_atoms [] f front l is owed =
    (λ i. record f { loops = is i; owed = owed i }) ∙ ap (λ (xs : List Atom). record f { loops = front ++ record { header = l.header; depth = l.depth; bound = record { atoms = xs } } ∷ []; owed = 0 }) (sym (append-nil l.bound.atoms))
final_atoms (a ∷ atoms) f front l is owed =
    let next : f.owed - 1 ≡ length atoms = omega (arith, owed) in
    final_atoms atoms (put f (line.Atom a)) front (with_atoms l (a ∷ [])) (ap (λ (ls : List ReportLoop). with_atom ls a) is ∙ last_with front l a) next
    ∙ ap (λ (xs : List Atom). record f { loops = front ++ record { header = l.header; depth = l.depth; bound = record { atoms = xs } } ∷ []; owed = 0 }) (append_assoc l.bound.atoms (a ∷ []) atoms)

final_loops : (ls : List ReportLoop) (i : ℕ) (f : Form) → f.owed ≡ 0 → final f (loop_lines i ls) ≡ record f { loops = f.loops ++ ls; owed = 0 }
final_loops [] i f owed = (λ k. record f { loops = sym (append-nil f.loops) k; owed = owed k })
final_loops (l ∷ ls) i f owed =
    let opened = put f (line.Loop i l.header l.depth (length l.bound.atoms)) in
    final_both names_text may put (map line.Atom l.bound.atoms) (loop_lines (i + 1) ls) opened
    ∙ ap (λ (g : Form). final g (loop_lines (i + 1) ls)) (final_atoms l.bound.atoms opened f.loops (record { header = l.header; depth = l.depth; bound = record { atoms = [] } }) refl refl)
    ∙ final_loops ls (i + 1) (record f { loops = f.loops ++ l ∷ []; owed = 0 }) refl
    ∙ ap (λ (xs : List ReportLoop). record f { loops = xs; owed = 0 }) (append_assoc f.loops (l ∷ []) ls)

abbrev ending : Report → List Line
ending r = line.Tree r.tree ∷ line.Formula r.formula ∷ line.End ∷ []

abbrev behind_params : Report → List Line
behind_params r = block_lines 0 r.blocks ++ (loop_lines 1 r.loops ++ (map line.Row r.rows ++ (fact_lines 0 r.facts ++ (map line.Proof r.proofs ++ ending r))))

abbrev headed : Report → Form
headed r = record start { version = Some r.version; function = Some (record { entry = r.entry; stack = r.stack }); timing = Some r.timing }

pub final_report : (r : Report) → final start (lines_of r) ≡ whole r
final_report r =
    let f1 = record (headed r) { params = r.params } in
    let f2 = record f1 { blocks = r.blocks } in
    let f3 = record f2 { loops = r.loops; owed = 0 } in
    let f4 = record f3 { rows = r.rows } in
    let f5 = record f4 { facts = r.facts } in
    let f6 = record f5 { proofs = r.proofs } in
    let t5 = map line.Proof r.proofs ++ ending r in
    let t4 = fact_lines 0 r.facts ++ t5 in
    let t3 = map line.Row r.rows ++ t4 in
    let t2 = loop_lines 1 r.loops ++ t3 in
    let t1 = block_lines 0 r.blocks ++ t2 in
    final_both names_text may put (map line.Param r.params) t1 (headed r)
    ∙ ap (λ (g : Form). final g t1) (final_params r.params (headed r))
    ∙ final_both names_text may put (block_lines 0 r.blocks) t2 f1
    ∙ ap (λ (g : Form). final g t2) (final_blocks r.blocks 0 f1)
    ∙ final_both names_text may put (loop_lines 1 r.loops) t3 f2
    ∙ ap (λ (g : Form). final g t3) (final_loops r.loops 1 f2 refl)
    ∙ final_both names_text may put (map line.Row r.rows) t4 f3
    ∙ ap (λ (g : Form). final g t4) (final_rows r.rows f3)
    ∙ final_both names_text may put (fact_lines 0 r.facts) t5 f4
    ∙ ap (λ (g : Form). final g t5) (final_facts r.facts 0 f4)
    ∙ final_both names_text may put (map line.Proof r.proofs) (ending r) f5
    ∙ ap (λ (g : Form). final g (ending r)) (final_proofs r.proofs f5)

-- the text: only parameters change the names
abbrev is_other : Line → Bool
is_other (line.Param p) = false
is_other _ = true

abbrev others : List Line → Bool
others [] = true
others (l ∷ ls) = is_other l && others ls

others_both : (xs ys : List Line) → others xs ≡ true → others ys ≡ true → others (xs ++ ys) ≡ true
others_both [] ys x y = y
others_both (l ∷ xs) ys x y = let p = both (is_other l) (others xs) x in (λ i. p.0 i && others_both xs ys p.1 y i)

params_stay : (f : Form) (l : Line) → is_other l ≡ true → (put f l).params ≡ f.params
params_stay f (line.Version v) e = refl
params_stay f (line.Function a s) e = refl
params_stay f (line.Timing t) e = refl
params_stay f (line.Param p) e = absurd (cc)
params_stay f (line.Block i b) e = refl
params_stay f (line.Loop i h d a) e = refl
params_stay f (line.Atom a) e = refl
params_stay f (line.Row r) e = refl
params_stay f (line.Fact i q) e = refl
params_stay f (line.Proof p) e = refl
params_stay f (line.Tree t) e = refl
params_stay f (line.Formula t) e = refl
params_stay f line.End e = refl

spelled_others : (ls : List Line) (f : Form) → others ls ≡ true → spelled f ls ≡ lines_text f.params ls
spelled_others [] f e = refl
spelled_others (l ∷ ls) f e =
    let p = both (is_other l) (others ls) e in
    ap (λ (bs : List ℕ). line_text f.params l ++ (10 ∷ bs)) (spelled_others ls (put f l) p.1 ∙ ap (λ (ps : List ParamRange). lines_text ps ls) (params_stay f l p.0))

spelled_params : (ps : List ParamRange) (f : Form) (params : List ParamRange) → spelled f (map line.Param ps) ≡ lines_text params (map line.Param ps)
spelled_params [] f params = refl
spelled_params (p ∷ ps) f params = ap (λ (bs : List ℕ). line_text params (line.Param p) ++ (10 ∷ bs)) (spelled_params ps (put f (line.Param p)) params)

lines_text_both : (params : List ParamRange) (xs ys : List Line) → lines_text params (xs ++ ys) ≡ lines_text params xs ++ lines_text params ys
lines_text_both params [] ys = refl
lines_text_both params (x ∷ xs) ys =
    ap (λ (rest : List ℕ). line_text params x ++ (10 ∷ rest)) (lines_text_both params xs ys)
    ∙ sym (append_assoc (line_text params x) (10 ∷ lines_text params xs) (lines_text params ys))

others_blocks : (bs : List ReportBlock) (i : ℕ) → others (block_lines i bs) ≡ true
others_blocks [] i = refl
others_blocks (b ∷ bs) i = others_blocks bs (i + 1)

others_atoms : (atoms : List Atom) → others (map line.Atom atoms) ≡ true
others_atoms [] = refl
others_atoms (a ∷ atoms) = others_atoms atoms

others_loops : (ls : List ReportLoop) (i : ℕ) → others (loop_lines i ls) ≡ true
others_loops [] i = refl
others_loops (l ∷ ls) i = others_both (map line.Atom l.bound.atoms) (loop_lines (i + 1) ls) (others_atoms l.bound.atoms) (others_loops ls (i + 1))

others_rows : (rs : List ReportRow) → others (map line.Row rs) ≡ true
others_rows [] = refl
others_rows (r ∷ rs) = others_rows rs

others_facts : (qs : List Fact) (i : ℕ) → others (fact_lines i qs) ≡ true
others_facts [] i = refl
others_facts (q ∷ qs) i = others_facts qs (i + 1)

others_proofs : (ps : List Proof) → others (map line.Proof ps) ≡ true
others_proofs [] = refl
others_proofs (p ∷ ps) = others_proofs ps

others_behind : (r : Report) → others (behind_params r) ≡ true
others_behind r =
    others_both (block_lines 0 r.blocks) _ (others_blocks r.blocks 0)
    (others_both (loop_lines 1 r.loops) _ (others_loops r.loops 1)
    (others_both (map line.Row r.rows) _ (others_rows r.rows)
    (others_both (fact_lines 0 r.facts) _ (others_facts r.facts 0)
    (others_both (map line.Proof r.proofs) (ending r) (others_proofs r.proofs) refl))))

pub spelled_report : (r : Report) → spelled start (lines_of r) ≡ text_of r
spelled_report r =
    let head = λ (rest : List ℕ). line_text r.params (line.Version r.version) ++ (10 ∷ (line_text r.params (line.Function r.entry r.stack) ++ (10 ∷ (line_text r.params (line.Timing r.timing) ++ (10 ∷ rest))))) in
    let ps = map line.Param r.params in
    ap head (
    spelled_both names_text may put ps (behind_params r) (headed r)
    ∙ (λ i. spelled_params r.params (headed r) r.params i ++ spelled (final_params r.params (headed r) i) (behind_params r))
    ∙ ap (λ (bs : List ℕ). lines_text r.params ps ++ bs) (spelled_others (behind_params r) (record (headed r) { params = r.params }) (others_behind r))
    ∙ sym (lines_text_both r.params ps (behind_params r)))

-- a report that is well formed is read
pub report_only : (r : Report) → is_well_formed r ≡ true → report_of (text_of r) ≡ Ok r
report_only r fit =
    let s = spells_all names_text may put (lines_of r) start fit in
    ap report_of (sym (spelled_report r))
    ∙ walk_only read_line after done names_text reads no_feed (lines_of r) 1 start (final start (lines_of r)) (spelled start (lines_of r)) r s (ap done (final_report r))

pub report_bad : (bytes : List ℕ) (k : ℕ) → report_of bytes ≡ Err k → IsFirstBad names_text after done start bytes k
report_bad bytes k e = walk_bad read_line after done names_text exact reads no_feed bytes 1 [] start k tt e

pub report_bad_only : (bytes : List ℕ) (k : ℕ) → IsFirstBad names_text after done start bytes k → report_of bytes ≡ Err k
report_bad_only bytes k (ls, g, front, rest, s, is, at, none, fin) =
    ap report_of is
    ∙ walk_bad_only read_line after done names_text exact reads no_feed ls 1 start g front rest s none fin
    ∙ ap Err (sym at)

-- the lines that stand for what was read

abbrev one : {A : Type 0} → (A → Line) → Option A → List Line
one f None = []
one f (Some a) = f a ∷ []

abbrev open_lines : ℕ → ℕ → List ReportLoop → List Line
open_lines owed i [] = []
open_lines owed i (l ∷ []) = line.Loop i l.header l.depth (length l.bound.atoms + owed) ∷ map line.Atom l.bound.atoms
open_lines owed i (l ∷ m ∷ loops) = line.Loop i l.header l.depth (length l.bound.atoms) ∷ (map line.Atom l.bound.atoms ++ open_lines owed (i + 1) (m ∷ loops))

abbrev from_end : Form → List Line
from_end f = if f.ended then line.End ∷ [] else []

abbrev from_formula : Form → List Line
from_formula f = one line.Formula f.formula ++ from_end f

abbrev from_tree : Form → List Line
from_tree f = one line.Tree f.tree ++ from_formula f

abbrev from_proofs : Form → List Line
from_proofs f = map line.Proof f.proofs ++ from_tree f

abbrev from_facts : Form → List Line
from_facts f = fact_lines 0 f.facts ++ from_proofs f

abbrev from_rows : Form → List Line
from_rows f = map line.Row f.rows ++ from_facts f

abbrev from_loops : Form → List Line
from_loops f = open_lines f.owed 1 f.loops ++ from_rows f

abbrev from_blocks : Form → List Line
from_blocks f = block_lines 0 f.blocks ++ from_loops f

abbrev from_params : Form → List Line
from_params f = map line.Param f.params ++ from_blocks f

abbrev from_timing : Form → List Line
from_timing f = one line.Timing f.timing ++ from_params f

abbrev from_function : Form → List Line
from_function f = one (λ (g : Function). line.Function g.entry g.stack) f.function ++ from_timing f

abbrev so_far : Form → List Line
so_far f = one line.Version f.version ++ from_function f

if_not : (a b : Bool) → (if a then false else b) ≡ true → (a ≡ false) × (b ≡ true)
if_not true b e = absurd (cc)
if_not false b e = (refl, e)

empty_one : {A : Type 0} (f : A → Line) (o : Option A) → has o ≡ false → one f o ≡ []
empty_one f None e = refl
empty_one f (Some a) e = absurd (cc)

empty_list : {A : Type 0} (xs : List A) → holds xs ≡ false → xs ≡ []
empty_list [] e = refl
empty_list (x ∷ xs) e = absurd (cc)

none_end : (b : Bool) → (if b then false else true) ≡ true → (if b then line.End ∷ [] else []) ≡ []
none_end true e = absurd (cc)
none_end false e = refl

nothing : (xs ys : List Line) → xs ≡ [] → ys ≡ [] → xs ++ ys ≡ []
nothing xs ys x y = λ i. x i ++ y i

none_formula : (f : Form) → no_formula f ≡ true → from_formula f ≡ []
none_formula f e = let p = if_not (has f.formula) _ e in nothing (one line.Formula f.formula) (from_end f) (empty_one line.Formula f.formula p.0) (none_end f.ended p.1)

none_tree : (f : Form) → no_tree f ≡ true → from_tree f ≡ []
none_tree f e = let p = if_not (has f.tree) _ e in nothing (one line.Tree f.tree) (from_formula f) (empty_one line.Tree f.tree p.0) (none_formula f p.1)

none_proofs : (f : Form) → no_proofs f ≡ true → from_proofs f ≡ []
none_proofs f e = let p = if_not (holds f.proofs) _ e in nothing (map line.Proof f.proofs) (from_tree f) (ap (map line.Proof) (empty_list f.proofs p.0)) (none_tree f p.1)

none_facts : (f : Form) → no_facts f ≡ true → from_facts f ≡ []
none_facts f e = let p = if_not (holds f.facts) _ e in nothing (fact_lines 0 f.facts) (from_proofs f) (ap (fact_lines 0) (empty_list f.facts p.0)) (none_proofs f p.1)

none_rows : (f : Form) → no_rows f ≡ true → from_rows f ≡ []
none_rows f e = let p = if_not (holds f.rows) _ e in nothing (map line.Row f.rows) (from_facts f) (ap (map line.Row) (empty_list f.rows p.0)) (none_facts f p.1)

none_loops : (f : Form) → no_loops f ≡ true → from_loops f ≡ []
none_loops f e = let p = if_not (holds f.loops) _ e in nothing (open_lines f.owed 1 f.loops) (from_rows f) (ap (open_lines f.owed 1) (empty_list f.loops p.0)) (none_rows f p.1)

none_blocks : (f : Form) → no_blocks f ≡ true → from_blocks f ≡ []
none_blocks f e = let p = if_not (holds f.blocks) _ e in nothing (block_lines 0 f.blocks) (from_loops f) (ap (block_lines 0) (empty_list f.blocks p.0)) (none_loops f p.1)

none_params : (f : Form) → no_params f ≡ true → from_params f ≡ []
none_params f e = let p = if_not (holds f.params) _ e in nothing (map line.Param f.params) (from_blocks f) (ap (map line.Param) (empty_list f.params p.0)) (none_blocks f p.1)

none_timing : (f : Form) → no_timing f ≡ true → from_timing f ≡ []
none_timing f e = let p = if_not (has f.timing) _ e in nothing (one line.Timing f.timing) (from_params f) (empty_one line.Timing f.timing p.0) (none_params f p.1)

none_function : (f : Form) → no_function f ≡ true → from_function f ≡ []
none_function f e = let p = if_not (has f.function) _ e in nothing (one (λ (g : Function). line.Function g.entry g.stack) f.function) (from_timing f) (empty_one (λ (g : Function). line.Function g.entry g.stack) f.function p.0) (none_timing f p.1)

-- a section gets one line more, and after it nothing stands
grown : (xs new tail : List Line) (l : Line) → new ≡ xs ++ l ∷ [] → tail ≡ [] → new ++ tail ≡ (xs ++ tail) ++ l ∷ []
grown xs new tail l is none =
    (λ i. is i ++ none i) ∙ append-nil (xs ++ l ∷ []) ∙ ap (λ (ys : List Line). ys ++ l ∷ []) (sym (append-nil xs) ∙ (λ i. xs ++ sym none i))

-- a line more in what stands after
further : (xs ys zs : List Line) (l : Line) → ys ≡ zs ++ l ∷ [] → xs ++ ys ≡ (xs ++ zs) ++ l ∷ []
further xs ys zs l is = ap (λ (vs : List Line). xs ++ vs) is ∙ sym (append_assoc xs zs (l ∷ []))

first_one : {A : Type 0} (f : A → Line) (o : Option A) (a : A) → has o ≡ false → one f (Some a) ≡ one f o ++ f a ∷ []
first_one f None a e = refl
first_one f (Some b) a e = absurd (cc)

map_more : {A : Type 0} (f : A → Line) (xs : List A) (x : A) → map f (xs ++ x ∷ []) ≡ map f xs ++ f x ∷ []
map_more f [] x = refl
map_more f (y ∷ xs) x = ap (λ (ls : List Line). f y ∷ ls) (map_more f xs x)

blocks_more : (bs : List ReportBlock) (i n : ℕ) (b : ReportBlock) → n ≡ i + length bs → block_lines i (bs ++ b ∷ []) ≡ block_lines i bs ++ line.Block n b ∷ []
blocks_more [] i n b e = let is : i ≡ n = omega (arith, e) in ap (λ (k : ℕ). line.Block k b ∷ []) is
blocks_more (c ∷ bs) i n b e = ap (λ (ls : List Line). line.Block i c ∷ ls) (blocks_more bs (i + 1) n b (omega (arith, e)))

facts_more : (qs : List Fact) (i n : ℕ) (q : Fact) → n ≡ i + length qs → fact_lines i (qs ++ q ∷ []) ≡ fact_lines i qs ++ line.Fact n q ∷ []
facts_more [] i n q e = let is : i ≡ n = omega (arith, e) in ap (λ (k : ℕ). line.Fact k q ∷ []) is
facts_more (c ∷ qs) i n q e = ap (λ (ls : List Line). line.Fact i c ∷ ls) (facts_more qs (i + 1) n q (omega (arith, e)))

loops_more : (ls : List ReportLoop) (i n header depth atoms : ℕ) → n ≡ i + length ls → open_lines atoms i (ls ++ record { header = header; depth = depth; bound = record { atoms = [] } } ∷ []) ≡ open_lines 0 i ls ++ line.Loop n header depth atoms ∷ []
loops_more [] i n h d a e = let is : i ≡ n = omega (arith, e) in let z : 0 + a ≡ a = omega arith in (λ k. line.Loop (is k) h d (z k) ∷ [])
loops_more (l ∷ []) i n h d a e =
    let is : i + 1 ≡ n = omega (arith, e) in
    let same : length l.bound.atoms ≡ length l.bound.atoms + 0 = omega arith in
    let z : 0 + a ≡ a = omega arith in
    (λ k. line.Loop i l.header l.depth (same k) ∷ (map line.Atom l.bound.atoms ++ line.Loop (is k) h d (z k) ∷ []))
loops_more (l ∷ m ∷ ls) i n h d a e =
    ap (λ (xs : List Line). line.Loop i l.header l.depth (length l.bound.atoms) ∷ (map line.Atom l.bound.atoms ++ xs)) (loops_more (m ∷ ls) (i + 1) n h d a (omega (arith, e)))
    ∙ ap (λ (xs : List Line). line.Loop i l.header l.depth (length l.bound.atoms) ∷ xs) (sym (append_assoc (map line.Atom l.bound.atoms) (open_lines 0 (i + 1) (m ∷ ls)) (line.Loop n h d a ∷ [])))

length_more : {A : Type 0} (xs : List A) (x : A) → length (xs ++ x ∷ []) ≡ length xs + 1
length_more [] x = refl
length_more (y ∷ xs) x = let e = length_more xs x in omega (arith, e)

atoms_more : (ls : List ReportLoop) (i owed : ℕ) (a : Atom) → holds ls ≡ true → 0 < owed → open_lines (owed - 1) i (with_atom ls a) ≡ open_lines owed i ls ++ line.Atom a ∷ []
atoms_more [] i owed a some left = absurd (cc)
atoms_more (l ∷ []) i owed a some left =
    let more = length_more l.bound.atoms a in
    let same : length (l.bound.atoms ++ a ∷ []) + (owed - 1) ≡ length l.bound.atoms + owed = omega (arith, more, left) in
    (λ k. line.Loop i l.header l.depth (same k) ∷ map_more line.Atom l.bound.atoms a k)
atoms_more (l ∷ m ∷ []) i owed a some left =
    ap (λ (xs : List Line). line.Loop i l.header l.depth (length l.bound.atoms) ∷ (map line.Atom l.bound.atoms ++ xs)) (atoms_more (m ∷ []) (i + 1) owed a refl left)
    ∙ ap (λ (xs : List Line). line.Loop i l.header l.depth (length l.bound.atoms) ∷ xs) (sym (append_assoc (map line.Atom l.bound.atoms) (open_lines owed (i + 1) (m ∷ [])) (line.Atom a ∷ [])))
atoms_more (l ∷ m ∷ n ∷ ls) i owed a some left =
    ap (λ (xs : List Line). line.Loop i l.header l.depth (length l.bound.atoms) ∷ (map line.Atom l.bound.atoms ++ xs)) (atoms_more (m ∷ n ∷ ls) (i + 1) owed a refl left)
    ∙ ap (λ (xs : List Line). line.Loop i l.header l.depth (length l.bound.atoms) ∷ xs) (sym (append_assoc (map line.Atom l.bound.atoms) (open_lines owed (i + 1) (m ∷ n ∷ ls)) (line.Atom a ∷ [])))

-- from what stands after some sections to all
up_function : (f : Form) (l : Line) (new : List Line) → new ≡ from_function f ++ l ∷ [] → one line.Version f.version ++ new ≡ so_far f ++ l ∷ []
up_function f l new e = further (one line.Version f.version) new (from_function f) l e

abbrev function_line : Function → Line
function_line g = line.Function g.entry g.stack

up_timing : (f : Form) (l : Line) (new : List Line) → new ≡ from_timing f ++ l ∷ [] → one line.Version f.version ++ (one function_line f.function ++ new) ≡ so_far f ++ l ∷ []
up_timing f l new e = up_function f l (one function_line f.function ++ new) (further (one function_line f.function) new (from_timing f) l e)

up_params : (f : Form) (l : Line) (new : List Line) → new ≡ from_params f ++ l ∷ [] → one line.Version f.version ++ (one function_line f.function ++ (one line.Timing f.timing ++ new)) ≡ so_far f ++ l ∷ []
up_params f l new e = up_timing f l (one line.Timing f.timing ++ new) (further (one line.Timing f.timing) new (from_params f) l e)

up_blocks : (f : Form) (l : Line) (new : List Line) → new ≡ from_blocks f ++ l ∷ [] → one line.Version f.version ++ (one function_line f.function ++ (one line.Timing f.timing ++ (map line.Param f.params ++ new))) ≡ so_far f ++ l ∷ []
up_blocks f l new e = up_params f l (map line.Param f.params ++ new) (further (map line.Param f.params) new (from_blocks f) l e)

up_loops : (f : Form) (l : Line) (new : List Line) → new ≡ from_loops f ++ l ∷ [] → one line.Version f.version ++ (one function_line f.function ++ (one line.Timing f.timing ++ (map line.Param f.params ++ (block_lines 0 f.blocks ++ new)))) ≡ so_far f ++ l ∷ []
up_loops f l new e = up_blocks f l (block_lines 0 f.blocks ++ new) (further (block_lines 0 f.blocks) new (from_loops f) l e)

abbrev to_rows : Form → List Line → List Line
to_rows f new = one line.Version f.version ++ (one function_line f.function ++ (one line.Timing f.timing ++ (map line.Param f.params ++ (block_lines 0 f.blocks ++ (open_lines f.owed 1 f.loops ++ new)))))

up_rows : (f : Form) (l : Line) (new : List Line) → new ≡ from_rows f ++ l ∷ [] → to_rows f new ≡ so_far f ++ l ∷ []
up_rows f l new e = up_loops f l (open_lines f.owed 1 f.loops ++ new) (further (open_lines f.owed 1 f.loops) new (from_rows f) l e)

up_facts : (f : Form) (l : Line) (new : List Line) → new ≡ from_facts f ++ l ∷ [] → to_rows f (map line.Row f.rows ++ new) ≡ so_far f ++ l ∷ []
up_facts f l new e = up_rows f l (map line.Row f.rows ++ new) (further (map line.Row f.rows) new (from_facts f) l e)

up_proofs : (f : Form) (l : Line) (new : List Line) → new ≡ from_proofs f ++ l ∷ [] → to_rows f (map line.Row f.rows ++ (fact_lines 0 f.facts ++ new)) ≡ so_far f ++ l ∷ []
up_proofs f l new e = up_facts f l (fact_lines 0 f.facts ++ new) (further (fact_lines 0 f.facts) new (from_proofs f) l e)

up_tree : (f : Form) (l : Line) (new : List Line) → new ≡ from_tree f ++ l ∷ [] → to_rows f (map line.Row f.rows ++ (fact_lines 0 f.facts ++ (map line.Proof f.proofs ++ new))) ≡ so_far f ++ l ∷ []
up_tree f l new e = up_proofs f l (map line.Proof f.proofs ++ new) (further (map line.Proof f.proofs) new (from_tree f) l e)

up_formula : (f : Form) (l : Line) (new : List Line) → new ≡ from_formula f ++ l ∷ [] → to_rows f (map line.Row f.rows ++ (fact_lines 0 f.facts ++ (map line.Proof f.proofs ++ (one line.Tree f.tree ++ new)))) ≡ so_far f ++ l ∷ []
up_formula f l new e = up_tree f l (one line.Tree f.tree ++ new) (further (one line.Tree f.tree) new (from_formula f) l e)

level_is : (f : Form) → is_level f ≡ true → f.owed ≡ 0
level_is f e = by_holds (holds f.blocks) e
  where
    by_holds : (b : Bool) → (if b then f.owed == 0 else false) ≡ true → f.owed ≡ 0
    by_holds true e = eqb-true f.owed 0 e
    by_holds false e = absurd (cc)

end_more : (b : Bool) → (if b then false else true) ≡ true → line.End ∷ [] ≡ (if b then line.End ∷ [] else []) ++ line.End ∷ []
end_more true e = absurd (cc)
end_more false e = refl

block_number : (f : Form) (i : ℕ) (b : ReportBlock) → block_ok f i b ≡ true → i ≡ 0 + length f.blocks
block_number f i b e = let p = split6 (u32_ok i) (i == length f.blocks) _ _ _ _ e in let is = eqb-true i (length f.blocks) p.1 in omega (arith, is)

fact_number : (f : Form) (i : ℕ) (q : Fact) → fact_ok f i q ≡ true → i ≡ 0 + length f.facts
fact_number f i q e = let p = split6 (u32_ok i) (i == length f.facts) _ _ _ _ e in let is = eqb-true i (length f.facts) p.1 in omega (arith, is)

loop_number : (f : Form) (i h d a : ℕ) → loop_ok f i h d a ≡ true → i ≡ 1 + length f.loops
loop_number f i h d a e =
    let front = both (u32_ok i && (i == length f.loops + 1) && _ && _ && _ && _ && _) _ e in
    let more = both (u32_ok i && (i == length f.loops + 1) && _ && _ && _ && _) _ front.0 in
    let p = split6 (u32_ok i) (i == length f.loops + 1) _ _ _ _ more.0 in
    let is = eqb-true i (length f.loops + 1) p.1 in omega (arith, is)

atom_owed : (f : Form) (a : Atom) → atom_ok f a ≡ true → (0 < f.owed) × (holds f.loops ≡ true)
atom_owed f a e =
    let front = both (nat_lt 0 f.owed && holds f.loops && _ && _ && _ && _) _ e in
    let p = split6 (nat_lt 0 f.owed) (holds f.loops) _ _ _ _ front.0 in
    (lt_is 0 f.owed p.0, p.1)

step : (f : Form) (l : Line) → may f l ≡ true → so_far (put f l) ≡ so_far f ++ l ∷ []
step f (line.Version v) e =
    let q = if_not (has f.version) (no_function f) (both _ (if has f.version then false else no_function f) e).1 in
    grown (one line.Version f.version) _ (from_function f) (line.Version v) (first_one line.Version f.version v q.0) (none_function f q.1)
step f (line.Function a s) e =
    let q = if_not (has f.function) (no_timing f) (both _ (if has f.function then false else no_timing f) e).1 in
    let g : Function = record { entry = a; stack = s } in
    up_function f (line.Function a s) (one function_line (Some g) ++ from_timing f) (grown (one function_line f.function) (one function_line (Some g)) (from_timing f) (line.Function a s) (first_one function_line f.function g q.0) (none_timing f q.1))
step f (line.Timing t) e =
    let q = if_not (has f.timing) (no_params f) (both _ (if has f.timing then false else no_params f) e).1 in
    up_timing f (line.Timing t) (one line.Timing (Some t) ++ from_params f) (grown (one line.Timing f.timing) (one line.Timing (Some t)) (from_params f) (line.Timing t) (first_one line.Timing f.timing t q.0) (none_params f q.1))
step f (line.Param p) e =
    up_params f (line.Param p) (map line.Param (f.params ++ p ∷ []) ++ from_blocks f) (grown (map line.Param f.params) (map line.Param (f.params ++ p ∷ [])) (from_blocks f) (line.Param p) (map_more line.Param f.params p) (none_blocks f (both _ (no_blocks f) e).1))
step f (line.Block i b) e =
    let q = split3 (block_ok f i b) _ (no_loops f) e in
    up_blocks f (line.Block i b) (block_lines 0 (f.blocks ++ b ∷ []) ++ from_loops f) (grown (block_lines 0 f.blocks) (block_lines 0 (f.blocks ++ b ∷ [])) (from_loops f) (line.Block i b) (blocks_more f.blocks 0 i b (block_number f i b q.0)) (none_loops f q.2))
step f (line.Loop i h d a) e =
    let q = split3 (loop_ok f i h d a) (is_level f) (no_rows f) e in
    let new = f.loops ++ record { header = h; depth = d; bound = record { atoms = [] } } ∷ [] in
    let more : open_lines a 1 new ≡ open_lines f.owed 1 f.loops ++ line.Loop i h d a ∷ [] = loops_more f.loops 1 i h d a (loop_number f i h d a q.0) ∙ ap (λ (n : ℕ). open_lines n 1 f.loops ++ line.Loop i h d a ∷ []) (sym (level_is f q.1)) in
    up_loops f (line.Loop i h d a) (open_lines a 1 new ++ from_rows f) (grown (open_lines f.owed 1 f.loops) (open_lines a 1 new) (from_rows f) (line.Loop i h d a) more (none_rows f q.2))
step f (line.Atom a) e =
    let q = both (atom_ok f a) (no_rows f) e in
    let o = atom_owed f a q.0 in
    up_loops f (line.Atom a) (open_lines (f.owed - 1) 1 (with_atom f.loops a) ++ from_rows f) (grown (open_lines f.owed 1 f.loops) (open_lines (f.owed - 1) 1 (with_atom f.loops a)) (from_rows f) (line.Atom a) (atoms_more f.loops 1 f.owed a o.1 o.0) (none_rows f q.1))
step f (line.Row r) e =
    up_rows f (line.Row r) (map line.Row (f.rows ++ r ∷ []) ++ from_facts f) (grown (map line.Row f.rows) (map line.Row (f.rows ++ r ∷ [])) (from_facts f) (line.Row r) (map_more line.Row f.rows r) (none_facts f (both _ (no_facts f) e).1))
step f (line.Fact i q) e =
    let p = split4 (fact_ok f i q) _ _ (no_proofs f) e in
    up_facts f (line.Fact i q) (fact_lines 0 (f.facts ++ q ∷ []) ++ from_proofs f) (grown (fact_lines 0 f.facts) (fact_lines 0 (f.facts ++ q ∷ [])) (from_proofs f) (line.Fact i q) (facts_more f.facts 0 i q (fact_number f i q p.0)) (none_proofs f p.3))
step f (line.Proof p) e =
    up_proofs f (line.Proof p) (map line.Proof (f.proofs ++ p ∷ []) ++ from_tree f) (grown (map line.Proof f.proofs) (map line.Proof (f.proofs ++ p ∷ [])) (from_tree f) (line.Proof p) (map_more line.Proof f.proofs p) (none_tree f (both _ (no_tree f) e).1))
step f (line.Tree t) e =
    let q = if_not (has f.tree) (no_formula f) (both _ (if has f.tree then false else no_formula f) e).1 in
    up_tree f (line.Tree t) (one line.Tree (Some t) ++ from_formula f) (grown (one line.Tree f.tree) (one line.Tree (Some t)) (from_formula f) (line.Tree t) (first_one line.Tree f.tree t q.0) (none_formula f q.1))
step f (line.Formula t) e =
    let q = if_not (has f.formula) (if f.ended then false else true) (both _ (if has f.formula then false else if f.ended then false else true) e).1 in
    up_formula f (line.Formula t) (one line.Formula (Some t) ++ from_end f) (grown (one line.Formula f.formula) (one line.Formula (Some t)) (from_end f) (line.Formula t) (first_one line.Formula f.formula t q.0) (none_end f.ended q.1))
step f line.End e =
    let q = both _ (if f.ended then false else true) e in
    up_formula f line.End (one line.Formula f.formula ++ line.End ∷ []) (further (one line.Formula f.formula) (line.End ∷ []) (from_end f) line.End (end_more f.ended q.1))

steps : (ls : List Line) (f : Form) → all_may names_text may put f ls ≡ true → so_far (final f ls) ≡ so_far f ++ ls
steps [] f e = sym (append-nil (so_far f))
steps (l ∷ ls) f e =
    let p = both (may f l) (all_may names_text may put (put f l) ls) e in
    steps ls (put f l) p.1 ∙ ap (λ (xs : List Line). xs ++ ls) (step f l p.0) ∙ append_assoc (so_far f) (l ∷ []) ls

-- a form that gives a report stands for its lines
level_lines : (ls : List ReportLoop) (i : ℕ) → open_lines 0 i ls ≡ loop_lines i ls
level_lines [] i = refl
level_lines (l ∷ []) i =
    let same : length l.bound.atoms + 0 ≡ length l.bound.atoms = omega arith in
    (λ k. line.Loop i l.header l.depth (same k) ∷ sym (append-nil (map line.Atom l.bound.atoms)) k)
level_lines (l ∷ m ∷ ls) i = ap (λ (xs : List Line). line.Loop i l.header l.depth (length l.bound.atoms) ∷ (map line.Atom l.bound.atoms ++ xs)) (level_lines (m ∷ ls) (i + 1))

same_reports : (x r : Report) → Some x ≡ Some r → x ≡ r
same_reports x r e = cc

none_reports : (r : Report) → None ≡ Some r → ⊥
none_reports r e = absurd (cc)

done_lines : (f : Form) (v : Option ℕ) (g : Option Function) (t : Option Timing) (tree : Option Tree) (formula : Option Term) (r : Report) → f.version ≡ v → f.function ≡ g → f.timing ≡ t → f.tree ≡ tree → f.formula ≡ formula → f.ended ≡ true → f.owed ≡ 0 → done_with f v g t tree formula ≡ Some r → so_far f ≡ lines_of r
done_lines f (Some v) (Some g) (Some t) (Some tree) (Some formula) r pv pg pt pe pf ended owed e =
    (λ i. one line.Version (pv i) ++ (one function_line (pg i) ++ (one line.Timing (pt i) ++ (map line.Param f.params ++ (block_lines 0 f.blocks ++ (open_lines (owed i) 1 f.loops ++ (map line.Row f.rows ++ (fact_lines 0 f.facts ++ (map line.Proof f.proofs ++ (one line.Tree (pe i) ++ (one line.Formula (pf i) ++ (if ended i then line.End ∷ [] else []))))))))))))
    ∙ ap (λ (ls : List Line). line.Version v ∷ line.Function g.entry g.stack ∷ line.Timing t ∷ (map line.Param f.params ++ (block_lines 0 f.blocks ++ (ls ++ (map line.Row f.rows ++ (fact_lines 0 f.facts ++ (map line.Proof f.proofs ++ (line.Tree tree ∷ line.Formula formula ∷ line.End ∷ [])))))))) (level_lines f.loops 1)
    ∙ ap lines_of (same_reports (record {
      version = v;
      entry = g.entry;
      stack = g.stack;
      timing = t;
      params = f.params;
      blocks = f.blocks;
      loops = f.loops;
      rows = f.rows;
      facts = f.facts;
      proofs = f.proofs;
      tree = tree;
      formula = formula;
    }) r e)
done_lines f None g t tree formula r pv pg pt pe pf ended owed e = absurd (none_reports r e)
done_lines f (Some v) None t tree formula r pv pg pt pe pf ended owed e = absurd (none_reports r e)
done_lines f (Some v) (Some g) None tree formula r pv pg pt pe pf ended owed e = absurd (none_reports r e)
done_lines f (Some v) (Some g) (Some t) None formula r pv pg pt pe pf ended owed e = absurd (none_reports r e)
done_lines f (Some v) (Some g) (Some t) (Some tree) None r pv pg pt pe pf ended owed e = absurd (none_reports r e)

done_is : (f : Form) (r : Report) → done f ≡ Some r → so_far f ≡ lines_of r
done_is f r e = by_test (f.ended && f.owed == 0) refl e
  where
    by_test : (b : Bool) → (f.ended && f.owed == 0) ≡ b → (if b then done_with f f.version f.function f.timing f.tree f.formula else None) ≡ Some r → so_far f ≡ lines_of r
    by_test true is e =
        let p = both f.ended (f.owed == 0) is in
        done_lines f f.version f.function f.timing f.tree f.formula r refl refl refl refl refl p.0 (eqb-true f.owed 0 p.1) e
    by_test false is e = absurd (none_reports r e)

pub report_found : (bytes : List ℕ) (r : Report) → report_of bytes ≡ Ok r → (is_well_formed r ≡ true) × (bytes ≡ text_of r)
report_found bytes r e =
    let h = walk_found read_line after done names_text exact bytes 1 [] start r e in
    let parts = spells_is names_text may put h.0 start h.1 bytes h.2 in
    let same : h.0 ≡ lines_of r = sym (steps h.0 start parts.0) ∙ ap so_far (sym parts.1) ∙ done_is h.1 r h.3 in (
      ap (all_may names_text may put start) (sym same) ∙ parts.0,
      parts.2 ∙ ap (spelled start) same ∙ spelled_report r,
    )

pub same_report : (r s : Report) → ◌≡◌ {A = Result Report ℕ} (Ok r) (Ok s) → r ≡ s
same_report r s e = cc

pub one_text : (r s : Report) → is_well_formed r ≡ true → is_well_formed s ≡ true → text_of r ≡ text_of s → r ≡ s
one_text r s first second e = same_report r s (sym (report_only r first) ∙ ap report_of e ∙ report_only s second)
