-- Which lines may follow what was read, and what they add to it.
use Rattle.std.specs.Prelude.{ℕ, ℤ, zero, suc, pos, neg_ℤ, ◌+◌, ◌-◌, ◌%◌, ◌^◌, ◌==◌, ◌&&◌, ◌||◌, if◌then◌else◌, Bool, true, false, List, [], ◌∷◌, ◌++◌, Option, Some, None, length, nat_le, nat_lt, int_le, int_lt, slice_get, unsigned_abs}
use Rattle.std.specs.Ordering.{match_ordering, ordering_then, nat_cmp, int_cmp}
use Rattle.std.specs.declared.cmp.Ordering.{Ordering}
use Rattle.std.specs.declared.cmp.Ordering.TheVariants.{Less, Equal, Greater}
use Rattle.std.specs.Str.{bytes_eq}
use Rattle.fetch_timing.specs.declared.timing.Timing.{Timing}
use Rattle.wsym_terms.specs.declared.bounds.ParamRange.{ParamRange}
use Rattle.wsym_terms.specs.declared.bounds.Atom.{Atom}
use Rattle.wsym_terms.specs.declared.bounds.Coef.{Coef}
use Rattle.linear_rows.specs.declared.rows.Var.{Var}
use Rattle.linear_rows.specs.declared.rows.Var.TheVariants as var
use Rattle.linear_rows.specs.declared.rows.RowTerm.{RowTerm}
use Rattle.linear_rows.specs.Variables.{var_cmp}
use Rattle.linear_rows.specs.Rows.{Inequality}
use Rattle.linear_rows.specs.NormalForm.{all_within, divisor_of, is_within}
use Rattle.report_lines.specs.declared.report.ReportBlock.{ReportBlock}
use Rattle.report_lines.specs.declared.report.ReportLoop.{ReportLoop}
use Rattle.report_lines.specs.declared.report.ReportRow.{ReportRow}
use Rattle.report_elements.specs.Elements.{name_at}
use Rattle.report_elements.specs.TreeReading.{fits as tree_fits}
use Rattle.report_elements.specs.FormulaReading.{fits as term_fits}
use Rattle.report_elements.specs.Constants.{list_fits}
use Rattle.report_lines.specs.declared.report.Fact.{Fact}
use Rattle.report_lines.specs.declared.report.Way.{Way}
use Rattle.report_lines.specs.declared.report.Way.TheVariants as way
use Rattle.report_lines.specs.declared.report.About.{About}
use Rattle.report_lines.specs.declared.report.About.TheVariants as about
use Rattle.row_elimination.specs.declared.weights.Multiplier.{Multiplier}
use Rattle.report_lines.specs.declared.report.Proof.{Proof}
use Rattle.report_rules.specs.declared.forms.Function.{Function}
use Rattle.report_rules.specs.declared.forms.Form.{Form}
use Rattle.report_lines.specs.declared.report.Line.{Line}
use Rattle.report_lines.specs.declared.report.Line.TheVariants as line
use Rattle.wsym_terms.specs.declared.trees.Tree.{Tree}
use Rattle.wsym_formula.specs.declared.terms.Term.{Term}
use Rattle.wsym_terms.specs.Trees.{size_of}
use Rattle.wsym_formula.specs.Values.{counts_of}
use Rattle.simplifier.specs.Sizes.{nodes_of}
use Rattle.report_rules.specs.Headers.{is_header, new_loop, with_atom}
use Rattle.report_rules.specs.Steps.{after as follows}
use Rattle.report_lines.specs.Grammar.{line_text}
use Rattle.report_lines.specs.Reading.{collected, place_of}

abbrev pub has : {A : Type 0} → Option A → Bool
has None = false
has (Some a) = true

abbrev pub holds : {A : Type 0} → List A → Bool
holds [] = false
holds (x ∷ xs) = true

abbrev pub start : Form
start =
    record {
      version = None;
      function = None;
      timing = None;
      params = [];
      blocks = [];
      loops = [];
      owed = 0;
      rows = [];
      facts = [];
      proofs = [];
      tree = None;
      formula = None;
      ended = false;
    }

-- no line of this kind or a later one was read
abbrev pub no_formula : Form → Bool
no_formula f = if has f.formula then false else if f.ended then false else true

abbrev pub no_tree : Form → Bool
no_tree f = if has f.tree then false else no_formula f

abbrev pub no_proofs : Form → Bool
no_proofs f = if holds f.proofs then false else no_tree f

abbrev pub no_facts : Form → Bool
no_facts f = if holds f.facts then false else no_proofs f

abbrev pub no_rows : Form → Bool
no_rows f = if holds f.rows then false else no_facts f

abbrev pub no_loops : Form → Bool
no_loops f = if holds f.loops then false else no_rows f

abbrev pub no_blocks : Form → Bool
no_blocks f = if holds f.blocks then false else no_loops f

abbrev pub no_params : Form → Bool
no_params f = if holds f.params then false else no_blocks f

abbrev pub no_timing : Form → Bool
no_timing f = if has f.timing then false else no_params f

abbrev pub no_function : Form → Bool
no_function f = if has f.function then false else no_timing f

-- blocks, and the atoms of the last loop, are complete
abbrev pub is_level : Form → Bool
is_level f = if holds f.blocks then f.owed == 0 else false

abbrev pub is_version : ℕ → Option ℕ → Bool
is_version n None = false
is_version n (Some v) = v == n

abbrev pub u32_ok : ℕ → Bool
u32_ok n = nat_lt n (2 ^ 32)

-- names that exist
abbrev pub has_point : Option ReportBlock → ℕ → Bool
has_point None index = false
has_point (Some b) index = nat_lt index b.points

abbrev pub point_exists : Form → ℕ → ℕ → Bool
point_exists f block index = u32_ok block && u32_ok index && has_point (slice_get f.blocks block) index

abbrev pub has_atom : Option ReportLoop → ℕ → Bool
has_atom None atom = false
has_atom (Some l) atom = nat_lt atom (length l.bound.atoms)

abbrev pub atom_exists : Form → ℕ → ℕ → Bool
atom_exists f id atom = u32_ok id && u32_ok atom && nat_lt 0 id && has_atom (slice_get f.loops (id - 1)) atom

abbrev pub way_ok : Form → Way → Bool
way_ok f way.Start = true
way_ok f (way.Done block index) = point_exists f block index
way_ok f (way.Skip block index) = point_exists f block index

abbrev pub is_done : Way → ℕ → ℕ → Bool
is_done way.Start block index = false
is_done (way.Done u i) block index = u == block && i == index
is_done (way.Skip u i) block index = false

-- the multipliers
abbrev pub pairs_from : ℕ → List Multiplier → Bool
pairs_from least [] = true
pairs_from least (m ∷ ms) =
    nat_le least m.row && nat_lt m.row (2 ^ 64) && nat_lt 0 m.factor && nat_lt m.factor (2 ^ 127)
    && pairs_from (m.row + 1) ms

-- the order of the lines of proofs: low before high by point, then steps by fact and way, then turns by loop, atom and way
abbrev pub way_key : Way → List ℕ
way_key way.Start = 0 ∷ 0 ∷ 0 ∷ 0 ∷ []
way_key (way.Done block index) = 1 ∷ block ∷ index ∷ 0 ∷ []
way_key (way.Skip block index) = 1 ∷ block ∷ index ∷ 1 ∷ []

abbrev pub proof_order : Way → About → List ℕ
proof_order w (about.Low block index) = 0 ∷ block ∷ index ∷ 0 ∷ 0 ∷ 0 ∷ 0 ∷ []
proof_order w (about.High block index) = 0 ∷ block ∷ index ∷ 1 ∷ 0 ∷ 0 ∷ 0 ∷ []
proof_order w (about.Fact number) = 1 ∷ number ∷ 0 ∷ way_key w
proof_order w (about.Turn id atom) = 2 ∷ id ∷ atom ∷ way_key w
proof_order w (about.Closing place row) = 3 ∷ place ∷ row ∷ way_key w

abbrev pub comes_before : List ℕ → List ℕ → Bool
comes_before [] ys = holds ys
comes_before (x ∷ xs) [] = false
comes_before (x ∷ xs) (y ∷ ys) = if x == y then comes_before xs ys else nat_lt x y

abbrev pub last_of : {A : Type 0} → List A → Option A
last_of xs = slice_get xs (length xs - 1)

abbrev pub after_proof : Option Proof → Proof → Bool
after_proof None p = true
after_proof (Some q) p = comes_before (proof_order q.way q.about) (proof_order p.way p.about)

abbrev pub about_ok : Form → Way → About → Bool
about_ok f w (about.Fact number) = u32_ok number && nat_lt number (length f.facts) && way_ok f w
about_ok f w (about.Low block index) = is_done w block index && point_exists f block index
about_ok f w (about.High block index) = is_done w block index && point_exists f block index
about_ok f w (about.Turn id atom) = atom_exists f id atom && way_ok f w
about_ok f w (about.Closing place row) = false

abbrev pub proof_ok : Form → Proof → Bool
proof_ok f p =
    about_ok f p.way p.about && nat_lt 0 p.divisor && nat_lt p.divisor (2 ^ 127) && pairs_from 0 p.pairs
    && after_proof (last_of f.proofs) p

-- an ASCII letter, then at most 15 letters, digits or underscores
abbrev pub is_letter : ℕ → Bool
is_letter b = (nat_lt 64 b && nat_lt b 91) || (nat_lt 96 b && nat_lt b 123)

abbrev pub is_tail : ℕ → List ℕ → Bool
is_tail room [] = true
is_tail zero (b ∷ bs) = false
is_tail (suc room) (b ∷ bs) = (is_letter b || (nat_lt 47 b && nat_lt b 58) || b == 95) && is_tail room bs

abbrev pub is_name : List ℕ → Bool
is_name [] = false
is_name (b ∷ bs) = is_letter b && is_tail 15 bs

-- rows
abbrev pub names_itself : List ParamRange → ℕ → Option ℕ → Bool
names_itself params place None = false
names_itself params place (Some found) = found == place

abbrev pub param_exists : List ParamRange → ℕ → Bool
param_exists params place =
    is_name (name_at params place) && names_itself params place (place_of 0 params (name_at params place))

abbrev pub stack_of : Option Function → ℕ
stack_of None = 0
stack_of (Some g) = g.stack

abbrev pub word_exists : ℕ → ℤ → Bool
word_exists stack offset =
    int_lt offset (pos 0) && nat_le (unsigned_abs offset) stack && nat_lt (unsigned_abs offset) (2 ^ 31)
    && (unsigned_abs offset % 4 == 0)

abbrev pub var_exists : Form → Var → Bool
var_exists f (var.Register r) = nat_lt r 15
var_exists f (var.Word offset) = word_exists (stack_of f.function) offset
var_exists f (var.Param place) = param_exists f.params place
var_exists f var.StartSp = true
var_exists f (var.Count id) = u32_ok id && nat_lt 0 id && nat_le id (length f.loops)

abbrev pub vars_exist : Form → List RowTerm → Bool
vars_exist f [] = true
vars_exist f (t ∷ ts) = var_exists f t.var && vars_exist f ts

abbrev pub is_row : Inequality → Bool
is_row r = collected r.terms && (divisor_of r.terms == 1) && all_within r.terms && is_within r.constant

abbrev pub terms_cmp : List RowTerm → List RowTerm → Ordering
terms_cmp [] [] = Equal
terms_cmp [] (y ∷ ys) = Less
terms_cmp (x ∷ xs) [] = Greater
terms_cmp (x ∷ xs) (y ∷ ys) =
    ordering_then (ordering_then (var_cmp x.var y.var) (int_cmp x.factor y.factor)) (terms_cmp xs ys)

abbrev pub row_cmp : Inequality → Inequality → Ordering
row_cmp a b = ordering_then (terms_cmp a.terms b.terms) (int_cmp a.constant b.constant)

abbrev pub is_less : Ordering → Bool
is_less o = match_ordering o true false false

abbrev pub after_row : Option ReportRow → ReportRow → Bool
after_row None r = true
after_row (Some q) r = is_less (ordering_then (nat_cmp q.block r.block) (row_cmp q.row r.row))

abbrev pub after_fact : Option Fact → Fact → Bool
after_fact None r = true
after_fact (Some q) r =
    is_less (ordering_then (ordering_then (nat_cmp q.block r.block) (nat_cmp q.index r.index)) (row_cmp q.row r.row))

abbrev pub fact_ok : Form → ℕ → Fact → Bool
fact_ok f i q =
    u32_ok i && (i == length f.facts) && point_exists f q.block q.index && is_row q.row && vars_exist f q.row.terms
    && after_fact (last_of f.facts) q

abbrev pub row_ok : Form → ReportRow → Bool
row_ok f r =
    u32_ok r.block && is_header f.loops r.block && is_row r.row && vars_exist f r.row.terms
    && after_row (last_of f.rows) r

-- atoms
abbrev pub coefs_from : List ParamRange → ℕ → List Coef → Bool
coefs_from params least [] = true
coefs_from params least (c ∷ cs) =
    nat_le least c.param && param_exists params c.param && is_within c.factor && nat_lt 0 (unsigned_abs c.factor)
    && coefs_from params (c.param + 1) cs

abbrev pub coefs_cmp : List Coef → List Coef → Ordering
coefs_cmp [] [] = Equal
coefs_cmp [] (y ∷ ys) = Less
coefs_cmp (x ∷ xs) [] = Greater
coefs_cmp (x ∷ xs) (y ∷ ys) =
    ordering_then (ordering_then (nat_cmp x.param y.param) (int_cmp x.factor y.factor)) (coefs_cmp xs ys)

abbrev pub after_atom : Option Atom → Atom → Bool
after_atom None a = true
after_atom (Some q) a =
    is_less (ordering_then (ordering_then (int_cmp q.divisor a.divisor) (int_cmp q.constant a.constant))
    (coefs_cmp q.coefs a.coefs))

abbrev pub last_atom : Option ReportLoop → Option Atom
last_atom None = None
last_atom (Some l) = last_of l.bound.atoms

abbrev pub atom_ok : Form → Atom → Bool
atom_ok f a =
    nat_lt 0 f.owed && holds f.loops && is_within a.constant && is_within a.divisor && int_lt (pos 0) a.divisor
    && coefs_from f.params 0 a.coefs && after_atom (last_atom (last_of f.loops)) a

abbrev pub after_header : Option ReportLoop → ℕ → Bool
after_header None header = true
after_header (Some l) header = nat_lt l.header header

abbrev pub loop_ok : Form → ℕ → ℕ → ℕ → ℕ → Bool
loop_ok f i header depth atoms =
    u32_ok i && (i == length f.loops + 1) && u32_ok header && nat_lt header (length f.blocks) && nat_lt 0 depth
    && nat_lt depth 17 && nat_lt atoms (2 ^ 64) && after_header (last_of f.loops) header

abbrev pub all_u32 : List ℕ → Bool
all_u32 [] = true
all_u32 (n ∷ ns) = u32_ok n && all_u32 ns

abbrev pub block_ok : Form → ℕ → ReportBlock → Bool
block_ok f i b =
    u32_ok i && (i == length f.blocks) && u32_ok b.address && nat_lt 0 b.points && u32_ok b.points && all_u32 b.returns

abbrev pub is_taken : ParamRange → List ParamRange → Bool
is_taken p [] = false
is_taken p (q ∷ qs) = if bytes_eq q.name p.name then true else if q.register == p.register then true else is_taken p qs

abbrev pub is_narrow : ℤ → Bool
is_narrow z = int_le (neg_ℤ (pos (2 ^ 31))) z && int_lt z (pos (2 ^ 31))

abbrev pub param_ok : List ParamRange → ParamRange → Bool
param_ok ps p =
    is_name p.name && nat_lt p.register 13 && (if is_taken p ps then false else true) && int_le p.low p.high
    && is_narrow p.low && is_narrow p.high

-- the cost table
abbrev pub is_set_count : ℕ → Bool
is_set_count n =
    n == 1 || n == 2 || n == 4 || n == 8 || n == 16 || n == 32 || n == 64 || n == 128 || n == 256 || n == 512
    || n == 1024

abbrev pub is_line_size : ℕ → Bool
is_line_size n = n == 4 || n == 8 || n == 16 || n == 32 || n == 64

abbrev pub costs_ok : List ℕ → Bool
costs_ok [] = true
costs_ok (n ∷ ns) = nat_le n 1000000 && costs_ok ns

abbrev pub geometry_ok : Timing → Bool
geometry_ok t = is_set_count t.sets && nat_lt 0 t.ways && nat_le t.ways 16 && is_line_size t.line

abbrev pub timing_ok : Timing → Bool
timing_ok t = geometry_ok t && costs_ok (t.miss ∷ t.skipped ∷ t.register ∷ t.classes) && (length t.classes == 11)

abbrev pub function_ok : ℕ → ℕ → Bool
function_ok entry stack = u32_ok entry && nat_le stack 1048576 && (stack % 4 == 0)

-- a tree of blocks and loops that exist
abbrev pub tree_ok : Form → Tree → Bool
tree_ok f t = tree_fits (length f.blocks) (length f.loops) t 1000 && nat_le (size_of t) 500000

-- a formula over loops that exist
abbrev pub formula_ok : Form → Term → Bool
formula_ok f t =
    term_fits (length f.loops) list_fits t 2000 && nat_le (nodes_of t) 1000000 && nat_lt (counts_of t) (2 ^ 63)

-- whether a line may follow; a text of version 2 is not read yet
abbrev pub may : Form → Line → Bool
may f (line.Version v) = (v == 1) && (if has f.version then false else no_function f)
may f (line.Function entry stack) =
    function_ok entry stack && has f.version && (if has f.function then false else no_timing f)
may f (line.Timing t) = timing_ok t && has f.function && (if has f.timing then false else no_params f)
may f (line.Param p) = param_ok f.params p && has f.timing && no_blocks f
may f (line.Block i b) = block_ok f i b && has f.timing && no_loops f
may f (line.Loop i header depth atoms) = loop_ok f i header depth atoms && is_level f && no_rows f
may f (line.Atom a) = atom_ok f a && no_rows f
may f (line.Row r) = row_ok f r && is_version 1 f.version && is_level f && no_facts f
may f (line.Fact i q) = fact_ok f i q && is_version 2 f.version && is_level f && no_proofs f
may f (line.Proof p) = proof_ok f p && is_version 2 f.version && is_level f && no_tree f
may f (line.Tree t) = tree_ok f t && is_level f && (if has f.tree then false else no_formula f)
may f (line.Formula t) =
    formula_ok f t && has f.tree && (if has f.formula then false else if f.ended then false else true)
may f line.End = has f.formula && (if f.ended then false else true)

-- what a line adds
abbrev pub put : Form → Line → Form
put f (line.Version v) = record f { version = Some v }
put f (line.Function entry stack) = record f { function = Some (record { entry = entry; stack = stack }) }
put f (line.Timing t) = record f { timing = Some t }
put f (line.Param p) = record f { params = f.params ++ p ∷ [] }
put f (line.Block i b) = record f { blocks = f.blocks ++ b ∷ [] }
put f (line.Loop i header depth atoms) = record f { loops = f.loops ++ new_loop header depth ∷ []; owed = atoms }
put f (line.Atom a) = record f { loops = with_atom f.loops a; owed = f.owed - 1 }
put f (line.Row r) = record f { rows = f.rows ++ r ∷ [] }
put f (line.Fact i q) = record f { facts = f.facts ++ q ∷ [] }
put f (line.Proof p) = record f { proofs = f.proofs ++ p ∷ [] }
put f (line.Tree t) = record f { tree = Some t }
put f (line.Formula t) = record f { formula = Some t }
put f line.End = record f { ended = true }

abbrev pub names_text : Form → Line → List ℕ
names_text f l = line_text f.params l

abbrev pub after : Form → Line → Option Form
after = follows names_text may put
