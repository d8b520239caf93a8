-- The other kinds of line, and all kinds together: each line that may follow is read as itself and has no line feed in it.
use Rattle.std.proofs.Common.{slice_index, ℕ, ℤ, pos, ◌^◌, ◌<◌, ◌≤◌, ◌≡◌, ◌≢◌, ◌&&◌, ◌==◌, Bool, true, false, List, [], ◌∷◌, ◌++◌, Option, Some, None, refl, sym, ap, ◌∙◌, subst, length, map, nat_lt, nat_le, int_lt, int_le, unsigned_abs, codes, if◌then◌else◌, option_map, option_and_then, arith, bytes_eq, Decides}
use Rattle.std.proofs.lemmas.Bool.Decides.{nat_tests}
use Rattle.std.proofs.lemmas.Bool.{eqb-true}
use Rattle.std.proofs.lemmas.Slice.Eq.{bytes_eq-Decides}
use Rattle.std.specs.Fmt.{decimal, signed_decimal}
use Rattle.fetch_timing.specs.declared.timing.Timing.{Timing}
use Rattle.wsym_terms.specs.declared.bounds.ParamRange.{ParamRange}
use Rattle.wsym_terms.specs.declared.bounds.Atom.{Atom}
use Rattle.wsym_terms.specs.declared.bounds.Coef.{Coef}
use Rattle.wsym_terms.specs.declared.trees.Tree.{Tree}
use Rattle.wsym_formula.specs.declared.terms.Term.{Term}
use Rattle.report_lines.specs.declared.report.ReportBlock.{ReportBlock}
use Rattle.report_elements.specs.Elements.{address_text, coef_text, in_brackets, tree_text, term_text}
use Rattle.linear_rows.specs.NormalForm.{is_within}
use Rattle.report_elements.specs.TreeReading.{fits as tree_fits}
use Rattle.wsym_terms.specs.Trees.{size_of}
use Rattle.wsym_formula.specs.Values.{counts_of}
use Rattle.simplifier.specs.Sizes.{nodes_of}
use Rattle.report_elements.proofs.DigitLaws.{number_decimal}
use Rattle.report_elements.proofs.TreeLaws.{read_only}
use Rattle.report_elements.specs.FormulaReading.{fits as term_fits}
use Rattle.report_elements.specs.Constants.{list_fits}
use Rattle.whole_reports.proofs.FormulaClean.{formula_clean}
use Rattle.report_elements.proofs.FormulaLaws.{formula_read}
use Rattle.whole_reports.proofs.CleanLaws.{clean_fixed, tree_clean}
use Rattle.report_elements.proofs.SignedLaws.{signed_read}
use Rattle.report_elements.specs.Words.{address_of, before, from}
use Rattle.report_lines.specs.declared.report.About.{About}
use Rattle.report_lines.specs.declared.report.About.TheVariants as about
use Rattle.report_rules.specs.declared.forms.Form.{Form}
use Rattle.report_lines.specs.declared.report.Line.{Line}
use Rattle.report_lines.specs.declared.report.Line.TheVariants as line
use Rattle.report_lines.specs.Grammar.{joined, line_words, line_text, proof_key, timing_numbers}
use Rattle.report_lines.specs.Reading.{atom_from, block_from, coef_of, function_from, kept, line_by, line_of, loop_from, narrow_of, param_from, small_of, timing_from, timing_of, version_from}
use Rattle.whole_reports.specs.Reports.{read_line}
use Rattle.report_rules.specs.Following.{after, all_u32, atom_ok, block_ok, coefs_from, costs_ok, fact_ok, function_ok, geometry_ok, has, holds, is_name, is_narrow, is_line_size, is_set_count, loop_ok, may, names_text, param_ok, proof_ok, put, row_ok, timing_ok, u32_ok, tree_ok, formula_ok}
use Rattle.whole_reports.proofs.WalkLaws.{NoFeed, no_feed_both}
use Rattle.whole_reports.proofs.StepLaws.{and_both, both, may_is}
use Rattle.whole_reports.proofs.WordLaws.{AllPlain, EachReads, Plain, address_back, all_read, joined_clean, plain_address, plain_both, plain_decimal, plain_fixed, plain_signed, words_read}
use Rattle.whole_reports.proofs.KindLaws.{Reads, le_is, lt_is, proof_reads, small_back, small_plain, split3, split4, split6}
use Rattle.whole_reports.proofs.RowLaws.{ascii_named, coefs_back, fact_reads, name_named, narrow_back, narrow_is, narrow_wide, plain_named, row_line_reads}

-- a keyword and its words part at the first space
key_parts : (key : List ℕ) (ws : List (List ℕ)) → Plain key → (before 32 (key ++ in_brackets ws) ≡ key) × (from 32 (key ++ in_brackets ws) ≡ in_brackets ws)
key_parts [] [] p = (refl, refl)
key_parts [] (w ∷ ws) p = (refl, refl)
key_parts (b ∷ key) ws p =
    let further = key_parts key ws p.2 in
    let here = step b (key ++ in_brackets ws) p.0 in
    (here.0 ∙ ap (λ (xs : List ℕ). b ∷ xs) further.0, here.1 ∙ further.1)
  where
    step : (b : ℕ) (bs : List ℕ) → b ≢ 32 → (before 32 (b ∷ bs) ≡ b ∷ before 32 bs) × (from 32 (b ∷ bs) ≡ from 32 bs)
    step b bs other = (grind (arith, nat_tests), grind (arith, nat_tests))

kept_same : (params : List ParamRange) (l : Line) → kept params (line_text params l) l ≡ Some l
kept_same params l = ap (λ (b : Bool). if b then Some l else None) ((bytes_eq-Decides (line_text params l) (line_text params l)).1 refl)

-- a line of words is read as itself and has no line feed
abbrev Stands : List ParamRange → Line → Type 0
Stands params l = (line_of params (line_text params l) ≡ Some l) × NoFeed (line_text params l)

of_words : (params : List ParamRange) (key : List ℕ) (ws : List (List ℕ)) (l : Line) → Plain key → line_text params l ≡ joined key ws → Reads params key ws l → Stands params l
of_words params key ws l k is r =
    let parts = key_parts key ws k in (
      ap (λ (text : List ℕ). option_and_then (kept params (line_text params l)) (line_by params (before 32 text) (from 32 text))) is
          ∙ (λ i. option_and_then (kept params (line_text params l)) (line_by params (parts.0 i) (parts.1 i)))
          ∙ ap (option_and_then (kept params (line_text params l))) r.1
          ∙ kept_same params l,
      subst NoFeed (sym is) (joined_clean key ws k r.0),
    )

-- by their kinds
version_reads : (params : List ParamRange) (v : ℕ) → v < 256 → Reads params (codes "wsymb") (decimal v ∷ []) (line.Version v)
version_reads params v small =
    let plain : AllPlain (decimal v ∷ []) = (plain_decimal v (omega (arith, small)), tt) in
    (plain, ap version_from (words_read (decimal v ∷ []) plain) ∙ ap (option_map line.Version) (number_decimal 256 v small (omega arith)))

function_reads : (params : List ParamRange) (entry stack : ℕ) → function_ok entry stack ≡ true → Reads params (codes "function") (address_text entry ∷ codes "stack" ∷ decimal stack ∷ []) (line.Function entry stack)
function_reads params entry stack ok =
    let p = split3 (u32_ok entry) (nat_le stack 1048576) _ ok in
    let e = lt_is entry (2 ^ 32) p.0 in
    let s = le_is stack 1048576 p.1 in
    let plain : AllPlain (address_text entry ∷ codes "stack" ∷ decimal stack ∷ []) = (plain_address entry e, (plain_fixed (codes "stack") refl, (plain_decimal stack (omega (arith, s)), tt))) in (
      plain,
      ap function_from (words_read (address_text entry ∷ codes "stack" ∷ decimal stack ∷ []) plain)
          ∙ (λ i. option_and_then (λ (e : ℕ). option_map (λ (s : ℕ). line.Function e s) (number_decimal (2 ^ 32) stack (omega (arith, s)) (omega arith) i)) (address_back entry e i)),
    )

is_le : (a b : ℕ) → a ≤ b → nat_le a b ≡ true
is_le a b e = grind (arith, nat_tests)

is_eq : (a b : ℕ) → a ≡ b → (a == b) ≡ true
is_eq a b e = grind (arith, nat_tests)

one_set : (n : ℕ) → is_set_count n ≡ true → n ≤ 1024
one_set n e = grind (arith, nat_tests)

one_size : (n : ℕ) → is_line_size n ≡ true → n ≤ 64
one_size n e = grind (arith, nat_tests)

geometry_small : (t : Timing) → geometry_ok t ≡ true → (t.sets ≤ 1024) × (t.ways ≤ 16) × (t.line ≤ 64)
geometry_small t e =
    let p = split4 (is_set_count t.sets) (nat_lt 0 t.ways) (nat_le t.ways 16) (is_line_size t.line) e in
    (one_set t.sets p.0, le_is t.ways 16 p.2, one_size t.line p.3)

costs_back : (ns : List ℕ) → costs_ok ns ≡ true → EachReads small_of decimal ns × AllPlain (map decimal ns)
costs_back [] e = (tt, tt)
costs_back (n ∷ ns) e =
    let p = both (nat_le n 1000000) (costs_ok ns) e in
    let low = le_is n 1000000 p.0 in
    let further = costs_back ns p.1 in
    ((number_decimal (2 ^ 32) n (omega (arith, low)) (omega arith), further.0), (plain_decimal n (omega (arith, low)), further.1))

eleven : (cs : List ℕ) → length cs ≡ 11 → slice_index cs 0 ∷ slice_index cs 1 ∷ slice_index cs 2 ∷ slice_index cs 3 ∷ slice_index cs 4 ∷ slice_index cs 5 ∷ slice_index cs 6 ∷ slice_index cs 7 ∷ slice_index cs 8 ∷ slice_index cs 9 ∷ slice_index cs 10 ∷ [] ≡ cs
eleven (c0 ∷ c1 ∷ c2 ∷ c3 ∷ c4 ∷ c5 ∷ c6 ∷ c7 ∷ c8 ∷ c9 ∷ c10 ∷ []) e = refl
eleven [] e = absurd (omega (arith, e))
eleven (c0 ∷ []) e = absurd (omega (arith, e))
eleven (c0 ∷ c1 ∷ []) e = absurd (omega (arith, e))
eleven (c0 ∷ c1 ∷ c2 ∷ []) e = absurd (omega (arith, e))
eleven (c0 ∷ c1 ∷ c2 ∷ c3 ∷ []) e = absurd (omega (arith, e))
eleven (c0 ∷ c1 ∷ c2 ∷ c3 ∷ c4 ∷ []) e = absurd (omega (arith, e))
eleven (c0 ∷ c1 ∷ c2 ∷ c3 ∷ c4 ∷ c5 ∷ []) e = absurd (omega (arith, e))
eleven (c0 ∷ c1 ∷ c2 ∷ c3 ∷ c4 ∷ c5 ∷ c6 ∷ []) e = absurd (omega (arith, e))
eleven (c0 ∷ c1 ∷ c2 ∷ c3 ∷ c4 ∷ c5 ∷ c6 ∷ c7 ∷ []) e = absurd (omega (arith, e))
eleven (c0 ∷ c1 ∷ c2 ∷ c3 ∷ c4 ∷ c5 ∷ c6 ∷ c7 ∷ c8 ∷ []) e = absurd (omega (arith, e))
eleven (c0 ∷ c1 ∷ c2 ∷ c3 ∷ c4 ∷ c5 ∷ c6 ∷ c7 ∷ c8 ∷ c9 ∷ []) e = absurd (omega (arith, e))
eleven (c0 ∷ c1 ∷ c2 ∷ c3 ∷ c4 ∷ c5 ∷ c6 ∷ c7 ∷ c8 ∷ c9 ∷ c10 ∷ c11 ∷ cs) e = absurd (omega (arith, e))

timing_reads : (params : List ParamRange) (t : Timing) → timing_ok t ≡ true → Reads params (codes "timing") (map decimal (timing_numbers t)) (line.Timing t)
timing_reads params t ok =
    let p = split3 (geometry_ok t) (costs_ok (t.miss ∷ t.skipped ∷ t.register ∷ t.classes)) (length t.classes == 11) ok in
    let g = geometry_small t p.0 in
    let low : costs_ok (timing_numbers t) ≡ true = and_both (nat_le t.sets 1000000) _ (is_le t.sets 1000000 (omega (arith, g.0))) (and_both (nat_le t.ways 1000000) _ (is_le t.ways 1000000 (omega (arith, g.1))) (and_both (nat_le t.line 1000000) _ (is_le t.line 1000000 (omega (arith, g.2))) p.1)) in
    let c = costs_back (timing_numbers t) low in
    let long : (length (timing_numbers t) == 17) ≡ true = is_eq (length (timing_numbers t)) 17 (omega (arith, eqb-true (length t.classes) 11 p.2)) in (
      c.1,
      ap timing_from (words_read (map decimal (timing_numbers t)) c.1)
          ∙ ap (option_and_then timing_of) (all_read small_of decimal (timing_numbers t) [] c.0)
          ∙ (λ i. if long i then Some (line.Timing (record { sets = t.sets; ways = t.ways; line = t.line; miss = t.miss; skipped = t.skipped; register = t.register; classes = eleven t.classes (eqb-true (length t.classes) 11 p.2) i })) else None),
    )

loop_reads : (params : List ParamRange) (f : Form) (i header depth atoms : ℕ) → loop_ok f i header depth atoms ≡ true → Reads params (codes "loop") (decimal i ∷ codes "header" ∷ decimal header ∷ codes "depth" ∷ decimal depth ∷ codes "atoms" ∷ decimal atoms ∷ []) (line.Loop i header depth atoms)
loop_reads params f i header depth atoms ok =
    let last = both (u32_ok i && _ && u32_ok header && _ && _ && nat_lt depth 17 && nat_lt atoms (2 ^ 64)) _ ok in
    let p = both (u32_ok i && _ && u32_ok header && _ && _ && nat_lt depth 17) (nat_lt atoms (2 ^ 64)) last.0 in
    let q = split6 (u32_ok i) _ (u32_ok header) _ _ (nat_lt depth 17) p.0 in
    let a = lt_is atoms (2 ^ 64) p.1 in
    let d = lt_is depth 17 q.5 in
    let ws = decimal i ∷ codes "header" ∷ decimal header ∷ codes "depth" ∷ decimal depth ∷ codes "atoms" ∷ decimal atoms ∷ [] in
    let plain : AllPlain ws = (small_plain i q.0, (plain_fixed (codes "header") refl, (small_plain header q.2, (plain_fixed (codes "depth") refl, (plain_decimal depth (omega (arith, d)), (plain_fixed (codes "atoms") refl, (plain_decimal atoms (omega (arith, a)), tt))))))) in (
      plain,
      ap loop_from (words_read ws plain)
          ∙ (λ k. option_and_then (λ (i : ℕ). option_and_then (λ (h : ℕ). option_and_then (λ (d : ℕ). option_map (λ (a : ℕ). line.Loop i h d a) (number_decimal (2 ^ 64) atoms a (omega arith) k)) (number_decimal (2 ^ 32) depth (omega (arith, d)) (omega arith) k)) (small_back header q.2 k)) (small_back i q.0 k)),
    )

addresses_back : (ns : List ℕ) → all_u32 ns ≡ true → EachReads address_of address_text ns × AllPlain (map address_text ns)
addresses_back [] e = (tt, tt)
addresses_back (n ∷ ns) e =
    let p = both (u32_ok n) (all_u32 ns) e in
    let low = lt_is n (2 ^ 32) p.0 in
    let further = addresses_back ns p.1 in
    ((address_back n low, further.0), (plain_address n low, further.1))

block_reads : (params : List ParamRange) (f : Form) (i : ℕ) (b : ReportBlock) → block_ok f i b ≡ true → Reads params (codes "block") (decimal i ∷ address_text b.address ∷ decimal b.points ∷ map address_text b.returns) (line.Block i b)
block_reads params f i b ok =
    let p = split6 (u32_ok i) _ (u32_ok b.address) (nat_lt 0 b.points) (u32_ok b.points) (all_u32 b.returns) ok in
    let a = lt_is b.address (2 ^ 32) p.2 in
    let rs = addresses_back b.returns p.5 in
    let ws = decimal i ∷ address_text b.address ∷ decimal b.points ∷ map address_text b.returns in
    let plain : AllPlain ws = (small_plain i p.0, (plain_address b.address a, (small_plain b.points p.4, rs.1))) in (
      plain,
      ap block_from (words_read ws plain)
          ∙ (λ k. option_and_then (λ (i : ℕ). option_and_then (λ (a : ℕ). option_and_then (λ (n : ℕ). option_map (λ (rs : List ℕ). line.Block i (record { address = a; points = n; returns = rs })) (all_read address_of address_text b.returns [] rs.0 k)) (small_back b.points p.4 k)) (address_back b.address a k)) (small_back i p.0 k)),
    )

narrow_small : (z : ℤ) → is_narrow z ≡ true → (narrow_of (signed_decimal z) ≡ Some z) × (unsigned_abs z < 2 ^ 127)
narrow_small z e = let n = narrow_is z e in (narrow_back z n, narrow_wide z n)

param_reads : (params ps : List ParamRange) (p : ParamRange) → param_ok ps p ≡ true → Reads params (codes "param") (p.name ∷ (114 ∷ decimal p.register) ∷ signed_decimal p.low ∷ signed_decimal p.high ∷ []) (line.Param p)
param_reads params ps p ok =
    let q = split6 (is_name p.name) (nat_lt p.register 13) _ (int_le p.low p.high) (is_narrow p.low) (is_narrow p.high) ok in
    let named = name_named p.name q.0 in
    let r = lt_is p.register 13 q.1 in
    let low = narrow_small p.low q.4 in
    let high = narrow_small p.high q.5 in
    let ws = p.name ∷ (114 ∷ decimal p.register) ∷ signed_decimal p.low ∷ signed_decimal p.high ∷ [] in
    let plain : AllPlain ws = (plain_named p.name named, (plain_both (codes "r") (decimal p.register) (plain_fixed (codes "r") refl) (plain_decimal p.register (omega (arith, r))), (plain_signed p.low low.1, (plain_signed p.high high.1, tt)))) in (
      plain,
      ap param_from (words_read ws plain)
          ∙ (λ k. option_and_then (λ (name : List ℕ). option_and_then (λ (r : ℕ). option_and_then (λ (low : ℤ). option_map (λ (high : ℤ). line.Param (record { name = name; register = r; low = low; high = high })) (high.0 k)) (low.0 k)) (number_decimal 256 p.register (omega (arith, r)) (omega arith) k)) (ascii_named p.name [] named k)),
    )

atom_reads : (f : Form) (a : Atom) → atom_ok f a ≡ true → Reads f.params (codes "atom") (signed_decimal a.constant ∷ signed_decimal a.divisor ∷ map (coef_text f.params) a.coefs) (line.Atom a)
atom_reads f a ok =
    let front = both (nat_lt 0 f.owed && holds f.loops && is_within a.constant && is_within a.divisor && int_lt (pos 0) a.divisor && coefs_from f.params 0 a.coefs) _ ok in
    let p = split6 (nat_lt 0 f.owed) (holds f.loops) (is_within a.constant) (is_within a.divisor) (int_lt (pos 0) a.divisor) (coefs_from f.params 0 a.coefs) front.0 in
    let c = le_is (unsigned_abs a.constant) (2 ^ 90) p.2 in
    let d = le_is (unsigned_abs a.divisor) (2 ^ 90) p.3 in
    let cs = coefs_back f.params a.coefs 0 p.5 in
    let ws = signed_decimal a.constant ∷ signed_decimal a.divisor ∷ map (coef_text f.params) a.coefs in
    let plain : AllPlain ws = (plain_signed a.constant (omega (arith, c)), (plain_signed a.divisor (omega (arith, d)), cs.1)) in (
      plain,
      ap (atom_from f.params) (words_read ws plain)
          ∙ (λ k. option_and_then (λ (c : ℤ). option_and_then (λ (d : ℤ). option_map (λ (cs : List Coef). line.Atom (record { coefs = cs; constant = c; divisor = d })) (all_read (coef_of f.params) (coef_text f.params) a.coefs [] cs.0 k)) (signed_read (2 ^ 126) a.divisor (omega (arith, d)) (omega arith) k)) (signed_read (2 ^ 126) a.constant (omega (arith, c)) (omega arith) k)),
    )

tree_stands : (params : List ParamRange) (blocks loops : ℕ) (t : Tree) → tree_fits blocks loops t 1000 ≡ true → Stands params (line.Tree t)
tree_stands params blocks loops t fit = (
  ap (option_and_then (kept params (line_text params (line.Tree t)))) (ap (option_map line.Tree) (read_only blocks loops 1000 t fit)) ∙ kept_same params (line.Tree t),
  no_feed_both (codes "tree ") (tree_text t) (clean_fixed (codes "tree ") refl) (tree_clean blocks loops t 1000 fit),
)

formula_stands : (params : List ParamRange) (loops : ℕ) (t : Term) → term_fits loops list_fits t 2000 ≡ true → Stands params (line.Formula t)
formula_stands params loops t fit = (
  ap (option_and_then (kept params (line_text params (line.Formula t)))) (ap (option_map line.Formula) (formula_read loops 2000 t fit)) ∙ kept_same params (line.Formula t),
  no_feed_both (codes "formula ") (term_text t) (clean_fixed (codes "formula ") refl) (formula_clean loops t 2000 fit),
)

first_version : (v : ℕ) → (v == 1) ≡ true → v < 256
first_version v e = omega (arith, eqb-true v 1 e)

key_plain : (a : About) → Plain (proof_key a)
key_plain (about.Fact number) = plain_fixed (codes "step") refl
key_plain (about.Low block index) = plain_fixed (codes "low") refl
key_plain (about.High block index) = plain_fixed (codes "high") refl
key_plain (about.Turn id atom) = plain_fixed (codes "turn") refl
key_plain (about.Closing place row) = plain_fixed (codes "closing") refl

stands : (f : Form) (l : Line) → may f l ≡ true → Stands f.params l
stands f (line.Version v) e = of_words f.params (codes "wsymb") (line_words f.params (line.Version v)) (line.Version v) (plain_fixed (codes "wsymb") refl) refl (version_reads f.params v (first_version v (both (v == 1) _ e).0))
stands f (line.Function a s) e = of_words f.params (codes "function") (line_words f.params (line.Function a s)) (line.Function a s) (plain_fixed (codes "function") refl) refl (function_reads f.params a s (split3 (function_ok a s) (has f.version) _ e).0)
stands f (line.Timing t) e = of_words f.params (codes "timing") (line_words f.params (line.Timing t)) (line.Timing t) (plain_fixed (codes "timing") refl) refl (timing_reads f.params t (split3 (timing_ok t) (has f.function) _ e).0)
stands f (line.Param p) e = of_words f.params (codes "param") (line_words f.params (line.Param p)) (line.Param p) (plain_fixed (codes "param") refl) refl (param_reads f.params f.params p (split3 (param_ok f.params p) (has f.timing) _ e).0)
stands f (line.Block i b) e = of_words f.params (codes "block") (line_words f.params (line.Block i b)) (line.Block i b) (plain_fixed (codes "block") refl) refl (block_reads f.params f i b (split3 (block_ok f i b) (has f.timing) _ e).0)
stands f (line.Loop i h d a) e = of_words f.params (codes "loop") (line_words f.params (line.Loop i h d a)) (line.Loop i h d a) (plain_fixed (codes "loop") refl) refl (loop_reads f.params f i h d a (split3 (loop_ok f i h d a) _ _ e).0)
stands f (line.Atom a) e = of_words f.params (codes "atom") (line_words f.params (line.Atom a)) (line.Atom a) (plain_fixed (codes "atom") refl) refl (atom_reads f a (both (atom_ok f a) _ e).0)
stands f (line.Row r) e = of_words f.params (codes "row") (line_words f.params (line.Row r)) (line.Row r) (plain_fixed (codes "row") refl) refl (row_line_reads f r (split4 (row_ok f r) _ _ _ e).0)
stands f (line.Fact i q) e = of_words f.params (codes "fact") (line_words f.params (line.Fact i q)) (line.Fact i q) (plain_fixed (codes "fact") refl) refl (fact_reads f i q (split4 (fact_ok f i q) _ _ _ e).0)
stands f (line.Proof p) e = of_words f.params (proof_key p.about) (line_words f.params (line.Proof p)) (line.Proof p) (key_plain p.about) refl (proof_reads f.params f p (split4 (proof_ok f p) _ _ _ e).0)
stands f (line.Tree t) e = tree_stands f.params (length f.blocks) (length f.loops) t (both (tree_fits (length f.blocks) (length f.loops) t 1000) (nat_le (size_of t) 500000) (split3 (tree_ok f t) _ _ e).0).0
stands f (line.Formula t) e = formula_stands f.params (length f.loops) t (split3 (term_fits (length f.loops) list_fits t 2000) (nat_le (nodes_of t) 1000000) (nat_lt (counts_of t) (2 ^ 63)) (split3 (formula_ok f t) _ _ e).0).0
stands f line.End e = (kept_same f.params line.End, clean_fixed (codes "end") refl)

pub reads : (f : Form) (l : Line) (m : Form) → after f l ≡ Some m → read_line f (names_text f l) ≡ Some l
reads f l m e = (stands f l (may_is names_text may put f l m e).0).0

pub no_feed : (f : Form) (l : Line) (m : Form) → after f l ≡ Some m → NoFeed (names_text f l)
no_feed f l m e = (stands f l (may_is names_text may put f l m e).0).1

kept_is : (params : List ParamRange) (text : List ℕ) (b : Bool) (x l : Line) → Decides b (line_text params x ≡ text) → (if b then Some x else None) ≡ Some l → text ≡ line_text params l
kept_is params text true x l d e = sym (d.0 refl) ∙ ap (line_text params) (same x l e)
  where
    same : (x l : Line) → Some x ≡ Some l → x ≡ l
    same x l e = cc
kept_is params text false x l d e = absurd (cc)

of_kept : (params : List ParamRange) (text : List ℕ) (o : Option Line) (l : Line) → option_and_then (kept params text) o ≡ Some l → text ≡ line_text params l
of_kept params text None l e = absurd (cc)
of_kept params text (Some x) l e = kept_is params text (bytes_eq (line_text params x) text) x l (bytes_eq-Decides (line_text params x) text) e

pub exact : (f : Form) (text : List ℕ) (l : Line) → read_line f text ≡ Some l → text ≡ names_text f l
exact f text l e = of_kept f.params text (line_by f.params (before 32 text) (from 32 text)) l e
