-- Each kind of line that may follow is read as that line.
use Rattle.std.proofs.Common.{false, ℕ, ◌+◌, ◌^◌, ◌<◌, ◌≤◌, ◌≡◌, ◌&&◌, ◌==◌, Bool, true, List, [], ◌∷◌, ◌++◌, Some, refl, sym, ap, ◌∙◌, length, map, nat_lt, nat_le, codes, option_map, option_and_then, slice_get, arith}
use Rattle.std.proofs.lemmas.Bool.Decides.{nat_tests}
use Rattle.std.proofs.lemmas.Bool.{eqb-true}
use Rattle.std.specs.Fmt.{decimal}
use Rattle.wsym_terms.specs.declared.bounds.ParamRange.{ParamRange}
use Rattle.report_elements.specs.Elements.{in_brackets}
use Rattle.report_elements.specs.Numbers.{number_below}
use Rattle.report_elements.proofs.DigitLaws.{number_decimal}
use Rattle.report_elements.specs.Words.{byte_off, three, two}
use Rattle.report_lines.specs.declared.report.Way.{Way}
use Rattle.report_lines.specs.declared.report.Way.TheVariants as way
use Rattle.report_lines.specs.declared.report.About.{About}
use Rattle.report_lines.specs.declared.report.About.TheVariants as about
use Rattle.row_elimination.specs.declared.weights.Multiplier.{Multiplier}
use Rattle.report_lines.specs.declared.report.Proof.{Proof}
use Rattle.report_rules.specs.declared.forms.Form.{Form}
use Rattle.report_lines.specs.declared.report.Line.{Line}
use Rattle.report_lines.specs.declared.report.Line.TheVariants as line
use Rattle.report_lines.specs.Grammar.{ending_words, pair_text, proof_key, proof_words, way_words}
use Rattle.report_lines.specs.Reading.{moved, ending_from, high_from, line_by, low_from, pair_of, pair_with, small_of, step_from, turn_from, waying_from}
use Rattle.report_rules.specs.Following.{about_ok, has_point, is_done, pairs_from, point_exists, proof_ok, u32_ok, way_ok}
use Rattle.whole_reports.proofs.StepLaws.{both}
use Rattle.whole_reports.proofs.WordLaws.{AllPlain, EachReads, Plain, all_plain_both, all_read, before_mark, decimal_mark, from_mark, plain_both, plain_decimal, plain_fixed, words_read}

-- taking conjunctions apart
pub split3 : (a b c : Bool) → (a && b && c) ≡ true → (a ≡ true) × (b ≡ true) × (c ≡ true)
split3 a b c e = let x = both (a && b) c e in let y = both a b x.0 in (y.0, y.1, x.1)

pub split4 : (a b c d : Bool) → (a && b && c && d) ≡ true → (a ≡ true) × (b ≡ true) × (c ≡ true) × (d ≡ true)
split4 a b c d e = let x = both (a && b && c) d e in let y = split3 a b c x.0 in (y.0, y.1, y.2, x.1)

pub split5 : (a b c d f : Bool) → (a && b && c && d && f) ≡ true → (a ≡ true) × (b ≡ true) × (c ≡ true) × (d ≡ true) × (f ≡ true)
split5 a b c d f e = let x = both (a && b && c && d) f e in let y = split4 a b c d x.0 in (y.0, y.1, y.2, y.3, x.1)

pub split6 : (a b c d f g : Bool) → (a && b && c && d && f && g) ≡ true → (a ≡ true) × (b ≡ true) × (c ≡ true) × (d ≡ true) × (f ≡ true) × (g ≡ true)
split6 a b c d f g e = let x = both (a && b && c && d && f) g e in let y = split5 a b c d f x.0 in (y.0, y.1, y.2, y.3, y.4, x.1)

pub lt_is : (a b : ℕ) → nat_lt a b ≡ true → a < b
lt_is a b e = grind (arith, nat_tests, e)

pub le_is : (a b : ℕ) → nat_le a b ≡ true → a ≤ b
le_is a b e = grind (arith, nat_tests, e)

-- fields
pub small_back : (n : ℕ) → u32_ok n ≡ true → small_of (decimal n) ≡ Some n
small_back n e = number_decimal (2 ^ 32) n (lt_is n (2 ^ 32) e) (omega arith)

pub small_plain : (n : ℕ) → u32_ok n ≡ true → Plain (decimal n)
small_plain n e = plain_decimal n (omega (arith, lt_is n (2 ^ 32) e))

pub two_read : (a b : ℕ) (ws : List (List ℕ)) → u32_ok a ≡ true → u32_ok b ≡ true → two (decimal a ∷ decimal b ∷ ws) ≡ Some (a, b)
two_read a b ws x y = λ i. option_and_then (λ (m : ℕ). option_map (λ (n : ℕ). (m, n)) (small_back b y i)) (small_back a x i)

pub three_read : (a b c : ℕ) (ws : List (List ℕ)) → u32_ok a ≡ true → u32_ok b ≡ true → u32_ok c ≡ true → three (decimal a ∷ decimal b ∷ decimal c ∷ ws) ≡ Some (a, b, c)
three_read a b c ws x y z = λ i. option_and_then (λ (m : ℕ). option_map (λ (p : ℕ × ℕ). (m, p.0, p.1)) (two_read b c ws y z i)) (small_back a x i)

-- pairs
pair_back : (m : Multiplier) → m.row < 2 ^ 64 → m.factor < 2 ^ 127 → pair_of (pair_text m) ≡ Some m
pair_back m r f =
    let clear = decimal_mark 42 m.row (omega (arith, r)) refl in
    (λ i. pair_with (number_below (2 ^ 64) 0 (before_mark 42 (decimal m.row) (decimal m.factor) clear i)) (number_below (2 ^ 127) 0 (byte_off (from_mark 42 (decimal m.row) (decimal m.factor) clear i))))
    ∙ (λ i. pair_with (number_decimal (2 ^ 64) m.row r (omega arith) i) (number_decimal (2 ^ 127) m.factor f (omega arith) i))

pair_plain : (m : Multiplier) → m.row < 2 ^ 64 → m.factor < 2 ^ 127 → Plain (pair_text m)
pair_plain m r f = plain_both (decimal m.row) (42 ∷ decimal m.factor) (plain_decimal m.row (omega (arith, r))) ((plain_fixed (codes "*") refl).0, (plain_fixed (codes "*") refl).1, plain_decimal m.factor f)

pub pairs_read : (ms : List Multiplier) (least : ℕ) → pairs_from least ms ≡ true → EachReads pair_of pair_text ms × AllPlain (map pair_text ms)
pairs_read [] least e = (tt, tt)
pairs_read (m ∷ ms) least e =
    let parts = split5 (nat_le least m.row) (nat_lt m.row (2 ^ 64)) (nat_lt 0 m.factor) (nat_lt m.factor (2 ^ 127)) (pairs_from (m.row + 1) ms) e in
    let r = lt_is m.row (2 ^ 64) parts.1 in
    let f = lt_is m.factor (2 ^ 127) parts.3 in
    let further = pairs_read ms (m.row + 1) parts.4 in
    ((pair_back m r f, further.0), (pair_plain m r f, further.1))

-- D PAIR*
ending_read : (a : About) (w : Way) (d : ℕ) (ms : List Multiplier) → d < 2 ^ 127 → EachReads pair_of pair_text ms → ending_from a w (decimal d ∷ map pair_text ms) ≡ Some (line.Proof (record { about = a; way = w; divisor = d; pairs = ms }))
ending_read a w d ms small each = λ i. option_and_then (λ (d : ℕ). option_map (λ (ms : List Multiplier). line.Proof (record { about = a; way = w; divisor = d; pairs = ms })) (all_read pair_of pair_text ms [] each i)) (number_decimal (2 ^ 127) d small (omega arith) i)

pub points_small : (f : Form) (block index : ℕ) → point_exists f block index ≡ true → (u32_ok block ≡ true) × (u32_ok index ≡ true)
points_small f block index e = let p = split3 (u32_ok block) (u32_ok index) (has_point (slice_get f.blocks block) index) e in (p.0, p.1)

-- a way, and then D PAIR*
waying_read : (f : Form) (a : About) (w : Way) (d : ℕ) (ms : List Multiplier) → way_ok f w ≡ true → d < 2 ^ 127 → EachReads pair_of pair_text ms → waying_from a (way_words w ++ (decimal d ∷ map pair_text ms)) ≡ Some (line.Proof (record { about = a; way = w; divisor = d; pairs = ms }))
waying_read f a way.Start d ms ok small each = ending_read a way.Start d ms small each
waying_read f a (way.Done u i) d ms ok small each =
    let p = points_small f u i ok in
    ap (option_and_then (λ (w : Way). ending_from a w (decimal d ∷ map pair_text ms))) (ap (moved true) (two_read u i (decimal d ∷ map pair_text ms) p.0 p.1))
    ∙ ending_read a (way.Done u i) d ms small each
waying_read f a (way.Skip u i) d ms ok small each =
    let p = points_small f u i ok in
    ap (option_and_then (λ (w : Way). ending_from a w (decimal d ∷ map pair_text ms))) (ap (moved false) (two_read u i (decimal d ∷ map pair_text ms) p.0 p.1))
    ∙ ending_read a (way.Skip u i) d ms small each

way_plain : (f : Form) (w : Way) → way_ok f w ≡ true → AllPlain (way_words w)
way_plain f way.Start ok = (plain_fixed (codes "start") refl, tt)
way_plain f (way.Done u i) ok = let p = points_small f u i ok in (plain_fixed (codes "done") refl, (small_plain u p.0, (small_plain i p.1, tt)))
way_plain f (way.Skip u i) ok = let p = points_small f u i ok in (plain_fixed (codes "skip") refl, (small_plain u p.0, (small_plain i p.1, tt)))

done_is : (w : Way) (block index : ℕ) → is_done w block index ≡ true → w ≡ way.Done block index
done_is way.Start block index e = absurd (cc)
done_is (way.Done u i) block index e =
    let p = both (u == block) (i == index) e in
    λ k. way.Done (eqb-true u block p.0 k) (eqb-true i index p.1 k)
done_is (way.Skip u i) block index e = absurd (cc)

-- what a kind of line owes: its words are plain, and its words are read as the line
abbrev pub Reads : List ParamRange → List ℕ → List (List ℕ) → Line → Type 0
Reads params key ws l = AllPlain ws × (line_by params key (in_brackets ws) ≡ Some l)

proof_reads_at : (params : List ParamRange) (f : Form) (p : Proof) (a : About) → about_ok f p.way a ≡ true → p.divisor < 2 ^ 127 → pairs_from 0 p.pairs ≡ true → Reads params (proof_key a) (proof_words p a) (line.Proof (record { about = a; way = p.way; divisor = p.divisor; pairs = p.pairs }))
proof_reads_at params f p (about.Fact n) ok small ms =
    let parts = split3 (u32_ok n) (nat_lt n (length f.facts)) (way_ok f p.way) ok in
    let pairs = pairs_read p.pairs 0 ms in
    let plain : AllPlain (decimal n ∷ (way_words p.way ++ ending_words p)) = (small_plain n parts.0, all_plain_both (way_words p.way) (ending_words p) (way_plain f p.way parts.2) (plain_decimal p.divisor small, pairs.1)) in (
      plain,
      ap step_from (words_read (decimal n ∷ (way_words p.way ++ ending_words p)) plain)
          ∙ ap (option_and_then (λ (k : ℕ). waying_from (about.Fact k) (way_words p.way ++ ending_words p))) (small_back n parts.0)
          ∙ waying_read f (about.Fact n) p.way p.divisor p.pairs parts.2 small pairs.0,
    )
proof_reads_at params f p (about.Turn id atom) ok small ms =
    let parts = both (u32_ok id && u32_ok atom && nat_lt 0 id && _) (way_ok f p.way) ok in
    let names = split4 (u32_ok id) (u32_ok atom) (nat_lt 0 id) _ parts.0 in
    let pairs = pairs_read p.pairs 0 ms in
    let tail = way_words p.way ++ ending_words p in
    let plain : AllPlain (decimal id ∷ decimal atom ∷ tail) = (small_plain id names.0, (small_plain atom names.1, all_plain_both (way_words p.way) (ending_words p) (way_plain f p.way parts.1) (plain_decimal p.divisor small, pairs.1))) in (
      plain,
      ap turn_from (words_read (decimal id ∷ decimal atom ∷ tail) plain)
          ∙ ap (option_and_then (λ (q : ℕ × ℕ). waying_from (about.Turn q.0 q.1) tail)) (two_read id atom tail names.0 names.1)
          ∙ waying_read f (about.Turn id atom) p.way p.divisor p.pairs parts.1 small pairs.0,
    )
proof_reads_at params f p (about.Low b i) ok small ms =
    let parts = both (is_done p.way b i) (point_exists f b i) ok in
    let names = points_small f b i parts.1 in
    let pairs = pairs_read p.pairs 0 ms in
    let plain : AllPlain (decimal b ∷ decimal i ∷ ending_words p) = (small_plain b names.0, (small_plain i names.1, (plain_decimal p.divisor small, pairs.1))) in (
      plain,
      ap low_from (words_read (decimal b ∷ decimal i ∷ ending_words p) plain)
          ∙ ap (option_and_then (λ (q : ℕ × ℕ). ending_from (about.Low q.0 q.1) (way.Done q.0 q.1) (ending_words p))) (two_read b i (ending_words p) names.0 names.1)
          ∙ ending_read (about.Low b i) (way.Done b i) p.divisor p.pairs small pairs.0
          ∙ ap (λ (w : Way). Some (line.Proof (record { about = about.Low b i; way = w; divisor = p.divisor; pairs = p.pairs }))) (sym (done_is p.way b i parts.0)),
    )
proof_reads_at params f p (about.High b i) ok small ms =
    let parts = both (is_done p.way b i) (point_exists f b i) ok in
    let names = points_small f b i parts.1 in
    let pairs = pairs_read p.pairs 0 ms in
    let plain : AllPlain (decimal b ∷ decimal i ∷ ending_words p) = (small_plain b names.0, (small_plain i names.1, (plain_decimal p.divisor small, pairs.1))) in (
      plain,
      ap high_from (words_read (decimal b ∷ decimal i ∷ ending_words p) plain)
          ∙ ap (option_and_then (λ (q : ℕ × ℕ). ending_from (about.High q.0 q.1) (way.Done q.0 q.1) (ending_words p))) (two_read b i (ending_words p) names.0 names.1)
          ∙ ending_read (about.High b i) (way.Done b i) p.divisor p.pairs small pairs.0
          ∙ ap (λ (w : Way). Some (line.Proof (record { about = about.High b i; way = w; divisor = p.divisor; pairs = p.pairs }))) (sym (done_is p.way b i parts.0)),
    )
proof_reads_at params f p (about.Closing place row) ok small ms = absurd (cc)

pub proof_reads : (params : List ParamRange) (f : Form) (p : Proof) → proof_ok f p ≡ true → Reads params (proof_key p.about) (proof_words p p.about) (line.Proof p)
proof_reads params f p ok =
    let parts = split5 (about_ok f p.way p.about) (nat_lt 0 p.divisor) (nat_lt p.divisor (2 ^ 127)) (pairs_from 0 p.pairs) _ ok in
    proof_reads_at params f p p.about parts.0 (lt_is p.divisor (2 ^ 127) parts.2) parts.3
