-- How a line is read: its keyword, then its words one after another; what comes out is written again and compared.
use Rattle.std.specs.Prelude.{nat_lt, ℕ, ℤ, pos, neg_ℤ, ◌+◌, ◌^◌, ◌==◌, ◌&&◌, if◌then◌else◌, not, Bool, true, false, List, [], ◌∷◌, Option, Some, None, codes, length, drop, slice_index}
use Rattle.std.specs.Option.{option_and_then, option_map}
use Rattle.std.specs.Ordering.{match_ordering, int_eq}
use Rattle.std.specs.Str.{bytes_eq}
use Rattle.wsym_terms.specs.declared.bounds.ParamRange.{ParamRange}
use Rattle.wsym_terms.specs.declared.bounds.Coef.{Coef}
use Rattle.linear_rows.specs.declared.rows.Var.{Var}
use Rattle.linear_rows.specs.declared.rows.Var.TheVariants as var
use Rattle.linear_rows.specs.declared.rows.RowTerm.{RowTerm}
use Rattle.linear_rows.specs.Variables.{var_cmp}
use Rattle.linear_rows.specs.Rows.{Inequality}
use Rattle.linear_rows.specs.NormalForm.{row_of}
use Rattle.report_elements.specs.Numbers.{number_below}
use Rattle.report_elements.specs.TreeReading.{read_of}
use Rattle.report_elements.specs.Names.{ascii_on}
use Rattle.report_elements.specs.Signed.{minus, signed_of}
use Rattle.report_elements.specs.FormulaReading.{parsed}
use Rattle.report_elements.specs.Constants.{list_of}
use Rattle.report_elements.specs.Words.{address_of, all_on, before, later, byte_off, from, front, three, two, words}
use Rattle.report_lines.specs.declared.report.Way.{Way}
use Rattle.report_lines.specs.declared.report.Way.TheVariants as way
use Rattle.report_lines.specs.declared.report.About.{About}
use Rattle.report_lines.specs.declared.report.About.TheVariants as about
use Rattle.row_elimination.specs.declared.weights.Multiplier.{Multiplier}
use Rattle.report_lines.specs.declared.report.Line.{Line}
use Rattle.report_lines.specs.declared.report.Line.TheVariants as line
use Rattle.report_lines.specs.Grammar.{line_text}

abbrev pub small_of : List ℕ → Option ℕ
small_of = number_below (2 ^ 32) 0

abbrev pub signed_word : List ℕ → Option ℤ
signed_word = signed_of (2 ^ 126)

-- a signed number of 32 bits
abbrev pub narrow_of : List ℕ → Option ℤ
narrow_of [] = None
narrow_of (b ∷ bs) =
    if b == 45 then option_map minus (number_below (2 ^ 31 + 1) 0 bs)
    else option_map pos (number_below (2 ^ 31) 0 (b ∷ bs))

-- K*M
abbrev pub pair_with : Option ℕ → Option ℕ → Option Multiplier
pair_with None factor = None
pair_with (Some row) None = None
pair_with (Some row) (Some factor) = Some (record { row = row; factor = factor })

abbrev pub pair_of : List ℕ → Option Multiplier
pair_of word = pair_with (number_below (2 ^ 64) 0 (before 42 word)) (number_below (2 ^ 127) 0 (byte_off (from 42 word)))

-- the first parameter of a name, by its place
abbrev pub place_of : ℕ → List ParamRange → List ℕ → Option ℕ
place_of k [] name = None
place_of k (p ∷ ps) name =
    if bytes_eq p.name name then Some k else if k == 4294967295 then None else place_of (k + 1) ps name

-- FACTOR*NAME
abbrev pub coef_with : Option ℤ → Option ℕ → Option Coef
coef_with None param = None
coef_with (Some factor) None = None
coef_with (Some factor) (Some param) = Some (record { param = param; factor = factor })

abbrev pub coef_of : List ParamRange → List ℕ → Option Coef
coef_of params word = coef_with (signed_word (before 42 word)) (place_of 0 params (byte_off (from 42 word)))

-- %rK, [OFFSET], NAME, %sp, #LOOP
abbrev pub register_of : List ℕ → Option Var
register_of [] = None
register_of (b ∷ bs) = if b == 114 then option_map var.Register (number_below 256 0 bs) else Some var.StartSp

abbrev pub var_of : List ParamRange → List ℕ → Option Var
var_of params [] = None
var_of params (b ∷ bs) =
    if b == 37 then register_of bs
    else if b == 91 then option_map var.Word (narrow_of (before 93 bs))
    else if b == 35 then option_map var.Count (small_of bs)
    else option_map var.Param (place_of 0 params (b ∷ bs))

-- FACTOR*VAR
abbrev pub term_with : Option ℤ → Option Var → Option RowTerm
term_with None v = None
term_with (Some factor) None = None
term_with (Some factor) (Some v) = Some (record { var = v; factor = factor })

abbrev pub term_of : List ParamRange → List ℕ → Option RowTerm
term_of params word = term_with (signed_word (before 42 word)) (var_of params (byte_off (from 42 word)))

-- CONSTANT TERM*
abbrev pub comes_first : RowTerm → List RowTerm → Bool
comes_first t [] = true
comes_first t (u ∷ us) = match_ordering (var_cmp t.var u.var) true false false

abbrev pub collected : List RowTerm → Bool
collected [] = true
collected (t ∷ ts) = not (int_eq t.factor (pos 0)) && comes_first t ts && collected ts

abbrev pub row_with : ℤ → List RowTerm → Option Inequality
row_with constant terms = if collected terms then row_of (record { terms = terms; constant = neg_ℤ constant }) else None

abbrev pub row_from : List ParamRange → List (List ℕ) → Option Inequality
row_from params ws =
    option_and_then (λ (c : ℤ). option_and_then (λ (ts : List RowTerm). row_with c ts)
    (all_on (term_of params) [] (later ws))) (front signed_word ws)

-- start, done U I, skip U I
abbrev pub moved : Bool → Option (ℕ × ℕ) → Option Way
moved is_done None = None
moved is_done (Some p) = if is_done then Some (way.Done p.0 p.1) else Some (way.Skip p.0 p.1)

abbrev pub way_from : List (List ℕ) → Option Way
way_from [] = None
way_from (w ∷ ws) = if bytes_eq w (codes "start") then Some way.Start else moved (bytes_eq w (codes "done")) (two ws)

abbrev pub past_way : List (List ℕ) → List (List ℕ)
past_way [] = []
past_way (w ∷ ws) = if bytes_eq w (codes "start") then ws else later (later ws)

-- D PAIR*
abbrev pub ending_from : About → Way → List (List ℕ) → Option Line
ending_from a w ws =
    option_and_then (λ (d : ℕ). option_map
    (λ (ms : List Multiplier). line.Proof (record { about = a; way = w; divisor = d; pairs = ms }))
    (all_on pair_of [] (later ws))) (front (number_below (2 ^ 127) 0) ws)

abbrev pub waying_from : About → List (List ℕ) → Option Line
waying_from a ws = option_and_then (λ (w : Way). ending_from a w (past_way ws)) (way_from ws)

abbrev pub step_from : List (List ℕ) → Option Line
step_from ws = option_and_then (λ (n : ℕ). waying_from (about.Fact n) (later ws)) (front small_of ws)

abbrev pub turn_from : List (List ℕ) → Option Line
turn_from ws = option_and_then (λ (p : ℕ × ℕ). waying_from (about.Turn p.0 p.1) (later (later ws))) (two ws)

abbrev pub low_from : List (List ℕ) → Option Line
low_from ws =
    option_and_then (λ (p : ℕ × ℕ). ending_from (about.Low p.0 p.1) (way.Done p.0 p.1) (later (later ws))) (two ws)

abbrev pub high_from : List (List ℕ) → Option Line
high_from ws =
    option_and_then (λ (p : ℕ × ℕ). ending_from (about.High p.0 p.1) (way.Done p.0 p.1) (later (later ws))) (two ws)

abbrev pub fact_from : List ParamRange → List (List ℕ) → Option Line
fact_from params ws =
    option_and_then (λ (h : ℕ × ℕ × ℕ). option_map
    (λ (row : Inequality). line.Fact h.0 (record { block = h.1; index = h.2; row = row }))
    (row_from params (later (later (later ws))))) (three ws)

abbrev pub row_line_from : List ParamRange → List (List ℕ) → Option Line
row_line_from params ws =
    option_and_then (λ (b : ℕ). option_map (λ (row : Inequality). line.Row (record { block = b; row = row }))
    (row_from params (later ws))) (front small_of ws)

abbrev pub atom_from : List ParamRange → List (List ℕ) → Option Line
atom_from params ws =
    option_and_then (λ (c : ℤ). option_and_then
    (λ (d : ℤ). option_map (λ (cs : List Coef). line.Atom (record { coefs = cs; constant = c; divisor = d }))
    (all_on (coef_of params) [] (later (later ws)))) (front signed_word (later ws))) (front signed_word ws)

abbrev pub loop_from : List (List ℕ) → Option Line
loop_from ws =
    option_and_then (λ (i : ℕ). option_and_then
    (λ (h : ℕ). option_and_then (λ (d : ℕ). option_map (λ (a : ℕ). line.Loop i h d a)
    (front (number_below (2 ^ 64) 0) (later (later (later (later (later (later ws))))))))
    (front small_of (later (later (later (later ws)))))) (front small_of (later (later ws)))) (front small_of ws)

abbrev pub block_from : List (List ℕ) → Option Line
block_from ws =
    option_and_then (λ (i : ℕ). option_and_then
    (λ (a : ℕ). option_and_then (λ (n : ℕ). option_map
    (λ (rs : List ℕ). line.Block i (record { address = a; points = n; returns = rs }))
    (all_on address_of [] (later (later (later ws))))) (front small_of (later (later ws))))
    (front address_of (later ws))) (front small_of ws)

abbrev pub param_from : List (List ℕ) → Option Line
param_from ws =
    option_and_then (λ (name : List ℕ). option_and_then
    (λ (r : ℕ). option_and_then (λ (low : ℤ). option_map
    (λ (high : ℤ). line.Param (record { name = name; register = r; low = low; high = high }))
    (front narrow_of (later (later (later ws))))) (front narrow_of (later (later ws))))
    (front (λ (w : List ℕ). number_below 256 0 (byte_off w)) (later ws))) (front (ascii_on []) ws)

abbrev pub timing_of : List ℕ → Option Line
timing_of ns =
    if length ns == 17 then Some (line.Timing
    (record {
      sets = slice_index ns 0;
      ways = slice_index ns 1;
      line = slice_index ns 2;
      miss = slice_index ns 3;
      skipped = slice_index ns 4;
      register = slice_index ns 5;
      classes = slice_index ns 6 ∷ slice_index ns 7
          ∷ slice_index ns 8 ∷ slice_index ns 9 ∷ slice_index ns 10 ∷ slice_index ns 11 ∷ slice_index ns 12
          ∷ slice_index ns 13 ∷ slice_index ns 14 ∷ slice_index ns 15 ∷ slice_index ns 16 ∷ [];
    }))
    else None

abbrev pub timing_from : List (List ℕ) → Option Line
timing_from ws = option_and_then timing_of (all_on small_of [] ws)

abbrev pub function_from : List (List ℕ) → Option Line
function_from ws =
    option_and_then (λ (e : ℕ). option_map (λ (s : ℕ). line.Function e s) (front small_of (later (later ws))))
    (front address_of ws)

abbrev pub version_from : List (List ℕ) → Option Line
version_from ws = option_map line.Version (front (number_below 256 0) ws)

-- by its keyword, from the space after it on
abbrev pub plain_by : List ℕ → List (List ℕ) → Option Line
plain_by key ws =
    if bytes_eq key (codes "loop") then loop_from ws
    else if bytes_eq key (codes "end") then Some line.End
    else if bytes_eq key (codes "function") then function_from ws
    else if bytes_eq key (codes "wsymb") then version_from ws
    else None

abbrev pub other_by : List ParamRange → List ℕ → List ℕ → Option Line
other_by params key rest =
    if bytes_eq key (codes "tree") then option_map line.Tree (read_of 1000 (byte_off rest))
    else if bytes_eq key (codes "formula") then option_map line.Formula (parsed list_of 2000 (byte_off rest))
    else if bytes_eq key (codes "param") then param_from (words rest)
    else if bytes_eq key (codes "timing") then timing_from (words rest)
    else if bytes_eq key (codes "row") then row_line_from params (words rest)
    else if bytes_eq key (codes "atom") then atom_from params (words rest)
    else plain_by key (words rest)

abbrev pub line_by : List ParamRange → List ℕ → List ℕ → Option Line
line_by params key rest =
    if bytes_eq key (codes "step") then step_from (words rest)
    else if bytes_eq key (codes "fact") then fact_from params (words rest)
    else if bytes_eq key (codes "low") then low_from (words rest)
    else if bytes_eq key (codes "high") then high_from (words rest)
    else if bytes_eq key (codes "turn") then turn_from (words rest)
    else if bytes_eq key (codes "block") then block_from (words rest)
    else other_by params key rest

abbrev pub kept : List ParamRange → List ℕ → Line → Option Line
kept params text l = if bytes_eq (line_text params l) text then Some l else None

abbrev pub line_of : List ParamRange → List ℕ → Option Line
line_of params text = option_and_then (kept params text) (line_by params (before 32 text) (from 32 text))
