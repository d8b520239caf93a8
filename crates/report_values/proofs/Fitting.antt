-- What was read of a report has bounds that fit its parameters.
use Rattle.std.proofs.Common.{◌≡◌, ℕ, ℤ, zero, suc, pos, ◌+◌, ◌<◌, ◌≤◌, ◌^◌, ◌≤ℤ◌, refl, sym, ap, subst, ◌∙◌, List, [], ◌∷◌, ◌++◌, length}
use Rattle.std.proofs.Common.{Bool, true, false, ◌&&◌, if◌then◌else◌, ◌==◌, nat_lt, nat_le, arith}
use Rattle.std.proofs.lemmas.Bool.{eqb-true}
use Rattle.std.proofs.lemmas.Bool.Decides.{nat_tests}
use Rattle.std.proofs.lemmas.List.{length-append}
use Rattle.std.proofs.lemmas.List.Elements.{All-head, All-nil, All-tail}
use Rattle.std.proofs.lemmas.Int.{ints}
use Rattle.std.specs.Prelude.{All, int_le, int_lt, unsigned_abs}
use Rattle.std.specs.Str.{bytes_eq}
use Rattle.wsym_terms.specs.Bounds.{AtomFits, CoefFits}
use Rattle.wsym_terms.specs.declared.bounds.Atom.{Atom}
use Rattle.wsym_terms.specs.declared.bounds.Bound.{Bound}
use Rattle.wsym_terms.specs.declared.bounds.Coef.{Coef}
use Rattle.wsym_terms.specs.declared.bounds.ParamRange.{ParamRange}
use Rattle.linear_rows.specs.NormalForm.{is_within}
use Rattle.report_elements.specs.Elements.{name_at}
use Rattle.report_lines.specs.declared.report.Line.{Line}
use Rattle.report_lines.specs.declared.report.Line.TheVariants as line
use Rattle.report_lines.specs.declared.report.Report.{Report}
use Rattle.report_lines.specs.declared.report.ReportLoop.{ReportLoop}
use Rattle.report_lines.specs.Grammar.{lines_of}
use Rattle.report_rules.specs.declared.forms.Form.{Form}
use Rattle.report_rules.specs.Following.{after_atom, atom_ok, coefs_from, has, holds, is_name, is_narrow, is_taken, last_atom, last_of, may, names_itself, names_text, no_blocks, no_loops, no_rows, param_exists, param_ok, put, start}
use Rattle.report_rules.specs.Headers.{new_loop, with_atom}
use Rattle.report_rules.specs.Steps.{all_may, final}
use Rattle.report_lines.specs.Reading.{place_of}
use Rattle.report_values.specs.Evaluations.{HasFittingBounds, bounds_of}
use Rattle.whole_reports.specs.Reports.{is_well_formed}
use Rattle.whole_reports.proofs.KindLaws.{le_is, lt_is, split3, split5, split6}
use Rattle.whole_reports.proofs.ReportLaws.{final_report}
use Rattle.whole_reports.proofs.StepLaws.{both}

all_with_first : {X : Type 0} (P : X → Type 0) (x : X) (xs : List X) → P x → All P xs → All P (x ∷ xs)
all_with_first P x xs first rest zero d less = first
all_with_first P x xs first rest (suc k) d less = rest k d (omega (arith, less))

all_with_last : {X : Type 0} (P : X → Type 0) (xs : List X) (x : X) → All P xs → P x → All P (xs ++ x ∷ [])
all_with_last P [] x all last = all_with_first P x [] last (All-nil P)
all_with_last P (y ∷ xs) x all last =
    all_with_first P y (xs ++ x ∷ []) (All-head P y xs all) (all_with_last P xs x (All-tail P y xs all) last)

-- a place with a name is that of a parameter
named_below : (params : List ParamRange) (place : ℕ) → is_name (name_at params place) ≡ true → place < length params
named_below [] place e = absurd (cc)
named_below (p ∷ params) zero e = omega arith
named_below (p ∷ params) (suc place) e = let below = named_below params place e in omega (arith, below)

exists_below : (params : List ParamRange) (place : ℕ) → param_exists params place ≡ true → place < length params
exists_below params place e =
    named_below params place
    (both (is_name (name_at params place)) (names_itself params place (place_of 0 params (name_at params place))) e).0

-- coefficients of ascending parameters: there are at most as many as parameters that are left
few_coefs : (params : List ParamRange) (least : ℕ) (cs : List Coef) → least ≤ length params → coefs_from params least cs ≡ true
    → least + length cs ≤ length params
few_coefs params least [] room e = omega (arith, room)
few_coefs params least (c ∷ cs) room e =
    let p = split5 (nat_le least c.param) (param_exists params c.param) (is_within c.factor) (nat_lt 0 (unsigned_abs c.factor))
    (coefs_from params (c.param + 1) cs) e in
    let from = le_is least c.param p.0 in
    let below = exists_below params c.param p.1 in
    let next : c.param + 1 ≤ length params = omega (arith, below) in
    let more = few_coefs params (c.param + 1) cs next p.4 in omega (arith, from, more)

fitting_coefs : (params : List ParamRange) (least : ℕ) (cs : List Coef) → coefs_from params least cs ≡ true
    → All (CoefFits (length params)) cs
fitting_coefs params least [] e = All-nil (CoefFits (length params))
fitting_coefs params least (c ∷ cs) e =
    let p = split5 (nat_le least c.param) (param_exists params c.param) (is_within c.factor) (nat_lt 0 (unsigned_abs c.factor))
    (coefs_from params (c.param + 1) cs) e in
    let within = le_is (unsigned_abs c.factor) (2 ^ 90) p.2 in
    let one : CoefFits (length params) c = record { known = exists_below params c.param p.1; factor = within } in
    all_with_first (CoefFits (length params)) c cs one (fitting_coefs params (c.param + 1) cs p.4)

abbrev Fits : ℕ → Bound → Type 0
Fits n b = All (AtomFits n) b.atoms

abbrev AllFit : ℕ → List ReportLoop → Type 0
AllFit n loops = All (Fits n) (bounds_of loops)

-- numbers that no parameter has as its register
abbrev has_register : List ParamRange → ℕ → Bool
has_register [] r = false
has_register (p ∷ params) r = if p.register == r then true else has_register params r

abbrev one_unless : Bool → ℕ
one_unless true = 0
one_unless false = 1

abbrev free_below : ℕ → List ParamRange → ℕ
free_below zero params = 0
free_below (suc k) params = one_unless (has_register params k) + free_below k params

untaken : (p : ParamRange) (params : List ParamRange) (named same rest : Bool)
    → (if named then true else if same then true else rest) ≡ false → (same ≡ false) × (rest ≡ false)
untaken p params true same rest e = absurd (cc)
untaken p params false true rest e = absurd (cc)
untaken p params false false rest e = (refl, e)

free_register : (p : ParamRange) (params : List ParamRange) → is_taken p params ≡ false → has_register params p.register ≡ false
free_register p [] e = refl
free_register p (q ∷ params) e =
    let h = untaken p params (bytes_eq q.name p.name) (q.register == p.register) (is_taken p params) e in
    (λ i. if h.0 i then true else free_register p params h.1 i)

more_if : (b c d x : Bool) → x ≡ (if b then true else c) → (if d then true else x) ≡ (if b then true else if d then true else c)
more_if true c true x e = refl
more_if true c false x e = e
more_if false c d x e = ap (λ (y : Bool). if d then true else y) e

register_more : (params : List ParamRange) (p : ParamRange) (r : ℕ)
    → has_register (params ++ p ∷ []) r ≡ (if p.register == r then true else has_register params r)
register_more [] p r = refl
register_more (q ∷ params) p r =
    more_if (p.register == r) (has_register params r) (q.register == r) (has_register (params ++ p ∷ []) r) (register_more params p r)

fewer : (b c : Bool) → one_unless (if b then true else c) ≤ one_unless c
fewer true c = omega arith
fewer false c = omega arith

-- one parameter more leaves no more registers
free_less : (k : ℕ) (params : List ParamRange) (p : ParamRange) → free_below k (params ++ p ∷ []) ≤ free_below k params
free_less zero params p = omega arith
free_less (suc k) params p =
    let here = fewer (p.register == k) (has_register params k) in
    let same = ap one_unless (register_more params p k) in
    let rest = free_less k params p in omega (arith, here, same, rest)

taken_now : (b c : Bool) → b ≡ true → c ≡ false → one_unless (if b then true else c) + 1 ≤ one_unless c
taken_now true false x y = omega arith
taken_now true true x y = absurd (cc)
taken_now false c x y = absurd (cc)

-- and one that was free is taken
free_one_less : (k : ℕ) (params : List ParamRange) (p : ParamRange) → p.register < k → has_register params p.register ≡ false
    → free_below k (params ++ p ∷ []) + 1 ≤ free_below k params
free_one_less zero params p under free = absurd (omega (arith, under))
free_one_less (suc k) params p under free =
    by (λ below. free_one_less k params p below free) (p.register == k) refl
  where
    below_by : (r k : ℕ) → r < suc k → (r == k) ≡ false → r < k
    below_by r k under is = grind (arith, nat_tests)

    by : (p.register < k → free_below k (params ++ p ∷ []) + 1 ≤ free_below k params) → (b : Bool) → (p.register == k) ≡ b
        → free_below (suc k) (params ++ p ∷ []) + 1 ≤ free_below (suc k) params
    by rest true is =
        let at = eqb-true p.register k is in
        let here = taken_now (p.register == k) (has_register params k) is (ap (has_register params) (sym at) ∙ free) in
        let same = ap one_unless (register_more params p k) in
        let less = free_less k params p in omega (arith, here, same, less)
    by rest false is =
        let here = fewer (p.register == k) (has_register params k) in
        let same = ap one_unless (register_more params p k) in
        let less = rest (below_by p.register k under is) in omega (arith, here, same, less)

-- what holds of all that was read so far
record Kept (f : Form) : Type 0 where
  room : length f.params + free_below 13 f.params ≤ 13
  fit : AllFit (length f.params) f.loops

all_more : (n : ℕ) (loops : List ReportLoop) (header depth : ℕ) → AllFit n loops → AllFit n (loops ++ new_loop header depth ∷ [])
all_more n [] header depth fit =
    all_with_first (Fits n) (new_loop header depth).bound [] (All-nil (AtomFits n)) (All-nil (Fits n))
all_more n (l ∷ loops) header depth fit =
    all_with_first (Fits n) l.bound (bounds_of (loops ++ new_loop header depth ∷ [])) (All-head (Fits n) l.bound (bounds_of loops) fit)
    (all_more n loops header depth (All-tail (Fits n) l.bound (bounds_of loops) fit))

all_with : (n : ℕ) (loops : List ReportLoop) (a : Atom) → AllFit n loops → AtomFits n a → AllFit n (with_atom loops a)
all_with n [] a fit one = All-nil (Fits n)
all_with n (l ∷ []) a fit one =
    let new : Bound = record { atoms = l.bound.atoms ++ a ∷ [] } in
    all_with_first (Fits n) new [] (all_with_last (AtomFits n) l.bound.atoms a (All-head (Fits n) l.bound [] fit) one) (All-nil (Fits n))
all_with n (l ∷ m ∷ loops) a fit one =
    all_with_first (Fits n) l.bound (bounds_of (with_atom (m ∷ loops) a)) (All-head (Fits n) l.bound (bounds_of (m ∷ loops)) fit)
    (all_with n (m ∷ loops) a (All-tail (Fits n) l.bound (bounds_of (m ∷ loops)) fit) one)

-- where no loop was read yet
no_loop : (loops : List ReportLoop) (rest : Bool) → (if holds loops then false else rest) ≡ true → loops ≡ []
no_loop [] rest e = refl
no_loop (l ∷ loops) rest e = absurd (cc)

past : (b rest : Bool) → (if b then false else rest) ≡ true → rest ≡ true
past true rest e = absurd (cc)
past false rest e = e

not_true : (b : Bool) → (if b then false else true) ≡ true → b ≡ false
not_true true e = absurd (cc)
not_true false e = refl

positive : (d : ℤ) → int_lt (pos 0) d ≡ true → pos 1 ≤ℤ d
positive d e = grind (arith, ints)

atom_fits : (f : Form) (a : Atom) → length f.params ≤ 13 → atom_ok f a ≡ true → AtomFits (length f.params) a
atom_fits f a few e =
    let ends = both (nat_lt 0 f.owed && holds f.loops && is_within a.constant && is_within a.divisor && int_lt (pos 0) a.divisor
    && coefs_from f.params 0 a.coefs) (after_atom (last_atom (last_of f.loops)) a) e in
    let p = split6 (nat_lt 0 f.owed) (holds f.loops) (is_within a.constant) (is_within a.divisor) (int_lt (pos 0) a.divisor)
    (coefs_from f.params 0 a.coefs) ends.0 in
    let coefs = p.5 in
    let count = few_coefs f.params 0 a.coefs (omega arith) coefs in
    record {
      few = omega (arith, count, few);
      coefs = fitting_coefs f.params 0 a.coefs coefs;
      constant = le_is (unsigned_abs a.constant) (2 ^ 90) p.2;
      positive = positive a.divisor p.4;
    }

param_kept : (f : Form) (p : ParamRange) → may f (line.Param p) ≡ true → Kept f → Kept (put f (line.Param p))
param_kept f p e kept =
    let q = split3 (param_ok f.params p) (has f.timing) (no_blocks f) e in
    let ok = split6 (is_name p.name) (nat_lt p.register 13) (if is_taken p f.params then false else true) (int_le p.low p.high)
    (is_narrow p.low) (is_narrow p.high) q.0 in
    let none : f.loops ≡ [] = no_loop f.loops (no_rows f) (past (holds f.blocks) (no_loops f) q.2) in
    let less = free_one_less 13 f.params p (lt_is p.register 13 ok.1) (free_register p f.params (not_true (is_taken p f.params) ok.2)) in
    let long : length (f.params ++ p ∷ []) ≡ length f.params + 1 = length-append f.params (p ∷ []) in
    record {
      room = let had = kept.room in omega (arith, less, long, had);
      fit = let n = length (f.params ++ p ∷ []) in subst (λ (ls : List ReportLoop). AllFit n ls) (sym none) (All-nil (Fits n));
    }

few_params : (f : Form) → Kept f → length f.params ≤ 13
few_params f kept = let had = kept.room in omega (arith, had)

kept_step : (f : Form) (l : Line) → may f l ≡ true → Kept f → Kept (put f l)
kept_step f (line.Version v) e kept = record { room = kept.room; fit = kept.fit }
kept_step f (line.Function a s) e kept = record { room = kept.room; fit = kept.fit }
kept_step f (line.Timing t) e kept = record { room = kept.room; fit = kept.fit }
kept_step f (line.Param p) e kept = param_kept f p e kept
kept_step f (line.Block i b) e kept = record { room = kept.room; fit = kept.fit }
kept_step f (line.Loop i h d a) e kept = record { room = kept.room; fit = all_more (length f.params) f.loops h d kept.fit }
kept_step f (line.Atom a) e kept =
    let one = atom_fits f a (few_params f kept) (both (atom_ok f a) (no_rows f) e).0 in
    record { room = kept.room; fit = all_with (length f.params) f.loops a kept.fit one }
kept_step f (line.Row r) e kept = record { room = kept.room; fit = kept.fit }
kept_step f (line.Fact i q) e kept = record { room = kept.room; fit = kept.fit }
kept_step f (line.Proof p) e kept = record { room = kept.room; fit = kept.fit }
kept_step f (line.Tree t) e kept = record { room = kept.room; fit = kept.fit }
kept_step f (line.Formula t) e kept = record { room = kept.room; fit = kept.fit }
kept_step f line.End e kept = record { room = kept.room; fit = kept.fit }

kept_steps : (ls : List Line) (f : Form) → all_may names_text may put f ls ≡ true → Kept f → Kept (final names_text may put f ls)
kept_steps [] f e kept = kept
kept_steps (l ∷ ls) f e kept =
    let p = both (may f l) (all_may names_text may put (put f l) ls) e in
    kept_steps ls (put f l) p.1 (kept_step f l p.0 kept)

-- so a well-formed report has fitting bounds
pub fitting_bounds : (r : Report) → is_well_formed r ≡ true → HasFittingBounds r
fitting_bounds r e =
    let end = kept_steps (lines_of r) start e (record { room = omega arith; fit = All-nil (Fits 0) }) in
    subst (λ (f : Form). AllFit (length f.params) f.loops) (final_report r) end.fit
