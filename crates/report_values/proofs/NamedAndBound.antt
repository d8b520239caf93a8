-- The bounds of a report, and values in their ranges.
use Rattle.std.proofs.Common.{◌≡◌, ℕ, ℤ, zero, suc, ◌-◌, ◌≤ℤ◌, refl, sym, ap, subst, ◌∙◌, List, [], ◌∷◌, ◌++◌, length, map}
use Rattle.std.proofs.Common.{Option, Some, None, Bool, true, false, ◌&&◌, append_assoc, append-nil, ◌<◌, ◌+◌, take, drop, get_or}
use Rattle.std.proofs.Common.{if◌then◌else◌}
use lib.Signed.{le_z_yes}
use Rattle.std.proofs.lemmas.List.{drop_more, take_more}
use Rattle.std.specs.Prelude.{All, T, slice_get, int_le, option_and_then, Result, Ok}
use Rattle.wsym_terms.specs.Extents.{Extent}
use Rattle.wsym_terms.specs.Costs.{cost_of}
use Rattle.wsym_terms.specs.Bounds.{AtomFits}
use Rattle.wsym_terms.specs.declared.bounds.Bound.{Bound}
use Rattle.wsym_terms.specs.declared.bounds.ParamRange.{ParamRange}
use Rattle.wsym_terms.specs.declared.costs.Cost.{Cost}
use Rattle.wsym_formula.specs.Terms.{term_value}
use Rattle.wsym_formula.specs.Values.{bound_at, value_if}
use Rattle.wsym_formula.specs.declared.terms.Term.{Term}
use Rattle.command_words.specs.declared.valuations.NamedValue.{NamedValue}
use Rattle.report_lines.specs.declared.report.ReportLoop.{ReportLoop}
use Rattle.report_lines.specs.declared.report.Report.{Report}
use Rattle.report_lines.specs.Values.{AreInRange, loop_value, value_of_formula}
use Rattle.report_values.specs.Evaluations.{HasFittingBounds, bounds_of}
use Rattle.report_values.specs.Naming.{first_bad, if_within, is_good, named_values, or_bad, or_missing, value_by, value_of, values_after}

pub fitting : (report : Report) (bounds : List Bound) (n : ℕ) → HasFittingBounds report → bounds ≡ bounds_of report.loops
    → n ≡ length report.params → All (λ (b : Bound). All (AtomFits n) b.atoms) bounds
fitting report bounds n fits are is =
    subst (λ (bs : List Bound). All (λ (b : Bound). All (AtomFits n) b.atoms) bs) (sym are)
    (subst (λ (k : ℕ). All (λ (b : Bound). All (AtomFits k) b.atoms) (bounds_of report.loops)) (sym is) fits)

same_bound : (values : List ℤ) (loops : List ReportLoop) (k : ℕ)
    → value_if (slice_get (map (λ (l : ReportLoop). l.bound) loops) k) values ≡ loop_value values (slice_get loops k)
same_bound values [] k = refl
same_bound values (l ∷ loops) zero = refl
same_bound values (l ∷ loops) (suc k) = same_bound values loops k

same_bounds : (values : List ℤ) (loops : List ReportLoop)
    → ◌≡◌ {A = ℕ → Extent} (bound_at (bounds_of loops) values) (λ id. loop_value values (slice_get loops (id - 1)))
same_bounds values loops = λ i id. same_bound values loops (id - 1) i

-- the value for the list of bounds is the report's
pub same_value : (report : Report) (values : List ℤ) (bounds : List Bound) (term : Term) (cost : Cost) → bounds ≡ bounds_of report.loops
    → term ≡ report.formula → cost ≡ cost_of (term_value (bound_at bounds values) term 1) → cost ≡ cost_of (value_of_formula report values)
same_value report values bounds term cost are is value =
    value
    ∙ ap (λ (bs : List Bound). cost_of (term_value (bound_at bs values) term 1)) are
    ∙ ap (λ (t : Term). cost_of (term_value (bound_at (bounds_of report.loops) values) t 1)) is
    ∙ ap (λ (b : ℕ → Extent). cost_of (term_value b report.formula 1)) (same_bounds values report.loops)

ordered : (a b : ℤ) → int_le a b ≡ true → a ≤ℤ b
ordered a b h = le_z_yes (subst T (sym h) tt)

within_some : (p : ParamRange) (v w : ℤ) (a b : Bool) → int_le p.low v ≡ a → int_le v p.high ≡ b
    → ◌≡◌ {A = Option ℤ} (if a && b then Some v else None) (Some w) → (p.low ≤ℤ w) × (w ≤ℤ p.high)
within_some p v w true true low high is =
    let same : v ≡ w = cc in
    (subst (λ (z : ℤ). p.low ≤ℤ z) same (ordered p.low v low), subst (λ (z : ℤ). z ≤ℤ p.high) same (ordered v p.high high))
within_some p v w true false low high is = absurd (cc)
within_some p v w false b low high is = absurd (cc)

found_within : (p : ParamRange) (found : Option ℤ) (w : ℤ) → option_and_then (if_within p) found ≡ Some w → (p.low ≤ℤ w) × (w ≤ℤ p.high)
found_within p None w is = absurd (cc)
found_within p (Some v) w is = within_some p v w (int_le p.low v) (int_le v p.high) refl refl is

abbrev IsTail : List ℤ → List ParamRange → List ℤ → Type 0
IsTail done params at = (more : List ℤ) × (at ≡ done ++ more) × AreInRange params more × (length more ≡ length params)

same_ok : (a b : List ℤ) → ◌≡◌ {A = Result (List ℤ) (List ℕ)} (Ok a) (Ok b) → b ≡ a
same_ok a b e = cc

ranged_one : (done : List ℤ) (p : ParamRange) (params : List ParamRange) (values : List NamedValue) (at : List ℤ) (found : Option ℤ)
    → value_of values p ≡ found → ((v : ℤ) → values_after (done ++ v ∷ []) params values ≡ Ok at → IsTail (done ++ v ∷ []) params at)
    → or_missing p.name (λ v. values_after (done ++ v ∷ []) params values) found ≡ Ok at → IsTail done (p ∷ params) at
ranged_one done p params values at None has next is = absurd (cc)
ranged_one done p params values at (Some v) has next is =
    let tail = next v is in
    let range = found_within p (value_by values p.name) v has in
    (v ∷ tail.0, tail.1 ∙ append_assoc done (v ∷ []) tail.0, (range.0, range.1, tail.2), ap suc tail.3)

-- values that are found in order are in their ranges, after those before
ranged_after : (done : List ℤ) (params : List ParamRange) (values : List NamedValue) (at : List ℤ) → values_after done params values ≡ Ok at
    → IsTail done params at
ranged_after done [] values at is = ([], same_ok done at is ∙ sym (append-nil done), tt, refl)
ranged_after done (p ∷ params) values at is =
    ranged_one done p params values at (value_of values p) refl (λ v. ranged_after (done ++ v ∷ []) params values at) is

ranged_named : (params : List ParamRange) (values : List NamedValue) (at : List ℤ) (bad : Option (List ℕ))
    → or_bad (values_after [] params values) bad ≡ Ok at → AreInRange params at × (length at ≡ length params)
ranged_named params values at (Some name) is = absurd (cc)
ranged_named params values at None is =
    let tail = ranged_after [] params values at is in
    (subst (λ (vs : List ℤ). AreInRange params vs) (sym tail.1) tail.2, ap length tail.1 ∙ tail.3)

-- so the values that a report's parameters get are in their ranges, and there are as many
pub ranged : (params : List ParamRange) (values : List NamedValue) (at : List ℤ) → named_values params values ≡ Ok at
    → AreInRange params at
ranged params values at is = (ranged_named params values at (first_bad params [] values) is).0

pub as_many : (params : List ParamRange) (values : List NamedValue) (at : List ℤ) → named_values params values ≡ Ok at
    → length at ≡ length params
as_many params values at is = (ranged_named params values at (first_bad params [] values) is).1

next_one : (params : List ParamRange) (earlier values : List NamedValue) (v : NamedValue) (good : Bool) → is_good params earlier v ≡ good
    → good ≡ true → first_bad params earlier (v ∷ values) ≡ first_bad params (earlier ++ v ∷ []) values
next_one params earlier values v good has is = rw (has, is) refl

-- after a good value
pub next_good : (params : List ParamRange) (values : List NamedValue) (at : ℕ) (v : NamedValue) → at < length values → v ≡ get_or values at v
    → is_good params (take at values) v ≡ true
    → first_bad params (take (at + 1) values) (drop (at + 1) values) ≡ first_bad params (take at values) (drop at values)
next_good params values at v inside is good =
    let rest : drop at values ≡ v ∷ drop (at + 1) values = rw (drop_more values at v inside, ← is) refl in
    let front : take (at + 1) values ≡ take at values ++ v ∷ [] = rw (take_more values at v inside, ← is) refl in
    ap (λ (es : List NamedValue). first_bad params es (drop (at + 1) values)) front
    ∙ sym (next_one params (take at values) (drop (at + 1) values) v true good refl)
    ∙ ap (first_bad params (take at values)) (sym rest)
