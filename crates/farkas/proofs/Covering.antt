-- The variables of a run: all are eliminated, each once.
use Rattle.std.proofs.Common.{◌≡◌, ◌≢◌, refl, sym, ap, ◌∙◌, subst, ℕ, ◌+◌, ◌<◌, ℤ, pos, negsuc, neg_ℤ, ◌+ℤ◌, ◌*ℤ◌, List, [], ◌∷◌, Bool, true, false, Option, arith}
use Rattle.std.specs.Prelude.{if◌then◌else◌, ◌&&◌}
use Rattle.std.proofs.lemmas.Int.{ints}
use Rattle.std.proofs.Math.IntN.{*ℤ-zero, *ℤ_comm}
use Rattle.std.specs.declared.cmp.Ordering.{Ordering}
use Rattle.std.specs.declared.cmp.Ordering.TheVariants.{Less, Equal, Greater}
use Rattle.std.specs.Ordering.{is_eq, match_ordering}
use Rattle.linear_rows.specs.declared.rows.Var.{Var}
use Rattle.linear_rows.specs.declared.rows.RowTerm.{RowTerm}
use Rattle.linear_rows.specs.Variables.{var_cmp}
use Rattle.linear_rows.specs.Rows.{Inequality, Valuation, sum_at}
use Rattle.linear_rows.specs.Terms.{Follows, IsAscending, IsCollected, factor_of}
use Rattle.linear_rows.proofs.VariableOrder.{same_var, equal_itself, greater_less, less_trans}
use Rattle.linear_rows.proofs.TermLists.{by_order, follows_before}
use Rattle.linear_rows.proofs.Integers.{mul-neg}
use Rattle.linear_rows.proofs.Values.{sum_at-scaled}
use Rattle.linear_rows.proofs.Normal.{sum_at-divided}
use Rattle.linear_rows.proofs.Combining.{sum_at-weighted}
use Rattle.row_elimination.specs.declared.steps.Equality.{Equality}
use Rattle.farkas.specs.Points.{IsAbsent, IsDistinct}
use Rattle.row_elimination.specs.Derivations.{Derivation, given_from, at_most_last, at_least_last, size_of, combination, sum_terms, sum_last, sum_constant, sum_divisor}
use Rattle.row_elimination.specs.Steps.{Match, has_positive, has_negative, is_made, equality_of, without, with_var, matches_of, matches_from, matches, combined, candidates, eliminated, run}
use Rattle.farkas.specs.Deciding.{with_one_var, with_vars, vars_of, start_of, variables_of}
use Rattle.row_elimination.proofs.Summing.{divisor_positive, divisor_divides}
use Rattle.farkas.proofs.Rings.{cancel_same}
use Rattle.farkas.proofs.Proving.{unit, unit_first, unit_behind, lt_of, abs_above, abs_below}
use Rattle.farkas.proofs.Reaching.{factor_behind}
use Rattle.farkas.proofs.Following.{Each, Each-append, Each-without, Each-with, Each-with_each, EachMatch, EachMatch-append, Both, matches_from-both}
use Rattle.farkas.proofs.Meeting.{each_without, both_each, mapped}
use Rattle.farkas.proofs.Standing.{eliminated_collected}

unit_apart : (x y : Var) → x ≢ y → unit x y ≡ pos 0
unit_apart x y h =
    by_order x y
    (λ less. ap (λ (o : Ordering). if is_eq o then pos 1 else pos 0) less)
    (λ equal. absurd (h (same_var x y equal)))
    (λ greater. ap (λ (o : Ordering). if is_eq o then pos 1 else pos 0) greater)

unit_factor : (x : Var) (ts : List RowTerm) → IsAscending ts → sum_at (unit x) ts ≡ factor_of x ts
unit_factor x [] h = refl
unit_factor x (t ∷ ts) h =
    by_order x t.var
    (λ less.
    let f : Follows x (t ∷ ts) = (less, follows_before x t.var ts less h.0) in unit_behind x (t ∷ ts) f ∙ sym (factor_behind x (t ∷ ts) f))
    (λ equal.
    let same = same_var x t.var equal in
    ap (λ (w : Var). sum_at (unit w) (t ∷ ts)) same ∙ unit_first t ts h.0
    ∙ sym (ap (λ (o : Ordering). if is_eq o then t.factor else factor_of x ts) equal))
    (λ greater.
    let none : t.factor *ℤ unit x t.var ≡ pos 0 = ap (λ (o : Ordering). t.factor *ℤ (if is_eq o then pos 1 else pos 0)) greater ∙ *ℤ-zero t.factor in
    let rest = unit_factor x ts h.1 in
    let factor : factor_of x (t ∷ ts) ≡ factor_of x ts = ap (λ (o : Ordering). if is_eq o then t.factor else factor_of x ts) greater in omega (arith, ints))

-- the inequality mentions none but some variables
abbrev pub Covers : List Var → Derivation → Type 0
Covers vs r = (x : Var) → IsAbsent x vs → sum_at (unit x) r.terms ≡ pos 0

apart_less : (x y : Var) → var_cmp x y ≡ Less → x ≢ y
apart_less x y e h = let f : var_cmp x y ≡ Equal = ap (λ (w : Var). var_cmp w y) h ∙ equal_itself y in cc

apart_greater : (x y : Var) → var_cmp x y ≡ Greater → x ≢ y
apart_greater x y e h = let f : var_cmp x y ≡ Equal = ap (λ (w : Var). var_cmp w y) h ∙ equal_itself y in cc

-- without y, of y and others only the others
less_covered : (y : Var) (ys : List Var) (r : Derivation) → Covers (y ∷ ys) r → sum_at (unit y) r.terms ≡ pos 0 → Covers ys r
less_covered y ys r h e x absent =
    by_order x y
    (λ less. h x (apart_less x y less, absent))
    (λ equal. ap (λ (w : Var). sum_at (unit w) r.terms) (same_var x y equal) ∙ e)
    (λ greater. h x (apart_greater x y greater, absent))

combination_sum : (v : Valuation) (y : Var) (p n : Derivation) →
    pos (sum_divisor (size_of y n) p (size_of y p) n) *ℤ sum_at v (combination y p n).terms ≡ (pos (size_of y n) *ℤ sum_at v p.terms) +ℤ (pos (size_of y p) *ℤ sum_at v n.terms)
combination_sum v y p n =
    let a : ℕ = size_of y n in let b : ℕ = size_of y p in
    sum_at-divided v (sum_divisor a p b n) (sum_terms a p b n) (divisor_positive (sum_terms a p b n) (sum_last a p b n) (sum_constant a p b n)) (divisor_divides (sum_terms a p b n) (sum_last a p b n) (sum_constant a p b n))
    ∙ sum_at-weighted v (pos a) p.terms (pos b) n.terms

none_times : (g : ℕ) (z : ℤ) → 0 < g → pos g *ℤ z ≡ pos 0 → z ≡ pos 0
none_times g z h e = cancel_same g z (pos 0) h (e ∙ sym (*ℤ-zero (pos g)))

combination_covered : (y : Var) (ys : List Var) (p n : Derivation) → has_positive y p ≡ true → has_negative y n ≡ true → IsCollected p.terms → IsCollected n.terms →
    Covers (y ∷ ys) p → Covers (y ∷ ys) n → Covers ys (combination y p n)
combination_covered y ys p n hp hn cp cn kp kn =
    let a : ℕ = size_of y n in
    let b : ℕ = size_of y p in
    let above = divisor_positive (sum_terms a p b n) (sum_last a p b n) (sum_constant a p b n) in
    let g : ℕ = sum_divisor a p b n in
    less_covered y ys (combination y p n)
    (λ x absent.
    let e = combination_sum (unit x) y p n in
    let f : pos a *ℤ sum_at (unit x) p.terms ≡ pos 0 = ap (λ (z : ℤ). pos a *ℤ z) (kp x absent) ∙ *ℤ-zero (pos a) in
    let h : pos b *ℤ sum_at (unit x) n.terms ≡ pos 0 = ap (λ (z : ℤ). pos b *ℤ z) (kn x absent) ∙ *ℤ-zero (pos b) in
    none_times g (sum_at (unit x) (combination y p n).terms) above (omega (arith, ints)))
    (let e = combination_sum (unit y) y p n in
    let f : pos a *ℤ sum_at (unit y) p.terms ≡ pos a *ℤ pos b =
    ap (λ (z : ℤ). pos a *ℤ z) (unit_factor y p.terms cp.ascending ∙ abs_above (factor_of y p.terms) (lt_of (pos 0) (factor_of y p.terms) hp)) in
    let h : pos b *ℤ sum_at (unit y) n.terms ≡ neg_ℤ (pos b *ℤ pos a) =
    ap (λ (z : ℤ). pos b *ℤ z) (unit_factor y n.terms cn.ascending ∙ abs_below (factor_of y n.terms) (lt_of (factor_of y n.terms) (pos 0) hn)) ∙ mul-neg (pos b) (pos a) in
    let t = *ℤ_comm (pos a) (pos b) in
    none_times g (sum_at (unit y) (combination y p n).terms) above (omega (arith, ints)))

-- a match has factors of both signs
abbrev pub Signed : Var → Derivation → Derivation → Type 0
Signed y p n = (has_positive y p ≡ true) × (has_negative y n ≡ true)

signed_one : (y : Var) (p n : Derivation) (ms : List Match) (b c : Bool) → has_positive y p ≡ true → has_negative y n ≡ b → EachMatch (Signed y) ms →
    EachMatch (Signed y) (if b && c then record { positive = p; negative = n } ∷ ms else ms)
signed_one y p n ms true true e f h = ((e, f), h)
signed_one y p n ms true false e f h = h
signed_one y p n ms false c e f h = h

matches_of-signed : (y : Var) (e : Option Equality) (i : ℕ) (p : Derivation) (j : ℕ) (ns : List Derivation) → has_positive y p ≡ true → EachMatch (Signed y) (matches_of y e i p j ns)
matches_of-signed y e i p j [] h = tt
matches_of-signed y e i p j (n ∷ ns) h = signed_one y p n (matches_of y e i p (j + 1) ns) (has_negative y n) (is_made e i j) h refl (matches_of-signed y e i p (j + 1) ns h)

signed_row : (y : Var) (e : Option Equality) (all : List Derivation) (i : ℕ) (p : Derivation) (b : Bool) → has_positive y p ≡ b → EachMatch (Signed y) (if b then matches_of y e i p 0 all else [])
signed_row y e all i p true h = matches_of-signed y e i p 0 all h
signed_row y e all i p false h = tt

matches_from-signed : (y : Var) (e : Option Equality) (all : List Derivation) (i : ℕ) (ps : List Derivation) → EachMatch (Signed y) (matches_from y e all i ps)
matches_from-signed y e all i [] = tt
matches_from-signed y e all i (p ∷ ps) =
    EachMatch-append (Signed y) (if has_positive y p then matches_of y e i p 0 all else []) (matches_from y e all (i + 1) ps)
    (signed_row y e all i p (has_positive y p) refl) (matches_from-signed y e all (i + 1) ps)

abbrev pub CoversAll : List Var → Derivation → Type 0
CoversAll vs r = Covers vs r × IsCollected r.terms

combined_covered : (y : Var) (ys : List Var) (ms : List Match) → EachMatch (Signed y) ms → EachMatch (Both (CoversAll (y ∷ ys))) ms → Each (Covers ys) (combined y ms)
combined_covered y ys [] h k = tt
combined_covered y ys (m ∷ ms) h k =
    (combination_covered y ys m.positive m.negative h.0.0 h.0.1 k.0.0.1 k.0.1.1 k.0.0.0 k.0.1.0, combined_covered y ys ms h.1 k.1)

-- a step leaves the other variables
pub eliminated_covered : (y : Var) (ys : List Var) (rs : List Derivation) → Each (Covers (y ∷ ys)) rs → Each (λ r. IsCollected r.terms) rs → Each (Covers ys) (eliminated y rs)
eliminated_covered y ys rs h c =
    let mentioning : List Derivation = with_var y rs in
    let both = both_each (Covers (y ∷ ys)) (λ r. IsCollected r.terms) rs h c in
    let many = Each-with (CoversAll (y ∷ ys)) y rs both in
    Each-with_each (Covers ys) [] (candidates y rs) tt
    (Each-append (Covers ys) (without y rs) (combined y (matches y mentioning))
    (mapped (λ r. CoversAll (y ∷ ys) r × (factor_of y r.terms ≡ pos 0)) (Covers ys) (without y rs)
    (λ r k. less_covered y ys r k.0.0 (unit_factor y r.terms k.0.1.ascending ∙ k.1))
    (both_each (CoversAll (y ∷ ys)) (λ r. factor_of y r.terms ≡ pos 0) (without y rs) (Each-without (CoversAll (y ∷ ys)) y rs both) (each_without y rs)))
    (combined_covered y ys (matches y mentioning) (matches_from-signed y (equality_of mentioning) mentioning 0 mentioning)
    (matches_from-both (CoversAll (y ∷ ys)) y (equality_of mentioning) mentioning 0 mentioning many many)))

no_terms : (ts : List RowTerm) → IsCollected ts → ((x : Var) → IsAbsent x [] → sum_at (unit x) ts ≡ pos 0) → ts ≡ []
no_terms [] c h = refl
no_terms (t ∷ ts) c h = absurd (c.nonzero.0 (sym (unit_first t ts c.ascending.0) ∙ h t.var tt))

-- what is left has no terms
pub run_bare : (ys : List Var) (rs : List Derivation) → Each (Covers ys) rs → Each (λ r. IsCollected r.terms) rs → Each (λ r. r.terms ≡ []) (run ys rs)
run_bare [] rs h c =
    mapped (λ r. Covers [] r × IsCollected r.terms) (λ r. r.terms ≡ []) rs (λ r k. no_terms r.terms k.1 k.0) (both_each (Covers []) (λ r. IsCollected r.terms) rs h c)
run_bare (y ∷ ys) rs h c = run_bare ys (eliminated y rs) (eliminated_covered y ys rs h c) (eliminated_collected y rs c)

-- ---- the variables of rows

absent_one : (z x : Var) (vs : List Var) → IsAbsent z (with_one_var x vs) → (z ≢ x) × IsAbsent z vs
absent_one z x [] h = (h.0, tt)
absent_one z x (v ∷ vs) h =
    by_order x v
    (λ less. let k = subst (λ (us : List Var). IsAbsent z us) (ap (λ (o : Ordering). match_ordering o (x ∷ v ∷ vs) (v ∷ vs) (v ∷ with_one_var x vs)) less) h in (k.0, k.1))
    (λ equal. let k = subst (λ (us : List Var). IsAbsent z us) (ap (λ (o : Ordering). match_ordering o (x ∷ v ∷ vs) (v ∷ vs) (v ∷ with_one_var x vs)) equal) h in
    ((λ e. k.0 (e ∙ same_var x v equal)), k))
    (λ greater. let k = subst (λ (us : List Var). IsAbsent z us) (ap (λ (o : Ordering). match_ordering o (x ∷ v ∷ vs) (v ∷ vs) (v ∷ with_one_var x vs)) greater) h in
    let rest = absent_one z x vs k.1 in (rest.0, (k.0, rest.1)))

absent_terms : (z : Var) (vs : List Var) (ts : List RowTerm) → IsAbsent z (with_vars vs ts) → IsAbsent z vs × (sum_at (unit z) ts ≡ pos 0)
absent_terms z vs [] h = (h, refl)
absent_terms z vs (t ∷ ts) h =
    let rest = absent_terms z (with_one_var t.var vs) ts h in
    let one = absent_one z t.var vs rest.0 in
    let first : t.factor *ℤ unit z t.var ≡ pos 0 = ap (λ (n : ℤ). t.factor *ℤ n) (unit_apart z t.var one.0) ∙ *ℤ-zero t.factor in
    (one.1, (let k = rest.1 in omega (arith, ints)))

absent_rows : (z : Var) (vs : List Var) (rows : List Inequality) (place : ℕ) → IsAbsent z (vars_of vs rows) → IsAbsent z vs × Each (λ r. sum_at (unit z) r.terms ≡ pos 0) (given_from place rows)
absent_rows z vs [] place h = (h, tt)
absent_rows z vs (row ∷ rows) place h =
    let rest = absent_rows z (with_vars vs row.terms) rows (place + 1) h in
    let one = absent_terms z vs row.terms rest.0 in (one.0, (one.1, rest.1))

each_covers : (vs : List Var) (rs : List Derivation) → ((z : Var) → IsAbsent z vs → Each (λ r. sum_at (unit z) r.terms ≡ pos 0) rs) → Each (Covers vs) rs
each_covers vs [] h = tt
each_covers vs (r ∷ rs) h = ((λ z absent. (h z absent).0), each_covers vs rs (λ z absent. (h z absent).1))

pub given_covered : (rows : List Inequality) → Each (Covers (vars_of [] rows)) (given_from 0 rows)
given_covered rows = each_covers (vars_of [] rows) (given_from 0 rows) (λ z absent. (absent_rows z [] rows 0 absent).1)

pub start_covered : (rows : List Inequality) (row : Inequality) → Each (Covers (variables_of rows row)) (start_of rows row)
start_covered rows row =
    each_covers (variables_of rows row) (start_of rows row) (λ z absent.
    let parts = absent_rows z (with_vars [] row.terms) rows 0 absent in
    let one = (absent_terms z [] row.terms parts.0).1 in
    Each-append (λ r. sum_at (unit z) r.terms ≡ pos 0) (given_from 0 rows) (at_most_last row.terms ∷ at_least_last row.terms ∷ []) parts.1
    (one, (sum_at-scaled (unit z) (negsuc 0) row.terms ∙ ap (λ (n : ℤ). negsuc 0 *ℤ n) one ∙ *ℤ-zero (negsuc 0), tt)))

-- ascending variables
abbrev pub After : Var → List Var → Type 0
After v [] = Unit {0}
After v (w ∷ ws) = (var_cmp v w ≡ Less) × After v ws

abbrev pub Ascends : List Var → Type 0
Ascends [] = Unit {0}
Ascends (v ∷ vs) = After v vs × Ascends vs

after_before : (a b : Var) (vs : List Var) → var_cmp a b ≡ Less → After b vs → After a vs
after_before a b [] e h = tt
after_before a b (v ∷ vs) e h = (less_trans a b v e h.0, after_before a b vs e h.1)

after_one : (v x : Var) (vs : List Var) → var_cmp v x ≡ Less → After v vs → After v (with_one_var x vs)
after_one v x [] e h = (e, tt)
after_one v x (w ∷ ws) e h =
    by_order x w
    (λ less. subst (λ (us : List Var). After v us) (sym (ap (λ (o : Ordering). match_ordering o (x ∷ w ∷ ws) (w ∷ ws) (w ∷ with_one_var x ws)) less)) (e, h))
    (λ equal. subst (λ (us : List Var). After v us) (sym (ap (λ (o : Ordering). match_ordering o (x ∷ w ∷ ws) (w ∷ ws) (w ∷ with_one_var x ws)) equal)) h)
    (λ greater. subst (λ (us : List Var). After v us) (sym (ap (λ (o : Ordering). match_ordering o (x ∷ w ∷ ws) (w ∷ ws) (w ∷ with_one_var x ws)) greater)) (h.0, after_one v x ws e h.1))

ascends_one : (x : Var) (vs : List Var) → Ascends vs → Ascends (with_one_var x vs)
ascends_one x [] h = (tt, tt)
ascends_one x (w ∷ ws) h =
    by_order x w
    (λ less. subst (λ (us : List Var). Ascends us) (sym (ap (λ (o : Ordering). match_ordering o (x ∷ w ∷ ws) (w ∷ ws) (w ∷ with_one_var x ws)) less)) ((less, after_before x w ws less h.0), h))
    (λ equal. subst (λ (us : List Var). Ascends us) (sym (ap (λ (o : Ordering). match_ordering o (x ∷ w ∷ ws) (w ∷ ws) (w ∷ with_one_var x ws)) equal)) h)
    (λ greater. subst (λ (us : List Var). Ascends us) (sym (ap (λ (o : Ordering). match_ordering o (x ∷ w ∷ ws) (w ∷ ws) (w ∷ with_one_var x ws)) greater)) (after_one w x ws (greater_less x w greater) h.0, ascends_one x ws h.1))

ascends_terms : (vs : List Var) (ts : List RowTerm) → Ascends vs → Ascends (with_vars vs ts)
ascends_terms vs [] h = h
ascends_terms vs (t ∷ ts) h = ascends_terms (with_one_var t.var vs) ts (ascends_one t.var vs h)

ascends_rows : (vs : List Var) (rows : List Inequality) → Ascends vs → Ascends (vars_of vs rows)
ascends_rows vs [] h = h
ascends_rows vs (row ∷ rows) h = ascends_rows (with_vars vs row.terms) rows (ascends_terms vs row.terms h)

absent_after : (v : Var) (vs : List Var) → After v vs → IsAbsent v vs
absent_after v [] h = tt
absent_after v (w ∷ ws) h = (apart_less v w h.0, absent_after v ws h.1)

distinct_of : (vs : List Var) → Ascends vs → IsDistinct vs
distinct_of [] h = tt
distinct_of (v ∷ vs) h = (absent_after v vs h.0, distinct_of vs h.1)

pub variables_distinct : (rows : List Inequality) (row : Inequality) → IsDistinct (variables_of rows row)
variables_distinct rows row = distinct_of (variables_of rows row) (ascends_rows (with_vars [] row.terms) rows (ascends_terms [] row.terms tt))

pub vars_distinct : (rows : List Inequality) → IsDistinct (vars_of [] rows)
vars_distinct rows = distinct_of (vars_of [] rows) (ascends_rows [] rows tt)
