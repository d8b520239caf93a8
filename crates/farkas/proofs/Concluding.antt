-- The answer of a run carries its evidence.
use Rattle.std.proofs.Common.{◌≡◌, refl, sym, ap, ◌∙◌, subst, ℕ, zero, suc, ◌+◌, ◌*◌, ◌<◌, ℤ, pos, negsuc, neg_ℤ, ◌+ℤ◌, ◌*ℤ◌, ◌≤ℤ◌, ◌<ℤ◌, List, [], ◌∷◌, ◌⊎◌, inl, inr, Bool, true, false, Option, Some, None, arith}
use Rattle.std.specs.Prelude.{if◌then◌else◌, ◌&&◌, ◌-ℤ◌, int_lt, unsigned_abs}
use Rattle.std.proofs.lemmas.Int.{ints}
use Rattle.std.proofs.Math.IntN.{zero-*ℤ, *ℤ-zero, *ℤ_comm}
use Rattle.linear_rows.specs.declared.rows.Var.{Var}
use Rattle.linear_rows.specs.declared.rows.RowTerm.{RowTerm}
use Rattle.linear_rows.specs.Rows.{Inequality, sum_at}
use Rattle.linear_rows.specs.Terms.{IsCollected, is_zero}
use Rattle.linear_rows.proofs.Values.{sum_at-scaled}
use Rattle.linear_rows.proofs.Integers.{neg-mul, mul-neg, mul-add, add-mul}
use Rattle.farkas.specs.declared.answers.Answer.{Answer}
use Rattle.farkas.specs.declared.answers.Answer.TheVariants.{Proved}
use Rattle.farkas.specs.declared.placing.Placed.{Placed}
use Rattle.farkas.specs.declared.placing.Level.{Level}
use Rattle.farkas.specs.Points.{MeetsEach, IsDistinct}
use Rattle.farkas.specs.Evidence.{IsRefutation}
use Rattle.farkas.specs.Answers.{CarriesEvidence, CarriesEmptiness}
use Rattle.row_elimination.specs.Derivations.{Derivation, given_from, at_most_last, at_least_last, size_of, combination, sum_terms, sum_last, sum_constant, sum_divisor}
use Rattle.row_elimination.specs.Weights.{combined_support}
use Rattle.row_elimination.specs.Steps.{has_no_terms, run}
use Rattle.farkas.specs.Placing.{is_less, levels_of, raised}
use Rattle.farkas.specs.Deciding.{first_absurd, last_limit, tighter, tightest, is_at_most, is_negative_sum, last_at, start_above, point_of, refuted_from, by_bounds, by_upper, by_absurd, emptiness_by, start_of, variables_of, vars_of, answer_of_run, emptiness_of_run}
use Rattle.row_elimination.specs.Steps.{is_absurd, bounds_last}
use Rattle.linear_rows.proofs.Rounding.{mul_monotone, floor_exact}
use Rattle.row_elimination.proofs.Summing.{divisor_positive, divisor_divides_numbers}
use Rattle.farkas.proofs.Soundness.{cancel, one-mul, at_most_times}
use Rattle.farkas.proofs.Rings.{regroup, cancel_same}
use Rattle.farkas.proofs.Deriving.{IsDerived}
use Rattle.farkas.proofs.Following.{Each, Each-front, Each-run, start_derived, run_derived, given_all_derived}
use Rattle.farkas.proofs.Proving.{both_true, lt_of, ge_of, abs_above, abs_below, size_above, size_below, absurd_proves, upper_proves, bounds_prove}
use Rattle.farkas.proofs.Limiting.{Le, Le-trans, not_less, less}
use Rattle.farkas.proofs.Reaching.{numbers_at}
use Rattle.farkas.proofs.Meeting.{At, both_each, mapped}
use Rattle.farkas.proofs.Standing.{raised_reaches}
use Rattle.farkas.proofs.Covering.{run_bare, given_covered, start_covered, variables_distinct, vars_distinct}

-- ---- the rows that decide

record FoundAbsurd (P : Derivation → Type 0) (r : Derivation) : Type 0 where
  test : is_absurd r ≡ true
  told : P r

found_absurd : (P : Derivation → Type 0) (rs : List Derivation) (r : Derivation) → Each P rs → first_absurd rs ≡ Some r → FoundAbsurd P r
found_absurd P [] r h e = absurd (cc)
found_absurd P (s ∷ ss) r h e = here (is_absurd s) refl e (found_absurd P ss r h.1)
  where
    here : (b : Bool) → is_absurd s ≡ b → ◌≡◌ {A = Option Derivation} (if b then Some s else first_absurd ss) (Some r) → (first_absurd ss ≡ Some r → FoundAbsurd P r) → FoundAbsurd P r
    here true f g rec = let k : s ≡ r = cc in subst (λ (x : Derivation). FoundAbsurd P x) k (record { test = f; told = h.0 })
    here false f g rec = rec g

none_absurd : (rs : List Derivation) → first_absurd rs ≡ None → Each (λ r. is_absurd r ≡ false) rs
none_absurd [] e = tt
none_absurd (s ∷ ss) e = here (is_absurd s) refl e (none_absurd ss)
  where
    here : (b : Bool) → is_absurd s ≡ b → ◌≡◌ {A = Option Derivation} (if b then Some s else first_absurd ss) None → (first_absurd ss ≡ None → Each (λ r. is_absurd r ≡ false) ss) →
        (is_absurd s ≡ false) × Each (λ r. is_absurd r ≡ false) ss
    here true f g rec = absurd (cc)
    here false f g rec = (f, rec g)

last_sized : (up : Bool) (r : Derivation) → bounds_last up r ≡ true → 0 < unsigned_abs r.last
last_sized true r e = size_above r.last (lt_of (pos 0) r.last (both_true (has_no_terms r.terms) (int_lt (pos 0) r.last) e).1)
last_sized false r e = size_below r.last (lt_of r.last (pos 0) (both_true (has_no_terms r.terms) (int_lt r.last (pos 0)) e).1)

-- the tightest bound, of which what is known of each is known
record Tight (P : Derivation → Type 0) (up : Bool) (rs : List Derivation) (r : Derivation) : Type 0 where
  test : bounds_last up r ≡ true
  told : P r
  least : Each (λ s. bounds_last up s ≡ true → Le (last_limit r) (last_limit s)) rs

record TightOf (P : Derivation → Type 0) (up : Bool) (rs : List Derivation) (b : Derivation) : Type 0 where
  bound : Derivation
  found : tightest up (Some b) rs ≡ Some bound
  below : Le (last_limit bound) (last_limit b)
  known : Tight P up rs bound

tight_step : (P : Derivation → Type 0) (up : Bool) (r : Derivation) (rs : List Derivation) (b : Derivation) → bounds_last up b ≡ true → P b → P r →
    ((c : Derivation) → bounds_last up c ≡ true → P c → TightOf P up rs c) →
    (x : Bool) → bounds_last up r ≡ x → (z : Bool) → is_less (last_limit r) (last_limit b) ≡ z → TightOf P up (r ∷ rs) b
tight_step P up r rs b h t k rec false e z f =
    let m = rec b h t in
    record {
      bound = m.bound;
      found = ap (λ (c : Bool). if c then tightest up (tighter (Some b) r) rs else tightest up (Some b) rs) e ∙ m.found;
      below = m.below;
      known = record { test = m.known.test; told = m.known.told; least = ((λ g. absurd (let i : true ≡ false = sym g ∙ e in cc)), m.known.least) };
    }
tight_step P up r rs b h t k rec true e true f =
    let m = rec r e k in
    record {
      bound = m.bound;
      found = ap (λ (d : Bool). if d then tightest up (tighter (Some b) r) rs else tightest up (Some b) rs) e
          ∙ ap (λ (d : Bool). tightest up (if d then Some r else Some b) rs) f ∙ m.found;
      below = Le-trans (last_limit m.bound) (last_limit r) (last_limit b) (last_sized up r e) m.below (less (last_limit r) (last_limit b) f);
      known = record { test = m.known.test; told = m.known.told; least = ((λ g. m.below), m.known.least) };
    }
tight_step P up r rs b h t k rec true e false f =
    let m = rec b h t in
    record {
      bound = m.bound;
      found = ap (λ (d : Bool). if d then tightest up (tighter (Some b) r) rs else tightest up (Some b) rs) e
          ∙ ap (λ (d : Bool). tightest up (if d then Some r else Some b) rs) f ∙ m.found;
      below = m.below;
      known = record { test = m.known.test; told = m.known.told; least = ((λ g. Le-trans (last_limit m.bound) (last_limit b) (last_limit r) (last_sized up b h) m.below (not_less (last_limit r) (last_limit b) f)), m.known.least) };
    }

tight_some : (P : Derivation → Type 0) (up : Bool) (rs : List Derivation) (b : Derivation) → bounds_last up b ≡ true → P b → Each P rs → TightOf P up rs b
tight_some P up [] b h t k = record { bound = b; found = refl; below = omega (arith, ints); known = record { test = h; told = t; least = tt } }
tight_some P up (r ∷ rs) b h t k =
    tight_step P up r rs b h t k.0 (λ c i u. tight_some P up rs c i u k.1) (bounds_last up r) refl (is_less (last_limit r) (last_limit b)) refl

record NoBound (up : Bool) (rs : List Derivation) : Type 0 where
  found : tightest up None rs ≡ None
  none : Each (λ r. bounds_last up r ≡ false) rs

record SomeBound (P : Derivation → Type 0) (up : Bool) (rs : List Derivation) : Type 0 where
  bound : Derivation
  found : tightest up None rs ≡ Some bound
  known : Tight P up rs bound

bound_step : (P : Derivation → Type 0) (up : Bool) (r : Derivation) (rs : List Derivation) → P r → Each P rs → NoBound up rs ⊎ SomeBound P up rs →
    (x : Bool) → bounds_last up r ≡ x → NoBound up (r ∷ rs) ⊎ SomeBound P up (r ∷ rs)
bound_step P up r rs k ks (inl n) false e =
    inl (record { found = ap (λ (c : Bool). if c then tightest up (Some r) rs else tightest up None rs) e ∙ n.found; none = (e, n.none) })
bound_step P up r rs k ks (inr m) false e =
    inr (record {
      bound = m.bound;
      found = ap (λ (c : Bool). if c then tightest up (Some r) rs else tightest up None rs) e ∙ m.found;
      known = record { test = m.known.test; told = m.known.told; least = ((λ g. absurd (let i : true ≡ false = sym g ∙ e in cc)), m.known.least) };
    })
bound_step P up r rs k ks n true e =
    let m = tight_some P up rs r e k ks in
    inr (record {
      bound = m.bound;
      found = ap (λ (c : Bool). if c then tightest up (Some r) rs else tightest up None rs) e ∙ m.found;
      known = record { test = m.known.test; told = m.known.told; least = ((λ g. m.below), m.known.least) };
    })

bound_of : (P : Derivation → Type 0) (up : Bool) (rs : List Derivation) → Each P rs → NoBound up rs ⊎ SomeBound P up rs
bound_of P up [] k = inl (record { found = refl; none = tt })
bound_of P up (r ∷ rs) k = bound_step P up r rs k.0 k.1 (bound_of P up rs k.1) (bounds_last up r) refl

-- ---- the point of the last variable

no_terms_test : (ts : List RowTerm) → ts ≡ [] → has_no_terms ts ≡ true
no_terms_test ts e = ap has_no_terms e

and_true : (a b : Bool) → a ≡ true → b ≡ true → (a && b) ≡ true
and_true true true e f = refl
and_true true false e f = absurd (cc)
and_true false b e f = absurd (cc)

lt_true : (a b : ℤ) → a <ℤ b → int_lt a b ≡ true
lt_true a b h = grind (arith, ints)

true_and : (a b : Bool) → a ≡ true → (a && b) ≡ false → b ≡ false
true_and true b e f = f
true_and false b e f = absurd (cc)

left_of : (z d : ℤ) (r : Derivation) → r.terms ≡ [] → (r.last *ℤ z) ≤ℤ (r.constant *ℤ d) → At (last_at z d) r
left_of z d r e h = let f : sum_at (numbers_at (last_at z d)) r.terms ≡ pos 0 = ap (sum_at (numbers_at (last_at z d))) e in omega (arith, ints)

-- a row without terms holds by its bound of the last variable
by_sign : (r : Derivation) (z d : ℤ) → r.terms ≡ [] → pos 0 <ℤ d → is_absurd r ≡ false →
    (bounds_last true r ≡ true → (pos (unsigned_abs r.last) *ℤ z) ≤ℤ (r.constant *ℤ d)) →
    (bounds_last false r ≡ true → pos 0 ≤ℤ ((pos (unsigned_abs r.last) *ℤ z) +ℤ (r.constant *ℤ d))) → At (last_at z d) r
by_sign r z d bare above plain up down = cases r.last refl
  where
    terms : has_no_terms r.terms ≡ true
    terms = no_terms_test r.terms bare

    cases : (l : ℤ) → r.last ≡ l → At (last_at z d) r
    cases (pos zero) e =
        let zero_last : is_zero r.last ≡ true = ap is_zero e in
        let c = ge_of r.constant (pos 0) (true_and (has_no_terms r.terms && is_zero r.last) (int_lt r.constant (pos 0)) (and_true (has_no_terms r.terms) (is_zero r.last) terms zero_last) plain) in
        let f = at_most_times (pos 0) r.constant d above c in
        let g : r.last *ℤ z ≡ pos 0 *ℤ z = ap (λ (x : ℤ). x *ℤ z) e in
        let k = zero-*ℤ z in let m = zero-*ℤ d in left_of z d r bare (omega (arith, ints))
    cases (pos (suc n)) e =
        let positive : pos 0 <ℤ r.last = omega (arith, ints) in
        let f = up (and_true (has_no_terms r.terms) (int_lt (pos 0) r.last) terms (lt_true (pos 0) r.last positive)) in
        let g : r.last *ℤ z ≡ pos (unsigned_abs r.last) *ℤ z = ap (λ (x : ℤ). x *ℤ z) (abs_above r.last positive) in
        left_of z d r bare (omega (arith, ints))
    cases (negsuc n) e =
        let negative : r.last <ℤ pos 0 = omega (arith, ints) in
        let f = down (and_true (has_no_terms r.terms) (int_lt r.last (pos 0)) terms (lt_true r.last (pos 0) negative)) in
        let g : r.last *ℤ z ≡ neg_ℤ (pos (unsigned_abs r.last) *ℤ z) = ap (λ (x : ℤ). x *ℤ z) (abs_below r.last negative) ∙ neg-mul (pos (unsigned_abs r.last)) z in
        left_of z d r bare (omega (arith, ints))

-- a greater lower bound leaves room below an upper one
chain : (x l r : ℤ) (a b c : ℕ) → 0 < b → pos 0 ≤ℤ ((x *ℤ pos b) +ℤ (l *ℤ pos a)) → (l *ℤ pos c) ≤ℤ (r *ℤ pos b) → pos 0 ≤ℤ ((pos c *ℤ x) +ℤ (r *ℤ pos a))
chain x l r a b c h e f =
    let first = mul_monotone c (pos 0) ((x *ℤ pos b) +ℤ (l *ℤ pos a)) e in
    let second = mul_monotone a (l *ℤ pos c) (r *ℤ pos b) f in
    let z = *ℤ-zero (pos c) in let zb = *ℤ-zero (pos b) in
    let s1 = mul-add (pos c) (x *ℤ pos b) (l *ℤ pos a) in
    let s2 = mul-add (pos b) (pos c *ℤ x) (r *ℤ pos a) in
    let t1 : pos c *ℤ (x *ℤ pos b) ≡ pos b *ℤ (pos c *ℤ x) = ap (λ (y : ℤ). pos c *ℤ y) (*ℤ_comm x (pos b)) ∙ regroup c b b c x (omega arith) in
    let t2 : pos c *ℤ (l *ℤ pos a) ≡ pos a *ℤ (l *ℤ pos c) = ap (λ (y : ℤ). pos c *ℤ y) (*ℤ_comm l (pos a)) ∙ regroup c a a c l (omega arith) ∙ ap (λ (y : ℤ). pos a *ℤ y) (*ℤ_comm (pos c) l) in
    let t3 : pos a *ℤ (r *ℤ pos b) ≡ pos b *ℤ (r *ℤ pos a) = ap (λ (y : ℤ). pos a *ℤ y) (*ℤ_comm r (pos b)) ∙ regroup a b b a r (omega arith) ∙ ap (λ (y : ℤ). pos b *ℤ y) (*ℤ_comm (pos a) r) in
    cancel b (pos 0) ((pos c *ℤ x) +ℤ (r *ℤ pos a)) h (omega (arith, ints))

-- a row that is left: it follows, and has no terms
record IsLeft (rows : List Inequality) (tested : List RowTerm) (r : Derivation) : Type 0 where
  derived : IsDerived rows tested r
  bare : r.terms ≡ []

-- what a start of the last variable has to give
pub record Starts (k z d : ℤ) (left : List Derivation) : Type 0 where
  pub above : pos 0 <ℤ d
  pub past : (k *ℤ d) <ℤ z
  pub holds : Each (At (last_at z d)) left

each_at : (rows : List Inequality) (tested : List RowTerm) (z d : ℤ) (left : List Derivation) → pos 0 <ℤ d → Each (IsLeft rows tested) left → Each (λ r. is_absurd r ≡ false) left →
    Each (λ r. bounds_last true r ≡ true → (pos (unsigned_abs r.last) *ℤ z) ≤ℤ (r.constant *ℤ d)) left →
    Each (λ r. bounds_last false r ≡ true → pos 0 ≤ℤ ((pos (unsigned_abs r.last) *ℤ z) +ℤ (r.constant *ℤ d))) left → Each (At (last_at z d)) left
each_at rows tested z d [] above l a u b = tt
each_at rows tested z d (r ∷ rs) above l a u b = (by_sign r z d l.0.bare above a.0 u.0 b.0, each_at rows tested z d rs above l.1 a.1 u.1 b.1)

none_such : (up : Bool) (Q : Derivation → Type 0) (rs : List Derivation) → Each (λ r. bounds_last up r ≡ false) rs → Each (λ r. bounds_last up r ≡ true → Q r) rs
none_such up Q [] h = tt
none_such up Q (r ∷ rs) h = ((λ e. absurd (let f : true ≡ false = sym e ∙ h.0 in cc)), none_such up Q rs h.1)

-- from the least upper bound
from_upper : (rows : List Inequality) (tested : List RowTerm) (k : ℤ) (left : List Derivation) (u : Derivation) → Each (IsLeft rows tested) left → Each (λ r. is_absurd r ≡ false) left →
    Tight (IsLeft rows tested) true left u → is_at_most k u ≡ false →
    Each (λ r. bounds_last false r ≡ true → pos 0 ≤ℤ ((pos (unsigned_abs r.last) *ℤ u.constant) +ℤ (r.constant *ℤ u.last))) left → Starts k u.constant u.last left
from_upper rows tested k left u l a t e lower =
    let above = lt_of (pos 0) u.last (both_true (has_no_terms u.terms) (int_lt (pos 0) u.last) t.test).1 in
    let last = abs_above u.last above in
    let past = lt_of (k *ℤ pos (unsigned_abs u.last)) (u.constant *ℤ pos 1) (if_true (int_lt (k *ℤ pos (unsigned_abs u.last)) (u.constant *ℤ pos 1)) e) in
    let one : u.constant *ℤ pos 1 ≡ u.constant = *ℤ_comm u.constant (pos 1) ∙ one-mul u.constant in
    let times : k *ℤ u.last ≡ k *ℤ pos (unsigned_abs u.last) = ap (λ (x : ℤ). k *ℤ x) last in
    record {
      above = above;
      past = omega (arith, ints);
      holds = each_at rows tested u.constant u.last left above l a
          (mapped (λ s. bounds_last true s ≡ true → Le (last_limit u) (last_limit s)) (λ s. bounds_last true s ≡ true → (pos (unsigned_abs s.last) *ℤ u.constant) ≤ℤ (s.constant *ℤ u.last)) left
          (λ s h b. let f = h b in let g = *ℤ_comm u.constant (pos (unsigned_abs s.last)) in let m : s.constant *ℤ u.last ≡ s.constant *ℤ pos (unsigned_abs u.last) = ap (λ (x : ℤ). s.constant *ℤ x) last in omega (arith, ints))
          t.least) lower;
    }
  where
    if_true : (b : Bool) → (if b then false else true) ≡ false → b ≡ true
    if_true true f = refl
    if_true false f = absurd (cc)

lower_room : (rows : List Inequality) (tested : List RowTerm) (left : List Derivation) (x d : ℤ) (a : ℕ) (l : Derivation) → d ≡ pos a → Tight (IsLeft rows tested) false left l →
    pos 0 ≤ℤ ((x *ℤ pos (unsigned_abs l.last)) +ℤ (l.constant *ℤ pos a)) →
    Each (λ r. bounds_last false r ≡ true → pos 0 ≤ℤ ((pos (unsigned_abs r.last) *ℤ x) +ℤ (r.constant *ℤ d))) left
lower_room rows tested left x d a l same t h =
    mapped (λ s. bounds_last false s ≡ true → Le (last_limit l) (last_limit s)) (λ s. bounds_last false s ≡ true → pos 0 ≤ℤ ((pos (unsigned_abs s.last) *ℤ x) +ℤ (s.constant *ℤ d))) left
    (λ s k b.
    let f = chain x l.constant s.constant a (unsigned_abs l.last) (unsigned_abs s.last) (last_sized false l t.test) h (k b) in
    let g : s.constant *ℤ d ≡ s.constant *ℤ pos a = ap (λ (y : ℤ). s.constant *ℤ y) same in omega (arith, ints)) t.least

-- ---- the answer

given_meets : (q : Placed) (rows : List Inequality) (place : ℕ) → Each (At q) (given_from place rows) → MeetsEach (numbers_at q) q.divisor rows
given_meets q [] place h = tt
given_meets q (row ∷ rows) place h = ((let e = zero-*ℤ q.last in let f = h.0 in omega (arith, ints)), given_meets q rows (place + 1) h.1)

pub refutes : (rows : List Inequality) (row : Inequality) (z d : ℤ) → Each (λ r. IsCollected r.terms) (start_of rows row) →
    Starts row.constant z d (run (variables_of rows row) (start_of rows row)) →
    IsRefutation rows row (point_of (raised (levels_of (variables_of rows row) (start_of rows row)) (last_at z d)))
refutes rows row z d collected s =
    let vars : List Var = variables_of rows row in
    let start : List Derivation = start_of rows row in
    let m = raised_reaches vars start (last_at z d) (variables_distinct rows row) collected (record { positive = s.above; vars = refl; numbered = refl }) s.holds in
    let q : Placed = raised (levels_of vars start) (last_at z d) in
    let parts = Each-front (At q) (given_from 0 rows) (at_most_last row.terms ∷ at_least_last row.terms ∷ []) m.holds in
    let over = m.above row.constant s.past in
    let low = parts.1.1.0 in
    let sum = sum_at-scaled (numbers_at q) (negsuc 0) row.terms in
    let minus = minus_one (sum_at (numbers_at q) row.terms) in
    let one = one-mul q.last in
    let none = zero-*ℤ q.divisor in
    record {
      point = record {
        positive = m.stands.positive;
        numbered = m.stands.numbered;
        distinct = subst (λ (vs : List Var). IsDistinct vs) (sym m.stands.vars) (variables_distinct rows row);
      };
      meets = given_meets q rows 0 parts.0;
      breaks = omega (arith, ints);
    }
  where
    minus_one : (x : ℤ) → x +ℤ (negsuc 0 *ℤ x) ≡ pos 0
    minus_one x = omega (arith, ints)

all_left : (rows : List Inequality) (row : Inequality) → Each (λ r. IsCollected r.terms) (start_of rows row) → Each (IsLeft rows row.terms) (run (variables_of rows row) (start_of rows row))
all_left rows row collected =
    let left : List Derivation = run (variables_of rows row) (start_of rows row) in
    mapped (λ r. IsDerived rows row.terms r × (r.terms ≡ [])) (IsLeft rows row.terms) left (λ r h. record { derived = h.0; bare = h.1 })
    (both_each (IsDerived rows row.terms) (λ r. r.terms ≡ []) left (run_derived (variables_of rows row) rows row.terms (start_of rows row) (start_derived rows row))
    (run_bare (variables_of rows row) (start_of rows row) (start_covered rows row) collected))

one_past : (k : ℤ) → (k *ℤ pos 1) <ℤ (k +ℤ pos 1)
one_past k = let e = *ℤ_comm k (pos 1) in let f = one-mul k in omega (arith, ints)

abbrev LeftOf : List Inequality → Inequality → List Derivation
LeftOf rows row = run (variables_of rows row) (start_of rows row)

abbrev LevelsOf : List Inequality → Inequality → List Level
LevelsOf rows row = levels_of (variables_of rows row) (start_of rows row)

choose_place : (b : Bool) (x y : Placed) (c : Bool) → b ≡ c → (if b then x else y) ≡ (if c then x else y)
choose_place b x y c e = ap (λ (d : Bool). if d then x else y) e

without_bounds : (rows : List Inequality) (row : Inequality) → Each (λ r. IsCollected r.terms) (start_of rows row) → Each (λ r. is_absurd r ≡ false) (LeftOf rows row) →
    NoBound true (LeftOf rows row) → NoBound false (LeftOf rows row) → Starts row.constant (row.constant +ℤ pos 1) (pos 1) (LeftOf rows row)
without_bounds rows row c a u l =
    let left : List Derivation = LeftOf rows row in
    let z : ℤ = row.constant +ℤ pos 1 in
    record {
      above = omega (arith, ints);
      past = one_past row.constant;
      holds = each_at rows row.terms z (pos 1) left (omega (arith, ints)) (all_left rows row c) a
          (none_such true (λ r. (pos (unsigned_abs r.last) *ℤ z) ≤ℤ (r.constant *ℤ pos 1)) left u.none)
          (none_such false (λ r. pos 0 ≤ℤ ((pos (unsigned_abs r.last) *ℤ z) +ℤ (r.constant *ℤ pos 1))) left l.none);
    }

-- the greatest lower bound is at most one more than the tested constant
bound_low : (rows : List Inequality) (row : Inequality) → Each (λ r. IsCollected r.terms) (start_of rows row) → Each (λ r. is_absurd r ≡ false) (LeftOf rows row) →
    NoBound true (LeftOf rows row) → (l : Derivation) → Tight (IsLeft rows row.terms) false (LeftOf rows row) l →
    is_negative_sum (last_limit l) (record { slack = row.constant +ℤ pos 1; size = 1 }) ≡ false → Starts row.constant (row.constant +ℤ pos 1) (pos 1) (LeftOf rows row)
bound_low rows row c a u l t e =
    let left : List Derivation = LeftOf rows row in
    let z : ℤ = row.constant +ℤ pos 1 in
    let h = ge_of ((l.constant *ℤ pos 1) +ℤ (z *ℤ pos (unsigned_abs l.last))) (pos 0) e in
    record {
      above = omega (arith, ints);
      past = one_past row.constant;
      holds = each_at rows row.terms z (pos 1) left (omega (arith, ints)) (all_left rows row c) a
          (none_such true (λ r. (pos (unsigned_abs r.last) *ℤ z) ≤ℤ (r.constant *ℤ pos 1)) left u.none)
          (lower_room rows row.terms left z (pos 1) 1 l refl t (omega (arith, ints)));
    }

minus_last : (x : ℤ) (n : ℕ) → x ≡ neg_ℤ (pos n) → pos 0 -ℤ x ≡ pos n
minus_last x n e = omega (arith, ints)

-- or it is greater
bound_high : (rows : List Inequality) (row : Inequality) → Each (λ r. IsCollected r.terms) (start_of rows row) → Each (λ r. is_absurd r ≡ false) (LeftOf rows row) →
    NoBound true (LeftOf rows row) → (l : Derivation) → Tight (IsLeft rows row.terms) false (LeftOf rows row) l →
    is_negative_sum (last_limit l) (record { slack = row.constant +ℤ pos 1; size = 1 }) ≡ true → Starts row.constant (pos 0 -ℤ l.constant) (pos 0 -ℤ l.last) (LeftOf rows row)
bound_high rows row c a u l t e =
    let left : List Derivation = LeftOf rows row in
    let n : ℕ = unsigned_abs l.last in
    let k : ℤ = row.constant in
    let last = minus_last l.last n (abs_below l.last (lt_of l.last (pos 0) (both_true (has_no_terms l.terms) (int_lt l.last (pos 0)) t.test).1)) in
    let size = last_sized false l t.test in
    let h = lt_of ((l.constant *ℤ pos 1) +ℤ ((k +ℤ pos 1) *ℤ pos n)) (pos 0) e in
    let one : l.constant *ℤ pos 1 ≡ l.constant = *ℤ_comm l.constant (pos 1) ∙ one-mul l.constant in
    let split = add-mul k (pos 1) (pos n) in
    let one' = one-mul (pos n) in
    let times : k *ℤ (pos 0 -ℤ l.last) ≡ k *ℤ pos n = ap (λ (x : ℤ). k *ℤ x) last in
    record {
      above = omega (arith, ints);
      past = omega (arith, ints);
      holds = each_at rows row.terms (pos 0 -ℤ l.constant) (pos 0 -ℤ l.last) left (omega (arith, ints)) (all_left rows row c) a
          (none_such true (λ r. (pos (unsigned_abs r.last) *ℤ (pos 0 -ℤ l.constant)) ≤ℤ (r.constant *ℤ (pos 0 -ℤ l.last))) left u.none)
          (mapped (λ s. bounds_last false s ≡ true → Le (last_limit l) (last_limit s)) (λ s. bounds_last false s ≡ true → pos 0 ≤ℤ ((pos (unsigned_abs s.last) *ℤ (pos 0 -ℤ l.constant)) +ℤ (s.constant *ℤ (pos 0 -ℤ l.last)))) left
          (λ s f b.
          let g = f b in
          let m : ℕ = unsigned_abs s.last in
          let p : s.constant *ℤ (pos 0 -ℤ l.last) ≡ s.constant *ℤ pos n = ap (λ (x : ℤ). s.constant *ℤ x) last in
          let q : pos 0 -ℤ l.constant ≡ neg_ℤ l.constant = omega (arith, ints) in
          let r : pos m *ℤ (pos 0 -ℤ l.constant) ≡ pos m *ℤ neg_ℤ l.constant = ap (λ (x : ℤ). pos m *ℤ x) q in
          let w = mul-neg (pos m) l.constant in let y = *ℤ_comm l.constant (pos m) in omega (arith, ints)) t.least);
    }

above_carries : (rows : List Inequality) (row : Inequality) → Each (λ r. IsCollected r.terms) (start_of rows row) → Each (λ r. is_absurd r ≡ false) (LeftOf rows row) →
    NoBound true (LeftOf rows row) → NoBound false (LeftOf rows row) ⊎ SomeBound (IsLeft rows row.terms) false (LeftOf rows row) →
    CarriesEvidence rows row (refuted_from (LevelsOf rows row) (start_above row.constant (tightest false None (LeftOf rows row))))
above_carries rows row c a u (inl l) =
    subst (λ (o : Option Derivation). CarriesEvidence rows row (refuted_from (LevelsOf rows row) (start_above row.constant o))) (sym l.found)
    (refutes rows row (row.constant +ℤ pos 1) (pos 1) c (without_bounds rows row c a u l))
above_carries rows row c a u (inr s) =
    let test : Bool = is_negative_sum (last_limit s.bound) (record { slack = row.constant +ℤ pos 1; size = 1 }) in
    subst (λ (o : Option Derivation). CarriesEvidence rows row (refuted_from (LevelsOf rows row) (start_above row.constant o))) (sym s.found)
    (cases test refl)
  where
    cases : (b : Bool) → is_negative_sum (last_limit s.bound) (record { slack = row.constant +ℤ pos 1; size = 1 }) ≡ b → CarriesEvidence rows row (refuted_from (LevelsOf rows row) (start_above row.constant (Some s.bound)))
    cases true e =
        subst (λ (p : Placed). CarriesEvidence rows row (refuted_from (LevelsOf rows row) p)) (sym (choose_place (is_negative_sum (last_limit s.bound) (record { slack = row.constant +ℤ pos 1; size = 1 })) (last_at (pos 0 -ℤ s.bound.constant) (pos 0 -ℤ s.bound.last)) (last_at (row.constant +ℤ pos 1) (pos 1)) true e))
        (refutes rows row (pos 0 -ℤ s.bound.constant) (pos 0 -ℤ s.bound.last) c (bound_high rows row c a u s.bound s.known e))
    cases false e =
        subst (λ (p : Placed). CarriesEvidence rows row (refuted_from (LevelsOf rows row) p)) (sym (choose_place (is_negative_sum (last_limit s.bound) (record { slack = row.constant +ℤ pos 1; size = 1 })) (last_at (pos 0 -ℤ s.bound.constant) (pos 0 -ℤ s.bound.last)) (last_at (row.constant +ℤ pos 1) (pos 1)) false e))
        (refutes rows row (row.constant +ℤ pos 1) (pos 1) c (bound_low rows row c a u s.bound s.known e))

abbrev proved_by_bounds : Derivation → Derivation → Answer
proved_by_bounds u l =
    Proved (combined_support (unsigned_abs l.last) u.support (unsigned_abs u.last) l.support 1).multipliers
    (combined_support (unsigned_abs l.last) u.support (unsigned_abs u.last) l.support 1).divisor

choose_answer : (b : Bool) (x y : Answer) (c : Bool) → b ≡ c → (if b then x else y) ≡ (if c then x else y)
choose_answer b x y c e = ap (λ (d : Bool). if d then x else y) e

bounds_carry : (rows : List Inequality) (row : Inequality) → Each (λ r. IsCollected r.terms) (start_of rows row) → Each (λ r. is_absurd r ≡ false) (LeftOf rows row) →
    (u : Derivation) → Tight (IsLeft rows row.terms) true (LeftOf rows row) u → is_at_most row.constant u ≡ false →
    NoBound false (LeftOf rows row) ⊎ SomeBound (IsLeft rows row.terms) false (LeftOf rows row) →
    CarriesEvidence rows row (by_bounds (LevelsOf rows row) u (tightest false None (LeftOf rows row)))
bounds_carry rows row c a u t e (inl l) =
    subst (λ (o : Option Derivation). CarriesEvidence rows row (by_bounds (LevelsOf rows row) u o)) (sym l.found)
    (refutes rows row u.constant u.last c
    (from_upper rows row.terms row.constant (LeftOf rows row) u (all_left rows row c) a t e
    (none_such false (λ r. pos 0 ≤ℤ ((pos (unsigned_abs r.last) *ℤ u.constant) +ℤ (r.constant *ℤ u.last))) (LeftOf rows row) l.none)))
bounds_carry rows row c a u t e (inr s) =
    subst (λ (o : Option Derivation). CarriesEvidence rows row (by_bounds (LevelsOf rows row) u o)) (sym s.found) (cases (is_negative_sum (last_limit u) (last_limit s.bound)) refl)
  where
    cases : (b : Bool) → is_negative_sum (last_limit u) (last_limit s.bound) ≡ b → CarriesEvidence rows row (by_bounds (LevelsOf rows row) u (Some s.bound))
    cases true f =
        let m = bounds_prove rows row.terms u s.bound t.told.derived s.known.told.derived t.test s.known.test f in
        subst (λ (x : Answer). CarriesEvidence rows row x) (sym (ap (λ (d : Bool). if d then proved_by_bounds u s.bound else refuted_from (LevelsOf rows row) (last_at u.constant u.last)) f))
        (record { positive = m.0; named = m.1.named; shown = inr m.1.shown })
    cases false f =
        let above = lt_of (pos 0) u.last (both_true (has_no_terms u.terms) (int_lt (pos 0) u.last) t.test).1 in
        let last = abs_above u.last above in
        let room = ge_of ((u.constant *ℤ pos (unsigned_abs s.bound.last)) +ℤ (s.bound.constant *ℤ pos (unsigned_abs u.last))) (pos 0) f in
        subst (λ (x : Answer). CarriesEvidence rows row x) (sym (ap (λ (d : Bool). if d then proved_by_bounds u s.bound else refuted_from (LevelsOf rows row) (last_at u.constant u.last)) f))
        (refutes rows row u.constant u.last c
        (from_upper rows row.terms row.constant (LeftOf rows row) u (all_left rows row c) a t e
        (lower_room rows row.terms (LeftOf rows row) u.constant u.last (unsigned_abs u.last) s.bound last s.known room)))

upper_carries : (rows : List Inequality) (row : Inequality) → IsCollected row.terms → Each (λ r. IsCollected r.terms) (start_of rows row) → Each (λ r. is_absurd r ≡ false) (LeftOf rows row) →
    NoBound true (LeftOf rows row) ⊎ SomeBound (IsLeft rows row.terms) true (LeftOf rows row) →
    CarriesEvidence rows row (by_upper row.constant (LevelsOf rows row) (LeftOf rows row) (tightest true None (LeftOf rows row)))
upper_carries rows row k c a (inl u) =
    subst (λ (o : Option Derivation). CarriesEvidence rows row (by_upper row.constant (LevelsOf rows row) (LeftOf rows row) o)) (sym u.found)
    (above_carries rows row c a u (bound_of (IsLeft rows row.terms) false (LeftOf rows row) (all_left rows row c)))
upper_carries rows row k c a (inr s) =
    subst (λ (o : Option Derivation). CarriesEvidence rows row (by_upper row.constant (LevelsOf rows row) (LeftOf rows row) o)) (sym s.found) (cases (is_at_most row.constant s.bound) refl)
  where
    cases : (b : Bool) → is_at_most row.constant s.bound ≡ b → CarriesEvidence rows row (by_upper row.constant (LevelsOf rows row) (LeftOf rows row) (Some s.bound))
    cases true e =
        subst (λ (x : Answer). CarriesEvidence rows row x)
        (sym (ap (λ (d : Bool). if d then Proved s.bound.support.multipliers (s.bound.support.divisor * unsigned_abs s.bound.last) else by_bounds (LevelsOf rows row) s.bound (tightest false None (LeftOf rows row))) e))
        (upper_proves rows row s.bound k s.known.told.derived s.known.test e)
    cases false e =
        subst (λ (x : Answer). CarriesEvidence rows row x)
        (sym (ap (λ (d : Bool). if d then Proved s.bound.support.multipliers (s.bound.support.divisor * unsigned_abs s.bound.last) else by_bounds (LevelsOf rows row) s.bound (tightest false None (LeftOf rows row))) e))
        (bounds_carry rows row c a s.bound s.known e (bound_of (IsLeft rows row.terms) false (LeftOf rows row) (all_left rows row c)))

absurd_carries : (rows : List Inequality) (row : Inequality) → IsCollected row.terms → Each (λ r. IsCollected r.terms) (start_of rows row) →
    (o : Option Derivation) → first_absurd (LeftOf rows row) ≡ o → CarriesEvidence rows row (by_absurd row.constant (LevelsOf rows row) (LeftOf rows row) o)
absurd_carries rows row k c (Some r) e =
    let m = found_absurd (IsLeft rows row.terms) (LeftOf rows row) r (all_left rows row c) e in
    let p = absurd_proves rows row.terms r m.told.derived m.test in
    record { positive = m.told.derived.positive; named = p.named; shown = inr p.shown }
absurd_carries rows row k c None e =
    upper_carries rows row k c (none_absurd (LeftOf rows row) e) (bound_of (IsLeft rows row.terms) true (LeftOf rows row) (all_left rows row c))

-- the answer of the run carries its evidence
pub run_carries : (rows : List Inequality) (row : Inequality) → IsCollected row.terms → Each (λ r. IsCollected r.terms) (start_of rows row) → CarriesEvidence rows row (answer_of_run rows row)
run_carries rows row k c = absurd_carries rows row k c (first_absurd (LeftOf rows row)) refl

-- ---- emptiness

no_last : (y : Var) (p n : Derivation) → p.last ≡ pos 0 → n.last ≡ pos 0 → (combination y p n).last ≡ pos 0
no_last y p n hp hn =
    let a : ℕ = size_of y n in
    let b : ℕ = size_of y p in
    let g : ℕ = sum_divisor a p b n in
    let above = divisor_positive (sum_terms a p b n) (sum_last a p b n) (sum_constant a p b n) in
    let exact = floor_exact (sum_last a p b n) g above (divisor_divides_numbers (sum_terms a p b n) (sum_last a p b n) (sum_constant a p b n)).0 in
    let first : pos a *ℤ p.last ≡ pos 0 = ap (λ (x : ℤ). pos a *ℤ x) hp ∙ *ℤ-zero (pos a) in
    let second : pos b *ℤ n.last ≡ pos 0 = ap (λ (x : ℤ). pos b *ℤ x) hn ∙ *ℤ-zero (pos b) in
    let zero_g = *ℤ-zero (pos g) in
    cancel_same g (combination y p n).last (pos 0) above (omega (arith, ints))

given_no_last : (place : ℕ) (rows : List Inequality) → Each (λ r. r.last ≡ pos 0) (given_from place rows)
given_no_last place [] = tt
given_no_last place (row ∷ rows) = (refl, given_no_last (place + 1) rows)

no_bounds : (up : Bool) (Q : Derivation → Type 0) (rs : List Derivation) → Each (λ r. r.last ≡ pos 0) rs → Each (λ r. bounds_last up r ≡ true → Q r) rs
no_bounds up Q [] h = tt
no_bounds up Q (r ∷ rs) h = ((λ e. absurd (let s = last_sized up r e in let f : unsigned_abs r.last ≡ 0 = ap unsigned_abs h.0 in omega arith)), no_bounds up Q rs h.1)

pub emptiness_carries : (rows : List Inequality) → Each (λ r. IsCollected r.terms) (given_from 0 rows) → CarriesEmptiness rows (emptiness_of_run rows)
emptiness_carries rows c = cases (first_absurd (run (vars_of [] rows) (given_from 0 rows))) refl
  where
    cases : (o : Option Derivation) → first_absurd (run (vars_of [] rows) (given_from 0 rows)) ≡ o → CarriesEmptiness rows (emptiness_by (levels_of (vars_of [] rows) (given_from 0 rows)) o)
    cases (Some r) e =
        let m = found_absurd (IsDerived rows []) (run (vars_of [] rows) (given_from 0 rows)) r (run_derived (vars_of [] rows) rows [] (given_from 0 rows) (given_all_derived [] rows)) e in
        absurd_proves rows [] r m.told m.test
    cases None e =
        let rs : List Derivation = run (vars_of [] rows) (given_from 0 rows) in
        let derived = run_derived (vars_of [] rows) rows [] (given_from 0 rows) (given_all_derived [] rows) in
        let bare_rows = run_bare (vars_of [] rows) (given_from 0 rows) (given_covered rows) c in
        let lefts = mapped (λ r. IsDerived rows [] r × (r.terms ≡ [])) (IsLeft rows []) rs (λ r h. record { derived = h.0; bare = h.1 }) (both_each (IsDerived rows []) (λ r. r.terms ≡ []) rs derived bare_rows) in
        let lasts = Each-run (λ r. r.last ≡ pos 0) (vars_of [] rows) (given_from 0 rows) no_last (given_no_last 0 rows) in
        let hold = each_at rows [] (pos 0) (pos 1) rs (omega (arith, ints)) lefts (none_absurd rs e)
        (no_bounds true (λ r. (pos (unsigned_abs r.last) *ℤ pos 0) ≤ℤ (r.constant *ℤ pos 1)) rs lasts)
        (no_bounds false (λ r. pos 0 ≤ℤ ((pos (unsigned_abs r.last) *ℤ pos 0) +ℤ (r.constant *ℤ pos 1))) rs lasts) in
        let m = raised_reaches (vars_of [] rows) (given_from 0 rows) (last_at (pos 0) (pos 1)) (vars_distinct rows) c (record { positive = omega (arith, ints); vars = refl; numbered = refl }) hold in
        record {
          point = record {
            positive = m.stands.positive;
            numbered = m.stands.numbered;
            distinct = subst (λ (vs : List Var). IsDistinct vs) (sym m.stands.vars) (vars_distinct rows);
          };
          meets = given_meets (raised (levels_of (vars_of [] rows) (given_from 0 rows)) (last_at (pos 0) (pos 1))) rows 0 m.holds;
        }
