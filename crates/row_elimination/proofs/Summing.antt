-- The weighted sum of two derived inequalities, and when its numbers are small.
use Rattle.std.proofs.Common.{◌≡◌, ◌≢◌, refl, sym, ap, ◌∙◌, subst, ℕ, zero, suc, ◌<◌, ◌≤◌, max, ℤ, pos, negsuc, ◌*ℤ◌, List, [], ◌∷◌, length, drop, Bool, true, false, Option, Some, None, to_z, of_z, FitsSigned, arith}
use Rattle.std.specs.Int.{w128, ◌∣◌}
use Rattle.std.proofs.lemmas.Nat.Gcd.{dvd_trans}
use Rattle.std.proofs.Math.Nat.{one-dvd}
use Rattle.std.specs.Prelude.{unsigned_abs, ◌&&◌}
use Rattle.std.proofs.lemmas.Int.{to_z-of_z, ints}
use Rattle.std.proofs.lemmas.List.{drop_all}
use Rattle.linear_rows.specs.declared.rows.RowTerm.{RowTerm}
use Rattle.linear_rows.specs.Forms.{weighted_constant, weighted_constant_within, weighted_terms, weighted_terms_within, terms_stay_small, constants_stay_small}
use Rattle.linear_rows.specs.Terms.{IsCollected, IsAscending, HasNoZero, scaled_terms}
use Rattle.linear_rows.specs.NormalForm.{gcd, common_divisor, divided, floor, DividesEach}
use Rattle.linear_rows.proofs.Divisors.{common_divisor-divides, IsGcd-gcd}
use Rattle.linear_rows.proofs.TermLists.{IsAscending-scaled}
use Rattle.linear_rows.proofs.Normal.{IsAscending-divided, HasNoZero-divided}
use Rattle.row_elimination.specs.declared.weights.Support.{Support}
use Rattle.row_elimination.specs.Weights.{supports_fit, combined_support}
use Rattle.row_elimination.proofs.Adding.{some_if, none_if, true_if}
use Rattle.row_elimination.specs.Derivations.{Derivation, sum_stays_small, divisor_of_all, sum_terms, sum_last, sum_constant, sum_divisor, weighted_sum}

pub common_to_z : (last constant : ℤ) (ts : List RowTerm) (i d : ℕ) → FitsSigned w128 last → FitsSigned w128 constant → length ts ≤ i →
    common_divisor d (drop i ts) ≡ common_divisor (gcd (unsigned_abs (to_z w128 (of_z w128 last))) (unsigned_abs (to_z w128 (of_z w128 constant)))) ts →
    d ≡ common_divisor (gcd (unsigned_abs last) (unsigned_abs constant)) ts
common_to_z last constant ts i d f g h e =
    ap (common_divisor d) (sym (drop_all {X = RowTerm} i ts h)) ∙ e
    ∙ ap (λ (z : ℤ). common_divisor (gcd (unsigned_abs z) (unsigned_abs (to_z w128 (of_z w128 constant)))) ts) (to_z-of_z w128 last f)
    ∙ ap (λ (z : ℤ). common_divisor (gcd (unsigned_abs last) (unsigned_abs z)) ts) (to_z-of_z w128 constant g)

and_false : (a b : Bool) → b ≡ false → (a && b) ≡ false
and_false true b e = e
and_false false b e = refl

-- the weighted sum of two numbers as it is made
pub weighed : (a b : ℕ) (x y z x' y' : ℤ) (r : Option ℤ) → x' ≡ x → y' ≡ y → r ≡ weighted_constant_within (pos a) x' (pos b) y' → r ≡ Some z →
    z ≡ weighted_constant (pos a) x (pos b) y
weighed a b x y z x' y' r e f g h =
    some_if {A = ℤ} (constants_stay_small (pos a) x' (pos b) y') (weighted_constant (pos a) x' (pos b) y') z r g h
    ∙ ap (λ (u : ℤ). weighted_constant (pos a) u (pos b) y') e ∙ ap (λ (u : ℤ). weighted_constant (pos a) x (pos b) u) f

too_large : (a b : ℕ) (x y x' y' : ℤ) (r : Option ℤ) → x' ≡ x → y' ≡ y → r ≡ weighted_constant_within (pos a) x' (pos b) y' → r ≡ None →
    constants_stay_small (pos a) x (pos b) y ≡ false
too_large a b x y x' y' r e f g h =
    sym (ap (λ (u : ℤ). constants_stay_small (pos a) u (pos b) y') e ∙ ap (λ (u : ℤ). constants_stay_small (pos a) x (pos b) u) f)
    ∙ none_if {A = ℤ} (constants_stay_small (pos a) x' (pos b) y') (weighted_constant (pos a) x' (pos b) y') r g h

pub last_too_large : (a b : ℕ) (p n : Derivation) (x y : ℤ) (r : Option ℤ) → x ≡ p.last → y ≡ n.last → r ≡ weighted_constant_within (pos a) x (pos b) y → r ≡ None →
    sum_stays_small a p b n ≡ false
last_too_large a b p n x y r e f g h =
    let k = too_large a b p.last n.last x y r e f g h in
    ap (λ (c : Bool). c && constants_stay_small (pos a) p.constant (pos b) n.constant && supports_fit a p.support b n.support (sum_divisor a p b n))
    (and_false (terms_stay_small (pos a) p.terms (pos b) n.terms) _ k)

pub constant_too_large : (a b : ℕ) (p n : Derivation) (x y : ℤ) (r : Option ℤ) → x ≡ p.constant → y ≡ n.constant → r ≡ weighted_constant_within (pos a) x (pos b) y → r ≡ None →
    sum_stays_small a p b n ≡ false
constant_too_large a b p n x y r e f g h =
    let k = too_large a b p.constant n.constant x y r e f g h in
    ap (λ (c : Bool). c && supports_fit a p.support b n.support (sum_divisor a p b n))
    (and_false (terms_stay_small (pos a) p.terms (pos b) n.terms && constants_stay_small (pos a) p.last (pos b) n.last) _ k)

pub terms_too_large : (a b : ℕ) (p n : Derivation) (xs ys : List RowTerm) (r : Option (List RowTerm)) → xs ≡ p.terms → ys ≡ n.terms → r ≡ weighted_terms_within (pos a) xs (pos b) ys → r ≡ None →
    sum_stays_small a p b n ≡ false
terms_too_large a b p n xs ys r e f g h =
    let k : terms_stay_small (pos a) p.terms (pos b) n.terms ≡ false =
    sym (ap (λ (us : List RowTerm). terms_stay_small (pos a) us (pos b) ys) e ∙ ap (λ (us : List RowTerm). terms_stay_small (pos a) p.terms (pos b) us) f)
    ∙ none_if {A = List RowTerm} (terms_stay_small (pos a) xs (pos b) ys) (weighted_terms (pos a) xs (pos b) ys) r g h in
    ap (λ (c : Bool). c && constants_stay_small (pos a) p.last (pos b) n.last && constants_stay_small (pos a) p.constant (pos b) n.constant && supports_fit a p.support b n.support (sum_divisor a p b n)) k

pub terms_weighed : (a b : ℕ) (p n : Derivation) (xs ys out : List RowTerm) (r : Option (List RowTerm)) → xs ≡ p.terms → ys ≡ n.terms → r ≡ weighted_terms_within (pos a) xs (pos b) ys → r ≡ Some out →
    out ≡ sum_terms a p b n
terms_weighed a b p n xs ys out r e f g h =
    some_if {A = List RowTerm} (terms_stay_small (pos a) xs (pos b) ys) (weighted_terms (pos a) xs (pos b) ys) out r g h
    ∙ ap (λ (us : List RowTerm). weighted_terms (pos a) us (pos b) ys) e ∙ ap (λ (us : List RowTerm). weighted_terms (pos a) p.terms (pos b) us) f

pub divisor_made : (a b : ℕ) (p n : Derivation) (terms : List RowTerm) (last constant : ℤ) (g : ℕ) → terms ≡ sum_terms a p b n → last ≡ sum_last a p b n → constant ≡ sum_constant a p b n →
    g ≡ divisor_of_all terms last constant → g ≡ sum_divisor a p b n
divisor_made a b p n terms last constant g e f h k =
    k ∙ ap (λ (ts : List RowTerm). divisor_of_all ts last constant) e ∙ ap (λ (z : ℤ). divisor_of_all (sum_terms a p b n) z constant) f
    ∙ ap (λ (z : ℤ). divisor_of_all (sum_terms a p b n) (sum_last a p b n) z) h

pub support_too_large : (a b : ℕ) (p n : Derivation) (s t : Support) (g : ℕ) → s ≡ p.support → t ≡ n.support → g ≡ sum_divisor a p b n → supports_fit a s b t g ≡ false →
    sum_stays_small a p b n ≡ false
support_too_large a b p n s t g e f h k =
    and_false (terms_stay_small (pos a) p.terms (pos b) n.terms && constants_stay_small (pos a) p.last (pos b) n.last && constants_stay_small (pos a) p.constant (pos b) n.constant) _
    (sym (ap (λ (u : Support). supports_fit a u b t g) e ∙ ap (λ (u : Support). supports_fit a p.support b u g) f ∙ ap (supports_fit a p.support b n.support) h) ∙ k)

pub small_number : (a b : ℕ) (x y z x' y' : ℤ) (r : Option ℤ) → x' ≡ x → y' ≡ y → r ≡ weighted_constant_within (pos a) x' (pos b) y' → r ≡ Some z →
    constants_stay_small (pos a) x (pos b) y ≡ true
small_number a b x y z x' y' r e f g h =
    sym (ap (λ (u : ℤ). constants_stay_small (pos a) u (pos b) y') e ∙ ap (λ (u : ℤ). constants_stay_small (pos a) x (pos b) u) f)
    ∙ true_if {A = ℤ} (constants_stay_small (pos a) x' (pos b) y') (weighted_constant (pos a) x' (pos b) y') z r g h

pub small_terms : (a b : ℕ) (p n : Derivation) (xs ys out : List RowTerm) (r : Option (List RowTerm)) → xs ≡ p.terms → ys ≡ n.terms → r ≡ weighted_terms_within (pos a) xs (pos b) ys → r ≡ Some out →
    terms_stay_small (pos a) p.terms (pos b) n.terms ≡ true
small_terms a b p n xs ys out r e f g h =
    sym (ap (λ (us : List RowTerm). terms_stay_small (pos a) us (pos b) ys) e ∙ ap (λ (us : List RowTerm). terms_stay_small (pos a) p.terms (pos b) us) f)
    ∙ true_if {A = List RowTerm} (terms_stay_small (pos a) xs (pos b) ys) (weighted_terms (pos a) xs (pos b) ys) out r g h

pub small_support : (a b : ℕ) (p n : Derivation) (s t : Support) (g : ℕ) → s ≡ p.support → t ≡ n.support → g ≡ sum_divisor a p b n → supports_fit a s b t g ≡ true →
    supports_fit a p.support b n.support (sum_divisor a p b n) ≡ true
small_support a b p n s t g e f h k =
    sym (ap (λ (u : Support). supports_fit a u b t g) e ∙ ap (λ (u : Support). supports_fit a p.support b u g) f ∙ ap (supports_fit a p.support b n.support) h) ∙ k

pub all_small : (w x y z : Bool) → w ≡ true → x ≡ true → y ≡ true → z ≡ true → (w && x && y && z) ≡ true
all_small w x y z e f g h =
    ap (λ (u : Bool). u && x && y && z) e ∙ ap (λ (u : Bool). u && y && z) f ∙ ap (λ (u : Bool). u && z) g ∙ h

pub sum_made : (a b : ℕ) (p n : Derivation) (terms out : List RowTerm) (last constant l c : ℤ) (g : ℕ) (s t support : Support) → terms ≡ sum_terms a p b n → last ≡ sum_last a p b n → constant ≡ sum_constant a p b n →
    g ≡ sum_divisor a p b n → s ≡ p.support → t ≡ n.support → out ≡ divided g terms → l ≡ floor last g → c ≡ floor constant g → support ≡ combined_support a s b t g →
    ◌≡◌ {A = Derivation} (record { terms = out; last = l; constant = c; support = support }) (weighted_sum a p b n)
sum_made a b p n terms out last constant l c g s t support e f h k m o q r u w =
    let terms_are : out ≡ divided (sum_divisor a p b n) (sum_terms a p b n) = q ∙ ap (λ (d : ℕ). divided d terms) k ∙ ap (divided (sum_divisor a p b n)) e in
    let last_is : l ≡ floor (sum_last a p b n) (sum_divisor a p b n) = r ∙ ap (λ (d : ℕ). floor last d) k ∙ ap (λ (z : ℤ). floor z (sum_divisor a p b n)) f in
    let constant_is : c ≡ floor (sum_constant a p b n) (sum_divisor a p b n) = u ∙ ap (λ (d : ℕ). floor constant d) k ∙ ap (λ (z : ℤ). floor z (sum_divisor a p b n)) h in
    let support_is : support ≡ combined_support a p.support b n.support (sum_divisor a p b n) =
    w ∙ ap (λ (d : ℕ). combined_support a s b t d) k ∙ ap (λ (x : Support). combined_support a x b t (sum_divisor a p b n)) m ∙ ap (λ (x : Support). combined_support a p.support b x (sum_divisor a p b n)) o in
    λ i. record { terms = terms_are i; last = last_is i; constant = constant_is i; support = support_is i }

divides_max : (g x : ℕ) → g ∣ x → max g 1 ∣ x
divides_max zero x h = one-dvd x
divides_max (suc g) x h = let e : max (suc g) 1 ≡ suc g = omega arith in subst (λ n. n ∣ x) (sym e) h

DividesEach-max : (g : ℕ) (ts : List RowTerm) → DividesEach g ts → DividesEach (max g 1) ts
DividesEach-max g [] h = tt
DividesEach-max g (t ∷ ts) h = (divides_max g (unsigned_abs t.factor) h.0, DividesEach-max g ts h.1)

pub divisor_divides : (ts : List RowTerm) (last constant : ℤ) → DividesEach (divisor_of_all ts last constant) ts
divisor_divides ts last constant =
    DividesEach-max (common_divisor (gcd (unsigned_abs last) (unsigned_abs constant)) ts) ts (common_divisor-divides (gcd (unsigned_abs last) (unsigned_abs constant)) ts).1

pub divisor_divides_numbers : (ts : List RowTerm) (last constant : ℤ) → (divisor_of_all ts last constant ∣ unsigned_abs last) × (divisor_of_all ts last constant ∣ unsigned_abs constant)
divisor_divides_numbers ts last constant =
    let d : ℕ = gcd (unsigned_abs last) (unsigned_abs constant) in
    let whole = (common_divisor-divides d ts).0 in
    let both = IsGcd-gcd (unsigned_abs last) (unsigned_abs constant) in
    (divides_max (common_divisor d ts) (unsigned_abs last) (dvd_trans _ whole both.0), divides_max (common_divisor d ts) (unsigned_abs constant) (dvd_trans _ whole both.1))

pub divisor_positive : (ts : List RowTerm) (last constant : ℤ) → 0 < divisor_of_all ts last constant
divisor_positive ts last constant = omega arith

pub divided_collected : (ts : List RowTerm) (last constant : ℤ) → IsCollected ts → IsCollected (divided (divisor_of_all ts last constant) ts)
divided_collected ts last constant h = record {
  ascending = IsAscending-divided (divisor_of_all ts last constant) ts h.ascending;
  nonzero = HasNoZero-divided (divisor_of_all ts last constant) ts (divisor_positive ts last constant) (divisor_divides ts last constant) h.nonzero;
}

negated_not_zero : (z : ℤ) → z ≢ pos 0 → (negsuc 0 *ℤ z) ≢ pos 0
negated_not_zero z h e = h (omega (arith, ints))

HasNoZero-negated : (ts : List RowTerm) → HasNoZero ts → HasNoZero (scaled_terms (negsuc 0) ts)
HasNoZero-negated [] h = tt
HasNoZero-negated (t ∷ ts) h = (negated_not_zero t.factor h.0, HasNoZero-negated ts h.1)

pub negated_collected : (ts : List RowTerm) → IsAscending ts → HasNoZero ts → IsCollected (scaled_terms (negsuc 0) ts)
negated_collected ts h k = record { ascending = IsAscending-scaled (negsuc 0) ts h; nonzero = HasNoZero-negated ts k }
