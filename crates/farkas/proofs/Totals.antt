-- Sums over multiplied rows.
use Rattle.std.proofs.Common.{◌≡◌, sym, ap, subst, ℕ, zero, suc, ◌+◌, ◌*◌, ◌/◌, ◌<◌, max, ℤ, pos, ◌+ℤ◌, ◌*ℤ◌, List, [], ◌∷◌, length, refl, arith}
use Rattle.std.specs.Int.{◌∣◌}
use Rattle.std.proofs.lemmas.Int.{ints}
use Rattle.std.proofs.Math.IntN.{*ℤ-zero}
use Rattle.std.proofs.Math.Nat.{mul-div_cancel', one-dvd}
use Rattle.std.proofs.lemmas.Nat.Gcd.{dvd_trans, dvd_refl}
use Rattle.linear_rows.specs.Rows.{Inequality}
use Rattle.linear_rows.specs.NormalForm.{gcd}
use Rattle.linear_rows.proofs.Divisors.{IsGcd-gcd}
use Rattle.linear_rows.proofs.Integers.{mul-add, add-mul}
use Rattle.row_elimination.specs.declared.weights.Multiplier.{Multiplier}
use Rattle.farkas.specs.Evidence.{row_at, EachNamed}
use Rattle.row_elimination.specs.Weights.{scaled_multipliers, with_multiplier, summed_multipliers, weighted_multipliers, common_factor, divided_multipliers}
use Rattle.row_elimination.proofs.Adding.{by_row, with_passed, with_same, with_new}
use Rattle.farkas.proofs.Rings.{together}

-- the sum of a number of each row, times its factor
abbrev pub total : (Inequality → ℤ) → List Inequality → List Multiplier → ℤ
total f rows [] = pos 0
total f rows (m ∷ ms) = (pos m.factor *ℤ f (row_at rows m.row)) +ℤ total f rows ms

pub total-scaled : (f : Inequality → ℤ) (rows : List Inequality) (a : ℕ) (ms : List Multiplier) → total f rows (scaled_multipliers a ms) ≡ pos a *ℤ total f rows ms
total-scaled f rows a [] = sym (*ℤ-zero (pos a))
total-scaled f rows a (m ∷ ms) =
    let rest = total-scaled f rows a ms in
    let first = together a m.factor (f (row_at rows m.row)) in
    let whole = mul-add (pos a) (pos m.factor *ℤ f (row_at rows m.row)) (total f rows ms) in omega (arith, ints)

pub total-with : (f : Inequality → ℤ) (rows : List Inequality) (m : Multiplier) (xs : List Multiplier) →
    total f rows (with_multiplier m xs) ≡ (pos m.factor *ℤ f (row_at rows m.row)) +ℤ total f rows xs
total-with f rows m [] = refl
total-with f rows m (x ∷ xs) =
    by_row x.row m.row
    (λ less. let e = total-with f rows m xs in let g = ap (total f rows) (with_passed m x xs less) in omega (arith, ints))
    (λ same.
    let g = ap (total f rows) (with_same m x xs same) in
    let k : pos x.factor *ℤ f (row_at rows x.row) ≡ pos x.factor *ℤ f (row_at rows m.row) = ap (λ (n : ℕ). pos x.factor *ℤ f (row_at rows n)) same in
    let s : pos (x.factor + m.factor) *ℤ f (row_at rows m.row) ≡ (pos x.factor *ℤ f (row_at rows m.row)) +ℤ (pos m.factor *ℤ f (row_at rows m.row)) =
    add-mul (pos x.factor) (pos m.factor) (f (row_at rows m.row)) in
    omega (arith, ints))
    (λ more. let g = ap (total f rows) (with_new m x xs more) in omega (arith, ints))

pub total-summed : (f : Inequality → ℤ) (rows : List Inequality) (ms ns : List Multiplier) → total f rows (summed_multipliers ms ns) ≡ total f rows ms +ℤ total f rows ns
total-summed f rows [] ns = omega (arith, ints)
total-summed f rows (m ∷ ms) ns =
    let e = total-summed f rows ms (with_multiplier m ns) in let g = total-with f rows m ns in omega (arith, ints)

pub total-weighted : (f : Inequality → ℤ) (rows : List Inequality) (a : ℕ) (ms : List Multiplier) (b : ℕ) (ns : List Multiplier) →
    total f rows (weighted_multipliers a ms b ns) ≡ (pos a *ℤ total f rows ms) +ℤ (pos b *ℤ total f rows ns)
total-weighted f rows a ms b ns =
    let e = total-summed f rows (scaled_multipliers a ms) (scaled_multipliers b ns) in
    let g = total-scaled f rows a ms in let h = total-scaled f rows b ns in omega (arith, ints)

-- the number divides each factor
abbrev pub DividesFactors : ℕ → List Multiplier → Type 0
DividesFactors d [] = Unit {0}
DividesFactors d (m ∷ ms) = (d ∣ m.factor) × DividesFactors d ms

pub total-divided : (f : Inequality → ℤ) (rows : List Inequality) (d : ℕ) (ms : List Multiplier) → DividesFactors d ms → pos d *ℤ total f rows (divided_multipliers d ms) ≡ total f rows ms
total-divided f rows d [] h = *ℤ-zero (pos d)
total-divided f rows d (m ∷ ms) h =
    let rest = total-divided f rows d ms h.1 in
    let first = together d (m.factor / d) (f (row_at rows m.row)) in
    let exact : pos (d * (m.factor / d)) *ℤ f (row_at rows m.row) ≡ pos m.factor *ℤ f (row_at rows m.row) = ap (λ (n : ℕ). pos n *ℤ f (row_at rows m.row)) (mul-div_cancel' d h.0) in
    let whole = mul-add (pos d) (pos (m.factor / d) *ℤ f (row_at rows m.row)) (total f rows (divided_multipliers d ms)) in omega (arith, ints)

common_factor-divides : (d : ℕ) (ms : List Multiplier) → (common_factor d ms ∣ d) × DividesFactors (common_factor d ms) ms
common_factor-divides d [] = (dvd_refl d, tt)
common_factor-divides d (m ∷ ms) =
    let rest = common_factor-divides (gcd d m.factor) ms in
    let first = IsGcd-gcd d m.factor in
    (dvd_trans _ rest.0 first.0, (dvd_trans _ rest.0 first.1, rest.1))

divides_max : (g x : ℕ) → g ∣ x → max g 1 ∣ x
divides_max zero x h = one-dvd x
divides_max (suc g) x h = let e : max (suc g) 1 ≡ suc g = omega arith in subst (λ n. n ∣ x) (sym e) h

DividesFactors-max : (g : ℕ) (ms : List Multiplier) → DividesFactors g ms → DividesFactors (max g 1) ms
DividesFactors-max g [] h = tt
DividesFactors-max g (m ∷ ms) h = (divides_max g m.factor h.0, DividesFactors-max g ms h.1)

pub support_divides : (d : ℕ) (ms : List Multiplier) → (max (common_factor d ms) 1 ∣ d) × DividesFactors (max (common_factor d ms) 1) ms
support_divides d ms =
    let h = common_factor-divides d ms in (divides_max (common_factor d ms) d h.0, DividesFactors-max (common_factor d ms) ms h.1)

pub named-scaled : (rows : List Inequality) (a : ℕ) (ms : List Multiplier) → EachNamed rows ms → EachNamed rows (scaled_multipliers a ms)
named-scaled rows a [] h = tt
named-scaled rows a (m ∷ ms) h = (h.0, named-scaled rows a ms h.1)

pub named-with : (rows : List Inequality) (m : Multiplier) (xs : List Multiplier) → m.row < length rows → EachNamed rows xs → EachNamed rows (with_multiplier m xs)
named-with rows m [] h k = (h, tt)
named-with rows m (x ∷ xs) h k =
    by_row x.row m.row
    (λ less. subst (λ (ys : List Multiplier). EachNamed rows ys) (sym (with_passed m x xs less)) (k.0, named-with rows m xs h k.1))
    (λ same. subst (λ (ys : List Multiplier). EachNamed rows ys) (sym (with_same m x xs same)) (h, k.1))
    (λ more. subst (λ (ys : List Multiplier). EachNamed rows ys) (sym (with_new m x xs more)) (h, k))

pub named-summed : (rows : List Inequality) (ms ns : List Multiplier) → EachNamed rows ms → EachNamed rows ns → EachNamed rows (summed_multipliers ms ns)
named-summed rows [] ns h k = k
named-summed rows (m ∷ ms) ns h k = named-summed rows ms (with_multiplier m ns) h.1 (named-with rows m ns h.0 k)

pub named-divided : (rows : List Inequality) (d : ℕ) (ms : List Multiplier) → EachNamed rows ms → EachNamed rows (divided_multipliers d ms)
named-divided rows d [] h = tt
named-divided rows d (m ∷ ms) h = (h.0, named-divided rows d ms h.1)
