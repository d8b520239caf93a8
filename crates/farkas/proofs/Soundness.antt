-- Evidence is right at every rational point.
use Rattle.std.proofs.Common.{◌≡◌, ap, ◌∙◌, ℕ, zero, suc, ◌<◌, ℤ, pos, negsuc, ◌+ℤ◌, ◌*ℤ◌, ◌≤ℤ◌, ◌<ℤ◌, List, [], ◌∷◌, ⊎_elim, arith}
use Rattle.std.proofs.lemmas.Int.{ints, by_lt_z}
use Rattle.std.proofs.Math.IntN.{zero-*ℤ, *ℤ_comm}
use Rattle.linear_rows.specs.Rows.{Inequality, Valuation, sum_at}
use Rattle.linear_rows.proofs.Integers.{add-mul, mul_assoc}
use Rattle.linear_rows.proofs.Values.{sum_at-scaled}
use Rattle.linear_rows.proofs.Combining.{sum_at-weighted}
use Rattle.linear_rows.proofs.Rounding.{mul_monotone}
use Rattle.row_elimination.specs.declared.weights.Multiplier.{Multiplier}
use Rattle.farkas.specs.declared.answers.RationalPoint.{RationalPoint}
use Rattle.farkas.specs.Points.{Meets, MeetsEach, Entail, AreEmpty}
use Rattle.farkas.specs.Evidence.{row_at, combined_terms, combined_constant, Shows, ShowsEmpty, IsProof, IsEmptyProof, IsRefutation, IsWitness}

pub one-mul : (a : ℤ) → pos 1 *ℤ a ≡ a
one-mul a = omega (arith, ints)

row_meets : (v : Valuation) (d : ℤ) (rows : List Inequality) (place : ℕ) → MeetsEach v d rows → Meets v d (row_at rows place)
row_meets v d [] place h = let e = zero-*ℤ d in omega (arith, ints)
row_meets v d (row ∷ rows) zero h = h.0
row_meets v d (row ∷ rows) (suc place) h = row_meets v d rows place h.1

-- the sum of multiplied inequalities holds where they hold
pub combined_meets : (v : Valuation) (d : ℤ) (rows : List Inequality) (ms : List Multiplier) → MeetsEach v d rows →
    sum_at v (combined_terms rows ms) ≤ℤ (combined_constant rows ms *ℤ d)
combined_meets v d rows [] h = let e = zero-*ℤ d in omega (arith, ints)
combined_meets v d rows (m ∷ ms) h =
    let row : Inequality = row_at rows m.row in
    let first = mul_monotone m.factor (sum_at v row.terms) (row.constant *ℤ d) (row_meets v d rows m.row h) in
    let rest = combined_meets v d rows ms h in
    let left = sum_at-weighted v (pos m.factor) row.terms (pos 1) (combined_terms rows ms) in
    let one = one-mul (sum_at v (combined_terms rows ms)) in
    let one' = one-mul (combined_constant rows ms) in
    let right = add-mul (pos m.factor *ℤ row.constant) (pos 1 *ℤ combined_constant rows ms) d in
    let joined = mul_assoc (pos m.factor) row.constant d in
    let rest' : (pos 1 *ℤ combined_constant rows ms) *ℤ d ≡ combined_constant rows ms *ℤ d = ap (λ x. x *ℤ d) one' in
    omega (arith, ints)

-- a positive factor can be left out on both sides
pub cancel : (k : ℕ) (a b : ℤ) → 0 < k → (pos k *ℤ a) ≤ℤ (pos k *ℤ b) → a ≤ℤ b
cancel k a b h e =
    by_lt_z b a
    (λ less. let f = mul_monotone k (b +ℤ pos 1) a (omega (arith, ints)) in
    let g : pos k *ℤ (b +ℤ pos 1) ≡ (pos k *ℤ b) +ℤ pos k = *ℤ_comm (pos k) (b +ℤ pos 1) ∙ add-mul b (pos 1) (pos k) ∙ (let p = *ℤ_comm b (pos k) in let q = one-mul (pos k) in omega (arith, ints)) in
    absurd (omega (arith, ints)))
    (λ le. le)

-- the order of two numbers is that of their positive multiples
pub at_most_times : (a b d : ℤ) → pos 0 <ℤ d → a ≤ℤ b → (a *ℤ d) ≤ℤ (b *ℤ d)
at_most_times a b (pos n) h e = let f = mul_monotone n a b e in let g = *ℤ_comm a (pos n) in let k = *ℤ_comm b (pos n) in omega (arith, ints)
at_most_times a b (negsuc n) h e = absurd (omega (arith, ints))

pub less_times : (a b d : ℤ) → pos 0 <ℤ d → a <ℤ b → (a *ℤ d) <ℤ (b *ℤ d)
less_times a b d h e =
    let f = at_most_times (a +ℤ pos 1) b d h (omega (arith, ints)) in
    let g = add-mul a (pos 1) d in let k = one-mul d in omega (arith, ints)

absurd_sum : (v : Valuation) (d : ℤ) (rows : List Inequality) (ms : List Multiplier) → pos 0 <ℤ d → ShowsEmpty rows ms → MeetsEach v d rows → ⊥
absurd_sum v d rows ms positive shown h =
    let e = combined_meets v d rows ms h in
    let left : sum_at v (combined_terms rows ms) ≡ pos 0 = ap (sum_at v) shown.0 in
    let right = less_times (combined_constant rows ms) (pos 0) d positive shown.1 in
    let none = zero-*ℤ d in omega (arith, ints)

shown_row : (v : Valuation) (d : ℤ) (rows : List Inequality) (row : Inequality) (ms : List Multiplier) (k : ℕ) → 0 < k → pos 0 <ℤ d →
    Shows rows row ms k → MeetsEach v d rows → Meets v d row
shown_row v d rows row ms k positive above shown h =
    let e = combined_meets v d rows ms h in
    let left : sum_at v (combined_terms rows ms) ≡ pos k *ℤ sum_at v row.terms = ap (sum_at v) shown.0 ∙ sum_at-scaled v (pos k) row.terms in
    let right = at_most_times (combined_constant rows ms) (pos k *ℤ row.constant) d above shown.1 in
    let joined = mul_assoc (pos k) row.constant d in
    cancel k (sum_at v row.terms) (row.constant *ℤ d) positive (omega (arith, ints))

pub proof_entails : (rows : List Inequality) (row : Inequality) (ms : List Multiplier) (k : ℕ) → IsProof rows row ms k → Entail rows row
proof_entails rows row ms k p v d above h =
    ⊎_elim (λ shown. shown_row v d rows row ms k p.positive above shown h) (λ shown. absurd (absurd_sum v d rows ms above shown h)) p.shown

pub empty_proof_empties : (rows : List Inequality) (ms : List Multiplier) → IsEmptyProof rows ms → AreEmpty rows
empty_proof_empties rows ms p v d above h = absurd_sum v d rows ms above p.shown h

pub refutation_refutes : (rows : List Inequality) (row : Inequality) (p : RationalPoint) → IsRefutation rows row p → Entail rows row → ⊥
refutation_refutes rows row p r h =
    let e = h _ p.divisor r.point.positive r.meets in let b = r.breaks in omega (arith, ints)

pub witness_inhabits : (rows : List Inequality) (p : RationalPoint) → IsWitness rows p → AreEmpty rows → ⊥
witness_inhabits rows p r h = h _ p.divisor r.point.positive r.meets
