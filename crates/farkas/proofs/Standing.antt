-- The point in lowest terms, and the point that is raised through all steps of a run.
use Rattle.std.proofs.Common.{◌≡◌, refl, sym, ap, ◌∙◌, subst, ℕ, zero, suc, ◌<◌, max, ℤ, pos, neg_ℤ, ◌*ℤ◌, ◌<ℤ◌, List, [], ◌∷◌, length, Bool, true, false, arith}
use Rattle.std.specs.Prelude.{if◌then◌else◌, ◌-ℤ◌, unsigned_abs}
use Rattle.std.proofs.lemmas.Int.{ints, by_lt_z}
use Rattle.std.proofs.Math.IntN.{*ℤ-zero, *ℤ_comm}
use Rattle.std.proofs.Math.Nat.{one-dvd}
use Rattle.std.specs.Int.{◌∣◌}
use Rattle.std.proofs.lemmas.Nat.Gcd.{dvd_trans, dvd_refl}
use Rattle.std.specs.Ordering.{is_eq}
use Rattle.linear_rows.specs.declared.rows.Var.{Var}
use Rattle.linear_rows.specs.declared.rows.RowTerm.{RowTerm}
use Rattle.linear_rows.specs.Variables.{var_cmp}
use Rattle.linear_rows.specs.Rows.{Valuation, sum_at}
use Rattle.linear_rows.specs.Terms.{IsAscending, IsCollected}
use Rattle.linear_rows.specs.NormalForm.{floor, gcd}
use Rattle.linear_rows.proofs.Integers.{mul-add, mul_assoc, mul-neg}
use Rattle.linear_rows.proofs.Rounding.{mul_monotone, floor_exact}
use Rattle.linear_rows.proofs.Divisors.{IsGcd-gcd}
use Rattle.linear_rows.proofs.Combining.{weighted_collected}
use Rattle.farkas.specs.declared.placing.Placed.{Placed}
use Rattle.farkas.specs.Points.{number_of, IsAbsent, IsDistinct}
use Rattle.row_elimination.specs.Derivations.{Derivation, left_at, size_of, combination, sum_terms, sum_last, sum_constant}
use Rattle.row_elimination.specs.Steps.{without, with_var, matches, combined, candidates, eliminated, run}
use Rattle.farkas.specs.Placing.{scaled_numbers, extended, common_number, point_divisor, divided_numbers, lowest_point, chosen, least_limit, with_number, levels_of, raised}
use Rattle.std.specs.Prelude.{None}
use Rattle.farkas.proofs.Soundness.{cancel, less_times}
use Rattle.row_elimination.proofs.Summing.{divided_collected}
use Rattle.farkas.proofs.Following.{Each, Each-front, Each-eliminated}
use Rattle.farkas.proofs.Reaching.{numbers_at, room_at, holds_room, room_holds, absent_zero}
use Rattle.farkas.proofs.Meeting.{At, Before, chosen_meets, each_holds, matches_agree, mapped}

-- ---- lowest terms

abbrev pub DividesNumbers : ℕ → List ℤ → Type 0
DividesNumbers d [] = Unit {0}
DividesNumbers d (n ∷ ns) = (d ∣ unsigned_abs n) × DividesNumbers d ns

common-divides : (d : ℕ) (ns : List ℤ) → (common_number d ns ∣ d) × DividesNumbers (common_number d ns) ns
common-divides d [] = (dvd_refl d, tt)
common-divides d (n ∷ ns) =
    let rest = common-divides (gcd d (unsigned_abs n)) ns in
    let first = IsGcd-gcd d (unsigned_abs n) in
    (dvd_trans _ rest.0 first.0, (dvd_trans _ rest.0 first.1, rest.1))

divides_max : (g x : ℕ) → g ∣ x → max g 1 ∣ x
divides_max zero x h = one-dvd x
divides_max (suc g) x h = let e : max (suc g) 1 ≡ suc g = omega arith in subst (λ n. n ∣ x) (sym e) h

DividesNumbers-max : (g : ℕ) (ns : List ℤ) → DividesNumbers g ns → DividesNumbers (max g 1) ns
DividesNumbers-max g [] h = tt
DividesNumbers-max g (n ∷ ns) h = (divides_max g (unsigned_abs n) h.0, DividesNumbers-max g ns h.1)

record PointDivides (p : Placed) : Type 0 where
  positive : 0 < point_divisor p
  divisor : point_divisor p ∣ unsigned_abs p.divisor
  last : point_divisor p ∣ unsigned_abs p.last
  numbers : DividesNumbers (point_divisor p) p.numbers

point_divides : (p : Placed) → PointDivides p
point_divides p =
    let both : ℕ = gcd (unsigned_abs p.divisor) (unsigned_abs p.last) in
    let whole = common-divides both p.numbers in
    let parts = IsGcd-gcd (unsigned_abs p.divisor) (unsigned_abs p.last) in
    record {
      positive = omega arith;
      divisor = divides_max (common_number both p.numbers) (unsigned_abs p.divisor) (dvd_trans _ whole.0 parts.0);
      last = divides_max (common_number both p.numbers) (unsigned_abs p.last) (dvd_trans _ whole.0 parts.1);
      numbers = DividesNumbers-max (common_number both p.numbers) p.numbers whole.1;
    }

divided_number : (d : ℕ) (vs : List Var) (ns : List ℤ) (x : Var) → 0 < d → DividesNumbers d ns → pos d *ℤ number_of vs (divided_numbers d ns) x ≡ number_of vs ns x
divided_number d [] ns x p h = *ℤ-zero (pos d)
divided_number d (v ∷ vs) [] x p h = *ℤ-zero (pos d)
divided_number d (v ∷ vs) (n ∷ ns) x p h = either (is_eq (var_cmp x v)) (divided_number d vs ns x p h.1) (floor_exact n d p h.0)
  where
    either : (b : Bool) → pos d *ℤ number_of vs (divided_numbers d ns) x ≡ number_of vs ns x → pos d *ℤ floor n d ≡ n →
        pos d *ℤ (if b then floor n d else number_of vs (divided_numbers d ns) x) ≡ (if b then n else number_of vs ns x)
    either true e f = f
    either false e f = e

times_sum : (d : ℤ) (v w : Valuation) (ts : List RowTerm) → ((x : Var) → d *ℤ v x ≡ w x) → d *ℤ sum_at v ts ≡ sum_at w ts
times_sum d v w [] e = *ℤ-zero d
times_sum d v w (t ∷ ts) e =
    let rest = times_sum d v w ts e in
    let whole = mul-add d (t.factor *ℤ v t.var) (sum_at v ts) in
    let first : d *ℤ (t.factor *ℤ v t.var) ≡ t.factor *ℤ w t.var = swap d t.factor (v t.var) ∙ ap (λ (z : ℤ). t.factor *ℤ z) (e t.var) in
    omega (arith, ints)
  where
    swap : (a b c : ℤ) → a *ℤ (b *ℤ c) ≡ b *ℤ (a *ℤ c)
    swap a b c = sym (mul_assoc a b c) ∙ ap (λ (z : ℤ). z *ℤ c) (*ℤ_comm a b) ∙ mul_assoc b a c

lowest_room : (p : Placed) (r : Derivation) → pos (point_divisor p) *ℤ room_at (lowest_point p) r ≡ room_at p r
lowest_room p r =
    let g : ℕ = point_divisor p in
    let q : Placed = lowest_point p in
    let d = point_divides p in
    let sum = times_sum (pos g) (numbers_at q) (numbers_at p) r.terms (λ x. divided_number g p.vars p.numbers x d.positive d.numbers) in
    let last : pos g *ℤ (r.last *ℤ q.last) ≡ r.last *ℤ p.last = swap (pos g) r.last q.last ∙ ap (λ (z : ℤ). r.last *ℤ z) (floor_exact p.last g d.positive d.last) in
    let constant : pos g *ℤ (r.constant *ℤ q.divisor) ≡ r.constant *ℤ p.divisor = swap (pos g) r.constant q.divisor ∙ ap (λ (z : ℤ). r.constant *ℤ z) (floor_exact p.divisor g d.positive d.divisor) in
    let whole = minus_times (pos g) (r.constant *ℤ q.divisor) (left_at (numbers_at q) q.last r) in
    let parts = mul-add (pos g) (sum_at (numbers_at q) r.terms) (r.last *ℤ q.last) in
    omega (arith, ints)
  where
    swap : (a b c : ℤ) → a *ℤ (b *ℤ c) ≡ b *ℤ (a *ℤ c)
    swap a b c = sym (mul_assoc a b c) ∙ ap (λ (z : ℤ). z *ℤ c) (*ℤ_comm a b) ∙ mul_assoc b a c

    minus_times : (k x y : ℤ) → k *ℤ (x -ℤ y) ≡ (k *ℤ x) -ℤ (k *ℤ y)
    minus_times k x y = let e = mul-add k x (neg_ℤ y) in let f = mul-neg k y in omega (arith, ints)

pub lowest_holds : (p : Placed) (r : Derivation) → At p r → At (lowest_point p) r
lowest_holds p r h =
    let e = lowest_room p r in let f = room_holds p r h in let z = *ℤ-zero (pos (point_divisor p)) in
    holds_room (lowest_point p) r (cancel (point_divisor p) (pos 0) (room_at (lowest_point p) r) (point_divides p).positive (omega (arith, ints)))

-- a positive factor can be left out of a strict order
cancel_less : (k : ℕ) (a b : ℤ) → 0 < k → (pos k *ℤ a) <ℤ (pos k *ℤ b) → a <ℤ b
cancel_less k a b p h =
    by_lt_z a b (λ less. less) (λ le. let e = mul_monotone k b a le in absurd (omega (arith, ints)))

times_less : (k : ℕ) (a b : ℤ) → 0 < k → a <ℤ b → (pos k *ℤ a) <ℤ (pos k *ℤ b)
times_less k a b p h =
    let e = less_times a b (pos k) (omega (arith, ints)) h in let f = *ℤ_comm a (pos k) in let g = *ℤ_comm b (pos k) in omega (arith, ints)

-- ---- what a point keeps

-- its divisor is positive, and it gives numbers to the variables
pub record Stands (vs : List Var) (p : Placed) : Type 0 where
  pub positive : pos 0 <ℤ p.divisor
  pub vars : p.vars ≡ vs
  pub numbered : length p.numbers ≡ length p.vars

-- the number of the last variable is above k
abbrev pub IsAbove : ℤ → Placed → Type 0
IsAbove k p = (k *ℤ p.divisor) <ℤ p.last

length-scaled : (m : ℤ) (ns : List ℤ) → length (scaled_numbers m ns) ≡ length ns
length-scaled m [] = refl
length-scaled m (n ∷ ns) = ap suc (length-scaled m ns)

length-divided : (d : ℕ) (ns : List ℤ) → length (divided_numbers d ns) ≡ length ns
length-divided d [] = refl
length-divided d (n ∷ ns) = ap suc (length-divided d ns)

extended_stands : (y : Var) (n : ℤ) (m : ℕ) (vs : List Var) (p : Placed) → 0 < m → Stands vs p → Stands (y ∷ vs) (extended y n m p)
extended_stands y n m vs p h s = record {
  positive = (let e = times_less m (pos 0) p.divisor h s.positive in let z = *ℤ-zero (pos m) in omega (arith, ints));
  vars = ap (λ (xs : List Var). y ∷ xs) s.vars;
  numbered = ap suc (length-scaled (pos m) p.numbers ∙ s.numbered);
}

lowest_stands : (vs : List Var) (p : Placed) → Stands vs p → Stands vs (lowest_point p)
lowest_stands vs p s = record {
  positive =
      (let d = point_divides p in let e = floor_exact p.divisor (point_divisor p) d.positive d.divisor in let z = *ℤ-zero (pos (point_divisor p)) in
      let h = s.positive in
      cancel_less (point_divisor p) (pos 0) (lowest_point p).divisor d.positive (omega (arith, ints)));
  vars = s.vars;
  numbered = length-divided (point_divisor p) p.numbers ∙ s.numbered;
}

extended_above : (k : ℤ) (y : Var) (n : ℤ) (m : ℕ) (p : Placed) → 0 < m → IsAbove k p → IsAbove k (extended y n m p)
extended_above k y n m p h a =
    let e = times_less m (k *ℤ p.divisor) p.last h a in
    let f : pos m *ℤ (k *ℤ p.divisor) ≡ k *ℤ (pos m *ℤ p.divisor) = sym (mul_assoc (pos m) k p.divisor) ∙ ap (λ (z : ℤ). z *ℤ p.divisor) (*ℤ_comm (pos m) k) ∙ mul_assoc k (pos m) p.divisor in
    omega (arith, ints)

lowest_above : (k : ℤ) (p : Placed) → IsAbove k p → IsAbove k (lowest_point p)
lowest_above k p a =
    let g : ℕ = point_divisor p in
    let q : Placed = lowest_point p in
    let d = point_divides p in
    let e = floor_exact p.divisor g d.positive d.divisor in
    let f = floor_exact p.last g d.positive d.last in
    let t : pos g *ℤ (k *ℤ q.divisor) ≡ k *ℤ p.divisor =
    sym (mul_assoc (pos g) k q.divisor) ∙ ap (λ (z : ℤ). z *ℤ q.divisor) (*ℤ_comm (pos g) k) ∙ mul_assoc k (pos g) q.divisor ∙ ap (λ (z : ℤ). k *ℤ z) e in
    cancel_less g (k *ℤ q.divisor) q.last d.positive (omega (arith, ints))

-- ---- one step, and all

pub record Reached (vs : List Var) (rs : List Derivation) (p q : Placed) : Type 0 where
  pub stands : Stands vs q
  pub holds : Each (At q) rs
  pub above : (k : ℤ) → IsAbove k p → IsAbove k q

step_reached : (y : Var) (vs : List Var) (rs : List Derivation) (p : Placed) → IsAbsent y vs → Each (λ r. IsCollected r.terms) rs → Stands vs p → Each (At p) (eliminated y rs) →
    Reached (y ∷ vs) rs p (with_number y (with_var y rs) p)
step_reached y vs rs p absent collected s h =
    let mentioning : List Derivation = with_var y rs in
    let all = (each_holds p [] (candidates y rs) s.positive h).1 in
    let parts = Each-front (At p) (without y rs) (combined y (matches y mentioning)) all in
    let before : Before y rs p = record {
      none = absent_zero y p.vars p.numbers (subst (λ (xs : List Var). IsAbsent y xs) (sym s.vars) absent);
      ascending = mapped (λ r. IsCollected r.terms) (λ r. IsAscending r.terms) rs (λ r c. c.ascending) collected;
      free = parts.0;
      agree = matches_agree p y (matches y mentioning) parts.1;
    } in
    let m = chosen_meets y rs p before in
    let q : Placed = chosen y (least_limit false y p None mentioning) mentioning p in
    record {
      stands = lowest_stands (y ∷ vs) q (subst (λ (x : Placed). Stands (y ∷ vs) x) (sym m.is) (extended_stands y m.number m.size vs p m.positive s));
      holds = mapped (At q) (At (lowest_point q)) rs (λ r k. lowest_holds q r k) m.holds;
      above = λ k a. lowest_above k q (subst (λ (x : Placed). IsAbove k x) (sym m.is) (extended_above k y m.number m.size p m.positive a));
    }

combination_collected : (y : Var) (p n : Derivation) → IsCollected p.terms → IsCollected n.terms → IsCollected (combination y p n).terms
combination_collected y p n hp hn =
    divided_collected (sum_terms (size_of y n) p (size_of y p) n) (sum_last (size_of y n) p (size_of y p) n) (sum_constant (size_of y n) p (size_of y p) n)
    (weighted_collected (pos (size_of y n)) p.terms (pos (size_of y p)) n.terms hn.ascending)

pub eliminated_collected : (y : Var) (rs : List Derivation) → Each (λ r. IsCollected r.terms) rs → Each (λ r. IsCollected r.terms) (eliminated y rs)
eliminated_collected y rs h = Each-eliminated (λ r. IsCollected r.terms) y rs (combination_collected y) h

-- a point that meets what is left is raised to one that meets what there was
pub raised_reaches : (ys : List Var) (rs : List Derivation) (p : Placed) → IsDistinct ys → Each (λ r. IsCollected r.terms) rs → Stands [] p → Each (At p) (run ys rs) →
    Reached ys rs p (raised (levels_of ys rs) p)
raised_reaches [] rs p distinct collected s h = record { stands = s; holds = h; above = λ k a. a }
raised_reaches (y ∷ ys) rs p distinct collected s h =
    let rest = raised_reaches ys (eliminated y rs) p distinct.1 (eliminated_collected y rs collected) s h in
    let q : Placed = raised (levels_of ys (eliminated y rs)) p in
    let next = step_reached y ys rs q distinct.0 collected rest.stands rest.holds in
    record { stands = next.stands; holds = next.holds; above = λ k a. next.above k (rest.above k a) }
