-- A point with one more number meets the inequalities before a step where the point met those after it.
use Rattle.std.proofs.Common.{◌≡◌, refl, sym, ap, ◌∙◌, subst, ℕ, ℤ, pos, neg_ℤ, ◌+ℤ◌, ◌*ℤ◌, ◌≤ℤ◌, List, [], ◌∷◌, Bool, true, false, arith}
use Rattle.std.specs.Prelude.{if◌then◌else◌, ◌-ℤ◌}
use Rattle.std.proofs.lemmas.Int.{ints}
use Rattle.std.proofs.Math.IntN.{zero-*ℤ, *ℤ-zero, *ℤ_comm}
use Rattle.std.specs.Ordering.{is_eq}
use Rattle.std.specs.declared.cmp.Ordering.{Ordering}
use Rattle.std.specs.declared.cmp.Ordering.TheVariants.{Less, Equal, Greater}
use Rattle.linear_rows.specs.declared.rows.Var.{Var}
use Rattle.linear_rows.specs.declared.rows.RowTerm.{RowTerm}
use Rattle.linear_rows.specs.Variables.{var_cmp}
use Rattle.linear_rows.specs.Rows.{Valuation, sum_at}
use Rattle.linear_rows.specs.Terms.{Follows, IsAscending, factor_of}
use Rattle.linear_rows.proofs.VariableOrder.{same_var, equal_itself, greater_less, less_greater}
use Rattle.linear_rows.proofs.TermLists.{by_order, follows_before}
use Rattle.linear_rows.proofs.Integers.{mul-add, mul_assoc, mul-neg}
use Rattle.farkas.specs.declared.placing.Placed.{Placed}
use Rattle.farkas.specs.Points.{number_of, IsAbsent}
use Rattle.row_elimination.specs.Derivations.{Derivation, left_at, HoldsAt}
use Rattle.farkas.specs.Placing.{slack_from, slack_of, scaled_numbers, extended}
use Rattle.farkas.proofs.Agreeing.{room}

-- the numbers of a point
abbrev pub numbers_at : Placed → Valuation
numbers_at p x = number_of p.vars p.numbers x

abbrev pub room_at : Placed → Derivation → ℤ
room_at p r = room (numbers_at p) p.last p.divisor r

slack_from-is : (rest : ℤ) (p : Placed) (ts : List RowTerm) → slack_from rest p ts ≡ rest -ℤ sum_at (numbers_at p) ts
slack_from-is rest p [] = omega (arith, ints)
slack_from-is rest p (t ∷ ts) = let e = slack_from-is (rest -ℤ (t.factor *ℤ numbers_at p t.var)) p ts in omega (arith, ints)

pub slack_of-is : (p : Placed) (r : Derivation) → slack_of p r ≡ room_at p r
slack_of-is p r = let e = slack_from-is ((r.constant *ℤ p.divisor) -ℤ (r.last *ℤ p.last)) p r.terms in omega (arith, ints)

-- the inequality holds where its room isn't negative
pub holds_room : (p : Placed) (r : Derivation) → pos 0 ≤ℤ room_at p r → HoldsAt (numbers_at p) p.last p.divisor r
holds_room p r h = omega (arith, ints)

pub room_holds : (p : Placed) (r : Derivation) → HoldsAt (numbers_at p) p.last p.divisor r → pos 0 ≤ℤ room_at p r
room_holds p r h = omega (arith, ints)

number-scaled : (m : ℤ) (vs : List Var) (ns : List ℤ) (x : Var) → number_of vs (scaled_numbers m ns) x ≡ m *ℤ number_of vs ns x
number-scaled m [] ns x = sym (*ℤ-zero m)
number-scaled m (v ∷ vs) [] x = sym (*ℤ-zero m)
number-scaled m (v ∷ vs) (n ∷ ns) x = either (is_eq (var_cmp x v)) (number-scaled m vs ns x)
  where
    either : (b : Bool) → number_of vs (scaled_numbers m ns) x ≡ m *ℤ number_of vs ns x →
        (if b then m *ℤ n else number_of vs (scaled_numbers m ns) x) ≡ m *ℤ (if b then n else number_of vs ns x)
    either true e = refl
    either false e = e

pub absent_zero : (x : Var) (vs : List Var) (ns : List ℤ) → IsAbsent x vs → number_of vs ns x ≡ pos 0
absent_zero x [] ns h = refl
absent_zero x (v ∷ vs) [] h = refl
absent_zero x (v ∷ vs) (n ∷ ns) h = other (var_cmp x v) refl (absent_zero x vs ns h.1)
  where
    other : (o : Ordering) → var_cmp x v ≡ o → number_of vs ns x ≡ pos 0 → (if is_eq o then n else number_of vs ns x) ≡ pos 0
    other Less e f = f
    other Equal e f = absurd (h.0 (same_var x v e))
    other Greater e f = f

-- the numbers of an extended point
abbrev pub spread : Var → ℤ → ℤ → Valuation → Valuation
spread y n m v x = if is_eq (var_cmp x y) then n else m *ℤ v x

extended_number : (y : Var) (n : ℤ) (m : ℕ) (p : Placed) (x : Var) → numbers_at (extended y n m p) x ≡ spread y n (pos m) (numbers_at p) x
extended_number y n m p x = ap (λ (z : ℤ). if is_eq (var_cmp x y) then n else z) (number-scaled (pos m) p.vars p.numbers x)

pub same_sum : (v w : Valuation) (ts : List RowTerm) → ((x : Var) → v x ≡ w x) → sum_at v ts ≡ sum_at w ts
same_sum v w [] e = refl
same_sum v w (t ∷ ts) e =
    let f : t.factor *ℤ v t.var ≡ t.factor *ℤ w t.var = ap (λ (z : ℤ). t.factor *ℤ z) (e t.var) in let g = same_sum v w ts e in omega (arith, ints)

spread_at : (y : Var) (n m : ℤ) (v : Valuation) (x : Var) (o : Ordering) → var_cmp x y ≡ o → spread y n m v x ≡ (if is_eq o then n else m *ℤ v x)
spread_at y n m v x o e = ap (λ (q : Ordering). if is_eq q then n else m *ℤ v x) e

-- the factor of a variable that comes before all is 0
pub factor_behind : (y : Var) (ts : List RowTerm) → Follows y ts → factor_of y ts ≡ pos 0
factor_behind y [] h = refl
factor_behind y (t ∷ ts) h = ap (λ (o : Ordering). if is_eq o then t.factor else factor_of y ts) h.0 ∙ factor_behind y ts h.1

sum-after : (y : Var) (n m : ℤ) (v : Valuation) (ts : List RowTerm) → Follows y ts → sum_at (spread y n m v) ts ≡ m *ℤ sum_at v ts
sum-after y n m v [] h = sym (*ℤ-zero m)
sum-after y n m v (t ∷ ts) h =
    let e : t.factor *ℤ spread y n m v t.var ≡ t.factor *ℤ (m *ℤ v t.var) = ap (λ (z : ℤ). t.factor *ℤ z) (spread_at y n m v t.var Greater (less_greater t.var y h.0)) in
    let f = swap t.factor m (v t.var) in
    let g = sum-after y n m v ts h.1 in let k = mul-add m (t.factor *ℤ v t.var) (sum_at v ts) in omega (arith, ints)
  where
    swap : (a b c : ℤ) → a *ℤ (b *ℤ c) ≡ b *ℤ (a *ℤ c)
    swap a b c = sym (mul_assoc a b c) ∙ ap (λ (z : ℤ). z *ℤ c) (*ℤ_comm a b) ∙ mul_assoc b a c

pub sum-spread : (y : Var) (n m : ℤ) (v : Valuation) (ts : List RowTerm) → v y ≡ pos 0 → IsAscending ts →
    sum_at (spread y n m v) ts ≡ (factor_of y ts *ℤ n) +ℤ (m *ℤ sum_at v ts)
sum-spread y n m v [] h k = let e = zero-*ℤ n in let f = *ℤ-zero m in omega (arith, ints)
sum-spread y n m v (t ∷ ts) h k =
    by_order y t.var
    (λ less.
    let other = sum-after y n m v (t ∷ ts) (less, follows_before y t.var ts less k.0) in
    let factor : factor_of y (t ∷ ts) *ℤ n ≡ pos 0 *ℤ n = ap (λ (z : ℤ). z *ℤ n) (factor_behind y (t ∷ ts) (less, follows_before y t.var ts less k.0)) in
    let none = zero-*ℤ n in omega (arith, ints))
    (λ equal.
    let same = same_var y t.var equal in
    let first : t.factor *ℤ spread y n m v t.var ≡ t.factor *ℤ n =
    ap (λ (z : ℤ). t.factor *ℤ z) (spread_at y n m v t.var Equal (ap (λ (w : Var). var_cmp w y) (sym same) ∙ equal_itself y)) in
    let rest = sum-after y n m v ts (subst (λ (w : Var). Follows w ts) (sym same) k.0) in
    let factor : factor_of y (t ∷ ts) *ℤ n ≡ t.factor *ℤ n = ap (λ (o : Ordering). (if is_eq o then t.factor else factor_of y ts) *ℤ n) equal in
    let gone : t.factor *ℤ v t.var ≡ pos 0 = ap (λ (w : Var). t.factor *ℤ v w) (sym same) ∙ ap (λ (z : ℤ). t.factor *ℤ z) h ∙ *ℤ-zero t.factor in
    let whole : m *ℤ ((t.factor *ℤ v t.var) +ℤ sum_at v ts) ≡ m *ℤ sum_at v ts = ap (λ (z : ℤ). m *ℤ z) (omega (arith, ints)) in
    omega (arith, ints))
    (λ greater.
    let first : t.factor *ℤ spread y n m v t.var ≡ t.factor *ℤ (m *ℤ v t.var) = ap (λ (z : ℤ). t.factor *ℤ z) (spread_at y n m v t.var Less (greater_less y t.var greater)) in
    let turned = swap t.factor m (v t.var) in
    let rest = sum-spread y n m v ts h k.1 in
    let factor : factor_of y (t ∷ ts) *ℤ n ≡ factor_of y ts *ℤ n = ap (λ (o : Ordering). (if is_eq o then t.factor else factor_of y ts) *ℤ n) greater in
    let whole = mul-add m (t.factor *ℤ v t.var) (sum_at v ts) in
    omega (arith, ints))
  where
    swap : (a b c : ℤ) → a *ℤ (b *ℤ c) ≡ b *ℤ (a *ℤ c)
    swap a b c = sym (mul_assoc a b c) ∙ ap (λ (z : ℤ). z *ℤ c) (*ℤ_comm a b) ∙ mul_assoc b a c

-- the room at an extended point
pub room_extended : (y : Var) (n : ℤ) (m : ℕ) (p : Placed) (r : Derivation) → numbers_at p y ≡ pos 0 → IsAscending r.terms →
    room_at (extended y n m p) r ≡ (pos m *ℤ room_at p r) -ℤ (factor_of y r.terms *ℤ n)
room_extended y n m p r h k =
    let q : Placed = extended y n m p in
    let numbers = same_sum (numbers_at q) (spread y n (pos m) (numbers_at p)) r.terms (extended_number y n m p) in
    let sum = sum-spread y n (pos m) (numbers_at p) r.terms h k in
    let last = swap r.last (pos m) p.last in
    let constant = swap r.constant (pos m) p.divisor in
    let whole = minus_times (pos m) (r.constant *ℤ p.divisor) (left_at (numbers_at p) p.last r) in
    let parts = mul-add (pos m) (sum_at (numbers_at p) r.terms) (r.last *ℤ p.last) in
    omega (arith, ints)
  where
    swap : (a b c : ℤ) → a *ℤ (b *ℤ c) ≡ b *ℤ (a *ℤ c)
    swap a b c = sym (mul_assoc a b c) ∙ ap (λ (z : ℤ). z *ℤ c) (*ℤ_comm a b) ∙ mul_assoc b a c

    minus_times : (k x y : ℤ) → k *ℤ (x -ℤ y) ≡ (k *ℤ x) -ℤ (k *ℤ y)
    minus_times k x y = let e = mul-add k x (neg_ℤ y) in let f = mul-neg k y in omega (arith, ints)
