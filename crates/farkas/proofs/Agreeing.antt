-- A point at which the combinations hold leaves room for the variable between its bounds.
use Rattle.std.proofs.Common.{◌≡◌, refl, sym, ap, ◌∙◌, subst, ℕ, zero, suc, ◌+◌, ◌<◌, ℤ, pos, negsuc, neg_ℤ, ◌+ℤ◌, ◌*ℤ◌, ◌≤ℤ◌, ◌<ℤ◌, List, [], ◌∷◌, ◌++◌, ◌⊎◌, inl, inr, ⊎_elim, Bool, true, false, Option, Some, None, arith}
use Rattle.std.specs.Prelude.{if◌then◌else◌, ◌&&◌, ◌||◌, ◌==◌, ◌-ℤ◌, int_lt, unsigned_abs, option_map}
use Rattle.std.proofs.lemmas.Int.{ints}
use Rattle.std.proofs.lemmas.Bool.Decides.{nat_tests}
use Rattle.std.proofs.Math.IntN.{*ℤ-zero}
use Rattle.linear_rows.specs.declared.rows.Var.{Var}
use Rattle.linear_rows.specs.declared.rows.RowTerm.{RowTerm}
use Rattle.linear_rows.specs.Variables.{var_cmp}
use Rattle.std.specs.Ordering.{is_eq}
use Rattle.std.specs.declared.cmp.Ordering.{Ordering}
use Rattle.std.specs.declared.cmp.Ordering.TheVariants.{Less, Equal, Greater}
use Rattle.linear_rows.specs.Rows.{Valuation, sum_at}
use Rattle.linear_rows.specs.Terms.{factor_of, is_zero}
use Rattle.linear_rows.proofs.VariableOrder.{same_var}
use Rattle.linear_rows.proofs.TermLists.{is_zero_of}
use Rattle.linear_rows.proofs.Integers.{mul-add, add-mul, mul_assoc, mul-neg, neg-mul}
use Rattle.linear_rows.proofs.Rounding.{mul_monotone}
use Rattle.row_elimination.specs.declared.steps.Equality.{Equality}
use Rattle.row_elimination.specs.Derivations.{Derivation, left_at, HoldsAt, size_of, sum_divisor, weighted_sum}
use Rattle.row_elimination.specs.Steps.{Match, has_positive, has_negative, are_negated, is_negation, negation_place, found_at, equality_from, equality_of, is_side, is_made, matches_of, matches_from, matches}
use Rattle.farkas.proofs.Soundness.{cancel}
use Rattle.farkas.proofs.Rings.{regroup}
use Rattle.farkas.proofs.Deriving.{sum_left, sum_number}
use Rattle.farkas.proofs.Proving.{both_true, lt_of, size_above}
use Rattle.farkas.proofs.Following.{EachMatch}

-- what is left of the constant, times the divisor of the point
abbrev pub room : Valuation → ℤ → ℤ → Derivation → ℤ
room v z d r = (r.constant *ℤ d) -ℤ left_at v z r

-- two with rooms s and t and factors of magnitudes a and b leave room between them
abbrev pub Agree : ℕ → ℤ → ℕ → ℤ → Type 0
Agree a s b t = pos 0 ≤ℤ ((pos b *ℤ s) +ℤ (pos a *ℤ t))

-- where a combination holds, its two parts agree
pub sum_agrees : (v : Valuation) (z d : ℤ) (a b : ℕ) (p n : Derivation) → HoldsAt v z d (weighted_sum a p b n) → Agree b (room v z d p) a (room v z d n)
sum_agrees v z d a b p n h =
    let g : ℕ = sum_divisor a p b n in
    let w : Derivation = weighted_sum a p b n in
    let times = mul_monotone g (left_at v z w) (w.constant *ℤ d) h in
    let left = sum_left v z a b p n in
    let right : pos g *ℤ (w.constant *ℤ d) ≡ ((pos a *ℤ p.constant) +ℤ (pos b *ℤ n.constant)) *ℤ d =
    sym (mul_assoc (pos g) w.constant d) ∙ ap (λ (x : ℤ). x *ℤ d) (sum_number a b p n) in
    let split = add-mul (pos a *ℤ p.constant) (pos b *ℤ n.constant) d in
    let first = mul_assoc (pos a) p.constant d in
    let second = mul_assoc (pos b) n.constant d in
    let third = minus_times (pos a) (p.constant *ℤ d) (left_at v z p) in
    let fourth = minus_times (pos b) (n.constant *ℤ d) (left_at v z n) in
    omega (arith, ints)
  where
    minus_times : (k x y : ℤ) → k *ℤ (x -ℤ y) ≡ (k *ℤ x) -ℤ (k *ℤ y)
    minus_times k x y = let e = mul-add k x (neg_ℤ y) in let f = mul-neg k y in omega (arith, ints)

-- an inequality at a place of a list
abbrev pub IsAt : List Derivation → ℕ → Derivation → Type 0
IsAt [] k r = ⊥
IsAt (s ∷ ss) zero r = s ≡ r
IsAt (s ∷ ss) (suc k) r = IsAt ss k r

EachMatch-front : (Q : Derivation → Derivation → Type 0) (ms ns : List Match) → EachMatch Q (ms ++ ns) → EachMatch Q ms × EachMatch Q ns
EachMatch-front Q [] ns h = (tt, h)
EachMatch-front Q (m ∷ ms) ns h = let k = EachMatch-front Q ms ns h.1 in ((h.0, k.0), k.1)

head_match : (Q : Derivation → Derivation → Type 0) (b : Bool) (m : Match) (ms : List Match) → b ≡ true → EachMatch Q (if b then m ∷ ms else ms) → Q m.positive m.negative
head_match Q true m ms e h = h.0
head_match Q false m ms e h = absurd (cc)

tail_match : (Q : Derivation → Derivation → Type 0) (b : Bool) (m : Match) (ms : List Match) → EachMatch Q (if b then m ∷ ms else ms) → EachMatch Q ms
tail_match Q true m ms h = h.1
tail_match Q false m ms h = h

made_at : (Q : Derivation → Derivation → Type 0) (y : Var) (e : Option Equality) (i : ℕ) (p : Derivation) (j : ℕ) (ns : List Derivation) (k : ℕ) (n : Derivation) →
    EachMatch Q (matches_of y e i p j ns) → IsAt ns k n → has_negative y n ≡ true → is_made e i (j + k) ≡ true → Q p n
made_at Q y e i p j [] k n h at neg made = absurd at
made_at Q y e i p j (m ∷ ns) zero n h at neg made =
    let test : (has_negative y m && is_made e i j) ≡ true =
    both_hold (has_negative y m) (is_made e i j) (ap (has_negative y) at ∙ neg) (ap (is_made e i) (omega arith) ∙ made) in
    subst (λ (x : Derivation). Q p x) at (head_match Q (has_negative y m && is_made e i j) (record { positive = p; negative = m }) (matches_of y e i p (j + 1) ns) test h)
  where
    both_hold : (a b : Bool) → a ≡ true → b ≡ true → (a && b) ≡ true
    both_hold true true f g = refl
    both_hold true false f g = absurd (cc)
    both_hold false b f g = absurd (cc)
made_at Q y e i p j (m ∷ ns) (suc k) n h at neg made =
    made_at Q y e i p (j + 1) ns k n (tail_match Q (has_negative y m && is_made e i j) (record { positive = p; negative = m }) (matches_of y e i p (j + 1) ns) h) at neg (ap (is_made e i) (omega arith) ∙ made)

pub matched_at : (Q : Derivation → Derivation → Type 0) (y : Var) (e : Option Equality) (all : List Derivation) (i : ℕ) (ps : List Derivation) (k : ℕ) (p : Derivation) (j : ℕ) (n : Derivation) →
    EachMatch Q (matches_from y e all i ps) → IsAt ps k p → has_positive y p ≡ true → IsAt all j n → has_negative y n ≡ true → is_made e (i + k) j ≡ true → Q p n
matched_at Q y e all i [] k p j n h at positive other negative made = absurd at
matched_at Q y e all i (q ∷ ps) zero p j n h at positive other negative made =
    let parts = (EachMatch-front Q (if has_positive y q then matches_of y e i q 0 all else []) (matches_from y e all (i + 1) ps) h).0 in
    let chosen : EachMatch Q (matches_of y e i q 0 all) = subst (λ (b : Bool). EachMatch Q (if b then matches_of y e i q 0 all else [])) (ap (has_positive y) at ∙ positive) parts in
    subst (λ (x : Derivation). Q x n) at (made_at Q y e i q 0 all j n chosen other negative (let first : i ≡ i + zero = omega arith in let second : 0 + j ≡ j = omega arith in ap (λ (m : ℕ). is_made e m (0 + j)) first ∙ ap (is_made e (i + zero)) second ∙ made))
matched_at Q y e all i (q ∷ ps) (suc k) p j n h at positive other negative made =
    matched_at Q y e all (i + 1) ps k p j n (EachMatch-front Q (if has_positive y q then matches_of y e i q 0 all else []) (matches_from y e all (i + 1) ps) h).1 at positive other negative
    (ap (λ (m : ℕ). is_made e m j) (omega arith) ∙ made)

-- numbers that cancel
opposite_of : (a b : ℤ) → is_zero (a +ℤ b) ≡ true → a ≡ neg_ℤ b
opposite_of a b e = let f : a +ℤ b ≡ pos 0 = is_zero_of (a +ℤ b) e in omega (arith, ints)

pub equal_of : (o : Ordering) → is_eq o ≡ true → o ≡ Equal
equal_of Less e = absurd (cc)
equal_of Equal e = refl
equal_of Greater e = absurd (cc)

negated_sum : (v : Valuation) (ts us : List RowTerm) → are_negated ts us ≡ true → sum_at v ts ≡ neg_ℤ (sum_at v us)
negated_sum v [] [] e = refl
negated_sum v [] (u ∷ us) e = absurd (cc)
negated_sum v (t ∷ ts) [] e = absurd (cc)
negated_sum v (t ∷ ts) (u ∷ us) e =
    let parts = both_true (is_eq (var_cmp t.var u.var) && is_zero (t.factor +ℤ u.factor)) (are_negated ts us) e in
    let more = both_true (is_eq (var_cmp t.var u.var)) (is_zero (t.factor +ℤ u.factor)) parts.0 in
    let var = same_var t.var u.var (equal_of (var_cmp t.var u.var) more.0) in
    let rest = negated_sum v ts us parts.1 in
    let first : t.factor *ℤ v t.var ≡ neg_ℤ (u.factor *ℤ v u.var) =
    ap (λ (z : ℤ). z *ℤ v t.var) (opposite_of t.factor u.factor more.1) ∙ neg-mul u.factor (v t.var) ∙ ap (λ (x : Var). neg_ℤ (u.factor *ℤ v x)) var in
    omega (arith, ints)

choose_number : (b : Bool) (x y z w : ℤ) → x ≡ neg_ℤ y → z ≡ neg_ℤ w → (if b then x else z) ≡ neg_ℤ (if b then y else w)
choose_number true x y z w e f = e
choose_number false x y z w e f = f

negated_factor : (x : Var) (ts us : List RowTerm) → are_negated ts us ≡ true → factor_of x ts ≡ neg_ℤ (factor_of x us)
negated_factor x [] [] e = refl
negated_factor x [] (u ∷ us) e = absurd (cc)
negated_factor x (t ∷ ts) [] e = absurd (cc)
negated_factor x (t ∷ ts) (u ∷ us) e =
    let parts = both_true (is_eq (var_cmp t.var u.var) && is_zero (t.factor +ℤ u.factor)) (are_negated ts us) e in
    let more = both_true (is_eq (var_cmp t.var u.var)) (is_zero (t.factor +ℤ u.factor)) parts.0 in
    let var = same_var t.var u.var (equal_of (var_cmp t.var u.var) more.0) in
    let rest = negated_factor x ts us parts.1 in
    ap (λ (w : Var). if is_eq (var_cmp x w) then t.factor else factor_of x ts) var
    ∙ choose_number (is_eq (var_cmp x u.var)) t.factor u.factor (factor_of x ts) (factor_of x us) (opposite_of t.factor u.factor more.1) rest

-- the room of a negation is the other one's, negated
negated_room : (v : Valuation) (z d : ℤ) (s r : Derivation) → is_negation s r ≡ true → room v z d s ≡ neg_ℤ (room v z d r)
negated_room v z d s r e =
    let parts = both_true (are_negated s.terms r.terms && is_zero (s.last +ℤ r.last)) (is_zero (s.constant +ℤ r.constant)) e in
    let more = both_true (are_negated s.terms r.terms) (is_zero (s.last +ℤ r.last)) parts.0 in
    let terms = negated_sum v s.terms r.terms more.0 in
    let last : s.last *ℤ z ≡ neg_ℤ (r.last *ℤ z) = ap (λ (x : ℤ). x *ℤ z) (opposite_of s.last r.last more.1) ∙ neg-mul r.last z in
    let constant : s.constant *ℤ d ≡ neg_ℤ (r.constant *ℤ d) = ap (λ (x : ℤ). x *ℤ d) (opposite_of s.constant r.constant parts.1) ∙ neg-mul r.constant d in
    omega (arith, ints)

negation_factor : (y : Var) (s r : Derivation) → is_negation s r ≡ true → factor_of y s.terms ≡ neg_ℤ (factor_of y r.terms)
negation_factor y s r e =
    let parts = both_true (are_negated s.terms r.terms && is_zero (s.last +ℤ r.last)) (is_zero (s.constant +ℤ r.constant)) e in
    negated_factor y s.terms r.terms (both_true (are_negated s.terms r.terms) (is_zero (s.last +ℤ r.last)) parts.0).0

abs_negated : (z : ℤ) → unsigned_abs (neg_ℤ z) ≡ unsigned_abs z
abs_negated (pos zero) = refl
abs_negated (pos (suc n)) = refl
abs_negated (negsuc n) = refl

lt_true : (a b : ℤ) → a <ℤ b → int_lt a b ≡ true
lt_true a b h = grind (arith, ints)

-- where an equality's sides agree with two others, these agree
bridge : (a b k : ℕ) (s t x : ℤ) → 0 < k → Agree a s k (neg_ℤ x) → Agree k x b t → Agree a s b t
bridge a b k s t x h e f =
    let g = mul_monotone b (pos 0) ((pos k *ℤ s) +ℤ (pos a *ℤ neg_ℤ x)) e in
    let i = mul_monotone a (pos 0) ((pos b *ℤ x) +ℤ (pos k *ℤ t)) f in
    let zero_b = *ℤ-zero (pos b) in let zero_a = *ℤ-zero (pos a) in let zero_k = *ℤ-zero (pos k) in
    let e1 = mul-add (pos b) (pos k *ℤ s) (pos a *ℤ neg_ℤ x) in
    let e2 = mul-add (pos a) (pos b *ℤ x) (pos k *ℤ t) in
    let e3 = mul-add (pos k) (pos b *ℤ s) (pos a *ℤ t) in
    let r1 = regroup b k k b s (omega arith) in
    let r2 = regroup a k k a t (omega arith) in
    let r3 : pos b *ℤ (pos a *ℤ neg_ℤ x) ≡ neg_ℤ (pos a *ℤ (pos b *ℤ x)) =
    regroup b a a b (neg_ℤ x) (omega arith) ∙ ap (λ (w : ℤ). pos a *ℤ w) (mul-neg (pos b) x) ∙ mul-neg (pos a) (pos b *ℤ x) in
    cancel k (pos 0) ((pos b *ℤ s) +ℤ (pos a *ℤ t)) h (omega (arith, ints))

-- the first inequality of a list with its negation
pub record Sides (all : List Derivation) (e : Equality) : Type 0 where
  pub one : Derivation
  pub other : Derivation
  pub first : IsAt all e.first one
  pub second : IsAt all e.second other
  pub negated : is_negation other one ≡ true

pub record NegatedAt (r : Derivation) (all : List Derivation) (place : ℕ) : Type 0 where
  pub found : Derivation
  pub at_place : IsAt all place found
  pub negated : is_negation found r ≡ true

option_behind : (o : Option ℕ) (m : ℕ) → option_map (λ n. n + 1) o ≡ Some m → (n : ℕ) × (o ≡ Some n) × (m ≡ suc n)
option_behind None m f = absurd (cc)
option_behind (Some n) m f = (n, refl, let g : n + 1 ≡ m = cc in omega arith)

found_first : (r s : Derivation) (ss : List Derivation) (k : ℕ) → ((m : ℕ) → negation_place r ss ≡ Some m → NegatedAt r ss m) →
    (b : Bool) → is_negation s r ≡ b → negation_place r (s ∷ ss) ≡ Some k → NegatedAt r (s ∷ ss) k
found_first r s ss k rec true f e =
    let g : Some 0 ≡ Some k = sym (ap (λ (c : Bool). if c then Some 0 else option_map (λ n. n + 1) (negation_place r ss)) f) ∙ e in
    let h : 0 ≡ k = cc in
    record { found = s; at_place = subst (λ (m : ℕ). IsAt (s ∷ ss) m s) h refl; negated = f }
found_first r s ss k rec false f e =
    let g = option_behind (negation_place r ss) k (sym (ap (λ (c : Bool). if c then Some 0 else option_map (λ n. n + 1) (negation_place r ss)) f) ∙ e) in
    let rest = rec g.0 g.1 in
    record { found = rest.found; at_place = subst (λ (m : ℕ). IsAt (s ∷ ss) m rest.found) (sym g.2) rest.at_place; negated = rest.negated }

negation_found : (r : Derivation) (ss : List Derivation) (k : ℕ) → negation_place r ss ≡ Some k → NegatedAt r ss k
negation_found r [] k e = absurd (cc)
negation_found r (s ∷ ss) k e = found_first r s ss k (λ m f. negation_found r ss m f) (is_negation s r) refl e

sides_first : (all : List Derivation) (place : ℕ) (r : Derivation) (rs : List Derivation) (e : Equality) → ((k : ℕ) (s : Derivation) → IsAt (r ∷ rs) k s → IsAt all (place + k) s) →
    (equality_from all (place + 1) rs ≡ Some e → Sides all e) →
    (o : Option ℕ) → negation_place r all ≡ o → equality_from all place (r ∷ rs) ≡ Some e → Sides all e
sides_first all place r rs e h rec None g f =
    rec (sym (ap (λ (o : Option ℕ). found_at place o (equality_from all (place + 1) rs)) g) ∙ f)
sides_first all place r rs e h rec (Some j) g f =
    let i : ◌≡◌ {A = Option Equality} (Some (record { first = place; second = j })) (Some e) = sym (ap (λ (o : Option ℕ). found_at place o (equality_from all (place + 1) rs)) g) ∙ f in
    let same : record { first = place; second = j } ≡ e = cc in
    let found = negation_found r all j g in
    subst (λ (x : Equality). Sides all x) same
    (record { one = r; other = found.found; first = (let here : place + zero ≡ place = omega arith in subst (λ (m : ℕ). IsAt all m r) here (h zero r refl)); second = found.at_place; negated = found.negated })

equality_found : (all : List Derivation) (place : ℕ) (rs : List Derivation) (e : Equality) → ((k : ℕ) (r : Derivation) → IsAt rs k r → IsAt all (place + k) r) →
    equality_from all place rs ≡ Some e → Sides all e
equality_found all place [] e h f = absurd (cc)
equality_found all place (r ∷ rs) e h f =
    sides_first all place r rs e h
    (equality_found all (place + 1) rs e (λ k s at. let next : place + suc k ≡ (place + 1) + k = omega arith in subst (λ (m : ℕ). IsAt all m s) next (h (suc k) s at)))
    (negation_place r all) refl f

pub sides_of : (all : List Derivation) (e : Equality) → equality_of all ≡ Some e → Sides all e
sides_of all e f = equality_found all 0 all e (λ k r at. let same : k ≡ 0 + k = omega arith in subst (λ (m : ℕ). IsAt all m r) same at) f

-- a row of the list that has no factor of the variable isn't there
abbrev pub AgreeAt : Var → Valuation → ℤ → ℤ → Derivation → Derivation → Type 0
AgreeAt y v z d p n = Agree (size_of y p) (room v z d p) (size_of y n) (room v z d n)

or_true : (a : Bool) → (a || true) ≡ true
or_true true = refl
or_true false = refl

same_place : (n : ℕ) → (n == n) ≡ true
same_place n = grind (arith, nat_tests)

side_first : (e : Equality) → is_side e e.first ≡ true
side_first e = ap (λ (b : Bool). b || (e.first == e.second)) (same_place e.first)

side_second : (e : Equality) → is_side e e.second ≡ true
side_second e = ap (λ (b : Bool). (e.second == e.first) || b) (same_place e.second) ∙ or_true (e.second == e.first)

made_left : (e : Equality) (i j : ℕ) → is_side e i ≡ true → is_made (Some e) i j ≡ true
made_left e i j h = ap (λ (b : Bool). b || is_side e j) h

made_right : (e : Equality) (i j : ℕ) → is_side e j ≡ true → is_made (Some e) i j ≡ true
made_right e i j h = ap (λ (b : Bool). is_side e i || b) h ∙ or_true (is_side e i)

-- through the sides of an equality, one of a positive and one of a negative factor
through : (y : Var) (v : Valuation) (z d : ℤ) (all : List Derivation) (e : Equality) (i j a b : ℕ) (p n ep en : Derivation) →
    EachMatch (AgreeAt y v z d) (matches_from y (Some e) all 0 all) → IsAt all i p → has_positive y p ≡ true → IsAt all j n → has_negative y n ≡ true →
    IsAt all a ep → has_positive y ep ≡ true → IsAt all b en → has_negative y en ≡ true → is_side e a ≡ true → is_side e b ≡ true →
    room v z d en ≡ neg_ℤ (room v z d ep) → size_of y en ≡ size_of y ep → AgreeAt y v z d p n
through y v z d all e i j a b p n ep en h at_p pos_p at_n neg_n at_ep pos_ep at_en neg_en side_a side_b opposite same =
    let zero_i : 0 + i ≡ i = omega arith in
    let zero_a : 0 + a ≡ a = omega arith in
    let first = matched_at (AgreeAt y v z d) y (Some e) all 0 all i p b en h at_p pos_p at_en neg_en (made_right e (0 + i) b side_b) in
    let second = matched_at (AgreeAt y v z d) y (Some e) all 0 all a ep j n h at_ep pos_ep at_n neg_n (ap (λ (m : ℕ). is_made (Some e) m j) zero_a ∙ made_left e a j side_a) in
    bridge (size_of y p) (size_of y n) (size_of y ep) (room v z d p) (room v z d n) (room v z d ep) (size_above (factor_of y ep.terms) (lt_of (pos 0) (factor_of y ep.terms) pos_ep))
    (subst (λ (x : ℤ). Agree (size_of y p) (room v z d p) (size_of y ep) x) opposite (subst (λ (m : ℕ). Agree (size_of y p) (room v z d p) m (room v z d en)) same first))
    second

pub signed : (x : ℤ) → is_zero x ≡ false → (int_lt (pos 0) x ≡ true) ⊎ (int_lt x (pos 0) ≡ true)
signed (pos zero) h = absurd (cc)
signed (pos (suc n)) h = inl (lt_true (pos 0) (pos (suc n)) (omega (arith, ints)))
signed (negsuc n) h = inr (lt_true (negsuc n) (pos 0) (omega (arith, ints)))

-- where the combinations of a step hold, each two with factors of both signs agree
pub pairs_agree : (y : Var) (v : Valuation) (z d : ℤ) (all : List Derivation) (i j : ℕ) (p n : Derivation) → ((k : ℕ) (r : Derivation) → IsAt all k r → is_zero (factor_of y r.terms) ≡ false) →
    EachMatch (AgreeAt y v z d) (matches y all) → IsAt all i p → has_positive y p ≡ true → IsAt all j n → has_negative y n ≡ true → AgreeAt y v z d p n
pairs_agree y v z d all i j p n mention h at_p pos_p at_n neg_n = cases (equality_of all) refl
  where
    by_sides : (e : Equality) → EachMatch (AgreeAt y v z d) (matches_from y (Some e) all 0 all) → Sides all e → AgreeAt y v z d p n
    by_sides e g s =
        let factor = negation_factor y s.other s.one s.negated in
        let room_is = negated_room v z d s.other s.one s.negated in
        let size_is : size_of y s.other ≡ size_of y s.one = ap unsigned_abs factor ∙ abs_negated (factor_of y s.one.terms) in
        ⊎_elim
        (λ positive.
        through y v z d all e i j e.first e.second p n s.one s.other g at_p pos_p at_n neg_n s.first positive s.second
        (lt_true (factor_of y s.other.terms) (pos 0) (let k = lt_of (pos 0) (factor_of y s.one.terms) positive in omega (arith, ints)))
        (side_first e) (side_second e) room_is size_is)
        (λ negative.
        through y v z d all e i j e.second e.first p n s.other s.one g at_p pos_p at_n neg_n s.second
        (lt_true (pos 0) (factor_of y s.other.terms) (let k = lt_of (factor_of y s.one.terms) (pos 0) negative in omega (arith, ints)))
        s.first negative (side_second e) (side_first e) (omega (arith, ints)) (sym size_is))
        (signed (factor_of y s.one.terms) (mention e.first s.one s.first))

    cases : (o : Option Equality) → equality_of all ≡ o → AgreeAt y v z d p n
    cases None g =
        matched_at (AgreeAt y v z d) y None all 0 all i p j n (subst (λ (o : Option Equality). EachMatch (AgreeAt y v z d) (matches_from y o all 0 all)) g h) at_p pos_p at_n neg_n refl
    cases (Some e) g =
        by_sides e (subst (λ (o : Option Equality). EachMatch (AgreeAt y v z d) (matches_from y o all 0 all)) g h) (sides_of all e g)
