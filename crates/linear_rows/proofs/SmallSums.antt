-- The steps of adding two lists of terms, and when a product or a sum is too large.
use Rattle.std.proofs.Common.{◌≡◌, refl, sym, ap, ◌∙◌, subst, ℤ, ◌+ℤ◌, ◌*ℤ◌, List, [], ◌∷◌, length, Bool, true, false, Option, Some, None, arith}
use Rattle.std.specs.Prelude.{if◌then◌else◌, ◌&&◌, MatchOption}
use Rattle.std.specs.declared.cmp.Ordering.TheVariants.{Less, Equal, Greater}
use Rattle.linear_rows.specs.declared.rows.Var.{Var}
use Rattle.linear_rows.specs.declared.rows.RowTerm.{RowTerm}
use Rattle.linear_rows.specs.Variables.{var_cmp}
use Rattle.linear_rows.specs.Terms.{Follows, IsAscending, scaled_term, scaled_terms, summed_terms}
use Rattle.linear_rows.specs.Forms.{is_small, small, all_small, terms_stay_small, constants_stay_small, weighted_constant_within}
use Rattle.linear_rows.specs.Steps.{TakesFirst}
use Rattle.linear_rows.proofs.VariableOrder.{greater_less}
use Rattle.linear_rows.proofs.TermLists.{both, Follows-scaled, follows_before, summed_less, summed_greater, summed_equal}
use Rattle.linear_rows.proofs.Making.{some_if}

-- the sum of two small products
pub sum_small : (a m b n p q : ℤ) (r : Option ℤ) → Some p ≡ small (a *ℤ m) → Some q ≡ small (b *ℤ n) → r ≡ small (p +ℤ q) →
    r ≡ weighted_constant_within a m b n
sum_small a m b n p q r e f g =
    let one = some_if {A = ℤ} (is_small (a *ℤ m)) (a *ℤ m) p e in
    let other = some_if {A = ℤ} (is_small (b *ℤ n)) (b *ℤ n) q f in
    choose (a *ℤ m) (b *ℤ n) r one.0 other.0 (subst (λ (z : ℤ). r ≡ small (z +ℤ (b *ℤ n))) (sym one.1) (subst (λ (z : ℤ). r ≡ small (p +ℤ z)) (sym other.1) g))
  where
    choose : (x y : ℤ) (r : Option ℤ) → is_small x ≡ true → is_small y ≡ true → r ≡ small (x +ℤ y) →
        r ≡ (if is_small x && is_small y && is_small (x +ℤ y) then Some (x +ℤ y) else None)
    choose x y r s t u =
        u ∙ ap (λ (c : Bool). if c && is_small (x +ℤ y) then Some (x +ℤ y) else None) (sym (ap (λ (c : Bool). c && is_small y) s ∙ t))

left_bools : (s a b c : Bool) → ((s && a) && b) && (s && c) ≡ (if s then (a && b) && c else false)
left_bools true a b c = refl
left_bools false a b c = refl

right_bools : (s a b c : Bool) → (a && (s && b)) && (s && c) ≡ (if s then (a && b) && c else false)
right_bools true a b c = refl
right_bools false true b c = refl
right_bools false false b c = refl

equal_bools : (s t u a b c : Bool) → ((s && a) && (t && b)) && (u && c) ≡ (if s && t && u then (a && b) && c else false)
equal_bools true true true a b c = refl
equal_bools true true false true true c = refl
equal_bools true true false true false c = refl
equal_bools true true false false b c = refl
equal_bools true false u true b c = refl
equal_bools true false u false b c = refl
equal_bools false t u a b c = refl

-- a factor that is small or not, against whether all stays small
by_small : (s rest whole : Bool) (x : ℤ) (P : ℤ → Type 0) (r : Option ℤ) → r ≡ (if s then Some x else None) → whole ≡ (if s then rest else false) →
    (whole ≡ rest → P x) → MatchOption r (whole ≡ false) P
by_small true rest whole x P r e f h = subst (λ (o : Option ℤ). MatchOption o (whole ≡ false) P) (sym e) (h f)
by_small false rest whole x P r e f h = subst (λ (o : Option ℤ). MatchOption o (whole ≡ false) P) (sym e) f

pub take_left : (a b : ℤ) (x : RowTerm) (xs ys : List RowTerm) (r : Option ℤ) → IsAscending (x ∷ xs) → IsAscending ys → Follows x.var ys → r ≡ small (a *ℤ x.factor) →
    MatchOption r (terms_stay_small a (x ∷ xs) b ys ≡ false) (λ factor. TakesFirst a (x ∷ xs) b ys x.var factor xs ys)
take_left a b x xs ys r h k before e =
    let sum : summed_terms (scaled_terms a (x ∷ xs)) (scaled_terms b ys) ≡ scaled_term a x ∷ summed_terms (scaled_terms a xs) (scaled_terms b ys) =
    summed_less (scaled_term a x) (scaled_terms a xs) (scaled_terms b ys) (Follows-scaled x.var a xs h.0) (Follows-scaled x.var b ys before) in
    by_small (is_small (a *ℤ x.factor)) (terms_stay_small a xs b ys) (terms_stay_small a (x ∷ xs) b ys) (a *ℤ x.factor)
    (λ factor. TakesFirst a (x ∷ xs) b ys x.var factor xs ys) r e
    (ap (λ ts. all_small (scaled_terms a (x ∷ xs)) && all_small (scaled_terms b ys) && all_small ts) sum
    ∙ left_bools (is_small (a *ℤ x.factor)) (all_small (scaled_terms a xs)) (all_small (scaled_terms b ys)) (all_small (summed_terms (scaled_terms a xs) (scaled_terms b ys))))
    (λ same. record { sum = sum; small = same; left_ascends = h.1; right_ascends = k; fewer = omega arith })

pub take_right : (a b : ℤ) (xs : List RowTerm) (y : RowTerm) (ys : List RowTerm) (r : Option ℤ) → IsAscending xs → IsAscending (y ∷ ys) → Follows y.var xs → r ≡ small (b *ℤ y.factor) →
    MatchOption r (terms_stay_small a xs b (y ∷ ys) ≡ false) (λ factor. TakesFirst a xs b (y ∷ ys) y.var factor xs ys)
take_right a b xs y ys r h k before e =
    let sum : summed_terms (scaled_terms a xs) (scaled_terms b (y ∷ ys)) ≡ scaled_term b y ∷ summed_terms (scaled_terms a xs) (scaled_terms b ys) =
    summed_greater (scaled_term b y) (scaled_terms a xs) (scaled_terms b ys) (Follows-scaled y.var a xs before) in
    by_small (is_small (b *ℤ y.factor)) (terms_stay_small a xs b ys) (terms_stay_small a xs b (y ∷ ys)) (b *ℤ y.factor)
    (λ factor. TakesFirst a xs b (y ∷ ys) y.var factor xs ys) r e
    (ap (λ ts. all_small (scaled_terms a xs) && all_small (scaled_terms b (y ∷ ys)) && all_small ts) sum
    ∙ right_bools (is_small (b *ℤ y.factor)) (all_small (scaled_terms a xs)) (all_small (scaled_terms b ys)) (all_small (summed_terms (scaled_terms a xs) (scaled_terms b ys))))
    (λ same. record { sum = sum; small = same; left_ascends = h; right_ascends = k.1; fewer = omega arith })

pub take_both : (a b : ℤ) (x : RowTerm) (xs : List RowTerm) (y : RowTerm) (ys : List RowTerm) (r : Option ℤ) → IsAscending (x ∷ xs) → IsAscending (y ∷ ys) → var_cmp x.var y.var ≡ Equal →
    r ≡ weighted_constant_within a x.factor b y.factor →
    MatchOption r (terms_stay_small a (x ∷ xs) b (y ∷ ys) ≡ false) (λ factor. TakesFirst a (x ∷ xs) b (y ∷ ys) y.var factor xs ys)
take_both a b x xs y ys r h k equal e =
    let sum : summed_terms (scaled_terms a (x ∷ xs)) (scaled_terms b (y ∷ ys)) ≡ both (scaled_term a x) (scaled_term b y) ∷ summed_terms (scaled_terms a xs) (scaled_terms b ys) =
    summed_equal (scaled_term a x) (scaled_term b y) (scaled_terms a xs) (scaled_terms b ys) equal (Follows-scaled x.var a xs h.0) in
    by_small (constants_stay_small a x.factor b y.factor) (terms_stay_small a xs b ys) (terms_stay_small a (x ∷ xs) b (y ∷ ys)) ((a *ℤ x.factor) +ℤ (b *ℤ y.factor))
    (λ factor. TakesFirst a (x ∷ xs) b (y ∷ ys) y.var factor xs ys) r e
    (ap (λ ts. all_small (scaled_terms a (x ∷ xs)) && all_small (scaled_terms b (y ∷ ys)) && all_small ts) sum
    ∙ equal_bools (is_small (a *ℤ x.factor)) (is_small (b *ℤ y.factor)) (is_small ((a *ℤ x.factor) +ℤ (b *ℤ y.factor)))
    (all_small (scaled_terms a xs)) (all_small (scaled_terms b ys)) (all_small (summed_terms (scaled_terms a xs) (scaled_terms b ys))))
    (λ same. record { sum = sum; small = same; left_ascends = h.1; right_ascends = k.1; fewer = omega arith })

-- the same of lists that are known by their first term and the rest
abbrev pub FirstOf : ℤ → List RowTerm → ℤ → List RowTerm → Var → Option ℤ → List RowTerm → List RowTerm → Type 0
FirstOf a xs b ys var r left right = MatchOption r (terms_stay_small a xs b ys ≡ false) (λ factor. TakesFirst a xs b ys var factor left right)

pub none_of : (ts : List RowTerm) → length ts ≡ 0 → ts ≡ []
none_of [] e = refl
none_of (t ∷ ts) e = absurd (omega arith)

pub first_alone : (a b : ℤ) (x : RowTerm) (left xs ys : List RowTerm) (r : Option ℤ) → xs ≡ x ∷ left → ys ≡ [] → IsAscending xs → r ≡ small (a *ℤ x.factor) →
    FirstOf a xs b ys x.var r left ys
first_alone a b x left xs ys r e f h k =
    subst (λ (ts : List RowTerm). FirstOf a ts b ys x.var r left ys) (sym e)
    (subst (λ (us : List RowTerm). FirstOf a (x ∷ left) b us x.var r left us) (sym f)
    (take_left a b x left [] r (subst IsAscending e h) tt tt k))

pub first_less : (a b : ℤ) (x y : RowTerm) (left right xs ys : List RowTerm) (r : Option ℤ) → xs ≡ x ∷ left → ys ≡ y ∷ right → IsAscending xs → IsAscending ys →
    var_cmp x.var y.var ≡ Less → r ≡ small (a *ℤ x.factor) → FirstOf a xs b ys x.var r left ys
first_less a b x y left right xs ys r e f h k o m =
    let second : IsAscending (y ∷ right) = subst IsAscending f k in
    subst (λ (ts : List RowTerm). FirstOf a ts b ys x.var r left ys) (sym e)
    (subst (λ (us : List RowTerm). FirstOf a (x ∷ left) b us x.var r left us) (sym f)
    (take_left a b x left (y ∷ right) r (subst IsAscending e h) second (o, follows_before x.var y.var right o second.0) m))

pub first_greater : (a b : ℤ) (x y : RowTerm) (left right xs ys : List RowTerm) (r : Option ℤ) → xs ≡ x ∷ left → ys ≡ y ∷ right → IsAscending xs → IsAscending ys →
    var_cmp x.var y.var ≡ Greater → r ≡ small (b *ℤ y.factor) → FirstOf a xs b ys y.var r xs right
first_greater a b x y left right xs ys r e f h k o m =
    let first : IsAscending (x ∷ left) = subst IsAscending e h in
    let less : var_cmp y.var x.var ≡ Less = greater_less x.var y.var o in
    subst (λ (us : List RowTerm). FirstOf a xs b us y.var r xs right) (sym f)
    (subst (λ (ts : List RowTerm). FirstOf a ts b (y ∷ right) y.var r ts right) (sym e)
    (take_right a b (x ∷ left) y right r first (subst IsAscending f k) (less, follows_before y.var x.var left less first.0) m))

pub first_equal : (a b : ℤ) (x y : RowTerm) (left right xs ys : List RowTerm) (r : Option ℤ) → xs ≡ x ∷ left → ys ≡ y ∷ right → IsAscending xs → IsAscending ys →
    var_cmp x.var y.var ≡ Equal → r ≡ weighted_constant_within a x.factor b y.factor → FirstOf a xs b ys y.var r left right
first_equal a b x y left right xs ys r e f h k o m =
    subst (λ (ts : List RowTerm). FirstOf a ts b ys y.var r left right) (sym e)
    (subst (λ (us : List RowTerm). FirstOf a (x ∷ left) b us y.var r left right) (sym f)
    (take_both a b x left y right r (subst IsAscending e h) (subst IsAscending f k) o m))
