-- What an inequality leaves at a point, as it is made.
use Rattle.std.proofs.Common.{◌≡◌, refl, sym, ap, ◌∙◌, subst, ℕ, suc, ◌+◌, ◌<◌, ℤ, ◌*ℤ◌, List, ◌∷◌, length, drop, get_or, drop-cons, Bool, true, false, Option, Some, None, arith}
use Rattle.std.specs.Prelude.{if◌then◌else◌, ◌&&◌, ◌-ℤ◌, MatchOption}
use Rattle.linear_rows.specs.declared.rows.RowTerm.{RowTerm}
use Rattle.linear_rows.specs.Forms.{is_small, small}
use Rattle.farkas.specs.declared.placing.Placed.{Placed}
use Rattle.farkas.specs.Points.{number_of}
use Rattle.row_elimination.specs.Derivations.{Derivation}
use Rattle.farkas.specs.Placing.{slack_from, slack_fits_from, slack_of, slack_fits}
use Rattle.row_elimination.proofs.Adding.{some_if, none_if, true_if}

and_false : (a b : Bool) → b ≡ false → (a && b) ≡ false
and_false true b e = e
and_false false b e = refl

by_fit : (b c : Bool) (x : ℤ) (r : Option ℤ) → b ≡ true → r ≡ (if c then Some x else None) → MatchOption r ((b && c) ≡ false) (λ z. z ≡ x)
by_fit b true x r e f = subst (λ (o : Option ℤ). MatchOption o ((b && true) ≡ false) (λ z. z ≡ x)) (sym f) refl
by_fit b false x r e f = subst (λ (o : Option ℤ). MatchOption o ((b && false) ≡ false) (λ z. z ≡ x)) (sym f) (and_false b false refl)

pub product_taken : (rest first second product rest' product' : ℤ) (t r : Option ℤ) → t ≡ small (first *ℤ second) → t ≡ Some product →
    rest' ≡ rest → product' ≡ product → r ≡ small (rest' -ℤ product') →
    MatchOption r ((is_small (first *ℤ second) && is_small (rest -ℤ (first *ℤ second))) ≡ false) (λ z. z ≡ rest -ℤ (first *ℤ second))
product_taken rest first second product rest' product' t r e f g h k =
    let product_is : product' ≡ first *ℤ second = h ∙ some_if {A = ℤ} (is_small (first *ℤ second)) (first *ℤ second) product t e f in
    by_fit (is_small (first *ℤ second)) (is_small (rest -ℤ (first *ℤ second))) (rest -ℤ (first *ℤ second)) r
    (true_if {A = ℤ} (is_small (first *ℤ second)) (first *ℤ second) product t e f)
    (k ∙ ap (λ (x : ℤ). small (x -ℤ product')) g ∙ ap (λ (x : ℤ). small (rest -ℤ x)) product_is)

pub slack_next : (i : ℕ) (ts : List RowTerm) (d : RowTerm) (p : Placed) (left left' : ℤ) → i < length ts →
    left' ≡ left -ℤ ((get_or ts i d).factor *ℤ number_of p.vars p.numbers (get_or ts i d).var) →
    slack_from left' p (drop (i + 1) ts) ≡ slack_from left p (drop i ts)
slack_next i ts d p left left' h e =
    let first : drop i ts ≡ get_or ts i d ∷ drop (suc i) ts = drop-cons ts i d h in
    let next : i + 1 ≡ suc i = omega arith in
    ap (λ (n : ℕ). slack_from left' p (drop n ts)) next ∙ ap (λ (z : ℤ). slack_from z p (drop (suc i) ts)) e
    ∙ sym (ap (slack_from left p) first)

pub slack_fits_next : (i : ℕ) (ts : List RowTerm) (d : RowTerm) (p : Placed) (left left' : ℤ) → i < length ts →
    left' ≡ left -ℤ ((get_or ts i d).factor *ℤ number_of p.vars p.numbers (get_or ts i d).var) →
    slack_fits_from left' p (drop (i + 1) ts) ≡ false → slack_fits_from left p (drop i ts) ≡ false
slack_fits_next i ts d p left left' h e k =
    let first : drop i ts ≡ get_or ts i d ∷ drop (suc i) ts = drop-cons ts i d h in
    let next : suc i ≡ i + 1 = omega arith in
    let product : ℤ = (get_or ts i d).factor *ℤ number_of p.vars p.numbers (get_or ts i d).var in
    ap (slack_fits_from left p) first
    ∙ and_false (is_small product && is_small (left -ℤ product)) (slack_fits_from (left -ℤ product) p (drop (suc i) ts))
    (ap (λ (z : ℤ). slack_fits_from z p (drop (suc i) ts)) (sym e) ∙ ap (λ (n : ℕ). slack_fits_from left' p (drop n ts)) next ∙ k)

pub slack_ends : (i : ℕ) (ts : List RowTerm) (d : RowTerm) (p : Placed) (left left' f n : ℤ) → i < length ts → left' ≡ left → n ≡ number_of p.vars p.numbers (get_or ts i d).var → f ≡ (get_or ts i d).factor →
    (is_small (f *ℤ n) && is_small (left' -ℤ (f *ℤ n))) ≡ false → slack_fits_from left p (drop i ts) ≡ false
slack_ends i ts d p left left' f n h l e m k =
    let first : drop i ts ≡ get_or ts i d ∷ drop (suc i) ts = drop-cons ts i d h in
    let product : ℤ = (get_or ts i d).factor *ℤ number_of p.vars p.numbers (get_or ts i d).var in
    let product_is : f *ℤ n ≡ product = ap (λ (z : ℤ). z *ℤ n) m ∙ ap (λ (z : ℤ). (get_or ts i d).factor *ℤ z) e in
    let fits : (is_small product && is_small (left -ℤ product)) ≡ false =
    sym (ap (λ (z : ℤ). is_small (f *ℤ n) && is_small (z -ℤ (f *ℤ n))) l ∙ ap (λ (z : ℤ). is_small z && is_small (left -ℤ z)) product_is) ∙ k in
    ap (slack_fits_from left p) first ∙ ap (λ (b : Bool). b && slack_fits_from (left -ℤ product) p (drop (suc i) ts)) fits

pub whole_too_large : (p : Placed) (r : Derivation) (a b : ℤ) (t : Option ℤ) → a ≡ r.constant → b ≡ p.divisor → t ≡ small (a *ℤ b) → t ≡ None → slack_fits p r ≡ false
whole_too_large p r a b t e f g h =
    let k : is_small (r.constant *ℤ p.divisor) ≡ false =
    sym (ap (λ (z : ℤ). is_small (z *ℤ b)) e ∙ ap (λ (z : ℤ). is_small (r.constant *ℤ z)) f) ∙ none_if {A = ℤ} (is_small (a *ℤ b)) (a *ℤ b) t g h in
    ap (λ (c : Bool). c && is_small (r.last *ℤ p.last) && is_small ((r.constant *ℤ p.divisor) -ℤ (r.last *ℤ p.last))
    && slack_fits_from ((r.constant *ℤ p.divisor) -ℤ (r.last *ℤ p.last)) p r.terms) k

assoc_false : (a b c : Bool) → (b && c) ≡ false → ((a && b) && c) ≡ false
assoc_false true b c e = e
assoc_false false b c e = refl

pub whole_made : (p : Placed) (r : Derivation) (a b whole : ℤ) (t : Option ℤ) → a ≡ r.constant → b ≡ p.divisor → t ≡ small (a *ℤ b) → t ≡ Some whole → whole ≡ r.constant *ℤ p.divisor
whole_made p r a b whole t e f g h = some_if {A = ℤ} (is_small (a *ℤ b)) (a *ℤ b) whole t g h ∙ ap (λ (z : ℤ). z *ℤ b) e ∙ ap (λ (z : ℤ). r.constant *ℤ z) f

pub rest_too_large : (p : Placed) (r : Derivation) (whole l z : ℤ) → whole ≡ r.constant *ℤ p.divisor → l ≡ r.last → z ≡ p.last →
    (is_small (l *ℤ z) && is_small (whole -ℤ (l *ℤ z))) ≡ false → slack_fits p r ≡ false
rest_too_large p r whole l z e f g h =
    let product : l *ℤ z ≡ r.last *ℤ p.last = ap (λ (x : ℤ). x *ℤ z) f ∙ ap (λ (x : ℤ). r.last *ℤ x) g in
    let k : (is_small (r.last *ℤ p.last) && is_small ((r.constant *ℤ p.divisor) -ℤ (r.last *ℤ p.last))) ≡ false =
    sym (ap (λ (x : ℤ). is_small (l *ℤ z) && is_small (x -ℤ (l *ℤ z))) e ∙ ap (λ (x : ℤ). is_small x && is_small ((r.constant *ℤ p.divisor) -ℤ x)) product) ∙ h in
    ap (λ (c : Bool). c && slack_fits_from ((r.constant *ℤ p.divisor) -ℤ (r.last *ℤ p.last)) p r.terms)
    (assoc_false (is_small (r.constant *ℤ p.divisor)) (is_small (r.last *ℤ p.last)) (is_small ((r.constant *ℤ p.divisor) -ℤ (r.last *ℤ p.last))) k)

pub rest_made : (p : Placed) (r : Derivation) (whole l z rest : ℤ) → whole ≡ r.constant *ℤ p.divisor → l ≡ r.last → z ≡ p.last → rest ≡ whole -ℤ (l *ℤ z) → rest ≡ (r.constant *ℤ p.divisor) -ℤ (r.last *ℤ p.last)
rest_made p r whole l z rest e f g h =
    h ∙ ap (λ (x : ℤ). x -ℤ (l *ℤ z)) e ∙ ap (λ (x : ℤ). (r.constant *ℤ p.divisor) -ℤ (x *ℤ z)) f ∙ ap (λ (x : ℤ). (r.constant *ℤ p.divisor) -ℤ (r.last *ℤ x)) g

pub slack_made : (p : Placed) (r : Derivation) (rest : ℤ) (ts : List RowTerm) (o : Option ℤ) → rest ≡ (r.constant *ℤ p.divisor) -ℤ (r.last *ℤ p.last) → ts ≡ r.terms →
    MatchOption o (slack_fits_from rest p ts ≡ false) (λ s. s ≡ slack_from rest p ts) → MatchOption o (slack_fits p r ≡ false) (λ s. s ≡ slack_of p r)
slack_made p r rest ts None e f h =
    and_false (is_small (r.constant *ℤ p.divisor) && is_small (r.last *ℤ p.last) && is_small ((r.constant *ℤ p.divisor) -ℤ (r.last *ℤ p.last))) _
    (sym (ap (λ (x : ℤ). slack_fits_from x p ts) e ∙ ap (slack_fits_from ((r.constant *ℤ p.divisor) -ℤ (r.last *ℤ p.last)) p) f) ∙ h)
slack_made p r rest ts (Some s) e f h = h ∙ ap (λ (x : ℤ). slack_from x p ts) e ∙ ap (slack_from ((r.constant *ℤ p.divisor) -ℤ (r.last *ℤ p.last)) p) f

pub none_made : (P : Type 0) (Q : ℤ → Type 0) (o : Option ℤ) → o ≡ None → P → MatchOption o P Q
none_made P Q o e h = subst (λ (r : Option ℤ). MatchOption r P Q) (sym e) h
