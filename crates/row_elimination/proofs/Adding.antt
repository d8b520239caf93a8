-- One more multiplier in a list that ascends by row.
use Rattle.std.proofs.Common.{◌≡◌, refl, sym, ap, ◌∙◌, ℕ, suc, ◌+◌, ◌*◌, ◌<◌, ◌≤◌, List, [], ◌∷◌, ◌++◌, length, take, drop, set, get_or, drop-cons, ◌⊎◌, inl, inr, Bool, true, false, Option, Some, None, arith}
use Rattle.std.specs.Prelude.{if◌then◌else◌, nat_lt, ◌==◌, ◌&&◌}
use Rattle.std.proofs.lemmas.Bool.Decides.{nat_tests}
use Rattle.row_elimination.specs.declared.weights.Multiplier.{Multiplier}
use Rattle.row_elimination.specs.Weights.{before_row, found_factor, with_multiplier, sum_fits, is_below, summed_multipliers, scaled_multipliers, products_fit, sums_fit, multipliers_fit}

-- where a row's multiplier stands among others, or would stand
record Placed (m : Multiplier) (xs : List Multiplier) (place : ℕ) (found : Option ℕ) : Type 0 where
  before : before_row m.row xs ≡ place
  factor : found_factor m.row xs ≡ found

pub by_row : {P : Type 0} (a b : ℕ) → (a < b → P) → (a ≡ b → P) → (b < a → P) → P
by_row {P} a b less same more = cases (nat_lt a b) refl (a == b) refl
  where
    cases : (c : Bool) → nat_lt a b ≡ c → (d : Bool) → (a == b) ≡ d → P
    cases true e d f = less (grind (arith, nat_tests))
    cases false e true f = same (grind (arith, nat_tests))
    cases false e false f = more (grind (arith, nat_tests))

before_passed : (row : ℕ) (x : Multiplier) (xs : List Multiplier) → x.row < row → before_row row (x ∷ xs) ≡ before_row row xs + 1
before_passed row x xs h = grind (arith, nat_tests)

before_reached : (row : ℕ) (x : Multiplier) (xs : List Multiplier) → row ≤ x.row → before_row row (x ∷ xs) ≡ 0
before_reached row x xs h = grind (arith, nat_tests)

found_passed : (row : ℕ) (x : Multiplier) (xs : List Multiplier) → x.row < row → found_factor row (x ∷ xs) ≡ found_factor row xs
found_passed row x xs h = grind (arith, nat_tests)

found_same : (row : ℕ) (x : Multiplier) (xs : List Multiplier) → x.row ≡ row → found_factor row (x ∷ xs) ≡ Some x.factor
found_same row x xs h = grind (arith, nat_tests)

found_none : (row : ℕ) (x : Multiplier) (xs : List Multiplier) → row < x.row → found_factor row (x ∷ xs) ≡ None
found_none row x xs h = grind (arith, nat_tests)

pub with_passed : (m x : Multiplier) (xs : List Multiplier) → x.row < m.row → with_multiplier m (x ∷ xs) ≡ x ∷ with_multiplier m xs
with_passed m x xs h = grind (arith, nat_tests)

pub with_same : (m x : Multiplier) (xs : List Multiplier) → x.row ≡ m.row → with_multiplier m (x ∷ xs) ≡ record { row = m.row; factor = x.factor + m.factor } ∷ xs
with_same m x xs h = grind (arith, nat_tests)

pub with_new : (m x : Multiplier) (xs : List Multiplier) → m.row < x.row → with_multiplier m (x ∷ xs) ≡ m ∷ x ∷ xs
with_new m x xs h = grind (arith, nat_tests)

fits_passed : (m x : Multiplier) (xs : List Multiplier) → x.row < m.row → sum_fits m (x ∷ xs) ≡ sum_fits m xs
fits_passed m x xs h = grind (arith, nat_tests)

fits_same : (m x : Multiplier) (xs : List Multiplier) → x.row ≡ m.row → sum_fits m (x ∷ xs) ≡ is_below (x.factor + m.factor)
fits_same m x xs h = grind (arith, nat_tests)

-- the place of a multiplier that stands there is within the list
pub found_within : (row : ℕ) (xs : List Multiplier) (f : ℕ) → found_factor row xs ≡ Some f → before_row row xs < length xs
found_within row [] f e = absurd (cc)
found_within row (x ∷ xs) f e =
    by_row x.row row
    (λ less. let h = found_within row xs f (sym (found_passed row x xs less) ∙ e) in let k = before_passed row x xs less in omega arith)
    (λ same. let k = before_reached row x xs (omega arith) in omega arith)
    (λ more. let k = before_reached row x xs (omega arith) in omega arith)

-- a multiplier that stands there grows
pub joined : (m : Multiplier) (xs : List Multiplier) (f : ℕ) → found_factor m.row xs ≡ Some f →
    set xs (before_row m.row xs) (record { row = m.row; factor = f + m.factor }) ≡ with_multiplier m xs
joined m [] f e = absurd (cc)
joined m (x ∷ xs) f e =
    by_row x.row m.row
    (λ less.
    let rest = joined m xs f (sym (found_passed m.row x xs less) ∙ e) in
    let place : before_row m.row (x ∷ xs) ≡ suc (before_row m.row xs) = before_passed m.row x xs less ∙ (omega arith) in
    ap (λ n. set (x ∷ xs) n (record { row = m.row; factor = f + m.factor })) place
    ∙ ap (λ ys. x ∷ ys) rest ∙ sym (with_passed m x xs less))
    (λ same.
    let factor : x.factor ≡ f = let g : Some x.factor ≡ Some f = sym (found_same m.row x xs same) ∙ e in cc in
    ap (λ n. set (x ∷ xs) n (record { row = m.row; factor = f + m.factor })) (before_reached m.row x xs (omega arith))
    ∙ ap (λ n. record { row = m.row; factor = n + m.factor } ∷ xs) (sym factor) ∙ sym (with_same m x xs same))
    (λ more. absurd (let g : None ≡ Some f = sym (found_none m.row x xs more) ∙ e in cc))

pub joined_fits : (m : Multiplier) (xs : List Multiplier) (f : ℕ) → found_factor m.row xs ≡ Some f → sum_fits m xs ≡ is_below (f + m.factor)
joined_fits m [] f e = absurd (cc)
joined_fits m (x ∷ xs) f e =
    by_row x.row m.row
    (λ less. fits_passed m x xs less ∙ joined_fits m xs f (sym (found_passed m.row x xs less) ∙ e))
    (λ same.
    let factor : x.factor ≡ f = let g : Some x.factor ≡ Some f = sym (found_same m.row x xs same) ∙ e in cc in
    fits_same m x xs same ∙ ap (λ n. is_below (n + m.factor)) factor)
    (λ more. absurd (let g : None ≡ Some f = sym (found_none m.row x xs more) ∙ e in cc))

fits_new : (m x : Multiplier) (xs : List Multiplier) → m.row < x.row → sum_fits m (x ∷ xs) ≡ true
fits_new m x xs h = grind (arith, nat_tests)

-- where its row has none, no sum is made
pub absent_fits : (m : Multiplier) (xs : List Multiplier) → found_factor m.row xs ≡ None → sum_fits m xs ≡ true
absent_fits m [] e = refl
absent_fits m (x ∷ xs) e =
    by_row x.row m.row
    (λ less. fits_passed m x xs less ∙ absent_fits m xs (sym (found_passed m.row x xs less) ∙ e))
    (λ same. absurd (let g : Some x.factor ≡ None = sym (found_same m.row x xs same) ∙ e in cc))
    (λ more. fits_new m x xs more)

-- a new one goes to its place
pub inserted : (m : Multiplier) (xs : List Multiplier) → found_factor m.row xs ≡ None →
    take (before_row m.row xs) xs ++ m ∷ drop (before_row m.row xs) xs ≡ with_multiplier m xs
inserted m [] e = refl
inserted m (x ∷ xs) e =
    by_row x.row m.row
    (λ less.
    let rest = inserted m xs (sym (found_passed m.row x xs less) ∙ e) in
    let place : before_row m.row (x ∷ xs) ≡ suc (before_row m.row xs) = before_passed m.row x xs less ∙ (omega arith) in
    ap (λ n. take n (x ∷ xs) ++ m ∷ drop n (x ∷ xs)) place ∙ ap (λ ys. x ∷ ys) rest ∙ sym (with_passed m x xs less))
    (λ same. absurd (let g : Some x.factor ≡ None = sym (found_same m.row x xs same) ∙ e in cc))
    (λ more. ap (λ n. take n (x ∷ xs) ++ m ∷ drop n (x ∷ xs)) (before_reached m.row x xs (omega arith)) ∙ sym (with_new m x xs more))

pub none_if : {A : Type 0} (b : Bool) (x : A) (r : Option A) → r ≡ (if b then Some x else None) → r ≡ None → b ≡ false
none_if {A} true x r e f = absurd (let g : ◌≡◌ {A = Option A} (Some x) None = sym e ∙ f in cc)
none_if false x r e f = refl

pub some_if : {A : Type 0} (b : Bool) (x y : A) (r : Option A) → r ≡ (if b then Some x else None) → r ≡ Some y → y ≡ x
some_if {A} true x y r e f = let g : ◌≡◌ {A = Option A} (Some x) (Some y) = sym e ∙ f in cc
some_if {A} false x y r e f = absurd (let g : ◌≡◌ {A = Option A} None (Some y) = sym e ∙ f in cc)

pub true_if : {A : Type 0} (b : Bool) (x y : A) (r : Option A) → r ≡ (if b then Some x else None) → r ≡ Some y → b ≡ true
true_if {A} true x y r e f = refl
true_if {A} false x y r e f = absurd (let g : ◌≡◌ {A = Option A} None (Some y) = sym e ∙ f in cc)

-- one step of adding a list of multipliers to another
pub weigh_next : (a i : ℕ) (xs out out' : List Multiplier) (d : Multiplier) (f : ℕ) → i < length xs → f ≡ a * (get_or xs i d).factor →
    out' ≡ with_multiplier (record { row = (get_or xs i d).row; factor = f }) out →
    summed_multipliers (scaled_multipliers a (drop (i + 1) xs)) out' ≡ summed_multipliers (scaled_multipliers a (drop i xs)) out
weigh_next a i xs out out' d f h e o =
    let first : drop i xs ≡ get_or xs i d ∷ drop (suc i) xs = drop-cons xs i d h in
    let next : i + 1 ≡ suc i = omega arith in
    let added : out' ≡ with_multiplier (record { row = (get_or xs i d).row; factor = a * (get_or xs i d).factor }) out =
    o ∙ ap (λ (n : ℕ). with_multiplier (record { row = (get_or xs i d).row; factor = n }) out) e in
    ap (λ (n : ℕ). summed_multipliers (scaled_multipliers a (drop n xs)) out') next
    ∙ ap (λ (ys : List Multiplier). summed_multipliers (scaled_multipliers a (drop (suc i) xs)) ys) added
    ∙ sym (ap (λ (ys : List Multiplier). summed_multipliers (scaled_multipliers a ys) out) first)

pub products_next : (a i : ℕ) (xs : List Multiplier) (d : Multiplier) (f : ℕ) (r : Option ℕ) → i < length xs →
    r ≡ (if is_below (a * (get_or xs i d).factor) then Some (a * (get_or xs i d).factor) else None) → r ≡ Some f →
    products_fit a (drop (i + 1) xs) ≡ products_fit a (drop i xs)
products_next a i xs d f r h e g =
    let first : drop i xs ≡ get_or xs i d ∷ drop (suc i) xs = drop-cons xs i d h in
    let next : i + 1 ≡ suc i = omega arith in
    let fits : is_below (a * (get_or xs i d).factor) ≡ true = true_if {A = ℕ} _ _ f r e g in
    ap (λ (n : ℕ). products_fit a (drop n xs)) next
    ∙ sym (ap (λ (c : Bool). c && products_fit a (drop (suc i) xs)) fits)
    ∙ sym (ap (λ (ys : List Multiplier). products_fit a ys) first)

pub products_end : (a i : ℕ) (xs : List Multiplier) (d : Multiplier) (r : Option ℕ) → i < length xs →
    r ≡ (if is_below (a * (get_or xs i d).factor) then Some (a * (get_or xs i d).factor) else None) → r ≡ None →
    products_fit a (drop i xs) ≡ false
products_end a i xs d r h e g =
    let first : drop i xs ≡ get_or xs i d ∷ drop (suc i) xs = drop-cons xs i d h in
    ap (λ (ys : List Multiplier). products_fit a ys) first
    ∙ ap (λ (c : Bool). c && products_fit a (drop (suc i) xs)) (none_if {A = ℕ} _ _ r e g)

and_false : (a b : Bool) → b ≡ false → (a && b) ≡ false
and_false true b e = e
and_false false b e = refl

-- a sum that stays below the limit leaves it to the others whether all do
pub sums_next : (a i : ℕ) (xs out out' : List Multiplier) (d : Multiplier) (f : ℕ) → i < length xs → f ≡ a * (get_or xs i d).factor →
    sum_fits (record { row = (get_or xs i d).row; factor = f }) out ≡ true → out' ≡ with_multiplier (record { row = (get_or xs i d).row; factor = f }) out →
    sums_fit (scaled_multipliers a (drop (i + 1) xs)) out' ≡ sums_fit (scaled_multipliers a (drop i xs)) out
sums_next a i xs out out' d f h e k o =
    let first : drop i xs ≡ get_or xs i d ∷ drop (suc i) xs = drop-cons xs i d h in
    let next : i + 1 ≡ suc i = omega arith in
    let added : out' ≡ with_multiplier (record { row = (get_or xs i d).row; factor = a * (get_or xs i d).factor }) out =
    o ∙ ap (λ (n : ℕ). with_multiplier (record { row = (get_or xs i d).row; factor = n }) out) e in
    let fits : sum_fits (record { row = (get_or xs i d).row; factor = a * (get_or xs i d).factor }) out ≡ true =
    ap (λ (n : ℕ). sum_fits (record { row = (get_or xs i d).row; factor = n }) out) (sym e) ∙ k in
    let rest : Bool = sums_fit (scaled_multipliers a (drop (suc i) xs)) (with_multiplier (record { row = (get_or xs i d).row; factor = a * (get_or xs i d).factor }) out) in
    ap (λ (n : ℕ). sums_fit (scaled_multipliers a (drop n xs)) out') next
    ∙ ap (λ (ys : List Multiplier). sums_fit (scaled_multipliers a (drop (suc i) xs)) ys) added
    ∙ sym (ap (λ (c : Bool). c && rest) fits)
    ∙ sym (ap (λ (ys : List Multiplier). sums_fit (scaled_multipliers a ys) out) first)

pub sums_end : (a i : ℕ) (xs out : List Multiplier) (d : Multiplier) (f : ℕ) → i < length xs → f ≡ a * (get_or xs i d).factor →
    sum_fits (record { row = (get_or xs i d).row; factor = f }) out ≡ false → sums_fit (scaled_multipliers a (drop i xs)) out ≡ false
sums_end a i xs out d f h e k =
    let first : drop i xs ≡ get_or xs i d ∷ drop (suc i) xs = drop-cons xs i d h in
    let rest : Bool = sums_fit (scaled_multipliers a (drop (suc i) xs)) (with_multiplier (record { row = (get_or xs i d).row; factor = a * (get_or xs i d).factor }) out) in
    ap (λ (ys : List Multiplier). sums_fit (scaled_multipliers a ys) out) first
    ∙ ap (λ (n : ℕ). sum_fits (record { row = (get_or xs i d).row; factor = n }) out && rest) (sym e)
    ∙ ap (λ (c : Bool). c && rest) k

pub fit_false : (a b : ℕ) (ms ns : List Multiplier) → (products_fit a ms ≡ false) ⊎ ((products_fit b ns ≡ false) ⊎ (sums_fit (scaled_multipliers a ms) (scaled_multipliers b ns) ≡ false)) → multipliers_fit a ms b ns ≡ false
fit_false a b ms ns (inl e) = ap (λ (c : Bool). c && products_fit b ns && sums_fit (scaled_multipliers a ms) (scaled_multipliers b ns)) e
fit_false a b ms ns (inr (inl e)) = ap (λ (c : Bool). c && sums_fit (scaled_multipliers a ms) (scaled_multipliers b ns)) (and_false (products_fit a ms) (products_fit b ns) e)
fit_false a b ms ns (inr (inr e)) = and_false (products_fit a ms && products_fit b ns) _ e
