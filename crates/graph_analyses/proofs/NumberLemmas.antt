-- Lists of numbers one after another, and lists that agree place by place.
use Rattle.std.proofs.Common.{◌≡◌, ℕ, zero, suc, ◌+◌, ◌<◌, List, [], ◌∷◌, length, map, get_or, refl, sym, ap, ◌∙◌, subst, arith}
use Rattle.std.specs.Prelude.{Option, Some, None, slice_get, slice_index_or}
use Rattle.std.specs.List.{AllByRecursion}
use Rattle.basic_blocks.specs.Blocks.{Chain, IsChain, last_of}
use Rattle.block_points.specs.Numbering.{numbers_from}
use Rattle.tree_law.specs.NodeOrders.{sum_over}

pub some_item : {A : Type 0} (x y : A) → Some x ≡ Some y → x ≡ y
some_item x y e = cc

pub no_item : {A : Type 0} (y : A) → None ≡ Some y → ⊥
no_item y e = cc

pub numbers_length : (i n : ℕ) → length (numbers_from i n) ≡ n
numbers_length i zero = refl
numbers_length i (suc n) = ap suc (numbers_length (i + 1) n)

-- what is so of each of the numbers
pub all_numbers : (P : ℕ → Type 0) (i n : ℕ) → ((k : ℕ) → k < n → P (i + k)) → AllByRecursion P (numbers_from i n)
all_numbers P i zero h = tt
all_numbers P i (suc n) h =
    let first : i + 0 ≡ i = omega arith in (
      subst P first (h 0 (omega arith)),
      all_numbers P (i + 1) n (λ k lt. let e : i + suc k ≡ i + 1 + k = omega arith in subst P e (h (suc k) (omega (arith, lt)))),
    )

-- numbers one after another are a chain
pub chain_numbers : (R : ℕ → ℕ → Type 0) (i n : ℕ) → ((k : ℕ) → k < n → R (i + k) (i + k + 1)) → IsChain R i (numbers_from (i + 1) n)
chain_numbers R i zero h = tt
chain_numbers R i (suc n) h =
    let first : i + 0 ≡ i = omega arith in (
      subst (λ (k : ℕ). R k (k + 1)) first (h 0 (omega arith)),
      chain_numbers R (i + 1) n
          (λ k lt. let e : i + suc k ≡ i + 1 + k = omega arith in subst (λ (m : ℕ). R m (m + 1)) e (h (suc k) (omega (arith, lt)))),
    )

pub last_number : (i n : ℕ) → last_of i (numbers_from (i + 1) n) ≡ i + n
last_number i zero = omega arith
last_number i (suc n) = (let e : i + 1 + n ≡ i + suc n = omega arith in last_number (i + 1) n ∙ e)

-- mapped numbers are a list that has these items
pub numbers_mapped : {A : Type 0} (f : ℕ → A) (d : A) (i : ℕ) (ys : List A)
    → ((k : ℕ) → k < length ys → f (i + k) ≡ slice_index_or ys k d) → map f (numbers_from i (length ys)) ≡ ys
numbers_mapped f d i [] h = refl
numbers_mapped {A} f d i (y ∷ ys) h =
    let first : i ≡ i + 0 = omega arith in
    both (f i) y (map f (numbers_from (i + 1) (length ys))) ys (ap f first ∙ h 0 (omega arith))
    (numbers_mapped f d (i + 1) ys (λ k lt. let e : i + 1 + k ≡ i + suc k = omega arith in ap f e ∙ h (suc k) (omega (arith, lt))))
  where
    both : (x y : A) (xs ys : List A) → x ≡ y → xs ≡ ys → x ∷ xs ≡ y ∷ ys
    both x y xs ys e f = cc

pub sum_same : (f g : ℕ → ℕ) (i n : ℕ) → ((k : ℕ) → k < n → f (i + k) ≡ g (i + k))
    → sum_over f (numbers_from i n) ≡ sum_over g (numbers_from i n)
sum_same f g i zero h = refl
sum_same f g i (suc n) h =
    let first : i ≡ i + 0 = omega arith in
    let one : f i ≡ g i = ap f first ∙ h 0 (omega arith) ∙ sym (ap g first) in
    let rest = sum_same f g (i + 1) n
    (λ k lt. let e : i + 1 + k ≡ i + suc k = omega arith in ap f e ∙ h (suc k) (omega (arith, lt)) ∙ sym (ap g e)) in
    omega (arith, one, rest)

-- ---- lists of one length that agree at each place

pub lists_agree : {A : Type 0} (xs ys : List A) → length xs ≡ length ys
    → ((i : ℕ) (x y : A) → slice_get xs i ≡ Some x → slice_get ys i ≡ Some y → x ≡ y) → xs ≡ ys
lists_agree [] [] e h = refl
lists_agree [] (y ∷ ys) e h = absurd (omega (arith, e))
lists_agree (x ∷ xs) [] e h = absurd (omega (arith, e))
lists_agree {A} (x ∷ xs) (y ∷ ys) e h =
    both x y xs ys (h 0 x y refl refl) (lists_agree xs ys (omega (arith, e)) (λ i. h (suc i)))
  where
    both : (x y : A) (xs ys : List A) → x ≡ y → xs ≡ ys → x ∷ xs ≡ y ∷ ys
    both x y xs ys e f = cc

pub mapped_at : {A B : Type 0} (f : A → B) (xs : List A) (i : ℕ) (y : B) → slice_get (map f xs) i ≡ Some y
    → (x : A) × (slice_get xs i ≡ Some x) × (f x ≡ y)
mapped_at f [] i y e = absurd (no_item y e)
mapped_at f (x ∷ xs) zero y e = (x, refl, some_item (f x) y e)
mapped_at f (x ∷ xs) (suc i) y e = mapped_at f xs i y e

pub map_at : {A B : Type 0} (f : A → B) (xs : List A) (i : ℕ) (x : A) → slice_get xs i ≡ Some x → slice_get (map f xs) i ≡ Some (f x)
map_at f [] i x e = absurd (no_item x e)
map_at {A} {B} f (y ∷ xs) zero x e = ap (λ (z : A). Some (f z)) (some_item y x e)
map_at f (y ∷ xs) (suc i) x e = map_at f xs i x e

pub map_length : {A B : Type 0} (f : A → B) (xs : List A) → length (map f xs) ≡ length xs
map_length f [] = refl
map_length f (x ∷ xs) = ap suc (map_length f xs)

pub there_at : {A : Type 0} (xs : List A) (i : ℕ) → i < length xs → (x : A) × (slice_get xs i ≡ Some x)
there_at [] i lt = absurd (omega (arith, lt))
there_at (x ∷ xs) zero lt = (x, refl)
there_at (x ∷ xs) (suc i) lt = there_at xs i (omega (arith, lt))

pub inside_at : {A : Type 0} (xs : List A) (i : ℕ) (x : A) → slice_get xs i ≡ Some x → i < length xs
inside_at [] i x e = absurd (no_item x e)
inside_at (y ∷ xs) zero x e = omega arith
inside_at (y ∷ xs) (suc i) x e = (let r = inside_at xs i x e in omega (arith, r))

pub item_at : {A : Type 0} (xs : List A) (i : ℕ) (x d : A) → slice_get xs i ≡ Some x → get_or xs i d ≡ x
item_at [] i x d e = absurd (no_item x e)
item_at (y ∷ xs) zero x d e = some_item y x e
item_at (y ∷ xs) (suc i) x d e = item_at xs i x d e
