-- Where the points of a block stand among all points.
use Rattle.std.proofs.Common.{◌≡◌, ◌⊎◌, inl, inr, ℕ, zero, suc, ◌+◌, ◌-◌, ◌<◌, ◌≤◌, List, [], ◌∷◌, ◌++◌, length, get_or, refl, ap, ◌∙◌}
use Rattle.std.proofs.Common.{arith}
use Rattle.std.specs.Prelude.{Some, None, slice_get, slice_index_or}
use Rattle.graph_search.specs.Rows.{row_in}
use Rattle.flow_graph.specs.declared.graph.Block.{Block}
use Rattle.block_points.specs.Numbering.{first_of, firsts_at, firsts_from, following, joined, next_from, numbers_from, rows_from, total_of}

some_block : (x y : Block) → Some x ≡ Some y → x ≡ y
some_block x y e = cc

no_block : (y : Block) → None ≡ Some y → ⊥
no_block y e = cc

-- ---- joined lists

pub left_at : {A : Type 0} (xs ys : List A) (i : ℕ) (d : A) → i < length xs → slice_index_or (xs ++ ys) i d ≡ slice_index_or xs i d
left_at [] ys i d lt = absurd (omega (arith, lt))
left_at (x ∷ xs) ys zero d lt = refl
left_at (x ∷ xs) ys (suc i) d lt = left_at xs ys i d (omega (arith, lt))

pub right_at : {A : Type 0} (xs ys : List A) (n i : ℕ) (d : A) → length xs ≡ n → slice_index_or (xs ++ ys) (n + i) d ≡ slice_index_or ys i d
right_at [] ys n i d e = (let z : n + i ≡ i = omega (arith, e) in ap (λ (k : ℕ). slice_index_or ys k d) z)
right_at (x ∷ xs) ys zero i d e = absurd (omega (arith, e))
right_at (x ∷ xs) ys (suc n) i d e =
    let z : suc n + i ≡ suc (n + i) = omega arith in
    ap (λ (k : ℕ). slice_index_or (x ∷ (xs ++ ys)) k d) z ∙ right_at xs ys n i d (omega (arith, e))

-- a block's points lie before the end
pub block_inside : (bs : List Block) (j : ℕ) (b : Block) → slice_get bs j ≡ Some b → first_of bs j + length b.points ≤ total_of bs
block_inside [] j b e = absurd (no_block b e)
block_inside (x ∷ bs) zero b e = (let s = ap (λ (y : Block). length y.points) (some_block x b e) in omega (arith, s))
block_inside (x ∷ bs) (suc j) b e = (let r = block_inside bs j b e in omega (arith, r))

pub joined_at : {A : Type 0} (f : ℕ → Block → List A) → ((k : ℕ) (b : Block) → length (f k b) ≡ length b.points) → (bs : List Block)
    (k j at : ℕ) (b : Block) (d : A) → slice_get bs j ≡ Some b → at < length b.points
    → slice_index_or (joined f k bs) (first_of bs j + at) d ≡ slice_index_or (f (k + j) b) at d
joined_at f long [] k j at b d e lt = absurd (no_block b e)
joined_at {A} f long (x ∷ bs) k zero at b d e lt =
    let same = some_block x b e in
    let n = long k x in
    let size = ap (λ (y : Block). length y.points) same in
    let place : 0 + at ≡ at = omega arith in
    let number : k ≡ k + 0 = omega arith in
    ap (λ (i : ℕ). slice_index_or (joined f k (x ∷ bs)) i d) place
    ∙ left_at (f k x) (joined f (k + 1) bs) at d (omega (arith, lt, n, size))
    ∙ ap (λ (y : Block). slice_index_or (f k y) at d) same
    ∙ ap (λ (i : ℕ). slice_index_or (f i b) at d) number
joined_at {A} f long (x ∷ bs) k (suc j) at b d e lt =
    let place : length x.points + first_of bs j + at ≡ length x.points + (first_of bs j + at) = omega arith in
    let number : k + 1 + j ≡ k + suc j = omega arith in
    ap (λ (i : ℕ). slice_index_or (joined f k (x ∷ bs)) i d) place
    ∙ right_at (f k x) (joined f (k + 1) bs) (length x.points) (first_of bs j + at) d (long k x)
    ∙ joined_at f long bs (k + 1) j at b d e lt ∙ ap (λ (i : ℕ). slice_index_or (f i b) at d) number

pub length_both : {A : Type 0} (xs ys : List A) → length (xs ++ ys) ≡ length xs + length ys
length_both [] ys = omega arith
length_both (x ∷ xs) ys = (let r = length_both xs ys in omega (arith, r))

pub joined_length : {A : Type 0} (f : ℕ → Block → List A) → ((k : ℕ) (b : Block) → length (f k b) ≡ length b.points) → (bs : List Block)
    (k : ℕ) → length (joined f k bs) ≡ total_of bs
joined_length f long [] k = refl
joined_length f long (x ∷ bs) k =
    length_both (f k x) (joined f (k + 1) bs)
    ∙ two (length (f k x)) (length x.points) (length (joined f (k + 1) bs)) (total_of bs) (long k x) (joined_length f long bs (k + 1))
  where
    two : (a b c d : ℕ) → a ≡ b → c ≡ d → a + c ≡ b + d
    two a b c d e f = cc

-- ---- rows, first numbers, what follows

pub row_at : (bs : List Block) (i j : ℕ) (b : Block) → slice_get bs j ≡ Some b
    → row_in (rows_from i bs) j ≡ numbers_from (i + first_of bs j) (length b.points)
row_at [] i j b e = absurd (no_block b e)
row_at (x ∷ bs) i zero b e =
    let place : i ≡ i + 0 = omega arith in
    ap (λ (y : Block). numbers_from i (length y.points)) (some_block x b e) ∙ ap (λ (k : ℕ). numbers_from k (length b.points)) place
row_at (x ∷ bs) i (suc j) b e =
    let place : i + length x.points + first_of bs j ≡ i + (length x.points + first_of bs j) = omega arith in
    row_at bs (i + length x.points) j b e ∙ ap (λ (k : ℕ). numbers_from k (length b.points)) place

pub first_is : (bs : List Block) (i j : ℕ) → j < length bs → get_or (firsts_from i bs) j 0 ≡ i + first_of bs j
first_is [] i j lt = absurd (omega (arith, lt))
first_is (x ∷ bs) i zero lt = omega arith
first_is (x ∷ bs) i (suc j) lt = (let r = first_is bs (i + length x.points) j (omega (arith, lt)) in omega (arith, r))

pub following_length : (i n : ℕ) (after : List ℕ) → length (following i n after) ≡ n
following_length i zero after = refl
following_length i (suc zero) after = refl
following_length i (suc (suc n)) after = ap suc (following_length (i + 1) (suc n) after)

pub next_length : (firsts : List ℕ) (bs : List Block) (i : ℕ) → length (next_from firsts i bs) ≡ total_of bs
next_length firsts [] i = refl
next_length firsts (x ∷ bs) i =
    let here = following_length i (length x.points) (firsts_at firsts x.next) in
    let rest = next_length firsts bs (i + length x.points) in
    let all = length_both (following i (length x.points) (firsts_at firsts x.next)) (next_from firsts (i + length x.points) bs) in
    omega (arith, here, rest, all)

pub next_at : (firsts : List ℕ) (bs : List Block) (i j at : ℕ) (b : Block) → slice_get bs j ≡ Some b → at < length b.points
    → row_in (next_from firsts i bs) (first_of bs j + at)
    ≡ row_in (following (i + first_of bs j) (length b.points) (firsts_at firsts b.next)) at
next_at firsts [] i j at b e lt = absurd (no_block b e)
next_at firsts (x ∷ bs) i zero at b e lt =
    let same = some_block x b e in
    let n = following_length i (length x.points) (firsts_at firsts x.next) in
    let size = ap (λ (y : Block). length y.points) same in
    let place : 0 + at ≡ at = omega arith in
    let number : i ≡ i + 0 = omega arith in
    ap (λ (k : ℕ). row_in (next_from firsts i (x ∷ bs)) k) place
    ∙ left_at (following i (length x.points) (firsts_at firsts x.next)) (next_from firsts (i + length x.points) bs) at []
    (omega (arith, lt, n, size))
    ∙ ap (λ (y : Block). row_in (following i (length y.points) (firsts_at firsts y.next)) at) same
    ∙ ap (λ (k : ℕ). row_in (following k (length b.points) (firsts_at firsts b.next)) at) number
next_at firsts (x ∷ bs) i (suc j) at b e lt =
    let place : length x.points + first_of bs j + at ≡ length x.points + (first_of bs j + at) = omega arith in
    let number : i + length x.points + first_of bs j ≡ i + (length x.points + first_of bs j) = omega arith in
    ap (λ (k : ℕ). row_in (next_from firsts i (x ∷ bs)) k) place
    ∙ right_at (following i (length x.points) (firsts_at firsts x.next)) (next_from firsts (i + length x.points) bs) (length x.points)
    (first_of bs j + at) [] (following_length i (length x.points) (firsts_at firsts x.next))
    ∙ next_at firsts bs (i + length x.points) j at b e lt
    ∙ ap (λ (k : ℕ). row_in (following k (length b.points) (firsts_at firsts b.next)) at) number

pub following_inner : (i n at : ℕ) (after : List ℕ) → at + 1 < n → row_in (following i n after) at ≡ (i + at + 1) ∷ []
following_inner i zero at after lt = absurd (omega (arith, lt))
following_inner i (suc zero) at after lt = absurd (omega (arith, lt))
following_inner i (suc (suc n)) zero after lt = (let e : i + 1 ≡ i + 0 + 1 = omega arith in ap (λ (k : ℕ). k ∷ []) e)
following_inner i (suc (suc n)) (suc at) after lt =
    let e : i + 1 + at + 1 ≡ i + suc at + 1 = omega arith in
    following_inner (i + 1) (suc n) at after (omega (arith, lt)) ∙ ap (λ (k : ℕ). k ∷ []) e

pub following_last : (i n : ℕ) (after : List ℕ) → row_in (following i (suc n) after) n ≡ after
following_last i zero after = refl
following_last i (suc n) after = following_last (i + 1) n after

-- ---- each number is a point's

pub record Place (bs : List Block) (q : ℕ) : Type 0 where
  pub number : ℕ
  pub block : Block
  pub at : ℕ
  pub there : slice_get bs number ≡ Some block
  pub inside : at < length block.points
  pub is : first_of bs number + at ≡ q

side : (q n : ℕ) → (q < n) ⊎ (n ≤ q)
side q zero = inr (omega arith)
side zero (suc n) = inl (omega arith)
side (suc q) (suc n) =
    elim (side q n) as (λ _. (suc q < suc n) ⊎ (suc n ≤ suc q)) [
      | inl lt ↦ inl (omega (arith, lt))
      | inr le ↦ inr (omega (arith, le))
    ]

pub place : (bs : List Block) (q : ℕ) → q < total_of bs → Place bs q
place [] q lt = absurd (omega (arith, lt))
place (x ∷ bs) q lt =
    elim (side q (length x.points)) as (λ _. Place (x ∷ bs) q) [
      | inl low ↦ record { number = 0; block = x; at = q; there = refl; inside = low; is = omega arith }
      | inr le ↦
          let r = place bs (q - length x.points) (omega (arith, lt, le)) in
          let e = r.is in
          record { number = suc r.number; block = r.block; at = r.at; there = r.there; inside = r.inside; is = omega (arith, e, le) }
    ]
