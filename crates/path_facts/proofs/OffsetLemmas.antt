-- Offsets modulo 2^32 touch the same words as signed offsets, where neither is far from 0.
use Rattle.std.proofs.Common.{◌≡◌, ℕ, ℤ, pos, negsuc, neg_ℤ, ◌+ℤ◌, ◌-ℤ◌, ◌≤ℤ◌, ◌<ℤ◌, ◌+◌, ◌-◌, ◌*◌, ◌%◌, ◌^◌, ◌<◌, ◌≤◌, ◌⊎◌, Bool}
use Rattle.std.proofs.Common.{◌||◌, true, false, cond, ltb, eqb, inl, inr, refl, sym, ap, ◌∙◌, subst, arith}
use Rattle.std.proofs.lemmas.Bool.{eqb-true, eqb-false, le-ltb, ltb-false, ltb-true, ne_eqb}
use Rattle.std.proofs.lemmas.Int.{ints}
use Rattle.std.specs.Prelude.{int_lt}
use Rattle.std.specs.Ordering.{int_eq}
use Rattle.path_facts.specs.Offsets.{StandsFor, touches_at}
use Rattle.path_facts.specs.Sources.{is_at_word, moved, residue, touches}

is_less : (a b : ℤ) → a <ℤ b → int_lt a b ≡ true
is_less a b h = grind (arith, ints, h)

is_equal : (a b : ℤ) → a ≡ b → int_eq a b ≡ true
is_equal a b h = grind (arith, ints, h)

isnt_equal : (a b : ℤ) → (a <ℤ b) ⊎ (b <ℤ a) → int_eq a b ≡ false
isnt_equal a b (inl h) = grind (arith, ints, h)
isnt_equal a b (inr h) = grind (arith, ints, h)

isnt_less : (a b : ℤ) → b ≤ℤ a → int_lt a b ≡ false
isnt_less a b h = grind (arith, ints, h)

both_off : (x y : Bool) → x ≡ false → y ≡ false → x || y ≡ false
both_off x y a b = cc

-- an offset in ℤ whose number is e
module _ (e bytes k : ℕ) (z : ℤ) (word : e < 2 ^ 32) (some : 0 < bytes) (few : bytes ≤ 4) (small : 4 * k ≤ 2 ^ 30)
    (low : neg_ℤ (pos (2 ^ 31 + 2 ^ 13)) ≤ℤ z) (high : z ≤ℤ pos (2 ^ 31 + 2 ^ 13)) where
  abbrev d : ℕ
  d = (e + 4 * k) % 2 ^ 32

  -- at or above the word
  above : pos d ≡ z +ℤ pos (4 * k) → d < 2 ^ 31 + 2 ^ 30 + 2 ^ 14 → touches e bytes k ≡ touches_at z bytes k
  above is near = by_test (ltb d 4) refl
    where
      far : ltb (2 ^ 32) (d + bytes) ≡ false
      far = le-ltb (2 ^ 32) (d + bytes) (omega (arith, near, few))

      some_there : int_lt (pos 0) (z +ℤ pos (4 * k) +ℤ pos bytes) ≡ true
      some_there = is_less _ _ (subst (λ (y : ℤ). pos 0 <ℤ (y +ℤ pos bytes)) is (omega (arith, ints, some)))

      by_test : (b : Bool) → ltb d 4 ≡ b → touches e bytes k ≡ touches_at z bytes k
      by_test true on =
          let less = ltb-true d 4 on in
          rw (on, some_there, is_less (z +ℤ pos (4 * k)) (pos 4) (subst (λ (y : ℤ). y <ℤ pos 4) is (omega (arith, ints, less)))) refl
      by_test false off =
          let more = ltb-false d 4 off in
          rw (
            off,
            far,
            some_there,
            isnt_less (z +ℤ pos (4 * k)) (pos 4)
                (subst (λ (y : ℤ). pos 4 ≤ℤ y) is (omega (arith, ints, more))),
          ) refl

  -- below it
  below : pos d ≡ z +ℤ pos (4 * k) +ℤ pos (2 ^ 32) → 2 ^ 31 - 2 ^ 13 ≤ d → touches e bytes k ≡ touches_at z bytes k
  below is near = by_test (ltb (2 ^ 32) (d + bytes)) refl
    where
      off : ltb d 4 ≡ false
      off = le-ltb d 4 (omega (arith, near))

      lower : (y : ℤ) (n : ℕ) → pos n ≡ y +ℤ pos (2 ^ 32) → n < 2 ^ 32 → y <ℤ pos 4
      lower y n is small = omega (arith, ints, is, small)

      there : int_lt (z +ℤ pos (4 * k)) (pos 4) ≡ true
      there = is_less (z +ℤ pos (4 * k)) (pos 4) (lower (z +ℤ pos (4 * k)) d is (omega arith))

      by_test : (b : Bool) → ltb (2 ^ 32) (d + bytes) ≡ b → touches e bytes k ≡ touches_at z bytes k
      by_test true on =
          let more = ltb-true (2 ^ 32) (d + bytes) on in
          rw (off, on, there, is_less (pos 0) (z +ℤ pos (4 * k) +ℤ pos bytes) (omega (arith, ints, more, is))) refl
      by_test false not_far =
          let less = ltb-false (2 ^ 32) (d + bytes) not_far in
          rw (off, not_far, there, isnt_less (pos 0) (z +ℤ pos (4 * k) +ℤ pos bytes) (omega (arith, ints, less, is))) refl

  unwrapped : (e k : ℕ) → e + 4 * k < 2 ^ 32 → (e + 4 * k) % 2 ^ 32 ≡ e + 4 * k
  unwrapped e k h = omega (arith, h)

  wrapped : (e k : ℕ) → e < 2 ^ 32 → 2 ^ 32 ≤ e + 4 * k → 4 * k ≤ 2 ^ 30 → (e + 4 * k) % 2 ^ 32 + 2 ^ 32 ≡ e + 4 * k
  wrapped e k word h small = omega (arith, word, h, small)

  -- the same words are touched
  pub touches_same : StandsFor e z → touches e bytes k ≡ touches_at z bytes k
  touches_same (inl same) =
      let d_is = unwrapped e k (omega (arith, ints, same, high, small)) in
      above (omega (arith, ints, same, d_is)) (omega (arith, ints, same, high, small, d_is))
  touches_same (inr under) = by_sum (ltb (e + 4 * k) (2 ^ 32)) refl
    where
      by_sum : (b : Bool) → ltb (e + 4 * k) (2 ^ 32) ≡ b → touches e bytes k ≡ touches_at z bytes k
      by_sum true on =
          let d_is = unwrapped e k (ltb-true (e + 4 * k) (2 ^ 32) on) in
          below (omega (arith, ints, under, d_is)) (omega (arith, ints, under, low, d_is))
      by_sum false off =
          let d_is = wrapped e k word (ltb-false (e + 4 * k) (2 ^ 32) off) small in
          above (omega (arith, ints, under, d_is)) (omega (arith, word, small, d_is))

  word_above : pos d ≡ z +ℤ pos (4 * k) → is_at_word e k ≡ int_eq (z +ℤ pos (4 * k)) (pos 0)
  word_above is = by_test (eqb d 0) refl
    where
      by_test : (b : Bool) → eqb d 0 ≡ b → is_at_word e k ≡ int_eq (z +ℤ pos (4 * k)) (pos 0)
      by_test true on =
          let zero = eqb-true d 0 on in
          on ∙ sym (is_equal (z +ℤ pos (4 * k)) (pos 0) (sym is ∙ ap (λ (n : ℕ). pos n) zero))
      by_test false off = off ∙ sym (isnt_equal (z +ℤ pos (4 * k)) (pos 0)
          (inr (subst (λ (y : ℤ). pos 0 <ℤ y) is (more d (eqb-false d 0 off)))))
        where
          more : (n : ℕ) → (n ≡ 0 → ⊥) → pos 0 <ℤ pos n
          more n isnt = grind (arith, ints, isnt)

  word_below : pos d ≡ z +ℤ pos (4 * k) +ℤ pos (2 ^ 32) → 2 ^ 31 - 2 ^ 13 ≤ d → is_at_word e k ≡ int_eq (z +ℤ pos (4 * k)) (pos 0)
  word_below is near = ne_eqb d 0 (λ same. zero d near same) ∙ sym (isnt_equal (z +ℤ pos (4 * k)) (pos 0)
      (inl (lower (z +ℤ pos (4 * k)) d is (omega arith))))
    where
      zero : (n : ℕ) → 2 ^ 31 - 2 ^ 13 ≤ n → n ≡ 0 → ⊥
      zero n near same = omega (arith, near, same)

      lower : (y : ℤ) (n : ℕ) → pos n ≡ y +ℤ pos (2 ^ 32) → n < 2 ^ 32 → y <ℤ pos 0
      lower y n is small = omega (arith, ints, is, small)

  -- the same word is meant
  pub word_same : StandsFor e z → is_at_word e k ≡ int_eq (z +ℤ pos (4 * k)) (pos 0)
  word_same (inl same) =
      let d_is = unwrapped e k (omega (arith, ints, same, high, small)) in
      word_above (omega (arith, ints, same, d_is))
  word_same (inr under) = by_sum (ltb (e + 4 * k) (2 ^ 32)) refl
    where
      by_sum : (b : Bool) → ltb (e + 4 * k) (2 ^ 32) ≡ b → is_at_word e k ≡ int_eq (z +ℤ pos (4 * k)) (pos 0)
      by_sum true on =
          let d_is = unwrapped e k (ltb-true (e + 4 * k) (2 ^ 32) on) in
          word_below (omega (arith, ints, under, d_is)) (omega (arith, ints, under, low, d_is))
      by_sum false off =
          let d_is = wrapped e k word (ltb-false (e + 4 * k) (2 ^ 32) off) small in
          word_above (omega (arith, ints, under, d_is))

pub residue_stands : (o : ℤ) → neg_ℤ (pos (2 ^ 31)) ≤ℤ o → o <ℤ pos (2 ^ 31) → StandsFor (residue o) o
residue_stands (pos n) low high = let is : n % 2 ^ 32 ≡ n = omega (arith, ints, high) in inl (ap (λ (k : ℕ). pos k) is)
residue_stands (negsuc k) low high = inr (omega (arith, ints, low))

-- an offset with a constant
pub moved_stands : (up : Bool) (e c : ℕ) (z : ℤ) → e < 2 ^ 32 → c < 2 ^ 12 → neg_ℤ (pos (2 ^ 31)) ≤ℤ z → z <ℤ pos (2 ^ 31) → StandsFor e z
    → StandsFor (moved up e c) (cond up (z +ℤ pos c) (z -ℤ pos c))
moved_stands true e c z word few low high (inl same) = let d_is = over (omega (arith, ints, same, high, few)) in inl
    (omega (arith, ints, same, d_is))
  where
    over : e + c < 2 ^ 32 → (e + c) % 2 ^ 32 ≡ e + c
    over h = omega (arith, h)
moved_stands true e c z word few low high (inr under) = by_sum (ltb (e + c) (2 ^ 32)) refl
  where
    over : (e c : ℕ) → e + c < 2 ^ 32 → (e + c) % 2 ^ 32 ≡ e + c
    over e c h = omega (arith, h)

    round : (e c : ℕ) → e < 2 ^ 32 → c < 2 ^ 12 → 2 ^ 32 ≤ e + c → (e + c) % 2 ^ 32 + 2 ^ 32 ≡ e + c
    round e c word few h = omega (arith, word, few, h)

    by_sum : (b : Bool) → ltb (e + c) (2 ^ 32) ≡ b → StandsFor ((e + c) % 2 ^ 32) (z +ℤ pos c)
    by_sum true on = let d_is = over e c (ltb-true (e + c) (2 ^ 32) on) in inr (omega (arith, ints, under, d_is))
    by_sum false off = let d_is = round e c word few (ltb-false (e + c) (2 ^ 32) off) in inl (omega (arith, ints, under, d_is))
moved_stands false e c z word few low high (inl same) = by_sum (ltb e c) refl
  where
    less : (e c : ℕ) → e < c → c < 2 ^ 12 → (e + 2 ^ 32 - c) % 2 ^ 32 + c ≡ e + 2 ^ 32
    less e c h few = omega (arith, h, few)

    more : (e c : ℕ) → c ≤ e → e < 2 ^ 32 → (e + 2 ^ 32 - c) % 2 ^ 32 + c ≡ e
    more e c h word = omega (arith, h, word)

    by_sum : (b : Bool) → ltb e c ≡ b → StandsFor ((e + 2 ^ 32 - c) % 2 ^ 32) (z -ℤ pos c)
    by_sum true on = let d_is = less e c (ltb-true e c on) few in inr (omega (arith, ints, same, d_is))
    by_sum false off = let d_is = more e c (ltb-false e c off) word in inl (omega (arith, ints, same, d_is))
moved_stands false e c z word few low high (inr under) = let d_is = more e c (omega (arith, ints, under, low, few)) word in inr
    (omega (arith, ints, under, d_is))
  where
    more : (e c : ℕ) → c ≤ e → e < 2 ^ 32 → (e + 2 ^ 32 - c) % 2 ^ 32 + c ≡ e
    more e c h word = omega (arith, h, word)
