-- Sums of words are sums of their signed numbers, modulo 2^32.
use Rattle.std.proofs.Common.{◌≡◌, ℕ, zero, suc, ℤ, pos, negsuc, neg_ℤ, ◌+ℤ◌, ◌+◌, ◌-◌, ◌*◌, ◌/◌, ◌%◌, ◌^◌, ◌<◌, ◌≤◌, ◌≢◌, ◌||◌, Bool}
use Rattle.std.proofs.Common.{true, false, cond, ltb, refl, sym, ap, ◌∙◌, subst, arith}
use Rattle.std.proofs.lemmas.Bool.{ltb-false, ltb-true}
use Rattle.std.proofs.lemmas.Int.{int_wrap-add_right, int_wrap_fits, ints, of_z-to_z, wrapping_add-bits, wrapping_sub-bits}
use Rattle.std.proofs.Math.IntN.{+ℤ_idr}
use Rattle.std.proofs.Math.Facts.{sfits_to_z, to_z-neg, to_z_pos}
use Rattle.std.specs.Int.{cast_unsigned, int_wrap, w32}
use Rattle.arm_cpu.specs.Registers.{signed_of}
use Rattle.arm_cpu.specs.Shifts.{inverted}
use Rattle.arm_machine.specs.Access.{word_holding}
use Rattle.path_facts.specs.Facts.{IsCongruent, word_address}
use Rattle.path_facts.specs.Sources.{moved, residue, touches}

pub itself : (n : ℕ) → n < 2 ^ 32 → IsCongruent (signed_of n) n
itself n small = sym (int_wrap_fits w32 (signed_of n) (sfits_to_z {w = w32} {n = n} (record { fits = small })))

pub itself_plain : (n : ℕ) → n < 2 ^ 32 → IsCongruent (signed_of n +ℤ pos 0) n
itself_plain n small = subst (λ (z : ℤ). IsCongruent z n) (sym (+ℤ_idr (signed_of n))) (itself n small)

pub sum_of : (m n : ℕ) → m < 2 ^ 32 → n < 2 ^ 32 → IsCongruent (signed_of m +ℤ signed_of n) ((m + n) % 2 ^ 32)
sum_of m n p q = wrapping_add-bits w32 m n p q

pub difference_of : (m n : ℕ) → m < 2 ^ 32 → n < 2 ^ 32 → IsCongruent (signed_of m +ℤ neg_ℤ (signed_of n)) ((m + 2 ^ 32 - n) % 2 ^ 32)
difference_of m n p q =
    let e : m + 2 ^ 32 - n ≡ m + (2 ^ 32 - n) = omega (arith, q) in
    ap (λ (k : ℕ). signed_of (k % 2 ^ 32)) e ∙ wrapping_sub-bits w32 m n p q

-- the forms of the sums
pub sum_form : (m n : ℕ) → (m + n + 0) % 2 ^ 32 ≡ (m + n) % 2 ^ 32
sum_form m n = omega arith

pub difference_form : (m n : ℕ) → n < 2 ^ 32 → (m + inverted n + 1) % 2 ^ 32 ≡ (m + 2 ^ 32 - n) % 2 ^ 32
difference_form m n q = omega (arith, q)

-- what is left of a number in 32 bits doesn't change by 2^32
full : int_wrap w32 (neg_ℤ (pos (2 ^ 32))) ≡ pos 0
full = sym (wrapping_add-bits w32 (2 ^ 31) (2 ^ 31) (omega arith) (omega arith))

one_more : (z : ℤ) → int_wrap w32 (z +ℤ neg_ℤ (pos (2 ^ 32))) ≡ int_wrap w32 z
one_more z =
    sym (int_wrap-add_right w32 z (neg_ℤ (pos (2 ^ 32)))) ∙ ap (λ (y : ℤ). int_wrap w32 (z +ℤ y)) full ∙ ap (int_wrap w32) (+ℤ_idr z)

many_more : (k : ℕ) (z : ℤ) → int_wrap w32 (z +ℤ pos (k * 2 ^ 32)) ≡ int_wrap w32 z
many_more zero z = ap (int_wrap w32) (+ℤ_idr z)
many_more (suc k) z =
    let back : z +ℤ pos (suc k * 2 ^ 32) +ℤ neg_ℤ (pos (2 ^ 32)) ≡ z +ℤ pos (k * 2 ^ 32) = omega (arith, ints) in
    sym (one_more (z +ℤ pos (suc k * 2 ^ 32))) ∙ ap (int_wrap w32) back ∙ many_more k z

residue_small : (z : ℤ) → residue z < 2 ^ 32
residue_small (pos n) = omega arith
residue_small (negsuc n) = omega arith

same_residue : (z : ℤ) → int_wrap w32 (pos (residue z)) ≡ int_wrap w32 z
same_residue (pos n) =
    let whole : n % 2 ^ 32 + n / 2 ^ 32 * 2 ^ 32 ≡ n = omega arith in
    sym (many_more (n / 2 ^ 32) (pos (n % 2 ^ 32))) ∙ ap (λ (m : ℕ). int_wrap w32 (pos m)) whole
same_residue (negsuc n) =
    let up : pos (2 ^ 32 - 1 - n % 2 ^ 32) ≡ negsuc n +ℤ pos (suc (n / 2 ^ 32) * 2 ^ 32) = omega (arith, ints) in
    ap (int_wrap w32) up ∙ many_more (suc (n / 2 ^ 32)) (negsuc n)

same_signed : (n : ℕ) → n < 2 ^ 32 → int_wrap w32 (pos n) ≡ int_wrap w32 (signed_of n)
same_signed n small = by_sign (ltb n (2 ^ 31)) refl
  where
    turned : (m k : ℕ) → m + suc k ≡ 2 ^ 32 → k < 2 ^ 31 → int_wrap w32 (pos m) ≡ int_wrap w32 (signed_of m)
    turned m k sum less =
        let is : m ≡ 2 ^ 32 - suc k = omega (arith, sum) in
        let up : pos m ≡ negsuc k +ℤ pos (1 * 2 ^ 32) = omega (arith, ints, sum) in
        ap (int_wrap w32) up ∙ many_more 1 (negsuc k) ∙ sym (ap (int_wrap w32) (ap signed_of is ∙ to_z-neg w32 k less))

    by_sign : (b : Bool) → ltb n (2 ^ 31) ≡ b → int_wrap w32 (pos n) ≡ int_wrap w32 (signed_of n)
    by_sign true on = ap (int_wrap w32) (sym (to_z_pos w32 (ltb-true n (2 ^ 31) on)))
    by_sign false off =
        let more = ltb-false n (2 ^ 31) off in
        turned n (2 ^ 32 - 1 - n) (omega (arith, small)) (omega (arith, small, more))

pub same_word : (m n : ℕ) → m < 2 ^ 32 → n < 2 ^ 32 → signed_of m ≡ signed_of n → m ≡ n
same_word m n p q same = sym (of_z-to_z w32 m p) ∙ ap (cast_unsigned w32) same ∙ of_z-to_z w32 n q

-- a number that a fact of r13 gives
pub as_word : (sp n : ℕ) (o : ℤ) → sp < 2 ^ 32 → n < 2 ^ 32 → IsCongruent (signed_of sp +ℤ o) n → n ≡ (sp + residue o) % 2 ^ 32
as_word sp n o p q is =
    same_word n ((sp + residue o) % 2 ^ 32) q (omega arith)
    (is ∙ sym (int_wrap-add_right w32 (signed_of sp) o)
    ∙ ap (λ (z : ℤ). int_wrap w32 (signed_of sp +ℤ z)) (sym (same_residue o) ∙ same_signed (residue o) (residue_small o))
    ∙ int_wrap-add_right w32 (signed_of sp) (signed_of (residue o)) ∙ sym (sum_of sp (residue o) p (residue_small o)))

pub small_itself : (c : ℕ) → c < 2 ^ 12 → signed_of c ≡ pos c
small_itself c small = to_z_pos w32 (omega (arith, small))

-- an access at a known offset
pub moved_up : (sp x c : ℕ) → ((sp + x) % 2 ^ 32 + c) % 2 ^ 32 ≡ (sp + (x + c) % 2 ^ 32) % 2 ^ 32
moved_up sp x c = omega arith

pub moved_down : (sp x c : ℕ) → c < 2 ^ 12 → ((sp + x) % 2 ^ 32 + 2 ^ 32 - c) % 2 ^ 32 ≡ (sp + (x + 2 ^ 32 - c) % 2 ^ 32) % 2 ^ 32
moved_down sp x c small = omega (arith, small)

-- the word at an offset, and other words
pub word_is : (sp e k : ℕ) → 4 * k ≤ 2 ^ 32 → (e + 4 * k) % 2 ^ 32 ≡ 0 → (sp + e) % 2 ^ 32 ≡ (sp + 2 ^ 32 - 4 * k) % 2 ^ 32
word_is sp e k small is = omega (arith, small, is)

pub word_isnt : (sp e k : ℕ) → 4 * k ≤ 2 ^ 32 → ((e + 4 * k) % 2 ^ 32 ≡ 0 → ⊥) → (sp + 2 ^ 32 - 4 * k) % 2 ^ 32 ≢ (sp + e) % 2 ^ 32
word_isnt sp e k small isnt same = isnt (omega (arith, small, same))

-- a word of which no byte is stored
near : (sp e k r a w : ℕ) → 4 * k ≤ 2 ^ 32 → w ≡ (sp + 2 ^ 32 - 4 * k) % 2 ^ 32 → a ≡ (sp + e) % 2 ^ 32 → w + r ≡ a → r < 4 →
    (e + 4 * k) % 2 ^ 32 < 4
near sp e k r a w small one two sum less = omega (arith, small, one, two, sum, less)

first_off : (x y : Bool) → x || y ≡ false → x ≡ false
first_off true y off = off
first_off false y off = refl

parted : (a w : ℕ) → w ≡ a - a % 4 → w + a % 4 ≡ a
parted a w is = omega (arith, is)

pub apart : (sp e k bytes a : ℕ) → 4 * k ≤ 2 ^ 32 → touches e bytes k ≡ false → a ≡ (sp + e) % 2 ^ 32 → word_address sp k ≢ word_holding a
apart sp e k bytes a small away at same =
    let far = ltb-false ((e + 4 * k) % 2 ^ 32) 4 (first_off _ _ away) in
    let close = near sp e k (a % 4) a (word_address sp k) small refl at (parted a (word_address sp k) same) (omega arith) in
    wrong ((e + 4 * k) % 2 ^ 32) far close
  where
    wrong : (d : ℕ) → 4 ≤ d → d < 4 → ⊥
    wrong d far close = omega (arith, far, close)

pub moved_is : (sp : ℕ) (up : Bool) (n : ℕ) (o : ℤ) (c : ℕ) → n ≡ (sp + residue o) % 2 ^ 32 → c < 2 ^ 12 → cond up ((n + c) % 2 ^ 32)
    ((n + 2 ^ 32 - c) % 2 ^ 32) ≡ (sp + moved up (residue o) c) % 2 ^ 32
moved_is sp true n o c is small = ap (λ (k : ℕ). (k + c) % 2 ^ 32) is ∙ moved_up sp (residue o) c
moved_is sp false n o c is small = ap (λ (k : ℕ). (k + 2 ^ 32 - c) % 2 ^ 32) is ∙ moved_down sp (residue o) c small

pub base_sum : (m c : ℕ) → m < 2 ^ 32 → c < 2 ^ 12 → IsCongruent (signed_of m +ℤ pos c) ((m + c) % 2 ^ 32)
base_sum m c p q = subst (λ (z : ℤ). IsCongruent (signed_of m +ℤ z) ((m + c) % 2 ^ 32)) (small_itself c q) (sum_of m c p (omega (arith, q)))

pub base_difference : (m c : ℕ) → m < 2 ^ 32 → c < 2 ^ 12 → IsCongruent (signed_of m +ℤ neg_ℤ (pos c)) ((m + 2 ^ 32 - c) % 2 ^ 32)
base_difference m c p q = subst (λ (z : ℤ). IsCongruent (signed_of m +ℤ neg_ℤ z) ((m + 2 ^ 32 - c) % 2 ^ 32)) (small_itself c q)
    (difference_of m c p (omega (arith, q)))
