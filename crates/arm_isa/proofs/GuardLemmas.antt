-- Each line of the table gives what its refusals say.
use Rattle.std.proofs.Common.{◌+◌, ◌-◌, ◌*◌, ◌∙◌, ◌/◌, ◌%◌, ◌^◌, ◌==◌, ◌&&◌, ◌||◌, ◌≡◌, ◌≢◌, ℕ, ◌<◌, refl, sym, subst, ap, true, false, not, Bool, arith, IfSome, if◌then◌else◌}
use Rattle.std.proofs.lemmas.Bool.Decides.{nat_tests}
use Rattle.std.proofs.lemmas.Nat.{field_of, ones-le}
use Rattle.std.proofs.Math.Pow.{mod-mod-pow}
use Rattle.arm_isa.specs.declared.instruction.Index.TheVariants.{Before, BeforeBack, After}
use Rattle.arm_isa.specs.declared.instruction.Offset.TheVariants.{Value as Bytes, Shifted as ShiftedOffset}
use Rattle.arm_isa.specs.declared.instruction.Shift.{Shift}
use Rattle.arm_isa.specs.declared.instruction.HalfKind.TheVariants.{Half as HalfWord, SignedByte, SignedHalf}
use Rattle.arm_isa.specs.Fields.{field, flag}
use Rattle.arm_isa.specs.Opcodes.{is_move, is_test}
use Rattle.arm_isa.specs.Guarantees.{IsApart, IsGuarded, IsShort}
use Rattle.arm_isa.specs.Writes.{is_listed, keeps_address}
use Rattle.arm_isa.specs.Decoding.{multiply_refused, multiply_op, long_refused, long_op, half_refused, half_op, compute_refused, compute_op, index_field, index_refused, i_bit, l_bit, b_bit, s_bit, w_bit, opcode_field, rn_field, rd_field, rm_field, shift_field, shift_refused, word_refused, word_op, writes_back, block_refused, block_op, table, first_fit}
use Rattle.arm_isa.proofs.TableLemmas.{table_keeps}

keeps_by : (p b : Bool) → keeps_address (if p then (if b then BeforeBack else Before) else After) ≡ (not p || b)
keeps_by true true = refl
keeps_by true false = refl
keeps_by false b = refl

keeps : (w : ℕ) → keeps_address (index_field w) ≡ true → writes_back w ≡ true
keeps w h = sym (keeps_by (flag w 24) (flag w 21)) ∙ h

-- a base that is written back
based : (w : ℕ) (r : Bool) → index_refused w r ≡ false → writes_back w ≡ true → (rn_field w < 15) × (rn_field w ≢ rd_field w) × (r ≡ true → rn_field w ≢ rm_field w)
based w r h back = grind (arith, nat_tests)

last_of : (a b : Bool) → (a || b) ≡ false → (a ≡ false) × (b ≡ false)
last_of true b h = cc
last_of false b h = (refl, h)

apart_by : (r : Bool) (rn rm value : ℕ) (shift : Shift) → (r ≡ true → rn ≢ rm) → IsApart rn (if r then ShiftedOffset rm shift else Bytes value)
apart_by true rn rm value shift h = h refl
apart_by false rn rm value shift h = tt

apart_not : (b : Bool) (rn rm value : ℕ) (shift : Shift) → (not b ≡ true → rn ≢ rm) → IsApart rn (if b then Bytes value else ShiftedOffset rm shift)
apart_not true rn rm value shift h = tt
apart_not false rn rm value shift h = h refl

-- data processing, by whether the operation is a test, whether it is a move, S, and whether the shift is refused
compute_by : (test move s shift : Bool) (rn rd : ℕ) → rd < 16 → ((test && not s) || (test && not (rd == 0)) || (move && not (rn == 0)) || (not test && s && (rd == 15)) || shift) ≡ false → (test ≡ true → (s ≡ true) × (rd ≡ 0)) × (move ≡ true → rn ≡ 0) × (test ≡ false → s ≡ true → rd < 15)
compute_by test move s shift rn rd small h = grind (arith, nat_tests)

compute_guard : (w : ℕ) → compute_refused w ≡ false → IsGuarded (compute_op w)
compute_guard w h = compute_by (is_test (opcode_field w)) (is_move (opcode_field w)) (s_bit w) (shift_refused w) (rn_field w) (rd_field w) (omega arith) h

multiply_guard : (w : ℕ) → multiply_refused w ≡ false → IsGuarded (multiply_op w)
multiply_guard w h = grind (arith, nat_tests)

long_guard : (w : ℕ) → long_refused w ≡ false → IsGuarded (long_op w)
long_guard w h = grind (arith, nat_tests)

word_stores : (w : ℕ) → ((rd_field w == 15) && not (l_bit w && not (b_bit w))) ≡ false → l_bit w ≡ false → rd_field w < 15
word_stores w h store = grind (arith, nat_tests)

word_bytes : (w : ℕ) → ((rd_field w == 15) && not (l_bit w && not (b_bit w))) ≡ false → b_bit w ≡ true → rd_field w < 15
word_bytes w h byte = grind (arith, nat_tests)

word_guard : (w : ℕ) → word_refused w ≡ false → IsGuarded (word_op w)
word_guard w h =
    let both : (((rd_field w == 15) && not (l_bit w && not (b_bit w))) ≡ false) × (index_refused w (i_bit w) ≡ false) = last_of _ (index_refused w (i_bit w)) h in (
      λ k. let b : (rn_field w < 15) × (rn_field w ≢ rd_field w) × (i_bit w ≡ true → rn_field w ≢ rm_field w) = based w (i_bit w) (both.1) (keeps w k) in
          (b.0, b.1, apart_by (i_bit w) (rn_field w) (rm_field w) (field w 0 12) (shift_field w) (b.2)),
      word_stores w (both.0),
      word_bytes w (both.0),
    )

kind_by : (a b load : Bool) → (not load && not a) ≡ false → load ≡ false → (if a then HalfWord else if b then SignedByte else SignedHalf) ≡ HalfWord
kind_by true b load h store = refl
kind_by false b true h store = cc
kind_by false b false h store = cc

short_by : (b : Bool) (rm value : ℕ) (shift : Shift) → value < 2 ^ 8 → IsShort (if b then Bytes value else ShiftedOffset rm shift)
short_by true rm value shift h = h
short_by false rm value shift h = tt

half_first : (w : ℕ) → half_refused w ≡ false → ((not (l_bit w) && not (field w 5 2 == 1)) ≡ false) × (index_refused w (not (flag w 22)) ≡ false)
half_first w h = grind (arith, nat_tests)

half_guard : (w : ℕ) → half_refused w ≡ false → IsGuarded (half_op w)
half_guard w h =
    let both : ((not (l_bit w) && not (field w 5 2 == 1)) ≡ false) × (index_refused w (not (flag w 22)) ≡ false) = half_first w h in (
      λ k. let b : (rn_field w < 15) × (rn_field w ≢ rd_field w) × (not (flag w 22) ≡ true → rn_field w ≢ rm_field w) = based w (not (flag w 22)) (both.1) (keeps w k) in
          (b.0, b.1, apart_not (flag w 22) (rn_field w) (rm_field w) (16 * field w 8 4 + field w 0 4) _ (b.2)),
      kind_by (field w 5 2 == 1) (field w 5 2 == 2) (l_bit w) (both.0),
      short_by (flag w 22) (rm_field w) (16 * field w 8 4 + field w 0 4) _ (omega arith),
    )

-- bit r of the list
low_bit : (w r j : ℕ) → (w % 2 ^ (j + 1 + r) / 2 ^ r) % 2 ^ 1 ≡ (w / 2 ^ r) % 2 ^ 1
low_bit w r j = ap (λ x. x % 2 ^ 1) (field_of w (j + 1) r) ∙ mod-mod-pow (w / 2 ^ r) j 1

listed_low : (w r : ℕ) → r < 16 → flag (field w 0 16) r ≡ flag w r
listed_low w r h =
    let e : 15 - r + 1 + r ≡ 16 = omega (arith, h) in
    let same : w / 2 ^ 0 ≡ w = omega arith in
    ap (λ x. x == 1) (subst (λ n. ((w / 2 ^ 0) % 2 ^ n / 2 ^ r) % 2 ^ 1 ≡ ((w / 2 ^ 0) / 2 ^ r) % 2 ^ 1) e (low_bit (w / 2 ^ 0) r (15 - r)) ∙ ap (λ v. (v / 2 ^ r) % 2 ^ 1) same)

list_15 : (w : ℕ) → flag w 15 ≡ false → is_listed (field w 0 16) 15 ≡ false
list_15 w h = grind (arith, nat_tests)

list_of : (w r : ℕ) → r < 16 → flag w r ≡ false → is_listed (field w 0 16) r ≡ false
list_of w r h off = rw (listed_low w r h, off) (grind (arith, nat_tests))

and_false : (a b : Bool) → (not a && b) ≡ false → a ≡ false → b ≡ false
and_false true b h e = cc
and_false false b h e = h

and_true : (a b : Bool) → (a && b) ≡ false → a ≡ true → b ≡ false
and_true true b h e = h
and_true false b h e = cc

block_parts : (w : ℕ) → block_refused w ≡ false → ((not (l_bit w) && flag w 15) ≡ false) × ((w_bit w && flag w (rn_field w)) ≡ false)
block_parts w h = grind (arith, nat_tests)

block_guard : (w : ℕ) → block_refused w ≡ false → IsGuarded (block_op w)
block_guard w h =
    let both : ((not (l_bit w) && flag w 15) ≡ false) × ((w_bit w && flag w (rn_field w)) ≡ false) = block_parts w h in (
      λ store. list_15 w (and_false (l_bit w) (flag w 15) (both.0) store),
      λ back. list_of w (rn_field w) (omega arith) (and_true (w_bit w) (flag w (rn_field w)) (both.1) back),
      ones-le 16 (field w 0 16) (omega arith),
    )

pub table_guard : (w : ℕ) → IfSome (first_fit table w) (λ insn. IsGuarded insn.op)
table_guard w =
    table_keeps IsGuarded w (λ h. tt) (multiply_guard w) (long_guard w) (half_guard w) (compute_guard w) (word_guard w) (block_guard w) tt
