-- Each line of the table gives fields within their ranges.
use Rattle.std.proofs.Common.{◌^◌, ◌||◌, ◌≡◌, ℕ, ◌<◌, true, false, Bool, arith, IfSome}
use Rattle.std.proofs.lemmas.Bool.Decides.{nat_tests}
use Rattle.std.proofs.lemmas.Nat.{or_of_32}
use Rattle.std.specs.Int.{rotate_right, w32}
use Rattle.std.proofs.lemmas.Int.{ints}
use Rattle.arm_isa.specs.declared.instruction.ShiftKind.{ShiftKind}
use Rattle.arm_isa.specs.declared.instruction.ShiftKind.TheVariants as kind
use Rattle.arm_isa.specs.Fields.{field}
use Rattle.arm_isa.specs.Ranges.{IsShift, IsOperand, IsOp}
use Rattle.arm_isa.specs.Decoding.{exchange_refused, exchange_op, multiply_refused, multiply_op, long_refused, long_op, half_refused, half_op, compute_refused, compute_op, immediate_shift, operand_field, shift_field, shift_kind_field, word_refused, word_op, block_refused, block_op, branch_op, shift_refused, shifted_by_register, rm_field, rs_field, table, first_fit}
use Rattle.arm_isa.proofs.TableLemmas.{table_keeps}

amount_range : (by : ShiftKind) (amount : ℕ) → amount < 32 → IsShift (immediate_shift by amount)
amount_range kind.Lsl amount h = h
amount_range kind.Lsr amount h = grind (arith, nat_tests)
amount_range kind.Asr amount h = grind (arith, nat_tests)
amount_range kind.Ror amount h = grind (arith, nat_tests)

shift_range : (w : ℕ) → IsShift (shift_field w)
shift_range w = amount_range (shift_kind_field w) (field w 7 5) (omega arith)

exchange_range : (w : ℕ) → exchange_refused w ≡ false → IsOp (exchange_op w)
exchange_range w h = grind (arith, nat_tests)

multiply_range : (w : ℕ) → multiply_refused w ≡ false → IsOp (multiply_op w)
multiply_range w h = grind (arith, nat_tests)

long_range : (w : ℕ) → long_refused w ≡ false → IsOp (long_op w)
long_range w h = grind (arith, nat_tests)

half_range : (w : ℕ) → half_refused w ≡ false → IsOp (half_op w)
half_range w h = grind (arith, nat_tests)

rotated_range : (n by : ℕ) → n < 2 ^ 32 → rotate_right w32 n by < 2 ^ 32
rotated_range n by h = grind (arith, or_of_32)

operand_range : (w : ℕ) → (shifted_by_register w ≡ true → (rm_field w < 15) × (rs_field w < 15)) → IsOperand (operand_field w)
operand_range w h = grind (arith, nat_tests, rotated_range)

last_false : (a b : Bool) → (a || b) ≡ false → b ≡ false
last_false true b h = cc
last_false false b h = h

beside_shift : (w : ℕ) → shift_refused w ≡ false → shifted_by_register w ≡ true → (rm_field w < 15) × (rs_field w < 15)
beside_shift w h by_register = grind (arith, nat_tests)

compute_range : (w : ℕ) → compute_refused w ≡ false → IsOp (compute_op w)
compute_range w h = (omega arith, omega arith, operand_range w (beside_shift w (last_false _ (shift_refused w) h)))

word_range : (w : ℕ) → word_refused w ≡ false → IsOp (word_op w)
word_range w h = grind (arith, nat_tests)

block_range : (w : ℕ) → block_refused w ≡ false → IsOp (block_op w)
block_range w h = grind (arith, nat_tests)

branch_range : (w : ℕ) → IsOp (branch_op w)
branch_range w = grind (arith, nat_tests, ints)

pub table_range : (w : ℕ) → IfSome (first_fit table w) (λ insn. IsOp insn.op)
table_range w =
    table_keeps IsOp w (exchange_range w) (multiply_range w) (long_range w) (half_range w) (compute_range w) (word_range w) (block_range w) (branch_range w)
