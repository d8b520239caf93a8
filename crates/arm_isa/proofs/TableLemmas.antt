-- Which line of the table a word goes to, by its bits 27:25 and, where these are 000, by some more.
use Rattle.std.proofs.Common.{◌≡◌, ◌≢◌, ℕ, ◌<◌, refl, true, false, Bool, arith, Option, None, Some, IfSome, if◌then◌else◌, List, [], ◌∷◌, ◌∙◌}
use Rattle.std.proofs.lemmas.Bool.{ne_eqb}
use Rattle.std.proofs.lemmas.Bool.Decides.{nat_tests}
use Rattle.arm_isa.specs.Fields.{field, flag}
use Rattle.arm_isa.specs.declared.conditions.Condition.{Condition}
use Rattle.arm_isa.specs.declared.instruction.Insn.{Insn}
use Rattle.arm_isa.specs.declared.instruction.Op.{Op}
use Rattle.arm_isa.specs.Decoding.{Line, Decodes, table, first_fit, unless, exchange_fits, exchange_refused, exchange_op, multiply_fits, multiply_refused, multiply_op, long_fits, long_refused, long_op, half_fits, half_refused, half_op, extension_fits, compute_fits, compute_refused, compute_op, word_fits, word_refused, word_op, block_fits, block_refused, block_op, branch_fits, branch_op, condition_field, decoding}

-- no pattern of the first five lines fits a word whose bits 27:25 aren't 000

exchange_class : (w : ℕ) → field w 25 3 ≢ 0 → exchange_fits w ≡ false
exchange_class w h = grind (arith, nat_tests)

multiply_class : (w : ℕ) → field w 25 3 ≢ 0 → multiply_fits w ≡ false
multiply_class w h = grind (arith, nat_tests)

long_class : (w : ℕ) → field w 25 3 ≢ 0 → long_fits w ≡ false
long_class w h = grind (arith, nat_tests)

half_class : (w : ℕ) → field w 25 3 ≢ 0 → half_fits w ≡ false
half_class w h = grind (arith, nat_tests)

extension_class : (w : ℕ) → field w 25 3 ≢ 0 → extension_fits w ≡ false
extension_class w h = grind (arith, nat_tests)

-- the lines after them
abbrev general_lines : List Line
general_lines =
    Decodes compute_fits compute_refused compute_op
    ∷ Decodes word_fits word_refused word_op
    ∷ Decodes block_fits block_refused block_op
    ∷ Decodes branch_fits (λ _. false) branch_op
    ∷ []

after : (w : ℕ) → field w 25 3 ≢ 0 → first_fit table w ≡ first_fit general_lines w
after w h = rw (exchange_class w h, multiply_class w h, long_class w h, half_class w h, extension_class w h) refl

compute_fits_1 : (w : ℕ) → field w 25 3 ≡ 1 → compute_fits w ≡ true
compute_fits_1 w h = grind (arith, nat_tests)

pub to_compute : (w : ℕ) → field w 25 3 ≡ 1 → first_fit table w ≡ unless compute_refused compute_op w
to_compute w h = after w (λ e. omega arith) ∙ rw (compute_fits_1 w h) refl

compute_fits_more : (w : ℕ) → 1 < field w 25 3 → compute_fits w ≡ false
compute_fits_more w h = grind (arith, nat_tests)

word_fits_2 : (w : ℕ) → field w 25 3 ≡ 2 → word_fits w ≡ true
word_fits_2 w h = grind (arith, nat_tests)

word_fits_3 : (w : ℕ) → field w 25 3 ≡ 3 → flag w 4 ≡ false → word_fits w ≡ true
word_fits_3 w h b = grind (arith, nat_tests)

word_fits_none : (w : ℕ) → field w 25 3 ≡ 3 → flag w 4 ≡ true → word_fits w ≡ false
word_fits_none w h b = grind (arith, nat_tests)

word_fits_more : (w : ℕ) → 3 < field w 25 3 → word_fits w ≡ false
word_fits_more w h = grind (arith, nat_tests)

block_fits_not : (w : ℕ) → field w 25 3 ≢ 4 → block_fits w ≡ false
block_fits_not w h = grind (arith, nat_tests)

branch_fits_not : (w : ℕ) → field w 25 3 ≢ 5 → branch_fits w ≡ false
branch_fits_not w h = grind (arith, nat_tests)

pub to_word_constant : (w : ℕ) → field w 25 3 ≡ 2 → first_fit table w ≡ unless word_refused word_op w
to_word_constant w h = after w (λ e. omega arith) ∙ rw (compute_fits_more w (omega arith), word_fits_2 w h) refl

pub to_word_register : (w : ℕ) → field w 25 3 ≡ 3 → flag w 4 ≡ false → first_fit table w ≡ unless word_refused word_op w
to_word_register w h b = after w (λ e. omega arith) ∙ rw (compute_fits_more w (omega arith), word_fits_3 w h b) refl

pub to_media : (w : ℕ) → field w 25 3 ≡ 3 → flag w 4 ≡ true → first_fit table w ≡ None
to_media w h b = after w (λ e. omega arith) ∙ rw (compute_fits_more w (omega arith), word_fits_none w h b, block_fits_not w (λ e. omega arith), branch_fits_not w (λ e. omega arith)) refl

pub to_block : (w : ℕ) → field w 25 3 ≡ 4 → first_fit table w ≡ unless block_refused block_op w
to_block w h = after w (λ e. omega arith) ∙ rw (compute_fits_more w (omega arith), word_fits_more w (omega arith), h) refl

pub to_branch : (w : ℕ) → field w 25 3 ≡ 5 → first_fit table w ≡ unless (λ _. false) branch_op w
to_branch w h = after w (λ e. omega arith) ∙ rw (compute_fits_more w (omega arith), word_fits_more w (omega arith), block_fits_not w (λ e. omega arith), h) refl

pub to_nothing : (w : ℕ) → 5 < field w 25 3 → first_fit table w ≡ None
to_nothing w h = after w (λ e. omega arith) ∙ rw (compute_fits_more w (omega arith), word_fits_more w (omega arith), block_fits_not w (λ e. omega arith), branch_fits_not w (λ e. omega arith)) refl

-- bits 27:25 are 000

pub to_exchange : (w : ℕ) → field w 4 24 ≡ 0x12FFF1 → first_fit table w ≡ unless exchange_refused exchange_op w
to_exchange w h = rw h refl

exchange_apart : (w : ℕ) → field w 4 24 ≢ 0x12FFF1 → exchange_fits w ≡ false
exchange_apart w h = grind (arith, nat_tests)

-- a word with bits 7 and 4 set isn't BX
exchange_extension : (w : ℕ) → flag w 7 ≡ true → exchange_fits w ≡ false
exchange_extension w h = grind (arith, nat_tests)

multiply_half : (w : ℕ) → 0 < field w 5 2 → multiply_fits w ≡ false
multiply_half w h = grind (arith, nat_tests)

long_half : (w : ℕ) → 0 < field w 5 2 → long_fits w ≡ false
long_half w h = grind (arith, nat_tests)

half_fits_0 : (w : ℕ) → field w 25 3 ≡ 0 → flag w 7 ≡ true → flag w 4 ≡ true → 0 < field w 5 2 → half_fits w ≡ true
half_fits_0 w h upper lower bits = grind (arith, nat_tests)

pub to_half : (w : ℕ) → field w 25 3 ≡ 0 → flag w 7 ≡ true → flag w 4 ≡ true → 0 < field w 5 2 → first_fit table w ≡ unless half_refused half_op w
to_half w h upper lower bits = rw (exchange_extension w upper, multiply_half w bits, long_half w bits, half_fits_0 w h upper lower bits) refl

half_apart : (w : ℕ) → field w 5 2 ≡ 0 → half_fits w ≡ false
half_apart w h = grind (arith, nat_tests)

extension_fits_0 : (w : ℕ) → field w 25 3 ≡ 0 → flag w 7 ≡ true → flag w 4 ≡ true → extension_fits w ≡ true
extension_fits_0 w h upper lower = grind (arith, nat_tests)

multiply_fits_0 : (w : ℕ) → field w 25 3 ≡ 0 → flag w 7 ≡ true → flag w 4 ≡ true → field w 5 2 ≡ 0 → field w 22 3 ≡ 0 → multiply_fits w ≡ true
multiply_fits_0 w h upper lower bits zero = grind (arith, nat_tests)

pub to_multiply : (w : ℕ) → field w 25 3 ≡ 0 → flag w 7 ≡ true → flag w 4 ≡ true → field w 5 2 ≡ 0 → field w 22 3 ≡ 0 → first_fit table w ≡ unless multiply_refused multiply_op w
to_multiply w h upper lower bits zero = rw (exchange_extension w upper, multiply_fits_0 w h upper lower bits zero) refl

multiply_apart : (w : ℕ) → 0 < field w 22 3 → multiply_fits w ≡ false
multiply_apart w h = grind (arith, nat_tests)

long_fits_0 : (w : ℕ) → field w 25 3 ≡ 0 → flag w 7 ≡ true → flag w 4 ≡ true → field w 5 2 ≡ 0 → field w 23 2 ≡ 1 → long_fits w ≡ true
long_fits_0 w h upper lower bits one = grind (arith, nat_tests)

pub to_long : (w : ℕ) → field w 25 3 ≡ 0 → flag w 7 ≡ true → flag w 4 ≡ true → field w 5 2 ≡ 0 → field w 23 2 ≡ 1 → first_fit table w ≡ unless long_refused long_op w
to_long w h upper lower bits one = rw (exchange_extension w upper, multiply_apart w (omega arith), long_fits_0 w h upper lower bits one) refl

long_apart : (w : ℕ) → field w 23 2 ≢ 1 → long_fits w ≡ false
long_apart w h = grind (arith, nat_tests)

pub to_undefined : (w : ℕ) → field w 25 3 ≡ 0 → flag w 7 ≡ true → flag w 4 ≡ true → field w 5 2 ≡ 0 → 0 < field w 22 3 → field w 23 2 ≢ 1 → first_fit table w ≡ None
to_undefined w h upper lower bits more apart = rw (exchange_extension w upper, multiply_apart w more, long_apart w apart, half_apart w bits, extension_fits_0 w h upper lower) refl

-- where bits 7 and 4 aren't both 1
multiply_low : (w : ℕ) → (flag w 7 ≡ true → flag w 4 ≡ true → ⊥) → multiply_fits w ≡ false
multiply_low w low = grind (arith, nat_tests)

long_low : (w : ℕ) → (flag w 7 ≡ true → flag w 4 ≡ true → ⊥) → long_fits w ≡ false
long_low w low = grind (arith, nat_tests)

half_low : (w : ℕ) → (flag w 7 ≡ true → flag w 4 ≡ true → ⊥) → half_fits w ≡ false
half_low w low = grind (arith, nat_tests)

extension_low : (w : ℕ) → (flag w 7 ≡ true → flag w 4 ≡ true → ⊥) → extension_fits w ≡ false
extension_low w low = grind (arith, nat_tests)

compute_fits_0 : (w : ℕ) → field w 25 3 ≡ 0 → compute_fits w ≡ true
compute_fits_0 w h = grind (arith, nat_tests)

pub to_compute_register : (w : ℕ) → field w 25 3 ≡ 0 → field w 4 24 ≢ 0x12FFF1 → (flag w 7 ≡ true → flag w 4 ≡ true → ⊥) → first_fit table w ≡ unless compute_refused compute_op w
to_compute_register w h apart low = rw (exchange_apart w apart, multiply_low w low, long_low w low, half_low w low, extension_low w low, compute_fits_0 w h) refl

-- the table alone counts below the condition 15
pub below_fifteen : (w : ℕ) → field w 28 4 ≢ 15 → decoding w ≡ first_fit table w
below_fifteen w some = rw (ne_eqb (field w 28 4) 15 some) refl

-- what holds of the meaning of each line, where the line doesn't refuse the word, holds of what the table gives

kept_by : (Q : Op → Type 0) (b : Bool) (op : Op) (condition : Condition) → (b ≡ false → Q op) → IfSome {T = Insn} (if b then None else Some (record { condition = condition; op = op })) (λ insn. Q insn.op)
kept_by Q true op condition h = tt
kept_by Q false op condition h = h refl

kept : (Q : Op → Type 0) (refused : ℕ → Bool) (meaning : ℕ → Op) (w : ℕ) → (refused w ≡ false → Q (meaning w)) → IfSome (unless refused meaning w) (λ insn. Q insn.op)
kept Q refused meaning w h = kept_by Q (refused w) (meaning w) (condition_field w) h

either : (P : Insn → Type 0) (b : Bool) (x y : Option Insn) → IfSome x P → IfSome y P → IfSome (if b then x else y) P
either P true x y p q = p
either P false x y p q = q

pub table_keeps : (Q : Op → Type 0) (w : ℕ) → (exchange_refused w ≡ false → Q (exchange_op w)) → (multiply_refused w ≡ false → Q (multiply_op w)) → (long_refused w ≡ false → Q (long_op w)) → (half_refused w ≡ false → Q (half_op w)) → (compute_refused w ≡ false → Q (compute_op w)) → (word_refused w ≡ false → Q (word_op w)) → (block_refused w ≡ false → Q (block_op w)) → Q (branch_op w) → IfSome (first_fit table w) (λ insn. Q insn.op)
table_keeps Q w exchange multiply long half compute word block branch =
    either _ (exchange_fits w) _ _ (kept Q exchange_refused exchange_op w exchange)
    (either _ (multiply_fits w) _ _ (kept Q multiply_refused multiply_op w multiply)
    (either _ (long_fits w) _ _ (kept Q long_refused long_op w long)
    (either _ (half_fits w) _ _ (kept Q half_refused half_op w half)
    (either _ (extension_fits w) None _ tt
    (either _ (compute_fits w) _ _ (kept Q compute_refused compute_op w compute)
    (either _ (word_fits w) _ _ (kept Q word_refused word_op w word)
    (either _ (block_fits w) _ _ (kept Q block_refused block_op w block)
    (either _ (branch_fits w) _ None (kept Q (λ _. false) branch_op w (λ _. branch)) tt))))))))
