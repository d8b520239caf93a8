-- What tests of signed numbers and of origins say.
use Rattle.std.proofs.Common.{◌≡◌, refl, sym, ap, ◌∙◌, subst, ◌⊎◌, true, false, ℤ, ◌+ℤ◌, ◌≤ℤ◌, arith}
use Rattle.std.specs.Prelude.{◌≢◌, ◌<ℤ◌, int_le}
use Rattle.std.specs.Int.{int_max, int_min}
use Rattle.std.specs.Ordering.{int_eq}
use Rattle.std.proofs.lemmas.Bool.{eqb-true, false≢true}
use Rattle.std.proofs.lemmas.Int.{ints}
use Rattle.std.proofs.lemmas.Bool.Decides.{nat_tests}
use Rattle.path_facts.specs.declared.origin.Origin.{Origin}
use Rattle.path_facts.specs.declared.origin.Origin.TheVariants as origin
use Rattle.path_facts.specs.Facts.{is_signed_word}
use Rattle.fact_lattice.specs.Cells.{is_start_sp, same_origin}

pub le_true : (a b : ℤ) → int_le a b ≡ true → a ≤ℤ b
le_true a b e = grind (arith, ints)

pub le_false : (a b : ℤ) → int_le a b ≡ false → b <ℤ a
le_false a b e = grind (arith, ints)

pub true_le : (a b : ℤ) → a ≤ℤ b → int_le a b ≡ true
true_le a b h = grind (arith, ints)

pub eq_true : (a b : ℤ) → int_eq a b ≡ true → a ≡ b
eq_true a b e = grind (arith, nat_tests)

pub eq_false : (a b : ℤ) → int_eq a b ≡ false → a ≢ b
eq_false a b e = grind (arith, nat_tests)

pub true_eq : (a b : ℤ) → a ≡ b → int_eq a b ≡ true
true_eq a b e = grind (arith, nat_tests)

pub false_eq : (a b : ℤ) → a ≢ b → int_eq a b ≡ false
false_eq a b e = grind (arith, nat_tests)

pub same_true : (o q : Origin) → same_origin o q ≡ true → o ≡ q
same_true origin.Zero origin.Zero e = refl
same_true origin.Zero (origin.AtStart q) e = absurd (false≢true e)
same_true (origin.AtStart r) origin.Zero e = absurd (false≢true e)
same_true (origin.AtStart r) (origin.AtStart q) e = ap (λ x. origin.AtStart x) (eqb-true r q e)

pub same_itself : (o : Origin) → same_origin o o ≡ true
same_itself origin.Zero = refl
same_itself (origin.AtStart r) = grind (arith, nat_tests)

pub same_false : (o q : Origin) → same_origin o q ≡ false → o ≢ q
same_false o q e h = false≢true (sym (subst (λ x. same_origin o x ≡ false) (sym h) e) ∙ same_itself o)

pub stacks_same : (o q : Origin) → is_start_sp o ≡ true → is_start_sp q ≡ true → o ≡ q
stacks_same origin.Zero q e f = absurd (false≢true e)
stacks_same (origin.AtStart r) origin.Zero e f = absurd (false≢true f)
stacks_same (origin.AtStart r) (origin.AtStart q) e f = ap (λ x. origin.AtStart x) (eqb-true r 13 e ∙ sym (eqb-true q 13 f))

pub min_either : (a b : ℤ) → (int_min a b ≡ a) ⊎ (int_min a b ≡ b)
min_either a b = grind arith

pub max_either : (a b : ℤ) → (int_max a b ≡ a) ⊎ (int_max a b ≡ b)
max_either a b = grind arith

pub min_left : (a b c : ℤ) → a ≤ℤ c → int_min a b ≤ℤ c
min_left a b c h = grind (arith, ints)

pub min_right : (a b c : ℤ) → b ≤ℤ c → int_min a b ≤ℤ c
min_right a b c h = grind (arith, ints)

pub max_left : (a b c : ℤ) → c ≤ℤ a → c ≤ℤ int_max a b
max_left a b c h = grind (arith, ints)

pub max_right : (a b c : ℤ) → c ≤ℤ b → c ≤ℤ int_max a b
max_right a b c h = grind (arith, ints)

-- what lies between two numbers that fit does
pub fits_between : (a b c by : ℤ) → a ≤ℤ c → c ≤ℤ b → is_signed_word (a +ℤ by) ≡ true → is_signed_word (b +ℤ by) ≡ true → is_signed_word
    (c +ℤ by) ≡ true
fits_between a b c by h k e f = grind (arith, ints)
