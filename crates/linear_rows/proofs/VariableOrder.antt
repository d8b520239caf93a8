-- The order of variables is total, and parts any two.
use Rattle.std.proofs.Common.{◌≡◌, refl, ap, ◌∙◌, pos, arith}
use Rattle.std.specs.declared.cmp.Ordering.{Ordering}
use Rattle.std.specs.declared.cmp.Ordering.TheVariants.{Less, Equal, Greater}
use Rattle.std.specs.Ordering.{ordering_then, ordering_reverse, nat_cmp, int_cmp}
use Rattle.std.specs.Cmp.{IsTotalOrder, then_total, on_total, nat_cmp_total, int_cmp_total, tied_itself}
use Rattle.std.proofs.lemmas.Map.Lookups.{exact_signed, exact_unsigned}
use Rattle.linear_rows.specs.declared.rows.Var.{Var}
use Rattle.linear_rows.specs.declared.rows.Var.TheVariants.{Register, Word, Param, StartSp, Count}
use Rattle.linear_rows.specs.Variables.{kind_of, number_of, var_cmp}

pub var_cmp_total : IsTotalOrder var_cmp
var_cmp_total = then_total (on_total kind_of nat_cmp_total) (on_total number_of int_cmp_total)

both_equal : (o p : Ordering) → ordering_then o p ≡ Equal → (o ≡ Equal) × (p ≡ Equal)
both_equal Less p e = absurd (cc)
both_equal Equal p e = (refl, e)
both_equal Greater p e = absurd (cc)

same_kind : (a b : Var) → var_cmp a b ≡ Equal → kind_of a ≡ kind_of b
same_kind a b e = exact_unsigned _ _ (both_equal (nat_cmp (kind_of a) (kind_of b)) (int_cmp (number_of a) (number_of b)) e).0

same_number : (a b : Var) → var_cmp a b ≡ Equal → number_of a ≡ number_of b
same_number a b e = exact_signed _ _ (both_equal (nat_cmp (kind_of a) (kind_of b)) (int_cmp (number_of a) (number_of b)) e).1

by_parts : (a b : Var) → kind_of a ≡ kind_of b → number_of a ≡ number_of b → a ≡ b
by_parts (Register m) (Register n) k e = ap Register (let h : pos m ≡ pos n = e in cc)
by_parts (Word m) (Word n) k e = ap Word e
by_parts (Param m) (Param n) k e = ap Param (let h : pos m ≡ pos n = e in cc)
by_parts StartSp StartSp k e = refl
by_parts (Count m) (Count n) k e = ap Count (let h : pos m ≡ pos n = e in cc)
by_parts a b k e = absurd (omega arith)

-- variables that the order doesn't part are one
pub same_var : (a b : Var) → var_cmp a b ≡ Equal → a ≡ b
same_var a b e = by_parts a b (same_kind a b e) (same_number a b e)

pub less_trans : (a b c : Var) → var_cmp a b ≡ Less → var_cmp b c ≡ Less → var_cmp a c ≡ Less
less_trans = var_cmp_total.trans

pub greater_less : (a b : Var) → var_cmp a b ≡ Greater → var_cmp b a ≡ Less
greater_less a b e = var_cmp_total.antisymm b a ∙ ap ordering_reverse e

pub less_greater : (a b : Var) → var_cmp b a ≡ Less → var_cmp a b ≡ Greater
less_greater a b e = var_cmp_total.antisymm a b ∙ ap ordering_reverse e

pub equal_itself : (a : Var) → var_cmp a a ≡ Equal
equal_itself = tied_itself var_cmp_total
