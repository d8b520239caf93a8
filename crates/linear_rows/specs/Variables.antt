-- The order of variables: registers, stack words, parameters, the stack pointer at the start, loop counts;
-- within a kind by number.
use Rattle.std.specs.Prelude.{ℕ, ℤ, pos}
use Rattle.std.specs.declared.cmp.Ordering.{Ordering}
use Rattle.std.specs.Ordering.{ordering_then, nat_cmp, int_cmp}
use Rattle.linear_rows.specs.declared.rows.Var.{Var}
use Rattle.linear_rows.specs.declared.rows.Var.TheVariants.{Register, Word, Param, StartSp, Count}

-- which of the five kinds a variable is
abbrev pub kind_of : Var → ℕ
kind_of (Register n) = 0
kind_of (Word offset) = 1
kind_of (Param n) = 2
kind_of StartSp = 3
kind_of (Count n) = 4

-- its number within the kind
abbrev pub number_of : Var → ℤ
number_of (Register n) = pos n
number_of (Word offset) = offset
number_of (Param n) = pos n
number_of StartSp = pos 0
number_of (Count n) = pos n

-- by kind, and then by number
abbrev pub var_cmp : Var → Var → Ordering
var_cmp a b = ordering_then (nat_cmp (kind_of a) (kind_of b)) (int_cmp (number_of a) (number_of b))
