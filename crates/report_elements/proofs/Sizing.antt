-- Sums up to a limit.
use Rattle.std.proofs.Common.{◌≡◌, ℕ, zero, suc, ◌+◌, ◌<◌, ◌≤◌, min, List, [], ◌∷◌, length, map, take, refl, sym, ap, ◌∙◌, arith, Bool, true, false, nat_le, nat_lt}
use Rattle.std.proofs.lemmas.Bool.Decides.{nat_tests}
use Rattle.std.proofs.Math.Nat.{min-le_left, min-le_right, min-eq_left}

pub capped_sum : (a b m : ℕ) → min (min a m + min b m) m ≡ min (a + b) m
capped_sum a b m = omega arith
