use Rattle.std.proofs.Common.{◌≡◌, ◌*◌, ◌^◌, ◌≤◌, ◌+ℤ◌, unsigned_abs, drop}
use Rattle.wsym_terms.specs.Bounds.{linear_sum}
use Rattle.wsym_terms.proofs.bounds.linear.Given as goal

abbrev pub invariant-loop-coef : goal.invariant-loop-coef
invariant-loop-coef l = record {
  exact : l.sum +ℤ linear_sum (drop l.coef-index l.coefs) l.values ≡ linear_sum l.coefs l.values;
  small : unsigned_abs l.sum ≤ l.coef-index * 2 ^ 121;
}
