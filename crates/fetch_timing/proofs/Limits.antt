-- What the limits of a timing give.
use Rattle.std.proofs.Common.{ℕ, ◌+◌, ◌*◌, ◌^◌, ◌<◌, ◌≤◌, zero, suc, refl, subst, sym, arith, List, [], ◌∷◌, get_or, lit≤}
use Rattle.std.specs.List.{AllByRecursion}
use Rattle.std.proofs.Math.Nat.{pow-suc, mul-le-mul}
use Rattle.fetch_timing.specs.declared.timing.Timing.{Timing}
use Rattle.fetch_timing.specs.Timings.{IsPowerOfTwo, IsWithinLimits, unit_timing}

some_power : (k : ℕ) → 0 < 2 ^ k
some_power zero = lit≤ tt
some_power (suc k) = let half = some_power k in rw pow-suc (omega (arith, half))

pub power_positive : (low high n : ℕ) → IsPowerOfTwo low high n → 0 < n
power_positive low high n p = subst (λ (m : ℕ). 0 < m) (sym p.3) (some_power p.0)

pub some_line : (t : Timing) → IsWithinLimits t → 0 < t.line
some_line t w = power_positive 2 6 t.line w.line

pub some_set : (t : Timing) → IsWithinLimits t → 0 < t.sets
some_set t w = power_positive 0 10 t.sets w.sets

pub limit_at : (cs : List ℕ) (place : ℕ) → AllByRecursion (λ cycles. cycles ≤ 1000000) cs → get_or cs place 0 ≤ 1000000
limit_at [] place h = lit≤ tt
limit_at (c ∷ cs) zero h = h.0
limit_at (c ∷ cs) (suc place) h = limit_at cs place h.1

-- what a done instruction costs at most
pub cost_limit : (classes : List ℕ) (place each moved : ℕ) → AllByRecursion (λ cycles. cycles ≤ 1000000) classes → each ≤ 1000000 → moved ≤ 16 → get_or classes place 0 + each * moved ≤ 17000000
cost_limit classes place each moved limits few short =
    let first = limit_at classes place limits in
    let rest = mul-le-mul few short in
    omega (arith, first, rest)

one : 1 ≤ 1000000
one = lit≤ tt

pub unit_within : IsWithinLimits unit_timing
unit_within = record {
  sets = (4, lit≤ tt, lit≤ tt, refl);
  some_way = lit≤ tt;
  ways = lit≤ tt;
  line = (4, lit≤ tt, lit≤ tt, refl);
  miss = lit≤ tt;
  skipped = lit≤ tt;
  register = lit≤ tt;
  classes = (one, (one, (one, (one, (one, (one, (one, (one, (one, (one, (one, tt)))))))))));
}
