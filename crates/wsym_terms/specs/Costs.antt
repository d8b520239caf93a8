-- Costs as numbers of cycles, their sums and their order.
use Rattle.std.specs.Prelude.{ℕ, ◌^◌, Bool, true, false, nat_lt, if◌then◌else◌}
use Rattle.wsym_terms.specs.Extents.{Extent, Finite, Infinite, plus, times}
use Rattle.wsym_terms.specs.declared.costs.Cost.{Cost}
use Rattle.wsym_terms.specs.declared.costs.Cost.TheVariants.{Fin, Beyond, Unbounded}

-- the cost that stands for a number of cycles
abbrev pub cost_of : Extent → Cost
cost_of (Finite n) = if nat_lt n (2 ^ 127) then Fin n else Beyond
cost_of Infinite = Unbounded

-- the least number of cycles that a cost may stand for
abbrev pub extent_of : Cost → Extent
extent_of (Fin n) = Finite n
extent_of Beyond = Finite (2 ^ 127)
extent_of Unbounded = Infinite

-- a number that stands for itself is below the limit
abbrev pub is_in_range : Cost → Bool
is_in_range (Fin n) = nat_lt n (2 ^ 127)
is_in_range Beyond = true
is_in_range Unbounded = true

abbrev pub sum_of : Cost → Cost → Cost
sum_of a b = cost_of (plus (extent_of a) (extent_of b))

-- a number of times a cost; 0 times is 0 also where no bound is known
abbrev pub times_of : ℕ → Cost → Cost
times_of n a = cost_of (times n (extent_of a))

abbrev pub is_less : Cost → Cost → Bool
is_less (Fin a) (Fin b) = nat_lt a b
is_less (Fin a) Beyond = true
is_less (Fin a) Unbounded = true
is_less Beyond (Fin b) = false
is_less Beyond Beyond = false
is_less Beyond Unbounded = true
is_less Unbounded b = false

abbrev pub larger_of : Cost → Cost → Cost
larger_of a b = if is_less a b then b else a
