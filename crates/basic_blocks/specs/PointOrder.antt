-- The order of the points of a function.
use Rattle.std.specs.Prelude.{◌≡◌}
use Rattle.std.specs.declared.cmp.Ordering.{Ordering}
use Rattle.std.specs.declared.cmp.Ordering.TheVariants.{Less}
use Rattle.std.specs.Ordering.{nat_cmp, on, then_cmp}
use Rattle.std.specs.Cmp.Lexicographic.{slice_cmp}
use Rattle.control_flow.specs.Points.{Point}

-- by the return addresses of the open calls, the oldest first, a list before what it begins; then by the address
abbrev pub point_cmp : Point → Point → Ordering
point_cmp = then_cmp (on (λ (p : Point). p.returns) (slice_cmp nat_cmp)) (on (λ (p : Point). p.address) nat_cmp)

abbrev pub Before : Point → Point → Type 0
Before p q = point_cmp p q ≡ Less
