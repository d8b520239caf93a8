use Rattle.std.proofs.Common.{◌≡◌, ◌+◌, ◌+ℤ◌, pos, w64, to_z, of_z, arith}
use Rattle.std.specs.Prelude.{int_le}
use Rattle.std.proofs.lemmas.Int.{ints}
use Rattle.fact_lattice.proofs.cells.is_near.Goals as goal

pub returns : goal.returns
returns c =
    let a = c.from.ensures in
    let b = c.from-2.ensures in
    let d = c.from-3.ensures in
    let f = c.ranges.high.sfits in
    let g = c.ranges.low.sfits in
    let h = c.ranges.stack.fits in
    let x : to_z w64 (of_z w64 c.from.result) ≡ c.args.high = omega (arith, ints, a, f) in
    let y : to_z w64 (of_z w64 (to_z w64 (of_z w64 (to_z w64 (of_z w64 c.from-2.result) +ℤ to_z w64 (of_z w64 c.from-3.result))) +ℤ pos 64))
    ≡ c.args.low +ℤ pos (c.args.stack + 64) = omega (arith, ints, b, d, g, h) in
    λ j. int_le (x j) (y j)
