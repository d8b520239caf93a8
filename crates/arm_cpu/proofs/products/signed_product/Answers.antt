use Rattle.std.proofs.Common.{ℤ, ◌*ℤ◌, ap, ◌∙◌}
use Rattle.std.specs.Int.{cast_signed, cast_unsigned, w32, w64}
use Rattle.arm_cpu.proofs.Signs.{low_bits}
use Rattle.arm_cpu.proofs.products.signed_product.Goals as goal

abbrev as_wide : ℤ → ℤ
as_wide z = cast_signed w64 (cast_unsigned w64 (cast_signed w32 (cast_unsigned w32 z)))

pub returns : goal.returns
returns c =
    c.cast_unsigned.ensures
    ∙ ap (λ (x : ℤ). cast_unsigned w64 (cast_signed w64 (cast_unsigned w64 (as_wide x *ℤ as_wide c.cast_signed-2.result)))) c.cast_signed.ensures
    ∙ ap (λ (y : ℤ). cast_unsigned w64 (cast_signed w64 (cast_unsigned w64 (as_wide (cast_signed w32 c.args.a) *ℤ as_wide y)))) c.cast_signed-2.ensures
    ∙ low_bits c.args.a c.args.b c.ranges.a.fits c.ranges.b.fits
