-- A signed offset's bits are its number modulo 2^32.
use Rattle.std.proofs.Common.{◌≡◌, ℤ, pos, negsuc, neg_ℤ, ◌≤ℤ◌, ◌<ℤ◌, ◌^◌, arith}
use Rattle.std.proofs.lemmas.Int.{ints}
use Rattle.std.specs.Int.{cast_unsigned, w32}
use Rattle.path_facts.specs.Sources.{residue}

pub residue_cast : (o : ℤ) → neg_ℤ (pos (2 ^ 31)) ≤ℤ o → o <ℤ pos (2 ^ 31) → cast_unsigned w32 o ≡ residue o
residue_cast (pos n) low high = omega (arith, ints, high)
residue_cast (negsuc n) low high = omega (arith, ints, low)
