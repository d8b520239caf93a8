-- Registers and ranges of parameters.
use Rattle.std.proofs.Common.{◌≡◌, ◌<◌, ◌==◌, List, [], ◌∷◌, ◌++◌, ◌||◌, Bool, true, false, refl, arith}
use Rattle.std.proofs.lemmas.Bool.Decides.{nat_tests}
use Rattle.std.specs.Str.{bytes_eq}
use Rattle.std.specs.List.{AllByRecursion, list_any}
use Rattle.wsym_terms.specs.declared.bounds.ParamRange.{ParamRange}
use Rattle.arm_machine.specs.declared.start.RegisterValue.{RegisterValue}
use Rattle.arm_machine.specs.Starting.{AreParameters}
use Rattle.command_words.specs.Analyses.{AreRanges, DiffersFrom, IsRange}

-- a register after others of which none is the same
pub all_differ : (p : RegisterValue) (values : List RegisterValue) (q : RegisterValue) → AllByRecursion (λ r. (r.register == p.register) ≡ false) values → (p.register == q.register) ≡ false → AllByRecursion (λ r. (r.register == p.register) ≡ false) (values ++ q ∷ [])
all_differ p [] q all other = (grind (arith, nat_tests), tt)
all_differ p (r ∷ values) q all other = (all.0, all_differ p values q all.1 other)

-- one parameter more
pub one_more : (values : List RegisterValue) (q : RegisterValue) → AreParameters values → q.register < 13 → list_any (λ r. r.register == q.register) values ≡ false → AreParameters (values ++ q ∷ [])
one_more [] q all low new = (low, tt, tt)
one_more (p ∷ values) q all low new =
    (all.0, all_differ p values q all.1 (grind (arith, nat_tests)), one_more values q all.2 low (grind (arith, nat_tests)))

split_or : (a b : Bool) → (a || b) ≡ false → (a ≡ false) × (b ≡ false)
split_or false b h = (refl, h)
split_or true b h = (h, absurd (cc))

-- a parameter after others, of none of which it has the name or the register
differ_more : (p : ParamRange) (params : List ParamRange) (q : ParamRange) → AllByRecursion (DiffersFrom p) params → DiffersFrom p q
    → AllByRecursion (DiffersFrom p) (params ++ q ∷ [])
differ_more p [] q all other = (other, tt)
differ_more p (r ∷ params) q all other = (all.0, differ_more p params q all.1 other)

-- one range more
pub one_range_more : (params : List ParamRange) (q : ParamRange) → AreRanges params → IsRange q
    → list_any (λ r. bytes_eq r.name q.name) params ≡ false → list_any (λ r. r.register == q.register) params ≡ false
    → AreRanges (params ++ q ∷ [])
one_range_more [] q all range new_name new_register = (range, tt, tt)
one_range_more (p ∷ params) q all range new_name new_register =
    let name = split_or (bytes_eq p.name q.name) (list_any (λ r. bytes_eq r.name q.name) params) new_name in
    let register = split_or (p.register == q.register) (list_any (λ r. r.register == q.register) params) new_register in
    (all.0, differ_more p params q all.1 (name.0, register.0), one_range_more params q all.2 range name.1 register.1)
