use Rattle.std.proofs.Common.{◌≡◌, ℤ, pos, ◌≤◌, ◌+ℤ◌, true, false, unsigned_abs, SFits, to_z-of_z, sym, ap, subst, ◌∙◌}
use Rattle.std.specs.Int.{w128, int_div_euclid}
use lib.Signed.{lt_z}
use Rattle.wsym_terms.specs.Bounds.{at_least_zero}
use Rattle.wsym_terms.proofs.BoundLaws.{abs_quotient, turns_fit, none_below, itself_above}
use Rattle.wsym_terms.proofs.bounds.turns.Goals as goal

pub returns-then-turns-lt0-clause-exact : goal.returns-then-turns-lt0-clause-exact
returns-then-turns-lt0-clause-exact c =
    let quotient : c.div_euclid-turns.result ≡ int_div_euclid c.args.sum c.args.divisor = rw (to_z-of_z c.ranges.sum, to_z-of_z c.ranges.divisor) at c.div_euclid-turns.ensures in
    let fits : SFits w128 c.div_euclid-turns.result = record { sfits = c.div_euclid-turns.type_inv } in
    let small : unsigned_abs c.div_euclid-turns.result ≤ unsigned_abs c.args.sum = subst (λ (z : ℤ). unsigned_abs z ≤ unsigned_abs c.args.sum) (sym quotient) (abs_quotient c.args.sum c.args.divisor c.requires.divisor) in
    let next : SFits w128 (c.div_euclid-turns.result +ℤ pos 1) = turns_fit c.div_euclid-turns.result (unsigned_abs c.args.sum) small c.requires.sum in
    let below : lt_z (c.div_euclid-turns.result +ℤ pos 1) (pos 0) ≡ true = rw (to_z-of_z fits, to_z-of_z next) at c.if-turns-lt0.true in
    none_below (c.div_euclid-turns.result +ℤ pos 1) below ∙ ap (λ (z : ℤ). at_least_zero (z +ℤ pos 1)) quotient

pub returns-else-turns-lt0-clause-exact : goal.returns-else-turns-lt0-clause-exact
returns-else-turns-lt0-clause-exact c =
    let quotient : c.div_euclid-turns.result ≡ int_div_euclid c.args.sum c.args.divisor = rw (to_z-of_z c.ranges.sum, to_z-of_z c.ranges.divisor) at c.div_euclid-turns.ensures in
    let fits : SFits w128 c.div_euclid-turns.result = record { sfits = c.div_euclid-turns.type_inv } in
    let small : unsigned_abs c.div_euclid-turns.result ≤ unsigned_abs c.args.sum = subst (λ (z : ℤ). unsigned_abs z ≤ unsigned_abs c.args.sum) (sym quotient) (abs_quotient c.args.sum c.args.divisor c.requires.divisor) in
    let next : SFits w128 (c.div_euclid-turns.result +ℤ pos 1) = turns_fit c.div_euclid-turns.result (unsigned_abs c.args.sum) small c.requires.sum in
    let above : lt_z (c.div_euclid-turns.result +ℤ pos 1) (pos 0) ≡ false = rw (to_z-of_z fits, to_z-of_z next) at c.if-turns-lt0.false in
    rw (to_z-of_z fits, to_z-of_z next) (itself_above (c.div_euclid-turns.result +ℤ pos 1) above ∙ ap (λ (z : ℤ). at_least_zero (z +ℤ pos 1)) quotient)
