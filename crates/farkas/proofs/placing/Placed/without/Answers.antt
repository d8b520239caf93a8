use Rattle.std.proofs.Common.{rules, ◌≡◌, ◌∙◌, ap, ℤ, pos, ◌*ℤ◌, get_or, to_z, of_z}
use Rattle.std.specs.Prelude.{◌-ℤ◌}
use Rattle.std.specs.Int.{w128}
use Rattle.std.proofs.lemmas.Int.{to_z-of_z}
use Rattle.linear_rows.specs.declared.rows.Var.TheVariants.{Register}
use Rattle.linear_rows.specs.declared.rows.RowTerm.{RowTerm}
use Rattle.farkas.specs.Points.{number_of}
use Rattle.farkas.proofs.Slacks.{slack_next, slack_fits_next}
use Rattle.farkas.proofs.placing.Placed.without.Goals as goal

none : RowTerm
none = record { var = Register 0; factor = pos 0 }

pub loop-term-preserved : goal.loop-term-preserved
unfolding none
loop-term-preserved c =
    let left : to_z w128 (of_z w128 c.in_ok-left.left) ≡ to_z w128 c.loop-term.left-bits -ℤ ((get_or c.args.terms.now c.loop-term.term-index none).factor *ℤ number_of c.args.self.now.vars c.args.self.now.numbers (get_or c.args.terms.now c.loop-term.term-index none).var) =
    to_z-of_z w128 c.in_ok-left.left (search rules) ∙ c.in_ok-left.ensures
    ∙ ap (λ (z : ℤ). to_z w128 c.loop-term.left-bits -ℤ (z *ℤ to_z w128 (of_z w128 c.number.result))) (to_z-of_z w128 (get_or c.args.terms.now c.loop-term.term-index none).factor (search rules))
    ∙ ap (λ (z : ℤ). to_z w128 c.loop-term.left-bits -ℤ ((get_or c.args.terms.now c.loop-term.term-index none).factor *ℤ z)) (to_z-of_z w128 c.number.result (record { sfits = c.number.type_inv }) ∙ c.number.ensures) in
    record {
      told = slack_next c.loop-term.term-index c.args.terms.now none c.args.self.now (to_z w128 c.loop-term.left-bits) (to_z w128 (of_z w128 c.in_ok-left.left)) c.loop-term-test.true left
          ∙ c.loop-term.invariant.told;
      fits = λ e. c.loop-term.invariant.fits (slack_fits_next c.loop-term.term-index c.args.terms.now none c.args.self.now (to_z w128 c.loop-term.left-bits) (to_z w128 (of_z w128 c.in_ok-left.left)) c.loop-term-test.true left e);
    }
