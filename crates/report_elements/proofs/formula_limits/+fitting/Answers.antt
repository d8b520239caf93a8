use Rattle.std.proofs.Common.{◌∙◌, ap, ◌-◌, arith}
use Rattle.report_elements.specs.Constants.{list_fits}
use Rattle.report_elements.specs.FormulaReading.{fits}
use Rattle.report_elements.proofs.FormulaLaws.{once_at, power_at, scaled_at}
use Rattle.report_elements.proofs.formula_limits.+fitting.Goals as goal

pub term_fits-returns-in-Power : goal.term_fits-returns-in-Power
term_fits-returns-in-Power t c =
    power_at c.args.loops c.in-Power.id c.args.room c.in-Power.body c.args.term.now c.term_fits.result c.named.result c.in-Power.is (omega (arith, c.if-room-eq0.false))
    (c.term_fits.ensures ∙ ap (λ x. fits c.args.loops list_fits x (c.args.room - 1)) c.get.ensures)
    c.named.ensures

pub term_fits-returns-in-Scaled : goal.term_fits-returns-in-Scaled
term_fits-returns-in-Scaled t c =
    scaled_at c.args.loops c.in-Scaled.id c.args.room c.in-Scaled.body c.args.term.now c.term_fits-in-Scaled.result c.named-in-Scaled.result c.in-Scaled.is (omega (arith, c.if-room-eq0.false))
    (c.term_fits-in-Scaled.ensures ∙ ap (λ x. fits c.args.loops list_fits x (c.args.room - 1)) c.get-in-Scaled.ensures)
    c.named-in-Scaled.ensures

pub term_fits-returns-in-Once : goal.term_fits-returns-in-Once
term_fits-returns-in-Once t c =
    once_at c.args.loops c.args.room c.in-Once.body c.args.term.now c.term_fits-in-Once.result c.in-Once.is (omega (arith, c.if-room-eq0.false))
    (c.term_fits-in-Once.ensures ∙ ap (λ x. fits c.args.loops list_fits x (c.args.room - 1)) c.get-in-Once.ensures)
