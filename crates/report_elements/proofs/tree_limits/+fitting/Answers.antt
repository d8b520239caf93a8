use Rattle.std.proofs.Common.{◌∙◌, ap, ◌-◌, arith}
use Rattle.report_elements.specs.TreeReading.{fits}
use Rattle.report_elements.proofs.TreeLaws.{fits_loop_at}
use Rattle.report_elements.proofs.tree_limits.+fitting.Goals as goal

pub tree_fits-returns-in-Loop : goal.tree_fits-returns-in-Loop
tree_fits-returns-in-Loop t c =
    fits_loop_at c.args.blocks c.args.loops c.in-Loop.id c.args.room c.in-Loop.body c.in-Loop.exit c.args.tree.now c.tree_fits.result c.tree_fits-in-Loop.result c.loop_fits.result c.in-Loop.is (omega (arith, c.if-room-eq0.false))
    (c.tree_fits.ensures ∙ ap (λ x. fits c.args.blocks c.args.loops x (c.args.room - 1)) c.get.ensures)
    (c.tree_fits-in-Loop.ensures ∙ ap (λ x. fits c.args.blocks c.args.loops x (c.args.room - 1)) c.get-in-Loop.ensures)
    c.loop_fits.ensures
