use Rattle.std.proofs.Common.{◌∙◌}
use Rattle.wsym_formula.proofs.KeepingLaws.{renumbered_below, renumbered_means}
use Rattle.wsym_formula.proofs.keeping.keep_one.Goals as goal

pub place-requires : goal.place-requires
place-requires c = renumbered_below c.args.table.now c.args.numbers.now c.requires.kept.0 c.args.node.now c.in_ok-made.made c.requires.kept.1 c.requires.below c.in_ok-made.ensures

pub returns-clause-means : goal.returns-clause-means
returns-clause-means c = λ ts h. (c.in_ok-place.ensures.within, c.in_ok-place.ensures.means ∙ renumbered_means c.args.table.now c.args.numbers.now ts c.args.node.now c.in_ok-made.made h c.requires.below c.in_ok-made.ensures)
