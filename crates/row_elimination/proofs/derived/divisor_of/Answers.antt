use Rattle.std.proofs.Common.{ap, ◌∙◌, max}
use Rattle.row_elimination.proofs.Summing.{common_to_z}
use Rattle.row_elimination.proofs.derived.divisor_of.Goals as goal

pub returns : goal.returns
returns c =
    c.max.ensures ∙ ap (λ n. max n 1) (common_to_z c.args.last c.args.constant c.args.terms.now c.loop-term.term-index c.loop-term.divisor
    (record { sfits = c.ranges.last.sfits }) (record { sfits = c.ranges.constant.sfits }) c.loop-term-test.false c.loop-term.invariant)
