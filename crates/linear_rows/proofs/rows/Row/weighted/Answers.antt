use Rattle.std.proofs.Common.{rules, sym, ◌∙◌}
use Rattle.linear_rows.specs.Steps.{signed}
use Rattle.linear_rows.proofs.Making.{weighted_row}
use Rattle.linear_rows.proofs.rows.Row.weighted.Goals as goal

pub returns-in-Some-2 : goal.returns-in-Some-2
returns-in-Some-2 c =
    weighted_row (signed c.args.a.is_negative c.args.a.magnitude) c.args.m (signed c.args.b.is_negative c.args.b.magnitude) c.args.n
    c.args.xs.now c.args.ys.now c.in-Some.constant c.in-Some-2.terms c.lowest.result
    (search rules) (sym c.in-Some-2.is ∙ c.in_ok-terms.ensures.exact) (search rules)
