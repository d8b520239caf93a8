use Rattle.std.proofs.Common.{rules}
use Rattle.linear_rows.specs.Steps.{signed}
use Rattle.linear_rows.proofs.SmallSums.{sum_small}
use Rattle.linear_rows.proofs.weighing.weigh_constants.Goals as goal

pub returns : goal.returns
returns c =
    sum_small (signed c.args.a.is_negative c.args.a.magnitude) c.args.first (signed c.args.b.is_negative c.args.b.magnitude) c.args.second
    c.in_ok-weigh_number.field-0 c.in_ok-weigh_number-2.field-0 c.sum.result (search rules) (search rules) (search rules)
