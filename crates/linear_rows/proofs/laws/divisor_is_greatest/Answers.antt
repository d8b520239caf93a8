use Rattle.linear_rows.proofs.Divisors.{divisor_greatest}
use Rattle.linear_rows.proofs.laws.divisor_is_greatest.Goals as goal

pub returns : goal.returns
returns c = divisor_greatest
