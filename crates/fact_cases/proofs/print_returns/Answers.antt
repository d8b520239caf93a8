use Rattle.std.proofs.Common.{◌≡◌, subst, get_or}
use Rattle.std.specs.Prelude.{Some, None}
use Rattle.fact_cases.proofs.print_returns.Goals as goal

pub fact_of-requires : goal.fact_of-requires
fact_of-requires c p t e = c.requires p t (subst (λ fs. get_or fs p None ≡ Some t) c.as_slice-facts.ensures.value e)
