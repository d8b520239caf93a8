-- The line of a value.
use Rattle.std.specs.Prelude.{ℕ, List, ◌++◌, codes}
use Rattle.std.specs.Fmt.{decimal}
use Rattle.wsym_terms.specs.declared.costs.Cost.{Cost}
use Rattle.wsym_terms.specs.declared.costs.Cost.TheVariants.{Fin, Beyond, Unbounded}

abbrev pub value_text : Cost → List ℕ
value_text (Fin cycles) = codes "value " ++ decimal cycles ++ codes "\n"
value_text Beyond = codes "value beyond\n"
value_text Unbounded = codes "value unbounded\n"
