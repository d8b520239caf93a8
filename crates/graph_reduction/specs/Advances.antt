-- One use of a rule.
use Rattle.std.specs.Prelude.{◌≡◌, Bool, true, false, Some, None}
use Rattle.graph_search.specs.Flows.{Flow}
use Rattle.graph_reduction.specs.Reduction.{State, step}

-- whether a rule fits, and the state after it
abbrev pub Advanced : Flow → State → State → Bool → Type 0
Advanced flow s t true = step flow s ≡ Some t
Advanced flow s t false = (step flow s ≡ None) × (t ≡ s)
