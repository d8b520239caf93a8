-- How a constant is read: runs, each a value and a count, and the value that goes on for ever.
use Rattle.std.specs.Prelude.{ℕ, ◌^◌, ◌==◌, ◌&&◌, ◌||◌, if◌then◌else◌, Bool, true, false, List, [], ◌∷◌, ◌++◌, Option, Some, None, nat_lt}
use Rattle.std.specs.Option.{option_map, option_and_then}
use Rattle.wsym_terms.specs.declared.costs.Cost.{Cost}
use Rattle.wsym_terms.specs.declared.costs.Cost.TheVariants.{Fin, Beyond, Unbounded}
use Rattle.cost_multiset.specs.declared.costs.Run.{Run}
use Rattle.cost_multiset.specs.CostLists.{CostList}
use Rattle.report_elements.specs.Numbers.{number_below}

abbrev pub cost_number : List ℕ → Option ℕ
cost_number digits = number_below (2 ^ 127) 0 digits

abbrev pub run_of : Option ℕ → List ℕ → Option Run
run_of None digits = option_map (λ n. record { value = Fin n; count = 1 }) (cost_number digits)
run_of (Some v) digits = option_map (λ n. record { value = Fin v; count = n }) (number_below (2 ^ 63) 0 digits)

abbrev pub with_tail : List Run → List ℕ → List ℕ → Option CostList
with_tail runs digits [] = None
with_tail runs digits (b ∷ bs) =
    if b == 125 then option_map (λ n. record { runs = runs; tail = Fin n }) (cost_number digits)
    else with_tail runs (digits ++ b ∷ []) bs

abbrev pub last_run : List Run → Option ℕ → List ℕ → List ℕ → Option CostList
last_run runs None [] bs = with_tail runs [] bs
last_run runs None (d ∷ ds) bs = option_and_then (λ (r : Run). with_tail (runs ++ r ∷ []) [] bs) (run_of None (d ∷ ds))
last_run runs (Some v) digits bs =
    option_and_then (λ (r : Run). with_tail (runs ++ r ∷ []) [] bs) (run_of (Some v) digits)

abbrev pub runs_on : List Run → Option ℕ → List ℕ → List ℕ → Option CostList
runs_on runs value digits [] = None
runs_on runs value digits (b ∷ bs) =
    if b == 42 then option_and_then (λ (v : ℕ). runs_on runs (Some v) [] bs) (cost_number digits)
    else if b == 44 then option_and_then (λ (r : Run). runs_on (runs ++ r ∷ []) None [] bs) (run_of value digits)
    else if b == 124 then last_run runs value digits bs
    else runs_on runs value (digits ++ b ∷ []) bs

abbrev pub costs_of : List ℕ → Option CostList
costs_of [] = None
costs_of (b ∷ bs) = if b == 123 then runs_on [] None [] bs else None

abbrev pub cost_fits : Cost → Bool
cost_fits (Fin n) = nat_lt n (2 ^ 127)
cost_fits Beyond = false
cost_fits Unbounded = false

abbrev pub run_fits : Run → Bool
run_fits r = cost_fits r.value && nat_lt r.count (2 ^ 63)

abbrev pub runs_fit : List Run → Bool
runs_fit [] = true
runs_fit (r ∷ rs) = run_fits r && runs_fit rs

abbrev pub costs_fit : CostList → Bool
costs_fit c = runs_fit c.runs && cost_fits c.tail
