-- Lists of costs that are read: they descend, and their counts stay below the limit.
use Rattle.std.specs.Prelude.{ℕ, ◌^◌, ◌&&◌, if◌then◌else◌, Bool, List, Option, Some, None, nat_lt}
use Rattle.std.specs.Option.{option_and_then}
use Rattle.cost_multiset.specs.CostLists.{CostList, descends, places}
use Rattle.report_elements.specs.ConstantReading.{costs_fit, costs_of}

abbrev pub is_list : CostList → Bool
is_list c = descends c.runs c.tail && nat_lt (places c.runs) (2 ^ 63)

abbrev pub checked : CostList → Option CostList
checked c = if is_list c then Some c else None

abbrev pub list_of : List ℕ → Option CostList
list_of word = option_and_then checked (costs_of word)

abbrev pub list_fits : CostList → Bool
list_fits c = costs_fit c && is_list c
