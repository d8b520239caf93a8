use Rattle.cycle_bounds.proofs.RouteBoundLemmas.{route_misses}
use Rattle.cycle_bounds.proofs.laws.uses_of_routes_miss_once.Goals as goal

pub returns : goal.returns
returns c image t entry a sets route is some all_sets starts is_route =
    route_misses image t entry a is some sets all_sets route starts is_route
