use Rattle.basic_blocks.proofs.VisitLemmas.{route_visits}
use Rattle.basic_blocks.proofs.laws.routes_go_by_blocks.Goals as goal

pub returns : goal.returns
returns c ways start bs xs are route first = route_visits ways start bs are xs (route, first)
