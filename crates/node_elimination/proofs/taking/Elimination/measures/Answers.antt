use Rattle.node_elimination.proofs.StageStateLemmas.{measures_of, no_sizes, sizes_are}
use Rattle.node_elimination.proofs.taking.Elimination.measures.Goals as goal

pub returns-in_ok-depth-in-Some : goal.returns-in_ok-depth-in-Some
returns-in_ok-depth-in-Some c k s d held a b =
    measures_of k c.in-Some.cell _ _ c.in_ok-size-in-Some.ensures c.in_ok-depth-in-Some.ensures
    (sizes_are k s c.args.self.now c.args.from c.args.to c.in-Some.cell c.cell.result c.cell.ensures c.in-Some.is d held a b)

pub returns-in-None : goal.returns-in-None
returns-in-None c k s d held a b = no_sizes k s c.args.self.now c.args.from c.args.to c.cell.result c.cell.ensures c.in-None.is d held a b
