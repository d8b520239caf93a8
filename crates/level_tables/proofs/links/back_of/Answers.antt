use Rattle.std.specs.Ordering.{nat_cmp}
use Rattle.std.specs.BTreeMap as tree
use Rattle.node_elimination.specs.GivenLevels.{edges_of}
use Rattle.level_tables.specs.EdgeRows.{row_or}
use Rattle.level_tables.proofs.FoundNodeLemmas.{found_back}
use Rattle.level_tables.proofs.links.back_of.Goals as goal

pub returns-in-Ok : goal.returns-in-Ok
returns-in-Ok c =
    found_back (edges_of c.args.edges.now) (λ node. row_or (tree.get nat_cmp c.in_ok-rows.rows.rows node)) c.in_ok-rows.ensures
    c.args.end c.in-Ok.found c.in-Ok.ensures.found c.in-Ok.ensures.all
