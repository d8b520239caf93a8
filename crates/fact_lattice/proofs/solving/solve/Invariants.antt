use Rattle.std.proofs.Common.{◌≡◌, ◌+◌, ◌*◌}
use Rattle.std.specs.Ordering.{nat_cmp}
use Rattle.std.specs.BTreeSet as tree
use Rattle.std.specs.BTreeSet.{btree_set_len}
use Rattle.fact_lattice.specs.Searches.{IsSolving}
use Rattle.fact_lattice.proofs.solving.solve.Given as goal

abbrev pub invariant-loop-point : goal.invariant-loop-point
invariant-loop-point g l =
    let M = g.M.Merging in
    record {
      sound : M.sound l.states;
      same : M.flow l.states ≡ M.flow l.fn.states;
      solving : IsSolving (M.flow l.fn.states) (M.map l.states) (tree.contains nat_cmp l.waiting);
    }

abbrev pub decreases-loop-point : goal.decreases-loop-point
decreases-loop-point g l = btree_set_len l.waiting + 2 * g.M.Merging.weight l.states
