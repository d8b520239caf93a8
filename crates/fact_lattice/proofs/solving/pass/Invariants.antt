use Rattle.std.proofs.Common.{◌-◌, ◌≡◌, ◌+◌, ◌*◌, ◌≤◌}
use Rattle.std.specs.Ordering.{nat_cmp}
use Rattle.std.specs.BTreeSet as tree
use Rattle.std.specs.BTreeSet.{btree_set_len}
use Rattle.fact_lattice.specs.Searches.{Passed}
use Rattle.fact_lattice.proofs.solving.pass.Given as goal

abbrev pub invariant-loop-way : goal.invariant-loop-way
invariant-loop-way g l =
    let M = g.M.Merging in
    record {
      sound : M.sound l.states;
      same : M.flow l.states ≡ M.flow l.fn.states;
      within : l.way ≤ l.count;
      passed : Passed (M.flow l.fn.states) l.point l.way (M.map l.fn.states) (M.map l.states) (tree.contains nat_cmp l.fn.waiting)
          (tree.contains nat_cmp l.waiting);
      less : btree_set_len l.waiting + 2 * M.weight l.states ≤ btree_set_len l.fn.waiting + 2 * M.weight l.fn.states;
    }

abbrev pub decreases-loop-way : goal.decreases-loop-way
decreases-loop-way g l = l.count - l.way
