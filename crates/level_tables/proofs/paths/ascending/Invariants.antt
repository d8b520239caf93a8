use Rattle.std.proofs.Common.{◌≡◌, ◌<◌, ℕ, length, nat_eq, true, ◌||◌}
use Rattle.std.specs.Ordering.{nat_cmp}
use Rattle.std.specs.BTreeSet as set
use Rattle.graph_search.specs.NodeLists.{holds}
use Rattle.graph_search.specs.Orders.{Rising}
use Rattle.level_tables.proofs.paths.ascending.Given as goal

abbrev pub invariant-loop-number : goal.invariant-loop-number
invariant-loop-number l =
    record {
      exact : (u : ℕ) → set.contains nat_cmp l.fn.numbers u ≡ (holds nat_eq u l.rising || set.contains nat_cmp l.numbers u);
      order : (u v : ℕ) → holds nat_eq u l.rising ≡ true → set.contains nat_cmp l.numbers v ≡ true → u < v;
      rising : Rising (λ u. u) l.rising;
    }

abbrev pub decreases-loop-number : goal.decreases-loop-number
decreases-loop-number l = length l.numbers.keys
