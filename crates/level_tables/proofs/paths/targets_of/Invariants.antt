use Rattle.std.proofs.Common.{◌≡◌, ℕ, ◌||◌, drop}
use Rattle.std.specs.Ordering.{nat_cmp}
use Rattle.std.specs.BTreeSet as set
use Rattle.level_tables.specs.PathEdges.{leads_inside}
use Rattle.level_tables.proofs.paths.targets_of.Given as goal

abbrev pub invariant-loop-edge : goal.invariant-loop-edge
invariant-loop-edge l = (u : ℕ) → leads_inside l.header l.end l.edges u
    ≡ (set.contains nat_cmp l.targets u || leads_inside l.header l.end (drop l.edge-index l.edges) u)
