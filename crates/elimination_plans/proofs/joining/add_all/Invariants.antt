use Rattle.std.proofs.Common.{◌≡◌, ℕ, take}
use Rattle.elimination_plans.specs.AddedWays.{listed, all_added, Once}
use Rattle.elimination_plans.proofs.joining.add_all.Given as goal

abbrev pub invariant-loop-from : goal.invariant-loop-from
invariant-loop-from l = Once l.sources → Once l.targets → (x y : ℕ) → listed l.ways x y ≡ all_added (take l.from-index l.sources) l.targets
    l.entry (listed l.fn.ways) x y
