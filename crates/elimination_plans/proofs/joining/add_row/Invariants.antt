use Rattle.std.proofs.Common.{◌≡◌, ℕ, take}
use Rattle.elimination_plans.specs.AddedWays.{listed, row_added, Once}
use Rattle.elimination_plans.proofs.joining.add_row.Given as goal

abbrev pub invariant-loop-to : goal.invariant-loop-to
invariant-loop-to l = Once l.targets → (x y : ℕ) → listed l.ways x y ≡ row_added l.from (take l.to-index l.targets) l.entry
    (listed l.fn.ways) x y
