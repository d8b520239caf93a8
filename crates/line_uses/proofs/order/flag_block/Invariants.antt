use Rattle.std.proofs.Common.{◌≡◌, ◌<◌, ℕ, true, nat_eq, drop, length}
use Rattle.std.specs.Prelude.{None}
use Rattle.graph_search.specs.NodeLists.{holds}
use Rattle.line_uses.specs.PointMaps.{code_of}
use Rattle.line_uses.specs.Scopes.{use_points}
use Rattle.line_uses.proofs.OrderLemmas.{AreFlagged}
use Rattle.line_uses.proofs.order.flag_block.Given as goal

abbrev pub invariant-loop-point : goal.invariant-loop-point
invariant-loop-point l =
    record {
      size : length l.flags.items ≡ length l.fn.flags.items;
      flagged : ((p : ℕ) → holds nat_eq p l.points ≡ true → p < length l.fn.flags.items)
          → AreFlagged (code_of l.tables) (use_points (code_of l.tables) None l.points)
          (use_points (code_of l.tables) l.before (drop l.point-index l.points)) l.fn.flags.items l.flags.items;
    }
