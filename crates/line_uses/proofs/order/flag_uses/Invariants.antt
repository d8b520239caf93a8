use Rattle.std.proofs.Common.{◌≡◌, ◌<◌, ℕ, true, nat_eq, drop, length, replicate, false}
use Rattle.graph_search.specs.NodeLists.{holds}
use Rattle.graph_search.specs.Rows.{row_in}
use Rattle.line_uses.specs.PointMaps.{code_of}
use Rattle.line_uses.specs.Scopes.{all_uses}
use Rattle.line_uses.proofs.OrderLemmas.{AreFlagged}
use Rattle.line_uses.proofs.order.flag_uses.Given as goal

abbrev pub invariant-loop-block : goal.invariant-loop-block
invariant-loop-block l =
    record {
      size : length l.flags.items ≡ length l.tables.home;
      flagged : ((b p : ℕ) → holds nat_eq p (row_in l.blocks b) ≡ true → p < length l.tables.home)
          → AreFlagged (code_of l.tables) (all_uses (code_of l.tables) l.blocks)
          (all_uses (code_of l.tables) (drop l.block-index l.blocks)) (replicate (length l.tables.home) false) l.flags.items;
    }
