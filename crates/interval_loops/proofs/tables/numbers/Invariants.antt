use Rattle.std.proofs.Common.{◌≡◌, ◌≤◌, length}
use Rattle.interval_loops.specs.Tables.{AreNumbered}
use Rattle.interval_loops.proofs.tables.numbers.Given as goal

abbrev pub invariant-loop-row : goal.invariant-loop-row
invariant-loop-row l =
    record {
      place : l.block ≡ l.row-index;
      few : length l.headers.items ≤ l.row-index;
      are : AreNumbered l.closers l.row-index l.headers.items l.numbers.items;
    }
