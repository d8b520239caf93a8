use Rattle.std.proofs.Common.{length, ◌≡◌, ◌+◌, ◌<◌}
use Rattle.std.specs.Io.KnownBytes.{Consumes}
use Rattle.wsym_io.proofs.streams.read_first.Given as goal

-- the bytes so far and the room that is left are `most`, and the reader has given these bytes
abbrev pub invariant-loop-room : goal.invariant-loop-room
invariant-loop-room g l = record {
  room : length l.bytes.items + l.room ≡ l.fn.most;
  block : 0 < length l.block.items;
  given : Consumes (g.R.Read.remaining l.fn.reader) (g.R.Read.remaining l.reader) l.bytes.items;
}

abbrev pub decreases-loop-room : goal.decreases-loop-room
decreases-loop-room g l = l.room
