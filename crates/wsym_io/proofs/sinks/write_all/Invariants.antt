use Rattle.std.proofs.Common.{length, ◌-◌, ◌≡◌, ◌≤◌, take}
use Rattle.wsym_io.specs.Io.{appended}
use Rattle.wsym_io.proofs.sinks.write_all.Given as goal

-- the sink has taken the text up to here, and its count of faults has not fallen
abbrev pub invariant-loop-at : goal.invariant-loop-at
invariant-loop-at g l = record {
  within : l.at ≤ length l.text;
  told : g.K.Sink.contents l.sink ≡ appended (g.K.Sink.contents l.fn.sink) (take l.at l.text);
  later : g.K.Sink.faults l.fn.sink ≤ g.K.Sink.faults l.sink;
}

abbrev pub decreases-loop-at : goal.decreases-loop-at
decreases-loop-at g l = length l.text - l.at
