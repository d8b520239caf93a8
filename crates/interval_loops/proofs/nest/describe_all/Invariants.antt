use Rattle.std.proofs.Common.{◌≡◌, take}
use Rattle.interval_loops.specs.Nests.{infos_of}
use Rattle.interval_loops.proofs.nest.describe_all.Given as goal

abbrev pub invariant-loop-header : goal.invariant-loop-header
invariant-loop-header l = l.infos ≡ infos_of (take l.header-index l.headers) l.closers l.around
