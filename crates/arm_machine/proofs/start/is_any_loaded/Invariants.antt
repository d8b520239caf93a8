use Rattle.std.proofs.Common.{◌≡◌, ◌-◌}
use Rattle.arm_machine.specs.Starting.{is_any_loaded}
use Rattle.arm_machine.proofs.start.is_any_loaded.Given as goal

-- none of the bytes so far is loaded
abbrev pub invariant-loop-byte : goal.invariant-loop-byte
invariant-loop-byte l = is_any_loaded l.image l.at (l.count - l._byte) ≡ is_any_loaded l.image l.address l.count
