use Rattle.std.proofs.Common.{◌≡◌, drop, take}
use Rattle.arm_machine.specs.Starting.{AreParameters, ComesBack, with_values}
use Rattle.std.specs.List.{AllByRecursion}
use Rattle.std.specs.Prelude.{replicate}
use Rattle.arm_machine.proofs.start.start_cpu.Given as goal

-- the values that are left, in the registers so far, give what all give
abbrev pub invariant-loop-each : goal.invariant-loop-each
invariant-loop-each l = record {
  values : with_values l.registers (drop l.each-index l.values) ≡ with_values (replicate 15 0) l.values;
  back : AllByRecursion ComesBack (take l.each-index l.values);
  left : AreParameters (drop l.each-index l.values);
}
