use Rattle.std.proofs.Common.{◌≡◌, None, sym, subst, rules}
use Rattle.arm_machine.specs.States.{State}
use Rattle.arm_machine.specs.Starts.{IsStart}
use Rattle.arm_machine.specs.Starting.{bad_start}
use Rattle.arm_machine.proofs.StartLaws.{starts}
use Rattle.arm_machine.proofs.machine.Machine.start.Goals as goal

pub returns-in-Ok-clause-starts : goal.returns-in-Ok-clause-starts
returns-in-Ok-clause-starts c inside =
    let image = c.args.image.now in
    let t = c.args.timing.now in
    let none : bad_start image c.args.sp c.args.stack ≡ None = search rules in
    subst (λ (s : State). IsStart image t c.args.entry c.args.stack c.args.values.now s) (sym c.in-Ok.ensures.state)
    (starts image t c.args.entry c.args.sp c.args.stack c.args.values.now c.ranges.sp.fits c.requires.stack c.requires.registers c.in-Ok.ensures.values c.in-Ok.ensures.own none c.holds_bytes.ensures.bytes inside)
