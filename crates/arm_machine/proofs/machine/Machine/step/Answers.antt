use Rattle.arm_machine.specs.Machines.{state_of}
use Rattle.arm_machine.proofs.Making.{made}
use Rattle.arm_machine.proofs.machine.Machine.step.Goals as goal

pub returns-clause-step : goal.returns-clause-step
returns-clause-step c =
    made c.self.inside.image.now c.self.inside.timing.now (state_of c.self.inside.state) (state_of c.step.new.state) c.args.self.now c.step.result c.self.view_is c.step.ensures.step
