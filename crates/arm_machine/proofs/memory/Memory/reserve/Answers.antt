use Rattle.std.proofs.Common.{ap, ◌∙◌}
use Rattle.arm_machine.specs.Memories.{Held, start_entries}
use Rattle.arm_machine.proofs.Lookups.{same_held}
use Rattle.arm_machine.proofs.memory.Memory.reserve.Goals as goal

pub returns-clause-bytes : goal.returns-clause-bytes
returns-clause-bytes c =
    same_held c.self.inside.written.entries c.reserve.new.self.entries (start_entries c.self.inside.image.now c.self.inside.bottom c.self.inside.room) c.reserve.ensures.entries.2
    ∙ ap (λ (h : Held). h.bytes) c.self.view_is
