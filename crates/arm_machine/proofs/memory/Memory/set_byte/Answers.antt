use Rattle.std.proofs.Common.{ap, ◌∙◌}
use Rattle.std.specs.FinMap as map
use Rattle.arm_machine.specs.Memories.{Held, start_entries}
use Rattle.arm_machine.proofs.Lookups.{insert_held}
use Rattle.arm_machine.proofs.memory.Memory.set_byte.Goals as goal

pub returns-clause-bytes : goal.returns-clause-bytes
returns-clause-bytes c =
    insert_held c.self.inside.written.entries c.insert.new.self.entries (start_entries c.self.inside.image.now c.self.inside.bottom c.self.inside.room) c.args.address c.args.byte c.in-Ok.ensures.updates.0
    ∙ ap (λ (h : Held). map.insert h.bytes c.args.address c.args.byte) c.self.view_is
