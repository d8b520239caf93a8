use Rattle.std.proofs.Common.{◌≡◌}
use Rattle.arm_machine.specs.Blocks.{registers_of}
use Rattle.path_facts.specs.Sources.{loads_source}
use Rattle.point_steps.specs.Meanings.{source_meant}
use Rattle.point_steps.proofs.Listed.{rest_of}
use Rattle.point_steps.proofs.blocks.loads_source.Given as goal

-- the registers that are left, from what was found so far, give what all give
abbrev pub invariant-loop-listed : goal.invariant-loop-listed
invariant-loop-listed l = loads_source l.at (rest_of l.list l.listed) l.register (source_meant l.source)
    ≡ loads_source l.fn.lowest (registers_of l.list) l.register (source_meant l.fn.before)
