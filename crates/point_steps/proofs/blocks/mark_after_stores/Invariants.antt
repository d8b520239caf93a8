use Rattle.std.proofs.Common.{◌≡◌}
use Rattle.arm_machine.specs.Blocks.{registers_of}
use Rattle.path_facts.specs.Sources.{mark_after_stores}
use Rattle.point_steps.proofs.Listed.{rest_of}
use Rattle.point_steps.proofs.blocks.mark_after_stores.Given as goal

-- the registers that are left, from the mark so far, give what all give
abbrev pub invariant-loop-listed : goal.invariant-loop-listed
invariant-loop-listed l = mark_after_stores l.at (rest_of l.list l.listed) l.word l.saves l.mark
    ≡ mark_after_stores l.fn.lowest (registers_of l.list) l.word l.saves l.fn.before
