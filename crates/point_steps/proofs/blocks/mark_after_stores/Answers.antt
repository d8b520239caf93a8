use Rattle.std.proofs.Common.{rules, sym}
use Rattle.arm_machine.specs.Blocks.{registers_of}
use Rattle.path_facts.specs.Sources.{mark_after_stores}
use Rattle.point_steps.proofs.Listed.{marks_on}
use Rattle.point_steps.proofs.blocks.mark_after_stores.Goals as goal

pub loop-listed-preserved : goal.loop-listed-preserved
loop-listed-preserved c =
    marks_on c.loop-listed.at c.next_offset-at.result c.args.list c.loop-listed.listed c.args.word c.args.saves
    c.loop-listed.mark c.mark_after_store-mark.result
    (mark_after_stores c.args.lowest (registers_of c.args.list) c.args.word c.args.saves c.args.before)
    (search rules) (search rules) (rw (sym c.is_saved.ensures) c.mark_after_store-mark.ensures)
    c.next_offset-at.ensures c.loop-listed.invariant
