use Rattle.std.proofs.Common.{ap, ◌∙◌}
use Rattle.path_facts.specs.Sources.{mark_of}
use Rattle.point_steps.specs.Meanings.{source_meant}
use Rattle.copy_facts.proofs.StepLemmas.{done_entry}
use Rattle.copy_facts.proofs.stepping.word_after.Goals as goal

pub returns-then-done : goal.returns-then-done
returns-then-done c =
    done_entry c.args.stack c.args.site.now c.args.done c.args.facts.now c.args.word c.args.sp c.offset_of-offset.result
    (source_meant c.word_source.result) c.cell_from.result
    c.is_above_all-above.result c.mark_after.result c.if-done.true c.requires.sp c.offset_of-offset.ensures
    (c.word_source.ensures c.args.site.now.address c.args.site.now.literal)
    c.cell_from.ensures c.is_above_all-above.ensures
    (c.mark_after.ensures ∙ ap
    (λ e. mark_of c.args.stack c.offset_of-offset.result c.args.site.now.insn.op c.args.word e.kept) c.word_facts-before.ensures)
