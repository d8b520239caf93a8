use Rattle.path_facts.specs.Facts.Location.{Register}
use Rattle.point_steps.specs.Meanings.{source_meant}
use Rattle.copy_facts.specs.Tables.{state_of_point}
use Rattle.copy_facts.proofs.StepLemmas.{done_cell}
use Rattle.copy_facts.proofs.stepping.register_after.Goals as goal

pub returns-then-done : goal.returns-then-done
returns-then-done c =
    done_cell c.args.stack c.args.site.now c.args.done (state_of_point c.args.facts.now)
    (Register c.args.register) c.offset_of-offset.result (source_meant c.register_source.result) c.cell_from.result
    c.if-done.true c.offset_of-offset.ensures (c.register_source.ensures c.args.stack) c.cell_from.ensures
