use Rattle.std.proofs.Common.{ap, ◌∙◌}
use Rattle.level_tables.specs.EdgeRows.{row_or}
use Rattle.level_tables.proofs.EdgeRowLemmas.{edge_added}
use Rattle.level_tables.proofs.links.EdgeRows.add.Goals.{in-Some, in-None}
use Rattle.level_tables.proofs.links.EdgeRows.add.Goals as goal

pub returns : goal.returns
returns c =
    edge_added c.args.from c.args.to c.args.self.now.rows c.remove.new.self c.insert.new.self c.match-remove.row c.push.new.self
    (elim c.match-remove.branch [
      | in-Some w ↦ w.row-is ∙ ap row_or w.in-Some.ensures.value
      | in-None w ↦ w.row-is ∙ w.new-row.ensures ∙ ap row_or w.in-None.ensures.value
    ])
    c.in_ok-push.ensures.ok c.remove.ensures.updates.0 c.in_ok-insert.ensures.updates.0
