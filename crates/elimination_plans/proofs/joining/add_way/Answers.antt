use Rattle.std.proofs.Common.{ap, ◌∙◌}
use Rattle.elimination_plans.specs.Plans.{or_none}
use Rattle.elimination_plans.proofs.AddedWayLemmas.{way_added}
use Rattle.elimination_plans.proofs.joining.add_way.Goals as goal
use Rattle.elimination_plans.proofs.joining.add_way.Goals.{in-Some, in-None}

pub returns : goal.returns
returns c =
    way_added c.args.from c.args.to c.args.entry c.args.ways.now c.remove.new.self c.insert.new.self c.match-remove.list c.push.new.self
    (elim c.match-remove.branch [
      | in-Some w ↦ w.list-is ∙ ap or_none w.in-Some.ensures.value
      | in-None w ↦ w.list-is ∙ w.new-list.ensures ∙ ap or_none w.in-None.ensures.value
    ])
    c.in_ok-push.ensures.ok c.remove.ensures.updates.0 c.in_ok-insert.ensures.updates.0
