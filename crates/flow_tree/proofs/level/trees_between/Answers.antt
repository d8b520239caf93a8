use Rattle.flow_tree.proofs.PlannedLevelLemmas.{plan_falls, same_ways}
use Rattle.flow_tree.proofs.level.trees_between.Goals as goal

pub members_between-requires : goal.members_between-requires
members_between-requires g c =
    record { falls = plan_falls c.requires.planned.0 c.args.plan.now c.requires.planned.1 }

pub returns : goal.returns
returns g c k h apart ext from to =
    c.in_ok-made.ensures k h.stage h.done apart ext from to (same_ways k c.args.plan.now h) h.order
