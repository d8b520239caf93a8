use Rattle.elimination_plans.proofs.FinishedPlanLemmas.{built_between}
use Rattle.elimination_plans.proofs.building.members_between.Goals as goal

pub returns : goal.returns
returns g c k s =
    built_between k s c.args.plan.now (g.N.Nodes.tree c.args.nodes.now) c.args.from c.args.to _ c.in_ok-made.ensures
