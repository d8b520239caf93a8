use Rattle.std.proofs.Common.{◌∙◌}
use Rattle.elimination_plans.proofs.PlanStepLemmas.{ap2}
use Rattle.node_elimination.specs.Tables.{gain_by}
use Rattle.node_elimination.proofs.LevelStartLemmas.{node_put}
use Rattle.node_elimination.proofs.starting.put_node.Goals as goal

pub returns-clause-gains : goal.returns-clause-gains
returns-clause-gains c =
    node_put c.args.tally.now c.insert.new.self c.args.node c.in_ok-gain.gain
    (c.in_ok-gain.ensures ∙ ap2 gain_by c.sums_of.ensures c.leaves_of.ensures) c.in_ok-insert.ensures.updates.0
