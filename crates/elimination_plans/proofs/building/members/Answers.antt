use Rattle.std.proofs.Common.{◌∙◌, rules}
use Rattle.elimination_plans.proofs.StackLemmas.{whole_made}
use Rattle.elimination_plans.proofs.building.members.Goals as goal

pub returns : goal.returns
returns g c tree F x u =
    c.in_ok-made.ensures tree F x u ∙ whole_made tree F c.new-stack.result.items c.push.new.self.items c.args.from
    c.args.to (search rules) c.new-stack.ensures.items
