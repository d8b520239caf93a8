use Rattle.std.proofs.Common.{rules}
use Rattle.graph_search.proofs.StampLemmas.{one_mark}
use Rattle.graph_search.proofs.marks.Marks.add.Goals as goal

pub invariant_of-self-in-Continue-branch-2 : goal.invariant_of-self-in-Continue-branch-2
invariant_of-self-in-Continue-branch-2 c =
    one_mark c.self.inside.stamps.items c.self.inside.round c.args.node c.self.inside.order.items c.push.new.self.items
    (search rules) c.self.invariant (search rules)
