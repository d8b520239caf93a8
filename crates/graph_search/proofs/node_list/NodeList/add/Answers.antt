use Rattle.std.proofs.Common.{ap, ◌∙◌, ◌++◌, ◌∷◌, []}
use Rattle.graph_search.proofs.ListLemmas.{pushed_set}
use Rattle.graph_search.proofs.node_list.NodeList.add.Goals as goal

pub invariant_of-self-in-Continue-branch-3 : goal.invariant_of-self-in-Continue-branch-3
invariant_of-self-in-Continue-branch-3 c =
    pushed_set c.self.inside.seen c.insert.new.self c.self.inside.order.items c.push.new.self.items c.args.node
    (c.in_ok-push.ensures.items ∙ ap (λ ys. ys
    ++ c.args.node ∷ []) c.in_ok-reserve.ensures.items) c.self.invariant c.in_ok-insert.ensures.updates.0
