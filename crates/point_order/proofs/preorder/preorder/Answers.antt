use Rattle.std.proofs.Common.{sym, ◌∙◌, ap, ◌++◌, []}
use Rattle.std.proofs.lemmas.List.{get_or_default}
use Rattle.point_order.proofs.PreorderLemmas.{popped_under, next_walked, walked_smaller, walked_whole, no_items}
use Rattle.point_order.proofs.preorder.preorder.Goals as goal

pub bounds-children-at : goal.bounds-children-at
bounds-children-at c =
    popped_under c.requires.0 c.args.children.now c.requires.1 c.loop-at.order.items c.loop-at.stack.items c.pop.new.self.items c.in-Some.at
    (c.loop-at.invariant c.requires.0 c.requires.1) c.in-Some.ensures.items

pub loop-at-smaller : goal.loop-at-smaller
loop-at-smaller c =
    walked_smaller c.requires.0 c.args.children.now c.requires.1 c.loop-at.order.items c.loop-at.stack.items c.pop.new.self.items
    c.push-in-Some.new.self.items c.extend_from_slice.new.self.items c.in-Some.at
    (c.loop-at.invariant c.requires.0 c.requires.1) c.in-Some.ensures.items c.in_ok-push-2.ensures.items
    (c.in_ok-extend_from_slice.ensures.items ∙ ap (λ zs. c.pop.new.self.items ++ zs)
    (c.as_slice.ensures ∙ c.index-children-at.is ∙ get_or_default c.args.children.now c.in-Some.at c.index-children-at.result []
    (popped_under c.requires.0 c.args.children.now c.requires.1 c.loop-at.order.items c.loop-at.stack.items c.pop.new.self.items
    c.in-Some.at (c.loop-at.invariant c.requires.0 c.requires.1) c.in-Some.ensures.items)))

pub loop-at-preserved : goal.loop-at-preserved
loop-at-preserved c ls are =
    next_walked ls c.args.children.now are c.loop-at.order.items c.loop-at.stack.items c.pop.new.self.items c.push-in-Some.new.self.items
    c.extend_from_slice.new.self.items c.in-Some.at
    (c.loop-at.invariant ls are) c.in-Some.ensures.items c.in_ok-push-2.ensures.items
    (c.in_ok-extend_from_slice.ensures.items ∙ ap (λ zs. c.pop.new.self.items ++ zs)
    (c.as_slice.ensures ∙ c.index-children-at.is ∙ get_or_default c.args.children.now c.in-Some.at c.index-children-at.result []
    (popped_under ls c.args.children.now are c.loop-at.order.items c.loop-at.stack.items c.pop.new.self.items c.in-Some.at
    (c.loop-at.invariant ls are) c.in-Some.ensures.items)))

pub returns : goal.returns
returns c ls are = walked_whole ls c.args.children.now are c.loop-at.order.items c.loop-at.stack.items c.from_vec.result
    (c.loop-at.invariant ls are) (no_items c.loop-at.stack.items (sym c.loop-at.stack.ok.0
    ∙ c.in_default.ensures.cases.0)) c.from_vec.ensures
