use Rattle.std.proofs.Common.{rules}
use Rattle.std.specs.BTreeSet as tree
use Rattle.function_points.specs.Contexts.{pair_cmp}
use Rattle.point_order.proofs.FamilyLemmas.{none_adopted, one_adopted, all_adopted, none_there, empty_keys, shorter, first_list}
use Rattle.point_order.proofs.families.families.Goals as goal

pub loop-last-init : goal.loop-last-init
loop-last-init c = none_adopted c.args.contexts.now c.len-count.ensures.distinct
    (tree.contains pair_cmp c.in_ok-waiting.waiting) c.in_ok-children.children.items (search rules) (search rules) (search rules)

pub loop-last-preserved : goal.loop-last-preserved
loop-last-preserved c =
    let row = c.loop-last.invariant.only c.in-Some.last.0 c.in-Some.last.1 c.in-Some.ensures.member in
    one_adopted c.args.contexts.now c.len-count.ensures.distinct (tree.contains pair_cmp c.loop-last.waiting)
    (tree.contains pair_cmp c.pop_last.new.self) c.loop-last.children.items c.loop-last.invariant
    c.in-Some.last.0 c.in-Some.last.1 row.0 row.1 c.in-Some.ensures.member c.in-Some.ensures.greatest c.in-Some.ensures.updates.0
    c.adopt.new.children.items (c.in_ok-adopt.ensures row.0 c.in-Some.last.0 row.1)

pub loop-last-smaller : goal.loop-last-smaller
loop-last-smaller c = shorter c.loop-last.waiting.keys c.pop_last.new.self.keys c.in-Some.last c.in-Some.ensures.removal

pub adopt-requires-clause-known : goal.adopt-requires-clause-known
adopt-requires-clause-known c = (c.loop-last.invariant.only c.in-Some.last.0 c.in-Some.last.1 c.in-Some.ensures.member).1.0

pub returns : goal.returns
returns c =
    let first = first_list c.args.contexts.now c.len-count.ensures.root in
    all_adopted c.args.contexts.now c.len-count.ensures.distinct first.0 first.1 c.len-count.ensures.rows
    (tree.contains pair_cmp c.loop-last.waiting) c.loop-last.children.items c.loop-last.invariant
    (none_there c.loop-last.waiting (empty_keys c.loop-last.waiting.keys c.in_default.ensures.variant))
