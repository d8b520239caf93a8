use Rattle.std.proofs.Common.{rules, refl}
use Rattle.std.specs.BTreeSet as tree
use Rattle.function_points.specs.Contexts.{pair_cmp}
use Rattle.point_order.proofs.FamilyLemmas.{one_waits, none_waits}
use Rattle.point_order.proofs.families.wait_for.Goals as goal

pub returns-in_ok-insert-in-Some : goal.returns-in_ok-insert-in-Some
returns-in_ok-insert-in-Some c w =
    one_waits c.args.contexts.now c.requires.distinct c.args.number c.in-Some.row.0 c.in-Some.row.1
    (tree.contains pair_cmp c.args.waiting.now) (tree.contains pair_cmp c.insert.new.self)
    (c.requires.known, c.in-Some.ensures.some.0, c.in-Some.ensures.some.1) c.in_ok-insert-in-Some.ensures.updates.0 w

pub returns-in-None : goal.returns-in-None
returns-in-None c w = none_waits c.args.contexts.now c.requires.distinct c.args.number (tree.contains pair_cmp c.args.waiting.now)
    (tree.contains pair_cmp c.args.waiting.now) c.in-None.ensures.none (λ q. refl) w
