use Rattle.std.proofs.Common.{rules, sym, subst, List, ℕ, ◌<◌, length}
use Rattle.point_order.specs.Ranks.{AreOrdered}
use Rattle.point_order.proofs.ArrangementLemmas.{under_ranks, is_arranged}
use Rattle.point_order.proofs.arrangement.arrange.Goals as goal

pub rename-requires : goal.rename-requires
rename-requires c n i =
    subst (λ (zs : List ℕ). n.0 < length zs) (sym c.as_slice.ensures)
    (under_ranks c.args.image.now c.args.entry c.in_ok-collected.collected.contexts c.in_ok-contexts.field-0.contexts
    c.in_ok-collected.collected.found c.in_ok-collected.collected.found
    c.in_ok-collected.ensures.exact c.in_ok-collected.ensures.held c.in_ok-collected.ensures.used c.in_ok-contexts.field-0.ranks
    c.in_ok-contexts.ensures.ok n i)

pub returns-clause-ok : goal.returns-clause-ok
returns-clause-ok c =
    let ordered : AreOrdered c.as_slice.result.now c.in_ok-collected.collected.found c.in_ok-points.points = search rules in
    is_arranged c.args.image.now c.args.entry c.in_ok-collected.collected.contexts c.in_ok-contexts.field-0.contexts
    c.in_ok-collected.collected.found c.in_ok-points.points
    c.in_ok-collected.ensures.exact c.in_ok-collected.ensures.held c.in_ok-collected.ensures.used c.in_ok-contexts.field-0.ranks
    c.in_ok-contexts.ensures.ok
    (subst (λ (zs : List ℕ). AreOrdered zs c.in_ok-collected.collected.found c.in_ok-points.points) c.as_slice.ensures ordered)
