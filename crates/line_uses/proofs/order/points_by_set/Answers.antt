use Rattle.std.proofs.Common.{rules, ◌%◌, ◌<◌, ℕ, ap, sym, subst}
use Rattle.line_uses.proofs.OrderLemmas.{all_in_rows, none_in_rows, point_in_rows, set_inside}
use Rattle.line_uses.proofs.order.points_by_set.Goals as goal

pub loop-point-init : goal.loop-point-init
loop-point-init c = none_in_rows c.args.lines.now c.args.sets c.args.order.now c.in_ok-rows.rows.items c.in_ok-rows.ensures.size

pub add_to_row-requires : goal.add_to_row-requires
add_to_row-requires c = subst (λ (n : ℕ). c.line_of.result % c.args.sets < n) (sym c.loop-point.invariant.size)
    (set_inside c.line_of.result c.args.sets c.requires)

pub loop-point-preserved : goal.loop-point-preserved
loop-point-preserved c =
    point_in_rows c.args.lines.now c.args.sets c.args.order.now c.loop-point.point-index c.loop-point.rows.items c.add_to_row.new.rows.items
    (c.line_of.result % c.args.sets) (search rules) (ap (λ (x : ℕ). x % c.args.sets) c.line_of.ensures) c.in_ok-add_to_row.ensures
    c.loop-point.invariant

pub returns : goal.returns
returns c = all_in_rows c.args.lines.now c.args.sets c.args.order.now c.loop-point.point-index c.loop-point.rows.items (search rules)
    c.loop-point.invariant
