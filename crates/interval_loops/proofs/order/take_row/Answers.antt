use Rattle.std.proofs.Common.{subst, ℕ, List}
use Rattle.std.specs.Prelude.{◌==◌}
use Rattle.std.specs.List.{list_any}
use Rattle.std.proofs.lemmas.List.{take_all}
use Rattle.interval_loops.specs.BlockOrders.{IsPartly}
use Rattle.interval_loops.proofs.BlockOrderLemmas.{row_begun, row_goes_on, row_ended}
use Rattle.interval_loops.proofs.order.take_row.Goals as goal

pub loop-target-init : goal.loop-target-init
loop-target-init c flow label first at b h s own is get l = row_begun flow label first b h s at c.args.block c.args.into.now
    c.args.order.now.items get l

pub loop-target-preserved : goal.loop-target-preserved
loop-target-preserved c flow label first at b h s own is get l =
    row_goes_on flow label first b h s at c.args.block c.args.node own c.loop-target.into c.take_out.new.into c.args.row.now
    c.loop-target.target-index c.loop-target-test.true
    c.in_ok-take_out.ensures.less c.loop-target.order.items c.take_out.new.order.items c.in_ok-take_out.ensures.order
    (c.loop-target.invariant flow label first at b h s own is get l)

pub returns : goal.returns
returns c flow label first at b h s own is get l =
    row_ended flow label first b h s at c.args.block c.loop-target.into c.args.row.now c.loop-target.order.items is
    (subst (λ (xs : List ℕ). IsPartly flow label first c.loop-target.into at c.args.block
    (λ x. list_any (λ y. y == x) xs) c.loop-target.order.items)
    (take_all c.loop-target.target-index c.args.row.now c.loop-target-test.false)
    (c.loop-target.invariant flow label first at b h s own is get l))
