use Rattle.std.proofs.Common.{rules}
use Rattle.basic_blocks.proofs.ChainLemmas.{start_drawn, more_drawn, drawn_smaller, drawn_whole}
use Rattle.basic_blocks.proofs.chains.chain_from.Goals as goal

pub loop-at-init : goal.loop-at-init
loop-at-init c = start_drawn c.args.only.now c.args.first c.push.new.self.items c.requires.below (search rules)

pub bounds : goal.bounds
bounds c = c.loop-at.invariant.here

pub loop-at-smaller : goal.loop-at-smaller
loop-at-smaller c =
    drawn_smaller c.args.only.now c.args.back.now c.requires.opposite c.args.first c.requires.head c.loop-at.points.items
    c.push-in-Some.new.self.items c.loop-at.at c.in-Some.next
    c.loop-at.invariant c.in-Some.is c.in_ok-push-2.ensures.items

pub loop-at-preserved : goal.loop-at-preserved
loop-at-preserved c =
    more_drawn c.args.only.now c.args.back.now c.requires.opposite c.args.first c.requires.head c.loop-at.points.items
    c.push-in-Some.new.self.items c.loop-at.at c.in-Some.next
    c.loop-at.invariant c.in-Some.is c.in_ok-push-2.ensures.items

pub returns : goal.returns
returns c =
    drawn_whole c.args.only.now c.args.back.now c.requires.opposite c.args.first c.requires.head c.loop-at.points.items c.from_vec.result
    c.loop-at.at c.loop-at.invariant c.in_default.not-Some c.from_vec.ensures
