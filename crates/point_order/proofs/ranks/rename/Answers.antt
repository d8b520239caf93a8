use Rattle.std.proofs.Common.{rules}
use Rattle.point_order.proofs.FamilyLemmas.{empty_keys}
use Rattle.point_order.proofs.RankLemmas.{all_wait, one_taken, all_taken, fewer}
use Rattle.point_order.proofs.ranks.rename.Goals as goal

pub loop-point-init : goal.loop-point-init
loop-point-init c = all_wait c.args.ranks.now c.args.numbers.now c.new-points.result c.in_ok-waiting.waiting (search rules) (search rules)

pub loop-point-preserved : goal.loop-point-preserved
loop-point-preserved c =
    one_taken c.args.ranks.now c.args.numbers.now c.loop-point.points c.push.new.self c.loop-point.waiting.keys c.pop_first.new.self.keys
    c.in-Some.point c.loop-point.invariant c.in-Some.ensures.removal c.in-Some.ensures.all_above c.in_ok-push.ensures.ok

pub returns : goal.returns
returns c = all_taken c.args.ranks.now c.args.numbers.now c.loop-point.points c.loop-point.waiting.keys c.loop-point.invariant
    (empty_keys c.loop-point.waiting.keys c.in_default.ensures.variant)
