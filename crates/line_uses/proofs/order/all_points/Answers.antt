use Rattle.std.proofs.Common.{rules}
use Rattle.line_uses.proofs.OrderLemmas.{one_more_point}
use Rattle.line_uses.proofs.order.all_points.Goals as goal

pub loop-point-preserved : goal.loop-point-preserved
loop-point-preserved c = one_more_point c.loop-point.point c.loop-point.points.items c.push.new.self.items (search rules)
    c.loop-point.invariant
