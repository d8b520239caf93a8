use Rattle.line_uses.proofs.OrderLemmas.{in_other_order}
use Rattle.line_uses.proofs.order.points_by_line.Goals as goal

pub returns : goal.returns
returns c = λ q lt.
    in_other_order c.in_ok-points.points.items c.sort_by_key.new.self.items c.sort_by_key.ensures.permutation q
    (c.in_ok-points.ensures q lt)
