use Rattle.std.proofs.Common.{rules, ◌+◌, drop}
use Rattle.line_uses.proofs.ScopeLemmas.{all_done, next_left}
use Rattle.line_uses.proofs.scopes.set_scopes.Goals as goal

pub loop-point-preserved : goal.loop-point-preserved
loop-point-preserved c =
    record {
      so_far = λ maps due all are.
          next_left c.args.sets c.args.ways c.args.tables.now due c.loop-point.point-index c.args.order.now c.loop-point.scopes.items
          c.set_scope.new.scopes.items (search rules)
          (c.in_ok-set_scope.ensures.ok maps due (drop (c.loop-point.point-index + 1) c.args.order.now) all)
          (c.loop-point.invariant.so_far maps due all are);
      back = search rules;
      forward = search rules;
      size = search rules;
    }

pub returns : goal.returns
returns c = λ maps due all are.
    all_done c.args.sets c.args.ways c.args.tables.now due c.loop-point.point-index c.args.order.now c.loop-point.scopes.items
    (search rules)
    (c.loop-point.invariant.so_far maps due all are)
