use Rattle.std.proofs.Common.{get_or, arith}
use Rattle.response_times.proofs.ShareLemmas.{shares_next, share_most, task_is}
use Rattle.response_times.proofs.windows.shares.Goals as goal

pub loop-task-preserved : goal.loop-task-preserved
loop-task-preserved c =
    let both = task_is c.args.tasks.now c.loop-task.task-index (record { cost = 0; period = 0; deadline = 0 }) c.loop-task-test.true c.loop-task.invariant.tasks in
    let next = shares_next c.args.tasks.now c.loop-task.task-index (record { cost = 0; period = 0; deadline = 0 }) c.loop-task-test.true in
    let sum = c.loop-task.invariant.sums in
    let most = c.loop-task.invariant.most in
    let less = share_most (get_or c.args.tasks.now c.loop-task.task-index (record { cost = 0; period = 0; deadline = 0 })) in
    record {
      sums = omega (arith, next, sum, c.share-sum.ensures);
      most = omega (arith, most, less, c.share-sum.ensures);
      tasks = both.1;
    }
