use Rattle.std.proofs.Common.{◌≡◌, ◌+◌, ◌*◌, ◌^◌, ◌-◌, get_or, drop, ap, ◌∙◌, arith, mul_comm}
use Rattle.std.specs.Prelude.{min}
use Rattle.std.proofs.Math.ListN.{drop_of_length-le}
use Rattle.response_times.specs.declared.tasks.Task.{Task}
use Rattle.response_times.specs.Responses.{demand, releases}
use Rattle.response_times.proofs.ShareLemmas.{asked_more, demand_next, task_is}
use Rattle.response_times.proofs.windows.asked.Goals as goal

pub loop-task-preserved : goal.loop-task-preserved
loop-task-preserved c =
    let d : Task = record { cost = 0; period = 0; deadline = 0 } in
    let t = get_or c.args.tasks.now c.loop-task.task-index d in
    let product = releases c.args.window t.period * t.cost in
    let same : t.cost * c.from.result ≡ product = ap (λ x. t.cost * x) c.from.ensures ∙ mul_comm t.cost (releases c.args.window t.period) in
    let more = c.saturating_add-sum.ensures ∙ ap (λ x. min (c.loop-task.sum + x) (2 ^ 128 - 1)) (c.saturating_mul.ensures ∙ ap (λ x. min x (2 ^ 128 - 1)) same) in
    record {
      sums = asked_more c.loop-task.sum product c.saturating_add-sum.result (demand (drop c.loop-task.task-index c.args.tasks.now) c.args.window)
          (demand (drop (c.loop-task.task-index + 1) c.args.tasks.now) c.args.window) (2 ^ 128 - 1)
          (demand_next c.args.tasks.now c.args.window c.loop-task.task-index d c.loop-task-test.true) more
          ∙ c.loop-task.invariant.sums;
      most = omega (arith, c.saturating_add-sum.ensures);
      tasks = (task_is c.args.tasks.now c.loop-task.task-index d c.loop-task-test.true c.loop-task.invariant.tasks).1;
    }

pub returns : goal.returns
returns c =
    let none : demand (drop c.loop-task.task-index c.args.tasks.now) c.args.window ≡ 0 =
    ap (λ ts. demand ts c.args.window) (drop_of_length-le c.args.tasks.now c.loop-task-test.false) in
    let is = c.loop-task.invariant.sums in
    let fits = c.loop-task.invariant.most in
    omega (arith, none, is, fits)
