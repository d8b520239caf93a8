use Rattle.std.proofs.Common.{◌+◌, ◌^◌, ◌-◌, ap, ◌∙◌, arith}
use Rattle.std.specs.Prelude.{min}
use Rattle.response_times.specs.Responses.{demand}
use Rattle.response_times.proofs.ShareLemmas.{end_below, end_of, end_rises, free_window}
use Rattle.response_times.proofs.windows.response.Goals as goal

pub returns-then-task-eq0 : goal.returns-then-task-eq0
returns-then-task-eq0 c = (free_window c.args.higher.now c.args.task.now c.requires.tasks c.if-task-eq0.true, omega arith, λ w is. omega arith)

pub returns-then-end-from-2 : goal.returns-then-end-from-2
returns-then-end-from-2 c w is =
    let below = end_below c.args.higher.now c.args.task.now c.loop-window.window c.saturating_add-end.result (2 ^ 128 - 1) c.requires.tasks
    c.loop-window.invariant.below (c.saturating_add-end.ensures ∙ ap (λ x. min (c.args.task.now.cost + x) (2 ^ 128 - 1)) c.asked.ensures) w is in
    omega (arith, below, c.if-end-from-2.true, c.from-in-loop-window-2.ensures)

pub loop-window-preserved : goal.loop-window-preserved
loop-window-preserved c =
    let is = c.saturating_add-end.ensures ∙ ap (λ x. min (c.args.task.now.cost + x) (2 ^ 128 - 1)) c.asked.ensures in
    let deadline = c.requires.task.deadline in
    let whole = end_of c.args.task.now.cost (demand c.args.higher.now c.loop-window.window) (2 ^ 128 - 1) c.saturating_add-end.result
    c.args.task.now.deadline is (omega (arith, deadline)) (omega (arith, c.if-end-from-2.false, c.from-in-loop-window-2.ensures)) in
    record {
      below = end_below c.args.higher.now c.args.task.now c.loop-window.window c.saturating_add-end.result (2 ^ 128 - 1) c.requires.tasks
          c.loop-window.invariant.below is;
      rises = end_rises c.args.higher.now c.args.task.now c.loop-window.window c.saturating_add-end.result c.requires.tasks
          (omega (arith, whole, c.loop-window.invariant.rises)) whole;
    }
