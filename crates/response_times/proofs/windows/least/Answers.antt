use Rattle.std.proofs.Common.{◌≤◌, ◌<◌, ◌+◌, ◌*◌, ◌/◌, ◌-◌, ◌^◌, ap, sym, subst, ◌∙◌, arith}
use Rattle.response_times.specs.Responses.{demand}
use Rattle.response_times.specs.Shares.{IsBelowWindows, shares_of}
use Rattle.response_times.proofs.ShareLemmas.{least_below, least_rises, long_window, no_window}
use Rattle.response_times.proofs.windows.least.Goals as goal

pub returns-then-taken-ge-WHOLE-clause-none : goal.returns-then-taken-ge-WHOLE-clause-none
returns-then-taken-ge-WHOLE-clause-none c w is =
    absurd (no_window c.args.higher.now c.args.task.now c.requires.tasks c.requires.some
    (omega (arith, c.shares-taken.ensures, c.if-taken-ge-WHOLE.true)) w is)

pub returns-in-Ok-clause-below : goal.returns-in-Ok-clause-below
returns-in-Ok-clause-below c =
    let part : shares_of c.args.higher.now < 2 ^ 64 = omega (arith, c.shares-taken.ensures, c.if-taken-ge-WHOLE.false) in
    subst (IsBelowWindows c.args.higher.now c.args.task.now)
    (sym (c.in-Ok.ensures.1 ∙ ap (λ s. c.args.task.now.cost * 2 ^ 64 / (2 ^ 64 - s)) c.shares-taken.ensures))
    (least_below c.args.higher.now c.args.task.now c.requires.tasks part)

pub returns-in-Ok-clause-rises : goal.returns-in-Ok-clause-rises
returns-in-Ok-clause-rises c =
    let part : shares_of c.args.higher.now < 2 ^ 64 = omega (arith, c.shares-taken.ensures, c.if-taken-ge-WHOLE.false) in
    subst (λ x. x ≤ c.args.task.now.cost + demand c.args.higher.now x)
    (sym (c.in-Ok.ensures.1 ∙ ap (λ s. c.args.task.now.cost * 2 ^ 64 / (2 ^ 64 - s)) c.shares-taken.ensures))
    (least_rises c.args.higher.now c.args.task.now c.requires.tasks part)

pub returns-in-Err-clause-none : goal.returns-in-Err-clause-none
returns-in-Err-clause-none c w is =
    let part : shares_of c.args.higher.now < 2 ^ 64 = omega (arith, c.shares-taken.ensures, c.if-taken-ge-WHOLE.false) in
    let below = least_below c.args.higher.now c.args.task.now c.requires.tasks part w is in
    let same = ap (λ s. c.args.task.now.cost * 2 ^ 64 / (2 ^ 64 - s)) c.shares-taken.ensures in
    long_window _ _ w same c.in-Err.ensures below
