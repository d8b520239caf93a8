use Rattle.std.proofs.Common.{◌∙◌, sym}
use Rattle.node_elimination.proofs.StageStateLemmas.{other_ok}
use Rattle.flow_tree.specs.LevelTasks.{task_of}
use Rattle.flow_tree.proofs.LoopLevelLemmas.{apart_at, at_close, at_leave, leaving_task, task_at, turning_task}
use Rattle.std.proofs.Common.{refl}
use Rattle.flow_tree.proofs.level.loop_of.Goals as goal

pub returns-in-Err-clause-large : goal.returns-in-Err-clause-large
returns-in-Err-clause-large c e n height rank h =
    let s = c.args.nodes.now in
    let rows = c.args.rows.now in
    let end = at_close n height rank s rows h in (
      s.close,
      end,
      c.in-Err.ensures.large (other_ok _ _ e) (task_of n height s.level s.close) (rank s.level)
          (task_at n height rank s rows h s.close end) (turning_task n height rank s rows h) (h.header ∙ sym c.header_of-header.ensures)
          refl,
    )

pub returns-in-Err-plan_between-clause-large : goal.returns-in-Err-plan_between-clause-large
returns-in-Err-plan_between-clause-large c e n height rank h =
    let s = c.args.nodes.now in
    let rows = c.args.rows.now in
    let end = at_leave n height rank s rows h in (
      s.leave,
      end,
      c.in-Err-plan_between.ensures.large (other_ok _ _ e) (task_of n height s.level s.leave) (rank s.level)
          (task_at n height rank s rows h s.leave end) (leaving_task n height rank s rows h) (h.header ∙ sym c.header_of-header.ensures)
          refl,
    )

pub loop_from-requires-clause-turning : goal.loop_from-requires-clause-turning
loop_from-requires-clause-turning c =
    let s = c.args.nodes.now in
    let rows = c.args.rows.now in
    let n = c.requires.described.0 in
    let height = c.requires.described.1 in
    let rank = c.requires.described.2 in
    let h = c.requires.described.3 in
    let end = at_close n height rank s rows h in (
      task_of n height s.level s.close,
      c.in-Ok.ensures.planned (task_of n height s.level s.close) (rank s.level)
          (task_at n height rank s rows h s.close end) (turning_task n height rank s rows h) (h.header ∙ sym c.header_of-header.ensures)
          refl,
      apart_at n height rank s rows h s.close end,
    )

pub loop_from-requires-clause-leaving : goal.loop_from-requires-clause-leaving
loop_from-requires-clause-leaving c =
    let s = c.args.nodes.now in
    let rows = c.args.rows.now in
    let n = c.requires.described.0 in
    let height = c.requires.described.1 in
    let rank = c.requires.described.2 in
    let h = c.requires.described.3 in
    let end = at_leave n height rank s rows h in (
      task_of n height s.level s.leave,
      c.in-Ok-plan_between.ensures.planned (task_of n height s.level s.leave) (rank s.level)
          (task_at n height rank s rows h s.leave end) (leaving_task n height rank s rows h) (h.header ∙ sym c.header_of-header.ensures)
          refl,
      apart_at n height rank s rows h s.leave end,
    )

pub returns-in-Ok-loop_from-clause-made : goal.returns-in-Ok-loop_from-clause-made
returns-in-Ok-loop_from-clause-made c n height rank h =
    let s = c.args.nodes.now in
    let rows = c.args.rows.now in
    let from = h.header ∙ sym c.header_of-header.ensures in
    let close = at_close n height rank s rows h in
    let leave = at_leave n height rank s rows h in
    c.in-Ok-loop_from.ensures n height rank rows h from
    (c.in-Ok.ensures.planned (task_of n height s.level s.close) (rank s.level)
    (task_at n height rank s rows h s.close close) (turning_task n height rank s rows h) from refl)
    (c.in-Ok-plan_between.ensures.planned (task_of n height s.level s.leave) (rank s.level)
    (task_at n height rank s rows h s.leave leave) (leaving_task n height rank s rows h) from refl)
