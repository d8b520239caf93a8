use Rattle.std.proofs.Common.{◌∙◌, refl}
use Rattle.flow_tree.specs.LevelTasks.{task_of}
use Rattle.flow_tree.proofs.LoopLevelLemmas.{apart_at, at_close, at_leave, cell_made, loop_made}
use Rattle.flow_tree.proofs.level.loop_from.Goals as goal

pub returns : goal.returns
returns c n height rank rows h e turns leaves =
    let s = c.args.nodes.now in
    let body = c.in_ok-body.ensures ∙ c.in_ok-part.ensures (task_of n height s.level s.close) turns
    (apart_at n height rank s rows h s.close (at_close n height rank s rows h)) h.trees e refl in
    let exit = c.in_ok-exit.ensures ∙ c.in_ok-part-2.ensures (task_of n height s.level s.leave) leaves
    (apart_at n height rank s rows h s.leave (at_leave n height rank s rows h)) h.trees e refl in (
      loop_made n height rank s rows h c.args.header c.in_ok-body.body c.in_ok-exit.exit e body exit,
      cell_made n height rank s rows h c.args.header c.in_ok-cell_of.field-0 c.in_ok-cell.cell c.args.turns.now.measures
          c.args.leaves.now.measures e c.in_ok-cell_of.ensures c.in_ok-cell.ensures turns.measures leaves.measures,
    )
