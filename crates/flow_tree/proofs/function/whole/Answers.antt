use Rattle.std.proofs.Common.{◌∙◌, sym, refl}
use Rattle.std.proofs.lemmas.Option.{slice_get_read}
use Rattle.node_elimination.proofs.StageStateLemmas.{other_ok}
use Rattle.flow_tree.specs.LevelTasks.{task_of}
use Rattle.flow_tree.proofs.LoopLevelLemmas.{apart_at, at_leave, leaving_task, task_at}
use Rattle.flow_tree.proofs.TableLevelLemmas.{level_of}
use Rattle.flow_tree.proofs.WholeTreeLemmas.{large_depth, large_size, past_whole, whole_made}
use Rattle.flow_tree.proofs.function.whole.Goals as goal

pub returns-in-Err-clause-large : goal.returns-in-Err-clause-large
returns-in-Err-clause-large c e n height rank h =
    let at = slice_get_read c.args.tables.now.levels.now _ 0 c.in-Some.rows.now refl c.in-Some.ensures.lookup.3.0 c.in-Some.ensures.lookup.1
    in
    let l = level_of n height rank _ c.args.tables.now.levels.now c.in-Some.rows.now h.tables h.tasks (c.requires.made n height rank h)
    (c.requires.past n height rank h) at
    in
    past_whole n height c.args.tables.now.leave (h.tables.leaves 0)
    (c.in-Err.ensures.large (other_ok _ _ e) (task_of n height 0 c.args.tables.now.leave) (rank 0)
    (task_at n height rank _ c.in-Some.rows.now l c.args.tables.now.leave (at_leave n height rank _ c.in-Some.rows.now l))
    (leaving_task n height rank _ c.in-Some.rows.now l) (l.header ∙ sym c.header_of-header.ensures) refl)

pub returns-then-plan-ge-MOST-clause-large : goal.returns-then-plan-ge-MOST-clause-large
returns-then-plan-ge-MOST-clause-large c e n height rank h =
    let at = slice_get_read c.args.tables.now.levels.now _ 0 c.in-Some.rows.now refl c.in-Some.ensures.lookup.3.0 c.in-Some.ensures.lookup.1
    in
    let l = level_of n height rank _ c.args.tables.now.levels.now c.in-Some.rows.now h.tables h.tasks (c.requires.made n height rank h)
    (c.requires.past n height rank h) at
    in
    let p = c.in-Ok.ensures.planned (task_of n height 0 c.args.tables.now.leave) (rank 0)
    (task_at n height rank _ c.in-Some.rows.now l c.args.tables.now.leave (at_leave n height rank _ c.in-Some.rows.now l))
    (leaving_task n height rank _ c.in-Some.rows.now l) (l.header ∙ sym c.header_of-header.ensures) refl in
    large_size n height c.args.tables.now.leave (h.tables.leaves 0) c.in-Ok.plan.measures p.measures c.if-plan-ge-MOST.true

pub returns-then-plan-ge-DEEPEST-clause-large : goal.returns-then-plan-ge-DEEPEST-clause-large
returns-then-plan-ge-DEEPEST-clause-large c e n height rank h =
    let at = slice_get_read c.args.tables.now.levels.now _ 0 c.in-Some.rows.now refl c.in-Some.ensures.lookup.3.0 c.in-Some.ensures.lookup.1
    in
    let l = level_of n height rank _ c.args.tables.now.levels.now c.in-Some.rows.now h.tables h.tasks (c.requires.made n height rank h)
    (c.requires.past n height rank h) at
    in
    let p = c.in-Ok.ensures.planned (task_of n height 0 c.args.tables.now.leave) (rank 0)
    (task_at n height rank _ c.in-Some.rows.now l c.args.tables.now.leave (at_leave n height rank _ c.in-Some.rows.now l))
    (leaving_task n height rank _ c.in-Some.rows.now l) (l.header ∙ sym c.header_of-header.ensures) refl in
    large_depth n height c.args.tables.now.leave (h.tables.leaves 0) c.in-Ok.plan.measures p.measures c.if-plan-ge-DEEPEST.true

pub trees_between-requires : goal.trees_between-requires
trees_between-requires c =
    let n = c.requires.described.0 in
    let height = c.requires.described.1 in
    let rank = c.requires.described.2 in
    let h = c.requires.described.3 in
    let at = slice_get_read c.args.tables.now.levels.now _ 0 c.in-Some.rows.now refl c.in-Some.ensures.lookup.3.0 c.in-Some.ensures.lookup.1
    in
    let l = level_of n height rank _ c.args.tables.now.levels.now c.in-Some.rows.now h.tables h.tasks (c.requires.made n height rank h)
    (c.requires.past n height rank h) at
    in
    let end = at_leave n height rank _ c.in-Some.rows.now l in
    record {
      planned = (
        task_of n height 0 c.args.tables.now.leave,
        c.in-Ok.ensures.planned (task_of n height 0 c.args.tables.now.leave) (rank 0)
            (task_at n height rank _ c.in-Some.rows.now l c.args.tables.now.leave end)
            (leaving_task n height rank _ c.in-Some.rows.now l) (l.header ∙ sym c.header_of-header.ensures) refl,
        apart_at n height rank _ c.in-Some.rows.now l c.args.tables.now.leave end,
      );
    }

pub returns-clause-exact : goal.returns-clause-exact
returns-clause-exact c n height rank h =
    let at = slice_get_read c.args.tables.now.levels.now _ 0 c.in-Some.rows.now refl c.in-Some.ensures.lookup.3.0 c.in-Some.ensures.lookup.1
    in
    let l = level_of n height rank _ c.args.tables.now.levels.now c.in-Some.rows.now h.tables h.tasks (c.requires.made n height rank h)
    (c.requires.past n height rank h) at
    in
    let end = at_leave n height rank _ c.in-Some.rows.now l in
    let from = l.header ∙ sym c.header_of-header.ensures in
    let p = c.in-Ok.ensures.planned (task_of n height 0 c.args.tables.now.leave) (rank 0)
    (task_at n height rank _ c.in-Some.rows.now l c.args.tables.now.leave end)
    (leaving_task n height rank _ c.in-Some.rows.now l) from refl in
    whole_made n height c.args.tables.now.leave (h.tables.leaves 0) c.in-Ok.plan.measures c.in-Ok-trees_between.made p.measures
    c.if-plan-ge-MOST.false c.if-plan-ge-DEEPEST.false
    (c.in-Ok-trees_between.ensures (task_of n height 0 c.args.tables.now.leave) p
    (apart_at n height rank _ c.in-Some.rows.now l c.args.tables.now.leave end) l.trees from refl)
