use Rattle.std.proofs.Common.{Err, ap, subst, sym, refl}
use Rattle.std.proofs.lemmas.Option.{slice_get_read}
use Rattle.node_elimination.proofs.StageStateLemmas.{other_ok}
use Rattle.flow_tree.specs.FlowTables.{AreTrees}
use Rattle.flow_tree.proofs.MadeTreeLemmas.{tree_put}
use Rattle.flow_tree.proofs.LargeTreeLemmas.{large_put, loop_large}
use Rattle.flow_tree.proofs.TableLevelLemmas.{level_of}
use Rattle.flow_tree.proofs.function.make_loop.Goals as goal

pub loop_of-requires : goal.loop_of-requires
loop_of-requires c =
    let n = c.requires.described.0 in
    let height = c.requires.described.1 in
    let rank = c.requires.described.2 in
    let h = c.requires.described.3 in
    record {
      described = (
        n,
        height,
        rank,
        level_of n height rank _ c.args.tables.now.levels.now c.in-Some.rows.now h.tables h.tasks
            (subst (λ ts. AreTrees n height ts) (sym c.as_slice.ensures.value) (c.requires.old n height rank h)) (c.requires.past n height rank h)
            (slice_get_read c.args.tables.now.levels.now _ c.args.number c.in-Some.rows.now refl c.in-Some.ensures.lookup.3.0
            c.in-Some.ensures.lookup.1),
      );
    }

pub returns-in-Ok-clause-made : goal.returns-in-Ok-clause-made
returns-in-Ok-clause-made c n height rank h =
    tree_put n height c.args.trees.now.items c.args.number c.in-Ok.made (c.requires.old n height rank h)
    (c.in-Ok.ensures.made n height rank
    (level_of n height rank _ c.args.tables.now.levels.now c.in-Some.rows.now h.tables h.tasks
    (subst (λ ts. AreTrees n height ts) (sym c.as_slice.ensures.value) (c.requires.old n height rank h)) (c.requires.past n height rank h)
    (slice_get_read c.args.tables.now.levels.now _ c.args.number c.in-Some.rows.now refl c.in-Some.ensures.lookup.3.0
    c.in-Some.ensures.lookup.1)))

pub returns-in_ok-insert-in-Err-TooLarge-clause-large : goal.returns-in_ok-insert-in-Err-TooLarge-clause-large
returns-in_ok-insert-in-Err-TooLarge-clause-large c n height rank h =
    let r = c.in-Err-TooLarge.ensures.large (ap Err c.in-Err-TooLarge.field-0-is) n height rank
    (level_of n height rank _ c.args.tables.now.levels.now c.in-Some.rows.now h.tables h.tasks
    (subst (λ ts. AreTrees n height ts) (sym c.as_slice.ensures.value) (c.requires.old n height rank h)) (c.requires.past n height rank h)
    (slice_get_read c.args.tables.now.levels.now _ c.args.number c.in-Some.rows.now refl c.in-Some.ensures.lookup.3.0
    c.in-Some.ensures.lookup.1)) in
    large_put n height c.args.large.now c.insert.new.self c.args.number c.in_ok-insert-in-Err-TooLarge.ensures.updates.0
    (loop_large n height c.args.number r.0 r.1 r.2) (c.requires.past n height rank h)
