use Rattle.std.proofs.Common.{rules, refl, get_or}
use Rattle.std.specs.Prelude.{None}
use Rattle.point_tables.proofs.SourceLemmas.{done_inside, skipped_inside, more_backed, all_backed}
use Rattle.point_tables.proofs.liveness.source_rows.Goals as goal

pub lead-requires : goal.lead-requires
lead-requires c =
    done_inside c.args.table.now c.loop-at.at c.loop-at-test.true (record { done = None; skipped = None })
    (get_or c.args.table.now c.loop-at.at (record { done = None; skipped = None })) refl c.loop-at.rows.items c.loop-at.invariant
    c.requires.inside

pub lead-requires-in-loop-at : goal.lead-requires-in-loop-at
lead-requires-in-loop-at c =
    skipped_inside c.args.table.now c.loop-at.at c.loop-at-test.true (record { done = None; skipped = None })
    (get_or c.args.table.now c.loop-at.at (record { done = None; skipped = None })) refl c.loop-at.rows.items c.lead.new.rows.items
    c.loop-at.invariant (search rules) c.requires.inside

pub loop-at-preserved : goal.loop-at-preserved
loop-at-preserved c =
    more_backed c.args.table.now c.loop-at.at c.loop-at-test.true (record { done = None; skipped = None })
    (get_or c.args.table.now c.loop-at.at (record { done = None; skipped = None })) refl c.loop-at.rows.items c.lead.new.rows.items
    c.lead-in-loop-at.new.rows.items c.loop-at.invariant
    (search rules) (search rules)

pub returns-clause-before : goal.returns-clause-before
returns-clause-before c = all_backed c.args.table.now c.loop-at.at c.loop-at.rows.items c.loop-at.invariant c.loop-at-test.false
