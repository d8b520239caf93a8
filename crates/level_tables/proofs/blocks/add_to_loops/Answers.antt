use Rattle.std.proofs.Common.{rules, ◌<◌, ℕ, sym, subst, slice_index_or, ◌∙◌}
use Rattle.graph_search.proofs.RowLemmas.{any_at, sources_next, sources_all}
use Rattle.level_tables.proofs.blocks.add_to_loops.Goals as goal

pub add_to_row-requires : goal.add_to_row-requires
add_to_row-requires c =
    subst (λ (n : ℕ). slice_index_or c.args.round.now c.loop-number.number-index 0 < n)
    (sym c.loop-number.invariant.size) (c.requires (slice_index_or c.args.round.now c.loop-number.number-index 0)
    (any_at c.args.round.now c.loop-number.number-index c.loop-number-test.true))

pub loop-number-preserved : goal.loop-number-preserved
loop-number-preserved c =
    record {
      size = c.in_ok-add_to_row.ensures.0 ∙ c.loop-number.invariant.size;
      there = sources_next c.args.round.now c.loop-number.number-index c.args.block c.loop-number-test.true
          c.args.rows.now.items c.loop-number.rows.items c.add_to_row.new.rows.items c.loop-number.invariant.there
          c.in_ok-add_to_row.ensures.1;
    }

pub returns-clause-there : goal.returns-clause-there
returns-clause-there c = sources_all c.args.round.now c.loop-number.number-index c.args.block
    (search rules) c.args.rows.now.items c.loop-number.rows.items c.loop-number.invariant.there
