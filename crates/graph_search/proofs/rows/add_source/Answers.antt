use Rattle.std.proofs.Common.{rules, ◌<◌, ℕ, sym, subst, slice_index_or, ◌∙◌}
use Rattle.graph_search.proofs.RowLemmas.{any_at, sources_next, sources_all}
use Rattle.graph_search.proofs.rows.add_source.Goals as goal

pub add_to_row-requires : goal.add_to_row-requires
add_to_row-requires c =
    subst (λ (n : ℕ). slice_index_or c.args.targets.now c.loop-target.target-index 0 < n)
    (sym c.loop-target.invariant.size) (c.requires (slice_index_or c.args.targets.now c.loop-target.target-index 0)
    (any_at c.args.targets.now c.loop-target.target-index c.loop-target-test.true))

pub loop-target-preserved : goal.loop-target-preserved
loop-target-preserved c =
    record {
      size = c.in_ok-add_to_row.ensures.0 ∙ c.loop-target.invariant.size;
      there = sources_next c.args.targets.now c.loop-target.target-index c.args.source c.loop-target-test.true
          c.args.rows.now.items c.loop-target.rows.items c.add_to_row.new.rows.items c.loop-target.invariant.there
          c.in_ok-add_to_row.ensures.1;
    }

pub returns-clause-there : goal.returns-clause-there
returns-clause-there c = sources_all c.args.targets.now c.loop-target.target-index c.args.source
    (search rules) c.args.rows.now.items c.loop-target.rows.items c.loop-target.invariant.there
