use Rattle.std.proofs.Common.{subst, sym, ℕ, ◌<◌, ◌∙◌}
use Rattle.interval_loops.proofs.ClosingRowLemmas.{popped}
use Rattle.interval_loops.proofs.tables.closing_sources.Goals as goal

pub add_to_row-requires : goal.add_to_row-requires
add_to_row-requires c =
    subst (λ (n : ℕ). c.in-Some.edge.0 < n) (sym c.loop-edge.invariant.size)
    (c.requires.below c.in-Some.edge.0 c.in-Some.edge.1 c.in-Some.edge.2
    (c.loop-edge.invariant.less c.in-Some.edge.0 c.in-Some.edge.1 c.in-Some.edge.2 c.in-Some.ensures.member)).0

pub loop-edge-preserved : goal.loop-edge-preserved
loop-edge-preserved c =
    let i = c.loop-edge.invariant in
    let p = popped c.args.closings c.loop-edge.closings c.pop_first.new.self c.in-Some.edge.0 c.in-Some.edge.1 c.in-Some.edge.2
    (λ h u z e. (c.requires.below h u z e).1) c.in-Some.ensures.member c.in-Some.ensures.least c.in-Some.ensures.updates.0
    c.loop-edge.rows.items c.add_to_row.new.rows.items c.in_ok-add_to_row.ensures.1 i.less i.exact i.order i.rising in
    record {
      size = c.in_ok-add_to_row.ensures.0 ∙ i.size;
      less = p.0;
      exact = p.1;
      order = p.2;
      rising = p.3;
    }
