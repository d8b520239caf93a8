use Rattle.std.proofs.Common.{rules}
use Rattle.graph_search.specs.NodeLists.{added_all}
use Rattle.std.specs.Prelude.{nat_eq}
use Rattle.line_uses.specs.SearchSteps.{after_line}
use Rattle.line_uses.proofs.ForwardLemmas.{first_next}
use Rattle.line_uses.proofs.searches.mark_first.Goals as goal

pub loop-point-preserved : goal.loop-point-preserved
loop-point-preserved c =
    record {
      whole = first_next c.args.tables.now c.args.line c.loop-point.point-index c.args.peers.now c.loop-point.marks.nodes
          c.mark_after.new.marks.nodes (added_all nat_eq c.args.marks.now.nodes (after_line c.args.tables.now c.args.line c.args.peers.now))
          (search rules)
          c.in_ok-mark_after.ensures.ok c.loop-point.invariant.whole;
      same = search rules;
    }
