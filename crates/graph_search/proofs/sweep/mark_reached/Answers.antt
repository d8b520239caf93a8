use Rattle.std.proofs.Common.{rules}
use Rattle.graph_search.proofs.SearchLemmas.{next_kept, all_found}
use Rattle.graph_search.proofs.RowLemmas.{nearer, all_inside, inside_at, one_searched, one_inside}
use Rattle.graph_search.proofs.sweep.mark_reached.Goals as goal

pub spread-requires-clause-inside : goal.spread-requires-clause-inside
spread-requires-clause-inside g c = inside_at
    (g.L.MarkLinks.count c.args.links.now) c.loop-at.at c.get.result c.loop-at.marks.nodes c.loop-at.invariant.inside
    c.get.ensures

pub loop-at-init : goal.loop-at-init
loop-at-init g c =
    record {
      size = search rules;
      searched = one_searched (g.L.MarkLinks.step c.args.links.now) c.args.start c.forget.new.self.nodes
          c.add.new.self.nodes (search rules) (search rules);
      inside = one_inside (g.L.MarkLinks.count c.args.links.now) c.args.start c.forget.new.self.nodes
          c.add.new.self.nodes (search rules) (search rules) c.requires.inside;
    }

pub loop-at-smaller : goal.loop-at-smaller
loop-at-smaller g c = nearer (g.L.MarkLinks.count c.args.links.now) c.loop-at.at c.loop-at.marks.nodes
    c.loop-at.invariant.searched.distinct c.loop-at.invariant.inside (search rules)

pub loop-at-preserved : goal.loop-at-preserved
loop-at-preserved g c =
    record {
      size = search rules;
      searched = next_kept (g.L.MarkLinks.step c.args.links.now) c.args.start c.loop-at.at c.loop-at.marks.nodes
          c.spread.new.marks.nodes c.get.result c.loop-at.invariant.searched c.get.ensures (search rules);
      inside = all_inside (g.L.MarkLinks.count c.args.links.now) c.loop-at.marks.nodes c.spread.new.marks.nodes
          (g.L.MarkLinks.step c.args.links.now c.get.result) c.loop-at.invariant.inside (c.requires.below c.get.result)
          (search rules);
    }

pub returns-clause-all : goal.returns-clause-all
returns-clause-all g c = all_found (g.L.MarkLinks.step c.args.links.now) c.args.start c.loop-at.at c.loop-at.marks.nodes
    c.loop-at.invariant.searched (search rules)
