use Rattle.std.proofs.Common.{rules, ◌+◌}
use Rattle.graph_search.proofs.SearchLemmas.{next_kept}
use Rattle.graph_search.proofs.RowLemmas.{all_inside, inside_at, nearer, one_inside, one_searched}
use Rattle.persistence.specs.PointRows.{line_at}
use Rattle.persistence.proofs.CollectLemmas.{few_met, many_met, next_collected}
use Rattle.persistence.proofs.search.meets_fewer_lines.Goals as goal

pub spread-requires-clause-inside : goal.spread-requires-clause-inside
spread-requires-clause-inside g c = inside_at (g.L.MarkLinks.count c.args.links.now) c.loop-at.at c.get-point.result
    c.loop-at.marks.nodes c.loop-at.invariant.inside c.get-point.ensures

pub loop-at-init : goal.loop-at-init
loop-at-init g c =
    record {
      size = search rules;
      searched = one_searched (g.L.MarkLinks.step c.args.links.now) c.args.start c.forget.new.self.nodes
          c.add.new.self.nodes (search rules) (search rules);
      inside = one_inside (g.L.MarkLinks.count c.args.links.now) c.args.start c.forget.new.self.nodes
          c.add.new.self.nodes (search rules) (search rules) c.requires.inside;
      collected = search rules;
      below = search rules;
    }

pub returns-then-len-ways-clause-many : goal.returns-then-len-ways-clause-many
returns-then-len-ways-clause-many g c h =
    many_met (line_at c.args.lines.now) c.args.line c.args.sets (g.L.MarkLinks.step c.args.links.now) c.args.start
    (c.loop-at.at + 1) c.spread.new.marks.nodes c.collect.new.found c.args.ways
    (next_kept (g.L.MarkLinks.step c.args.links.now) c.args.start c.loop-at.at c.loop-at.marks.nodes
    c.spread.new.marks.nodes c.get-point.result c.loop-at.invariant.searched c.get-point.ensures (search rules))
    (next_collected (line_at c.args.lines.now) c.args.line c.args.sets c.loop-at.at c.loop-at.marks.nodes
    c.spread.new.marks.nodes (g.L.MarkLinks.step c.args.links.now c.get-point.result) c.get-point.result c.loop-at.found
    c.collect.new.found c.line_of.result c.get-point.ensures (search rules) c.loop-at.invariant.collected
    c.line_of.ensures (search rules)) (search rules)

pub loop-at-smaller : goal.loop-at-smaller
loop-at-smaller g c = nearer (g.L.MarkLinks.count c.args.links.now) c.loop-at.at c.loop-at.marks.nodes
    c.loop-at.invariant.searched.distinct c.loop-at.invariant.inside (search rules)

pub loop-at-preserved : goal.loop-at-preserved
loop-at-preserved g c =
    record {
      size = search rules;
      searched = next_kept (g.L.MarkLinks.step c.args.links.now) c.args.start c.loop-at.at c.loop-at.marks.nodes
          c.spread.new.marks.nodes c.get-point.result c.loop-at.invariant.searched c.get-point.ensures (search rules);
      inside = all_inside (g.L.MarkLinks.count c.args.links.now) c.loop-at.marks.nodes c.spread.new.marks.nodes
          (g.L.MarkLinks.step c.args.links.now c.get-point.result) c.loop-at.invariant.inside
          (c.requires.below c.get-point.result) (search rules);
      collected = next_collected (line_at c.args.lines.now) c.args.line c.args.sets c.loop-at.at c.loop-at.marks.nodes
          c.spread.new.marks.nodes (g.L.MarkLinks.step c.args.links.now c.get-point.result) c.get-point.result
          c.loop-at.found c.collect.new.found c.line_of.result c.get-point.ensures (search rules)
          c.loop-at.invariant.collected c.line_of.ensures (search rules);
      below = search rules;
    }

pub returns-clause-fewer : goal.returns-clause-fewer
returns-clause-fewer g c h =
    few_met (line_at c.args.lines.now) c.args.line c.args.sets (g.L.MarkLinks.step c.args.links.now) c.args.start
    c.loop-at.at c.loop-at.marks.nodes c.loop-at.found c.args.ways c.loop-at.invariant.searched
    c.loop-at.invariant.collected (search rules) c.loop-at.invariant.below
