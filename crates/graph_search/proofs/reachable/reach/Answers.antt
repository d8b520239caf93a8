use Rattle.graph_search.proofs.SearchLemmas.{next_kept, too_many, all_found, no_more_reached}
use Rattle.std.proofs.Common.{rules}
use Rattle.graph_search.proofs.reachable.reach.Goals as goal

pub loop-at-preserved : goal.loop-at-preserved
loop-at-preserved g c =
    record {
      searched = next_kept (g.L.Links.step c.args.links.now) c.args.start c.loop-at.at c.loop-at.nodes
          c.spread.new.nodes c.get.result c.loop-at.invariant.searched c.get.ensures (search rules);
      few = search rules;
    }

pub returns-in_err-spread-clause-many : goal.returns-in_err-spread-clause-many
returns-in_err-spread-clause-many g c h =
    too_many (g.L.Links.step c.args.links.now) c.args.start c.loop-at.at c.args.most c.loop-at.nodes c.get.result
    c.loop-at.invariant.searched c.get.ensures (c.in_err-spread.ensures.many (search rules))

pub returns-clause-all : goal.returns-clause-all
returns-clause-all g c =
    all_found (g.L.Links.step c.args.links.now) c.args.start c.loop-at.at c.loop-at.nodes c.loop-at.invariant.searched
    (search rules)

pub returns-clause-few : goal.returns-clause-few
returns-clause-few g c =
    no_more_reached (g.L.Links.step c.args.links.now) c.args.start c.loop-at.at c.args.most c.loop-at.nodes
    c.loop-at.invariant.searched (search rules) c.loop-at.invariant.few
