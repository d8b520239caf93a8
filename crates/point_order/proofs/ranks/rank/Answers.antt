use Rattle.std.proofs.Common.{rules, arith, sym, subst, List, ℕ}
use Rattle.point_order.specs.Ranks.{AreRanked}
use Rattle.point_order.proofs.FamilyLemmas.{first_list}
use Rattle.point_order.proofs.RankLemmas.{first_ranked, some_order, all_ranked}
use Rattle.point_order.proofs.ranks.rank.Goals as goal

pub loop-at-init : goal.loop-at-init
loop-at-init c =
    let first = first_list c.args.contexts.now c.len.ensures.root in
    record {
      within = some_order c.args.contexts.now c.len.ensures.distinct c.args.order.now c.requires.order first.0 first.1;
      some = search rules;
      ranking = first_ranked c.args.contexts.now c.len.ensures.distinct c.args.order.now c.requires.order first.0 first.1
          c.in_ok-ranks.ranks.items (search rules) (search rules) c.new-ranked.result (search rules);
    }

pub returns : goal.returns
returns c =
    subst (λ (zs : List ℕ). AreRanked c.args.contexts.now c.loop-at.ranked zs) (sym c.from_vec.ensures)
    (all_ranked c.args.contexts.now c.len.ensures.distinct c.args.order.now c.requires.order c.loop-at.at c.loop-at.ranked
    c.loop-at.ranks.items c.loop-at.invariant.ranking (search rules))
