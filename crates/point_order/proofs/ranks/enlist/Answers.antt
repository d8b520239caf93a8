use Rattle.std.proofs.Common.{rules, arith, refl, ◌≡◌, sym, subst, ◌<◌, ◌+◌, ◌++◌, ◌∷◌, [], List, ℕ, length, get_or, slice_set}
use Rattle.std.specs.Prelude.{OnOk, Some, slice_get}
use Rattle.std.specs.Str.{bytes_eq}
use Rattle.std.proofs.lemmas.Option.{slice_get-get_or}
use Rattle.graph_search.specs.NodeLists.{added}
use Rattle.function_points.proofs.PointLemmas.{on_ok}
use Rattle.point_order.specs.Ranks.{Ranking}
use Rattle.point_order.proofs.RankLemmas.{ranks_under, number_under, parent_under, rank_known, one_enlisted, no_second_root, few_ranked}
use Rattle.point_order.proofs.ranks.enlist.Goals as goal

pub index_mut-requires : goal.index_mut-requires
index_mut-requires c =
    subst (λ (n : ℕ). get_or c.args.order.now c.args.at 0 < n) (sym c.args.ranks.now.ok.0)
    (ranks_under c.args.contexts.now c.requires.distinct c.args.order.now c.requires.order c.args.at c.args.ranked.now
    c.args.ranks.now.items c.requires.ranking (get_or c.args.order.now c.args.at 0)
    (slice_get-get_or c.args.order.now c.args.at 0 c.requires.within))

pub parent_of-requires : goal.parent_of-requires
parent_of-requires c = number_under c.args.contexts.now c.requires.distinct c.args.order.now c.requires.order c.args.at
    (get_or c.args.order.now c.args.at 0) (slice_get-get_or c.args.order.now c.args.at 0 c.requires.within)

pub enlist_under-requires-clause-known : goal.enlist_under-requires-clause-known
enlist_under-requires-clause-known c =
    parent_under c.args.contexts.now c.requires.distinct c.args.order.now c.requires.order c.args.at c.args.ranked.now
    c.args.ranks.now.items c.requires.ranking (get_or c.args.order.now c.args.at 0)
    (slice_get-get_or c.args.order.now c.args.at 0 c.requires.within)
    c.in-Some.parent c.in-Some.after c.in-Some.ensures.some.1 c.in-Some.ensures.some.0 c.as_slice.result.now c.as_slice.ensures.value

pub enlist_under-requires-clause-place : goal.enlist_under-requires-clause-place
enlist_under-requires-clause-place c =
    rank_known c.args.contexts.now c.requires.distinct c.args.order.now c.requires.order c.args.at c.args.ranked.now c.args.ranks.now.items
    c.requires.ranking (get_or c.args.order.now c.args.at 0) (slice_get-get_or c.args.order.now c.args.at 0 c.requires.within)
    c.in-Some.parent c.in-Some.after c.in-Some.ensures.some.1 c.in-Some.ensures.some.0 c.as_slice.result.now c.as_slice.ensures.value

pub enlist_under-requires-clause-few : goal.enlist_under-requires-clause-few
enlist_under-requires-clause-few c =
    let e = few_ranked c.args.contexts.now c.requires.distinct c.args.order.now c.requires.order c.args.at c.args.ranked.now
    c.args.ranks.now.items c.requires.ranking (get_or c.args.order.now c.args.at 0)
    (slice_get-get_or c.args.order.now c.args.at 0 c.requires.within) in
    let l = c.requires.within in
    let m = c.requires.few in
    omega (arith, e, l, m)

pub returns-in-Some : goal.returns-in-Some
returns-in-Some c =
    on_ok c.enlist_under.result (c.enlist_under.new.ranked ≡ added bytes_eq c.args.ranked.now
    (get_or c.args.ranked.now (get_or c.as_slice.result.now c.in-Some.parent 0) [] ++ c.in-Some.after ∷ []))
    (Ranking c.args.contexts.now c.args.order.now (c.args.at + 1) c.enlist_under.new.ranked
    (slice_set c.args.ranks.now.items (get_or c.args.order.now c.args.at 0) c.args.at))
    (λ e. subst (λ (zs : List ℕ). Ranking c.args.contexts.now c.args.order.now
    (c.args.at + 1) c.enlist_under.new.ranked zs) c.as_slice.ensures.value
    (one_enlisted c.args.contexts.now c.requires.distinct c.args.order.now c.requires.order c.args.at c.args.ranked.now
    c.args.ranks.now.items c.requires.ranking (get_or c.args.order.now c.args.at 0)
    (slice_get-get_or c.args.order.now c.args.at 0 c.requires.within)
    c.in-Some.parent c.in-Some.after c.in-Some.ensures.some.1 c.in-Some.ensures.some.0 c.as_slice.result.now c.as_slice.ensures.value
    c.enlist_under.new.ranked e))
    c.enlist_under.ensures

pub returns-in-None : goal.returns-in-None
returns-in-None c =
    absurd (no_second_root c.args.contexts.now c.requires.distinct c.args.order.now c.requires.order c.args.at c.args.ranked.now
    c.args.ranks.now.items c.requires.ranking (get_or c.args.order.now c.args.at 0)
    (slice_get-get_or c.args.order.now c.args.at 0 c.requires.within)
    c.requires.some c.in-None.ensures.none)
