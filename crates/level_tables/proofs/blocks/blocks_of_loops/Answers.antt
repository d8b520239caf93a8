use Rattle.std.proofs.Common.{rules, ap, arith, length, ◌+◌, ◌∙◌, ◌<◌, ℕ, nat_eq, sym, subst}
use Rattle.std.specs.Prelude.{◌≡◌, ◌==◌, ◌&&◌, ◌||◌, true, nat_lt, List}
use Rattle.std.specs.List.{list_any}
use Rattle.graph_search.specs.NodeLists.{holds}
use Rattle.graph_search.specs.Rows.{row_in}
use Rattle.graph_search.proofs.RowLemmas.{edges_next, edges_none}
use Rattle.interval_loops.proofs.HeaderLemmas.{item_in}
use Rattle.level_tables.proofs.blocks.blocks_of_loops.Goals as goal

pub loop-round-init : goal.loop-round-init
loop-round-init c =
    record {
      place = search rules;
      size = search rules;
      exact = edges_none (row_in c.args.around.now) c.in_ok-rows.rows.items c.in_ok-rows.ensures.empty;
    }

pub add_to_loops-requires : goal.add_to_loops-requires
add_to_loops-requires c =
    let is = c.as_slice.ensures ∙ item_in c.args.around.now c.loop-round.round-index c.round-item.result c.round-item.result
    c.loop-round-test.true c.round-item.is in
    λ d t. subst (λ (n : ℕ). d < n) (sym c.loop-round.invariant.size) (c.requires.below c.loop-round.round-index d
    (subst (λ (ys : List ℕ). list_any (λ y. y == d) ys ≡ true) is t))

pub loop-round-preserved : goal.loop-round-preserved
loop-round-preserved c =
    let is = c.as_slice.ensures ∙ item_in c.args.around.now c.loop-round.round-index c.round-item.result c.round-item.result
    c.loop-round-test.true c.round-item.is in
    record {
      place = ap (λ (n : ℕ). n + 1) c.loop-round.invariant.place;
      size = c.in_ok-add_to_loops.ensures.size ∙ c.loop-round.invariant.size;
      exact = edges_next (row_in c.args.around.now) c.as_slice.result.now c.loop-round.round-index is c.loop-round.rows.items
          c.add_to_loops.new.rows.items c.loop-round.invariant.exact
          (subst (λ (b : ℕ). (q u : ℕ) → holds nat_eq u (row_in c.add_to_loops.new.rows.items q) ≡
          ((list_any (λ y. y == q) c.as_slice.result.now && nat_eq u b) || holds nat_eq u (row_in c.loop-round.rows.items q)))
          c.loop-round.invariant.place c.in_ok-add_to_loops.ensures.there);
    }

pub returns-clause-exact : goal.returns-clause-exact
returns-clause-exact c =
    let end : c.loop-round.round-index ≡ length c.args.around.now = omega
    (arith, c.loop-round-test.false, c.loop-round.auto.round-index-end) in
    subst (λ (n : ℕ). (d u : ℕ) → holds nat_eq u (row_in c.loop-round.rows.items d) ≡
    (nat_lt u n && list_any (λ y. y == d) (row_in c.args.around.now u))) end c.loop-round.invariant.exact
