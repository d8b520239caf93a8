use Rattle.std.proofs.Common.{◌∙◌, ap, refl, ℕ, List}
use Rattle.elimination_plans.specs.AddedWays.{has}
use Rattle.elimination_plans.specs.Stages.{next_stage}
use Rattle.node_elimination.specs.declared.cells.Cell.{Cell}
use Rattle.node_elimination.specs.declared.tally.Sums.{Sums}
use Rattle.node_elimination.specs.LevelStates.{all_of, cells_at}
use Rattle.node_elimination.specs.Tables.{sums_at, leaves_at}
use Rattle.node_elimination.proofs.StageStateLemmas.{keeps_sums, none_left, went_on, past_total, past_ways}
use Rattle.node_elimination.proofs.taking.Elimination.take_out_next.Goals as goal

pub returns-then-are_many-clause-large : goal.returns-then-are_many-clause-large
returns-then-are_many-clause-large c e k rank s h reached held =
    let l = c.in-Some.ensures.least (λ u. has u s.left) held.gains in
    past_ways k rank s h reached c.args.self.now held c.in-Some.node l.0 l.1 c.sums_of-sums.result.ins c.sums_of-sums.result.outs
    c.node-size.result.size
    (ap (λ (x : Sums). x.ins) c.sums_of-sums.ensures ∙ ap (λ (xs : List Sums). (sums_at xs c.in-Some.node).ins) c.in-Some.ensures.sums.0)
    (ap (λ (x : Sums). x.outs) c.sums_of-sums.ensures ∙ ap (λ (xs : List Sums). (sums_at xs c.in-Some.node).outs) c.in-Some.ensures.sums.0)
    (ap (λ (x : Cell). x.size) c.node-size.ensures) (c.are_many.ensures c.if-are_many.true)

pub returns-else-self-gt-MOST-clause-went : goal.returns-else-self-gt-MOST-clause-went
returns-else-self-gt-MOST-clause-went c k rank s h reached held =
    let l = c.in-Some.ensures.least (λ u. has u s.left) held.gains in
    let r = went_on k rank s h reached c.args.self.now held c.in-Some.node l.0 l.1
    (record {
      table = record {
        tally = c.take_least.new.self;
        cells = c.args.self.now.table.cells;
        links = c.args.self.now.table.links;
        total = c.args.self.now.table.total;
      };
      plan = c.args.self.now.plan;
      nodes = c.args.self.now.nodes;
    })
    c.take_out.new.self (keeps_sums (all_of k) (cells_at k s) c.args.self.now.table c.take_least.new.self c.in-Some.ensures.sums.0
    held.table) (c.in-Some.ensures.rest (λ u. has u s.left) held.gains)
    (λ x y. refl) refl refl c.in-Some.ensures.sums.1 c.in-Ok.ensures.table c.in-Ok.ensures.plan c.in-Ok.ensures.order c.in-Ok.ensures.nodes
    c.in-Ok.ensures.leaves c.in-Ok.ensures.gains in
    (next_stage c.in-Some.node s, r.0, r.1)

pub returns-then-self-gt-MOST-clause-large : goal.returns-then-self-gt-MOST-clause-large
returns-then-self-gt-MOST-clause-large c e k rank s h reached held =
    let l = c.in-Some.ensures.least (λ u. has u s.left) held.gains in
    past_total k rank s h reached c.args.self.now held c.in-Some.node l.0 l.1 c.take_out.new.self
    (went_on k rank s h reached c.args.self.now held c.in-Some.node l.0 l.1
    (record {
      table = record {
        tally = c.take_least.new.self;
        cells = c.args.self.now.table.cells;
        links = c.args.self.now.table.links;
        total = c.args.self.now.table.total;
      };
      plan = c.args.self.now.plan;
      nodes = c.args.self.now.nodes;
    })
    c.take_out.new.self (keeps_sums (all_of k) (cells_at k s) c.args.self.now.table c.take_least.new.self c.in-Some.ensures.sums.0
    held.table) (c.in-Some.ensures.rest (λ u. has u s.left) held.gains)
    (λ x y. refl) refl refl c.in-Some.ensures.sums.1 c.in-Ok.ensures.table c.in-Ok.ensures.plan c.in-Ok.ensures.order c.in-Ok.ensures.nodes
    c.in-Ok.ensures.leaves c.in-Ok.ensures.gains).1
    c.if-self-gt-MOST.true

pub returns-in-None-clause-went : goal.returns-in-None-clause-went
returns-in-None-clause-went c k rank s h reached held = (
  s,
  (none_left s.left (c.in-None.ensures.none (λ u. has u s.left) held.gains), refl),
  record {
    table = keeps_sums (all_of k) (cells_at k s) c.args.self.now.table c.take_least.new.self c.in-None.ensures.sums.0 held.table;
    gains = c.in-None.ensures.kept (λ u. has u s.left) held.gains;
    plan = held.plan;
    order = held.order;
    nodes = record {
      cells = held.nodes.cells;
      leaves = λ u i. ap (λ (xs : List ℕ). leaves_at xs u) c.in-None.ensures.sums.1
          ∙ held.nodes.leaves u i;
    };
  },
)
