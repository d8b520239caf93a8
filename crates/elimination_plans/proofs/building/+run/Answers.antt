use Rattle.std.proofs.Common.{rules, ◌++◌, ◌∷◌, [], get_or, arith, refl, ap, ◌∙◌, subst}
use Rattle.std.proofs.lemmas.List.{take_more}
use Rattle.elimination_plans.specs.declared.plans.Piece.{Piece}
use Rattle.elimination_plans.specs.declared.plans.Piece.TheVariants.{Edge}
use Rattle.tree_law.specs.Ways.{IsIn}
use Rattle.elimination_plans.specs.Plans.{via, node_of_plan, entry_pieces}
use Rattle.elimination_plans.proofs.StackLemmas.{choice_high, next_choices, last_high, edge_smaller, edge_low, node_smaller, node_low}
use Rattle.elimination_plans.proofs.StackLemmas.{spread_lower, spread_low, edge_made, node_made, several_made, single_made, first_in}
use Rattle.elimination_plans.proofs.building.+run.Goals as goal

pub choices-run-requires : goal.choices-run-requires
choices-run-requires g t c κs within =
    let plan = c.args.plan.now in
    let from = c.in_ok-spread.ensures ∙ ap (λ l. l ++ entry_pieces (node_of_plan plan) c.args.from c.args.to
    (get_or c.ways_of-entry-items.result.now c.loop-entry.entry-index 0)) c.new-stack.ensures.items in
    let h = choice_high (via plan) (node_of_plan plan) c.requires.falls c.args.from c.args.to c.loop-entry.entry-index
    c.ways_of-entry-items.result.now c.spread.new.stack.items c.ways_of-entry-items.ensures c.loop-entry-test.true from in
    (omega (arith, h), (within, c.requires.falls))

pub choices-loop-entry-preserved : goal.choices-loop-entry-preserved
choices-loop-entry-preserved g t c =
    let plan = c.args.plan.now in
    let from = c.in_ok-spread.ensures ∙ ap (λ l. l ++ entry_pieces (node_of_plan plan) c.args.from c.args.to
    (get_or c.ways_of-entry-items.result.now c.loop-entry.entry-index 0)) c.new-stack.ensures.items in
    record {
      items = c.loop-entry.invariant.items;
      made = λ tree F x u. next_choices tree F (node_of_plan plan) c.args.from c.args.to
          c.ways_of-entry-items.result.now c.loop-entry.entry-index c.loop-entry.made c.push.new.self c.spread.new.stack.items
          c.in_ok-run.field-0
          (c.in_ok-run.ensures tree F x u) from (take_more c.ways_of-entry-items.result.now c.loop-entry.entry-index 0
          c.loop-entry-test.true)
          (c.loop-entry.invariant.made tree F x u) c.in_ok-push.ensures.ok;
    }

pub run-unfold-requires : goal.run-unfold-requires
run-unfold-requires g t c κs within =
    let e = c.in-Some.ensures.items ∙ ap (λ (x : Piece). c.pop.new.self.items ++ x ∷ []) c.in-Edge.is in
    let l = last_high (via c.args.plan.now) c.loop-piece.stack.items c.pop.new.self.items (Edge c.in-Edge.from c.in-Edge.to) e in
    let low = c.loop-piece.invariant.low in
    let l0 = l.0 in
    (omega (arith, l0, low), (within, c.requires.falls))

pub run-loop-piece-smaller-in_ok-unfold-in-Edge : goal.run-loop-piece-smaller-in_ok-unfold-in-Edge
run-loop-piece-smaller-in_ok-unfold-in-Edge g t c =
    let e = c.in-Some.ensures.items ∙ ap (λ (x : Piece). c.pop.new.self.items ++ x ∷ []) c.in-Edge.is in
    edge_smaller (via c.args.plan.now) c.loop-piece.stack.items c.pop.new.self.items c.unfold.new.stack.items c.in-Edge.from c.in-Edge.to e
    c.in_ok-unfold-in-Edge.ensures.lower

pub run-loop-piece-preserved-in_ok-unfold-in-Edge : goal.run-loop-piece-preserved-in_ok-unfold-in-Edge
run-loop-piece-preserved-in_ok-unfold-in-Edge g t c =
    let e = c.in-Some.ensures.items ∙ ap (λ (x : Piece). c.pop.new.self.items ++ x ∷ []) c.in-Edge.is in
    record {
      made = λ tree F x u. edge_made tree F c.loop-piece.stack.items c.pop.new.self.items c.unfold.new.stack.items
          c.in-Edge.from c.in-Edge.to c.loop-piece.made c.unfold.new.made _ e (c.in_ok-unfold-in-Edge.ensures.made tree F x u)
          (c.loop-piece.invariant.made tree F x u);
      low = edge_low (via c.args.plan.now) c.loop-piece.stack.items c.pop.new.self.items c.unfold.new.stack.items c.in-Edge.from
          c.in-Edge.to _ e c.in_ok-unfold-in-Edge.ensures.low c.loop-piece.invariant.low;
    }

pub run-loop-piece-smaller : goal.run-loop-piece-smaller
run-loop-piece-smaller g t c =
    let e = c.in-Some.ensures.items ∙ ap (λ (x : Piece). c.pop.new.self.items ++ x ∷ []) c.in-Node.is in
    node_smaller (via c.args.plan.now) c.loop-piece.stack.items c.pop.new.self.items c.in-Node.node e

pub run-loop-piece-preserved : goal.run-loop-piece-preserved
run-loop-piece-preserved g t c =
    let e = c.in-Some.ensures.items ∙ ap (λ (x : Piece). c.pop.new.self.items ++ x ∷ []) c.in-Node.is in
    record {
      made = λ tree F x u. node_made tree F c.loop-piece.stack.items c.pop.new.self.items c.in-Node.node
          c.loop-piece.made c.push.new.self _ c.in_ok-tree_of-in-Node.field-0 e (x _ _ c.in_ok-tree_of-in-Node.ensures)
          c.in_ok-push-in-Node.ensures.ok (c.loop-piece.invariant.made tree F x u);
      low = node_low (via c.args.plan.now) c.loop-piece.stack.items c.pop.new.self.items c.in-Node.node _ e c.loop-piece.invariant.low;
    }

pub unfold-returns-in_ok-push-clause-made : goal.unfold-returns-in_ok-push-clause-made
unfold-returns-in_ok-push-clause-made g t c tree F x u =
    several_made tree F (node_of_plan c.args.plan.now) (via c.args.plan.now) u c.args.from c.args.to
    c.ways_of-ways.result.now c.ways_of-ways.ensures (search rules) c.args.made.now c.push.new.self c.in_ok-choices.field-0
    c.args.stack.now.items (c.in_ok-choices.ensures tree F x u) c.in_ok-push.ensures.ok

pub unfold-returns-in_ok-spread-clause-lower : goal.unfold-returns-in_ok-spread-clause-lower
unfold-returns-in_ok-spread-clause-lower g t c =
    let inside = subst (λ l. IsIn (get_or c.ways_of-ways.result.now 0 0) l) c.ways_of-ways.ensures
    (first_in c.ways_of-ways.result.now (get_or c.ways_of-ways.result.now 0 0) (search rules) refl) in
    spread_lower (via c.args.plan.now) c.spread.new.stack.items c.args.stack.now.items (node_of_plan c.args.plan.now) c.requires.falls
    c.args.from c.args.to (get_or c.ways_of-ways.result.now 0 0) inside c.in_ok-spread.ensures

pub unfold-returns-in_ok-spread-clause-low : goal.unfold-returns-in_ok-spread-clause-low
unfold-returns-in_ok-spread-clause-low g t c =
    let inside = subst (λ l. IsIn (get_or c.ways_of-ways.result.now 0 0) l) c.ways_of-ways.ensures
    (first_in c.ways_of-ways.result.now (get_or c.ways_of-ways.result.now 0 0) (search rules) refl) in
    spread_low (via c.args.plan.now) c.spread.new.stack.items c.args.stack.now.items (node_of_plan c.args.plan.now) c.requires.falls
    c.args.from c.args.to (get_or c.ways_of-ways.result.now 0 0) inside c.in_ok-spread.ensures

pub unfold-returns-in_ok-spread-clause-made : goal.unfold-returns-in_ok-spread-clause-made
unfold-returns-in_ok-spread-clause-made g t c tree F x u =
    single_made tree F (node_of_plan c.args.plan.now) (via c.args.plan.now) u c.args.from c.args.to
    c.ways_of-ways.result.now (get_or c.ways_of-ways.result.now 0 0) c.ways_of-ways.ensures (search rules) (search rules) refl
    c.args.made.now c.args.stack.now.items c.spread.new.stack.items c.in_ok-spread.ensures
