use Rattle.std.proofs.Common.{rules, ◌≡◌, ℕ, List, [], ◌∷◌, ◌++◌, length, map, take, max, ◌+◌, sym, ap, subst, ◌∙◌}
use Rattle.std.proofs.lemmas.Result.{IfOk-weaker}
use Rattle.std.proofs.lemmas.List.{map-append, take_more}
use Rattle.wsym_terms.specs.declared.trees.Tree.{Tree}
use Rattle.wsym_terms.specs.declared.trees.Tree.TheVariants as tree
use Rattle.wsym_formula.specs.Placing.{IsPlaced}
use Rattle.wsym_formula.specs.Trees.{Shape, shape_of}
use Rattle.wsym_formula.proofs.Placing.{leaf_is, loop_is, placed_as, placed_more, placed_same, placed_stays}
use Rattle.wsym_formula.proofs.Tabling.{extends_trans}
use Rattle.wsym_formula.proofs.trees.+members.Goals as goal

pub add_members-loop-tree-preserved : goal.add_members-loop-tree-preserved
add_members-loop-tree-preserved t c =
    let shape : Tree → Shape = shape_of c.args.miss in
    let done : List Tree = take c.loop-tree.tree-index c.args.trees.now in
    let x : Tree = c.tree-item.result in
    let taken : take (c.loop-tree.tree-index + 1) c.args.trees.now ≡ done ++ x ∷ [] =
    take_more c.args.trees.now c.loop-tree.tree-index x c.loop-tree-test.true ∙ ap (λ (y : Tree). done ++ y ∷ []) (sym c.tree-item.is) in
    let widest : c.max-scope.result ≡ max c.in_ok-placed.placed.scope c.loop-tree.scope = search rules in
    record {
      extends = extends_trans c.args.table.now c.loop-tree.table c.add_tree.new.table c.loop-tree.invariant.extends c.in_ok-placed.ensures.extends;
      placed = placed_same c.add_tree.new.table _ (map shape done ++ shape x ∷ []) c.args.depth _ (c.loop-tree.numbers ++ c.in_ok-placed.placed.number ∷ []) _ _
          (ap (map shape) taken ∙ map-append shape done (x ∷ [])) c.in_ok-push.ensures.ok widest
          (placed_more c.loop-tree.table c.add_tree.new.table (map shape done) (shape x) c.args.depth c.loop-tree.numbers c.loop-tree.scope c.in_ok-placed.placed.number c.in_ok-placed.placed.scope
          c.in_ok-placed.ensures.extends c.loop-tree.invariant.placed c.in_ok-placed.ensures.placed);
    }

pub add_tree-returns-in-Leaf-clause-placed : goal.add_tree-returns-in-Leaf-clause-placed
add_tree-returns-in-Leaf-clause-placed t c =
    let is = c.in-Leaf.is ∙ ap (tree.Leaf c.in-Leaf.block c.in-Leaf.base) (sym c.as_slice.ensures) in
    IfOk-weaker c.place_leaf.result _ _
    (λ p h. placed_as c.place_leaf.new.table _ _ c.args.depth p.number p.scope (leaf_is c.args.miss c.args.tree.now c.in-Leaf.block c.in-Leaf.base c.as_slice.result.now is) (h c.args.depth))
    c.place_leaf.ensures.placed

pub add_tree-returns-in_ok-leaving-in-Loop-clause-placed :
    goal.add_tree-returns-in_ok-leaving-in-Loop-clause-placed
add_tree-returns-in_ok-leaving-in-Loop-clause-placed t c =
    let shape : Tree → Shape = shape_of c.args.miss in
    let body : Tree = c.get.result.now in
    let exit : Tree = c.get-in-Loop.result.now in
    let inner : c.in-Some.inner ≡ c.args.depth + 1 = search rules in
    let is = c.in-Loop.is ∙ (λ i. tree.Loop c.in-Loop.id (sym c.get.ensures i) (sym c.get-in-Loop.ensures i)) in
    let turns = c.in_ok-turns-in-Loop.turns in
    let leaving = c.in_ok-leaving-in-Loop.leaving in
    let last = c.add_tree-in-Loop.new.table in
    let first = placed_stays c.add_tree.new.table last (shape body) c.in-Some.inner turns.number turns.scope c.in_ok-leaving-in-Loop.ensures.extends c.in_ok-turns-in-Loop.ensures.placed in
    IfOk-weaker c.place_loop.result _ _
    (λ p h. placed_as c.place_loop.new.table _ _ c.args.depth p.number p.scope (loop_is c.args.miss c.args.tree.now c.in-Loop.id body exit is)
    (h (shape body) (shape exit) (subst (λ (d : ℕ). IsPlaced last (shape body) d turns.number turns.scope) inner first)
    (subst (λ (d : ℕ). IsPlaced last (shape exit) d leaving.number leaving.scope) inner c.in_ok-leaving-in-Loop.ensures.placed)))
    c.place_loop.ensures.placed
