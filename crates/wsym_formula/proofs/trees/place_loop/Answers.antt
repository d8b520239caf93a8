use Rattle.std.proofs.Common.{rules, ◌≡◌, ℕ, List, [], ◌∷◌, max, ap, ◌∙◌}
use Rattle.wsym_formula.specs.Tables.{meanings, opened}
use Rattle.wsym_formula.specs.Trees.{scope_outside}
use Rattle.wsym_formula.specs.declared.nodes.Node.TheVariants.{Sum}
use Rattle.wsym_formula.proofs.Placing.{loop_placed}
use Rattle.wsym_formula.proofs.trees.place_loop.Goals as goal

pub returns-clause-placed : goal.returns-clause-placed
returns-clause-placed c =
    let e : c.push-2.new.self ≡ c.in_ok-turns.turns ∷ c.in_ok-leaving.leaving ∷ [] = search rules in
    let widest : c.max.result ≡ max (scope_outside c.args.depth c.args.body.scope) (scope_outside c.args.depth c.args.exit.scope) = search rules in
    loop_placed c.args.table.now c.place_turns.new.table c.place_leaving.new.table c.place.new.table c.args.id c.args.depth c.args.body.number c.args.body.scope c.args.exit.number c.args.exit.scope
    c.in_ok-turns.turns c.in_ok-leaving.leaving c.in_ok-number.number c.max.result
    c.in_ok-turns.ensures.extends c.in_ok-leaving.ensures.extends c.requires.body c.requires.exit c.in_ok-turns.ensures.within c.in_ok-turns.ensures.means c.in_ok-leaving.ensures.means
    c.in_ok-number.ensures.within (c.in_ok-number.ensures.means ∙ ap (λ (ms : List ℕ). opened (meanings c.place_leaving.new.table) (Sum ms)) e) widest
