use Rattle.std.proofs.Common.{rules, ◌≡◌, sym, subst, List, ◌++◌, ◌∷◌, []}
use Rattle.row_elimination.specs.Derivations.{Derivation, given_from, EachCollected}
use Rattle.farkas.proofs.Collecting.{given_next, collected_push}
use Rattle.farkas.proofs.entailment.given.Goals as goal

pub loop-row-preserved : goal.loop-row-preserved
loop-row-preserved c =
    let made : c.push.new.self.items ≡ c.loop-row.out.items ++ c.in_ok-given.field-0 ∷ [] = c.in_ok-push.ensures.items in
    record {
      told = given_next c.args.rows.now c.loop-row.out.items c.push.new.self.items (given_from 0 c.args.rows.now) c.loop-row.place c.loop-row.row-index c.row-item.result c.in_ok-given.field-0
          c.loop-row-test.true c.row-item.is c.in_ok-given.ensures.is made c.loop-row.invariant.told;
      numbered = search rules;
      collected = subst (λ (rs : List Derivation). EachCollected rs) (sym made)
          (collected_push c.loop-row.out.items c.in_ok-given.field-0 c.loop-row.invariant.collected c.in_ok-given.ensures.collected);
    }
