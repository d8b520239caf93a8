use Rattle.std.proofs.Common.{◌≡◌, ℕ, List, [], ◌∷◌, ◌++◌, length, map, take, ◌+◌, sym, ap, subst, ◌∙◌}
use Rattle.std.proofs.lemmas.List.{take_more}
use Rattle.wsym_formula.specs.Tables.{AllBelow, meaning_at}
use Rattle.wsym_formula.proofs.Growing.{below_one, terms_one}
use Rattle.wsym_formula.proofs.Tabling.{extends_trans}
use Rattle.wsym_formula.proofs.sharing.+terms.Goals as goal

pub add_terms-loop-term-preserved : goal.add_terms-loop-term-preserved
add_terms-loop-term-preserved t c =
    let k : ℕ = c.in_ok-add_term.field-0 in
    let e : c.push.new.self ≡ c.loop-term.numbers ++ k ∷ [] = c.in_ok-push.ensures.ok in
    let taken : take (c.loop-term.term-index + 1) c.args.terms.now ≡ take c.loop-term.term-index c.args.terms.now ++ c.term-item.result ∷ [] =
    take_more c.args.terms.now c.loop-term.term-index c.term-item.result c.loop-term-test.true ∙ ap (λ x. take c.loop-term.term-index c.args.terms.now ++ x ∷ []) (sym c.term-item.is) in
    record {
      below = subst (λ (ms : List ℕ). AllBelow (length c.add_term.new.table) ms) (sym e) (below_one c.loop-term.table c.add_term.new.table c.loop-term.numbers k c.in_ok-add_term.ensures.extends c.loop-term.invariant.below c.in_ok-add_term.ensures.within);
      extends = extends_trans c.args.table.now c.loop-term.table c.add_term.new.table c.loop-term.invariant.extends c.in_ok-add_term.ensures.extends;
      means = ap (map (meaning_at c.add_term.new.table)) e
          ∙ terms_one c.loop-term.table c.add_term.new.table c.loop-term.numbers k _ c.term-item.result c.in_ok-add_term.ensures.extends c.loop-term.invariant.below c.loop-term.invariant.means c.in_ok-add_term.ensures.means
          ∙ sym taken;
    }
