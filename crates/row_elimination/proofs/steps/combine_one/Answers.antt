use Rattle.std.proofs.Common.{rules, ◌≡◌, sym, ◌∙◌, subst, refl, true}
use Rattle.row_elimination.specs.Derivations.{combination, combination_fits}
use Rattle.row_elimination.specs.Steps.{matches_of, with_one}
use Rattle.row_elimination.proofs.Matching.{step_taken, step_left}
use Rattle.row_elimination.proofs.steps.combine_one.Goals as goal
use Rattle.row_elimination.proofs.steps.combine_one.Goals.{then-is_match+else-made-eq-MOST_ROWS+in_ok-combine_two+else-not-branch, else-is_match}

pub loop-other-preserved : goal.loop-other-preserved
loop-other-preserved c = record {
  numbered = search rules;
  progress = elim c.if-is_match.branch [
    | then-is_match+else-made-eq-MOST_ROWS+in_ok-combine_two+else-not-branch w ↦
        let fits : combination_fits c.args.var.now c.args.row.now c.other-item.result ≡ true = search rules in
        let kept : w.combine_two.new.kept.items ≡ with_one c.loop-other.kept.items (combination c.args.var.now c.args.row.now c.other-item.result) = search rules in
        step_taken c.args.var.now c.args.equality c.args.place c.loop-other.other_place c.loop-other.other-index c.args.row.now c.other-item.result c.args.rows.now
        (matches_of c.args.var.now c.args.equality c.args.place c.args.row.now 0 c.args.rows.now) c.loop-other.made c.if-is_match.made c.args.count c.loop-other.kept.items c.if-is_match.kept.items c.args.kept.now.items
        c.loop-other-test.true c.other-item.is (sym c.is_match.ensures ∙ w.if-is_match.true) c.loop-other.invariant.progress w.if-made-eq-MOST_ROWS.false w.made-is fits
        (subst (λ v. v.items ≡ with_one c.loop-other.kept.items (combination c.args.var.now c.args.row.now c.other-item.result)) (sym w.kept-is) kept)
    | else-is_match w ↦
        step_left c.args.var.now c.args.equality c.args.place c.loop-other.other_place c.loop-other.other-index c.args.row.now c.other-item.result c.args.rows.now
        (matches_of c.args.var.now c.args.equality c.args.place c.args.row.now 0 c.args.rows.now) c.loop-other.made c.if-is_match.made c.args.count c.loop-other.kept.items c.if-is_match.kept.items c.args.kept.now.items
        c.loop-other-test.true c.other-item.is (sym c.is_match.ensures ∙ w.if-is_match.false) c.loop-other.invariant.progress w.made-is
        (subst (λ v. v.items ≡ c.loop-other.kept.items) (sym w.kept-is) refl)
  ];
}
