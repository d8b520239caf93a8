use Rattle.std.proofs.Common.{rules, ◌≡◌, ◌+◌, ◌≤◌, length, sym, ◌∙◌, ap, subst, true, false}
use Rattle.std.specs.Prelude.{◌&&◌, nat_le}
use Rattle.row_elimination.specs.Steps.{matches, matches_of, matches_fit, with_each, combined}
use Rattle.row_elimination.proofs.Matching.{row_taken, row_ends, row_passed}
use Rattle.row_elimination.proofs.steps.combine_all.Goals as goal
use Rattle.row_elimination.proofs.steps.combine_all.Goals.{then-is_positive_in+in_ok-count+in-Some, else-is_positive_in}

pub returns-in-None : goal.returns-in-None
returns-in-None c =
    let ends : (matches_fit c.args.var.now (matches_of c.args.var.now c.first_equality-equality.result c.loop-row.place c.row-item.result 0 c.args.rows.now)
    && nat_le (c.loop-row.made + length (matches_of c.args.var.now c.first_equality-equality.result c.loop-row.place c.row-item.result 0 c.args.rows.now)) 4096) ≡ false = search rules in
    row_ends c.args.var.now c.first_equality-equality.result c.loop-row.place c.loop-row.row-index c.row-item.result c.args.rows.now
    (matches c.args.var.now c.args.rows.now) c.loop-row.made c.args.count c.loop-row.kept.items c.args.kept.now.items
    c.loop-row-test.true c.row-item.is (sym c.is_positive_in.ensures ∙ c.if-is_positive_in.true) c.loop-row.invariant.progress ends

pub loop-row-preserved : goal.loop-row-preserved
loop-row-preserved c = record {
  numbered = search rules;
  progress = elim c.if-is_positive_in.branch [
    | then-is_positive_in+in_ok-count+in-Some w ↦
        let told : (matches_fit c.args.var.now (matches_of c.args.var.now c.first_equality-equality.result c.loop-row.place c.row-item.result 0 c.args.rows.now) ≡ true) × (w.in-Some.count ≡ c.loop-row.made + length (matches_of c.args.var.now c.first_equality-equality.result c.loop-row.place c.row-item.result 0 c.args.rows.now))
        × (w.in-Some.count ≤ 4096)
        × (w.combine_one.new.kept.items ≡ with_each c.loop-row.kept.items (combined c.args.var.now (matches_of c.args.var.now c.first_equality-equality.result c.loop-row.place c.row-item.result 0 c.args.rows.now))) = search rules in
        row_taken c.args.var.now c.first_equality-equality.result c.loop-row.place c.loop-row.row-index c.row-item.result c.args.rows.now
        (matches c.args.var.now c.args.rows.now) c.loop-row.made c.if-is_positive_in.made c.args.count c.loop-row.kept.items c.if-is_positive_in.kept.items c.args.kept.now.items
        c.loop-row-test.true c.row-item.is (sym c.is_positive_in.ensures ∙ w.if-is_positive_in.true) c.loop-row.invariant.progress
        told.0 (w.made-is ∙ told.1) (subst (λ n. n ≤ 4096) (sym w.made-is) told.2)
        (ap (λ v. v.items) w.kept-is ∙ told.3)
    | else-is_positive_in w ↦
        row_passed c.args.var.now c.first_equality-equality.result c.loop-row.place c.loop-row.row-index c.row-item.result c.args.rows.now
        (matches c.args.var.now c.args.rows.now) c.loop-row.made c.if-is_positive_in.made c.args.count c.loop-row.kept.items c.if-is_positive_in.kept.items c.args.kept.now.items
        c.loop-row-test.true c.row-item.is (sym c.is_positive_in.ensures ∙ w.if-is_positive_in.false) c.loop-row.invariant.progress
        w.made-is (ap (λ v. v.items) w.kept-is)
  ];
}
