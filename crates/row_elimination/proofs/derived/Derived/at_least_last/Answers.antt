use Rattle.std.proofs.Common.{rules, ◌≡◌, sym, subst, List, negsuc}
use Rattle.linear_rows.specs.declared.rows.RowTerm.{RowTerm}
use Rattle.linear_rows.specs.Terms.{IsCollected, scaled_terms}
use Rattle.row_elimination.proofs.Summing.{negated_collected}
use Rattle.row_elimination.proofs.derived.Derived.at_least_last.Goals as goal

pub invariant_of-result : goal.invariant_of-result
invariant_of-result c =
    let terms : c.in_ok-negate.field-0 ≡ scaled_terms (negsuc 0) c.args.row.now.terms = search rules in
    subst (λ (ts : List RowTerm). IsCollected ts) (sym terms) (negated_collected c.args.row.now.terms c.terms.ensures.row.ascending c.terms.ensures.row.nonzero)

pub returns-clause-collected : goal.returns-clause-collected
returns-clause-collected c =
    let terms : c.in_ok-negate.field-0 ≡ scaled_terms (negsuc 0) c.args.row.now.terms = search rules in
    subst (λ (ts : List RowTerm). IsCollected ts) (sym terms) (negated_collected c.args.row.now.terms c.terms.ensures.row.ascending c.terms.ensures.row.nonzero)
