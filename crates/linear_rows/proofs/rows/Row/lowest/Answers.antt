use Rattle.std.proofs.Common.{rules, ◌≡◌, sym, ◌∙◌, subst, ℤ, List, Option, Some, FitsSigned}
use Rattle.std.specs.Int.{w128}
use Rattle.std.proofs.lemmas.Int.{to_z-of_z}
use Rattle.linear_rows.specs.declared.rows.RowTerm.{RowTerm}
use Rattle.linear_rows.specs.NormalForm.{IsRow, terms_within, divided}
use Rattle.linear_rows.proofs.Making.{divisor_positive, row_of_parts}
use Rattle.linear_rows.proofs.rows.Row.lowest.Goals as goal

pub bound-requires : goal.bound-requires
bound-requires c = divisor_positive c.args.terms.now c.divisor-divisor.result c.requires c.divisor-divisor.ensures

pub divide-requires : goal.divide-requires
divide-requires c = divisor_positive c.args.terms.now c.divisor-divisor.result c.requires c.divisor-divisor.ensures

pub invariant_of-result : goal.invariant_of-result
invariant_of-result c =
    let fits : FitsSigned w128 c.in-Some.constant = search rules in
    let terms : ◌≡◌ {A = Option (List RowTerm)} (Some c.in-Some-2.terms) (terms_within (divided c.divisor-divisor.result c.args.terms.now)) =
    sym c.in-Some-2.is ∙ c.in_ok-terms.ensures in
    let row : IsRow c.in-Some-2.terms c.in-Some.constant =
    row_of_parts c.args.terms.now _ c.divisor-divisor.result c.in-Some-2.terms c.in-Some.constant c.requires c.divisor-divisor.ensures c.in-Some.ensures terms in
    subst (λ (z : ℤ). IsRow c.in-Some-2.terms z) (sym (to_z-of_z w128 c.in-Some.constant fits)) row
