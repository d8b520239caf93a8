use Rattle.std.proofs.Common.{rules, ◌≡◌, sym, ◌∙◌, subst, List, true, to_z, of_z}
use Rattle.std.specs.Int.{w128}
use Rattle.std.proofs.lemmas.Int.{to_z-of_z}
use Rattle.linear_rows.specs.declared.rows.RowTerm.{RowTerm}
use Rattle.linear_rows.specs.Terms.{IsCollected}
use Rattle.linear_rows.specs.NormalForm.{divided}
use Rattle.row_elimination.specs.Derivations.{divisor_of_all, sum_terms, sum_last, sum_constant}
use Rattle.row_elimination.specs.Weights.{combined_support, supports_fit}
use Rattle.row_elimination.proofs.Summing.{weighed, last_too_large, constant_too_large, terms_too_large, terms_weighed, divisor_made, support_too_large, small_number, small_terms, small_support, all_small, sum_made, divided_collected}
use Rattle.row_elimination.proofs.derived.Derived.weighted.Goals as goal

pub returns-in_default : goal.returns-in_default
returns-in_default c =
    last_too_large c.args.a c.args.b c.args.self.now c.args.other.now _ _ c.weigh_numbers.result
    (to_z-of_z w128 c.last.result (record { sfits = c.last.type_inv }) ∙ c.last.ensures)
    (to_z-of_z w128 c.last-2.result (record { sfits = c.last-2.type_inv }) ∙ c.last-2.ensures)
    c.weigh_numbers.ensures c.in_default.is

pub returns-in_default-weigh_numbers : goal.returns-in_default-weigh_numbers
returns-in_default-weigh_numbers c =
    constant_too_large c.args.a c.args.b c.args.self.now c.args.other.now _ _ c.weigh_numbers-2.result
    (to_z-of_z w128 c.constant.result (record { sfits = c.constant.type_inv }) ∙ c.constant.ensures)
    (to_z-of_z w128 c.constant-2.result (record { sfits = c.constant-2.type_inv }) ∙ c.constant-2.ensures)
    c.weigh_numbers-2.ensures c.in_default-weigh_numbers.is

pub returns-in_default-2 : goal.returns-in_default-2
returns-in_default-2 c =
    terms_too_large c.args.a c.args.b c.args.self.now c.args.other.now c.self.inside.terms c.other.inside.terms c.in_ok-terms.field-0
    (search rules) (search rules) c.in_ok-terms.ensures.exact c.in_default-2.is

pub returns-in_default-3 : goal.returns-in_default-3
returns-in_default-3 c =
    let last : to_z w128 (of_z w128 c.in-Some.last) ≡ sum_last c.args.a c.args.self.now c.args.b c.args.other.now =
    to_z-of_z w128 c.in-Some.last (search rules)
    ∙ weighed c.args.a c.args.b c.args.self.now.last c.args.other.now.last c.in-Some.last _ _ c.weigh_numbers.result
    (to_z-of_z w128 c.last.result (record { sfits = c.last.type_inv }) ∙ c.last.ensures)
    (to_z-of_z w128 c.last-2.result (record { sfits = c.last-2.type_inv }) ∙ c.last-2.ensures) c.weigh_numbers.ensures c.in-Some.is in
    let constant : to_z w128 (of_z w128 c.in-Some-weigh_numbers.constant) ≡ sum_constant c.args.a c.args.self.now c.args.b c.args.other.now =
    to_z-of_z w128 c.in-Some-weigh_numbers.constant (search rules)
    ∙ weighed c.args.a c.args.b c.args.self.now.constant c.args.other.now.constant c.in-Some-weigh_numbers.constant _ _ c.weigh_numbers-2.result
    (to_z-of_z w128 c.constant.result (record { sfits = c.constant.type_inv }) ∙ c.constant.ensures)
    (to_z-of_z w128 c.constant-2.result (record { sfits = c.constant-2.type_inv }) ∙ c.constant-2.ensures) c.weigh_numbers-2.ensures c.in-Some-weigh_numbers.is in
    let terms : c.as_slice.result.now ≡ sum_terms c.args.a c.args.self.now c.args.b c.args.other.now =
    c.as_slice.ensures ∙ terms_weighed c.args.a c.args.b c.args.self.now c.args.other.now c.self.inside.terms c.other.inside.terms c.in-Some-2.terms c.in_ok-terms.field-0
    (search rules) (search rules) c.in_ok-terms.ensures.exact c.in-Some-2.is in
    let divisor = divisor_made c.args.a c.args.b c.args.self.now c.args.other.now c.as_slice.result.now _ _ c.divisor_of-divisor.result terms last constant c.divisor_of-divisor.ensures in
    support_too_large c.args.a c.args.b c.args.self.now c.args.other.now c.self.inside.support c.other.inside.support c.divisor_of-divisor.result (search rules) (search rules) divisor (search rules)

pub returns : goal.returns
returns c =
    let last : to_z w128 (of_z w128 c.in-Some.last) ≡ sum_last c.args.a c.args.self.now c.args.b c.args.other.now =
    to_z-of_z w128 c.in-Some.last (search rules)
    ∙ weighed c.args.a c.args.b c.args.self.now.last c.args.other.now.last c.in-Some.last _ _ c.weigh_numbers.result
    (to_z-of_z w128 c.last.result (record { sfits = c.last.type_inv }) ∙ c.last.ensures)
    (to_z-of_z w128 c.last-2.result (record { sfits = c.last-2.type_inv }) ∙ c.last-2.ensures) c.weigh_numbers.ensures c.in-Some.is in
    let constant : to_z w128 (of_z w128 c.in-Some-weigh_numbers.constant) ≡ sum_constant c.args.a c.args.self.now c.args.b c.args.other.now =
    to_z-of_z w128 c.in-Some-weigh_numbers.constant (search rules)
    ∙ weighed c.args.a c.args.b c.args.self.now.constant c.args.other.now.constant c.in-Some-weigh_numbers.constant _ _ c.weigh_numbers-2.result
    (to_z-of_z w128 c.constant.result (record { sfits = c.constant.type_inv }) ∙ c.constant.ensures)
    (to_z-of_z w128 c.constant-2.result (record { sfits = c.constant-2.type_inv }) ∙ c.constant-2.ensures) c.weigh_numbers-2.ensures c.in-Some-weigh_numbers.is in
    let terms : c.as_slice.result.now ≡ sum_terms c.args.a c.args.self.now c.args.b c.args.other.now =
    c.as_slice.ensures ∙ terms_weighed c.args.a c.args.b c.args.self.now c.args.other.now c.self.inside.terms c.other.inside.terms c.in-Some-2.terms c.in_ok-terms.field-0
    (search rules) (search rules) c.in_ok-terms.ensures.exact c.in-Some-2.is in
    let divisor = divisor_made c.args.a c.args.b c.args.self.now c.args.other.now c.as_slice.result.now _ _ c.divisor_of-divisor.result terms last constant c.divisor_of-divisor.ensures in
    let support : c.in-Some-3.support ≡ combined_support c.args.a c.self.inside.support c.args.b c.other.inside.support c.divisor_of-divisor.result = search rules in
    let last_fits =
    small_number c.args.a c.args.b c.args.self.now.last c.args.other.now.last c.in-Some.last _ _ c.weigh_numbers.result
    (to_z-of_z w128 c.last.result (record { sfits = c.last.type_inv }) ∙ c.last.ensures)
    (to_z-of_z w128 c.last-2.result (record { sfits = c.last-2.type_inv }) ∙ c.last-2.ensures) c.weigh_numbers.ensures c.in-Some.is in
    let constant_fits =
    small_number c.args.a c.args.b c.args.self.now.constant c.args.other.now.constant c.in-Some-weigh_numbers.constant _ _ c.weigh_numbers-2.result
    (to_z-of_z w128 c.constant.result (record { sfits = c.constant.type_inv }) ∙ c.constant.ensures)
    (to_z-of_z w128 c.constant-2.result (record { sfits = c.constant-2.type_inv }) ∙ c.constant-2.ensures) c.weigh_numbers-2.ensures c.in-Some-weigh_numbers.is in
    let terms_fit =
    small_terms c.args.a c.args.b c.args.self.now c.args.other.now c.self.inside.terms c.other.inside.terms c.in-Some-2.terms c.in_ok-terms.field-0
    (search rules) (search rules) c.in_ok-terms.ensures.exact c.in-Some-2.is in
    let fits : supports_fit c.args.a c.self.inside.support c.args.b c.other.inside.support c.divisor_of-divisor.result ≡ true = search rules in
    let support_fits = small_support c.args.a c.args.b c.args.self.now c.args.other.now c.self.inside.support c.other.inside.support c.divisor_of-divisor.result (search rules) (search rules) divisor fits in
    let made =
    sum_made c.args.a c.args.b c.args.self.now c.args.other.now c.as_slice.result.now c.in_ok-terms-2.terms _ _ _ _ c.divisor_of-divisor.result
    c.self.inside.support c.other.inside.support c.in-Some-3.support terms last constant divisor (search rules) (search rules)
    (search rules) (to_z-of_z w128 c.quotient-last.result (record { sfits = c.quotient-last.type_inv }) ∙ c.quotient-last.ensures)
    (to_z-of_z w128 c.quotient-constant.result (record { sfits = c.quotient-constant.type_inv }) ∙ c.quotient-constant.ensures) support in
    (all_small _ _ _ _ terms_fit last_fits constant_fits support_fits, made)

pub invariant_of-result : goal.invariant_of-result
invariant_of-result c =
    let made : c.in_ok-terms-2.terms ≡ divided (divisor_of_all c.as_slice.result.now (to_z w128 (of_z w128 c.in-Some.last)) (to_z w128 (of_z w128 c.in-Some-weigh_numbers.constant))) c.as_slice.result.now = search rules in
    let collected : IsCollected c.as_slice.result.now = search rules in
    subst (λ (ts : List RowTerm). IsCollected ts) (sym made) (divided_collected c.as_slice.result.now (to_z w128 (of_z w128 c.in-Some.last)) (to_z w128 (of_z w128 c.in-Some-weigh_numbers.constant)) collected)
