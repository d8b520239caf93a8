use Rattle.std.proofs.Common.{rules, ◌≡◌, ◌∙◌, ◌*ℤ◌, to_z, of_z, false}
use Rattle.farkas.specs.Placing.{slack_of, slack_fits}
use Rattle.std.specs.Int.{w128}
use Rattle.std.proofs.lemmas.Int.{to_z-of_z}
use Rattle.farkas.proofs.Slacks.{whole_too_large, whole_made, rest_too_large, rest_made, slack_made, none_made}
use Rattle.farkas.proofs.placing.Placed.slack.Goals as goal

pub returns-in_err-whole : goal.returns-in_err-whole
returns-in_err-whole c =
    none_made (slack_fits c.args.self.now c.args.row.now ≡ false) (λ s. s ≡ slack_of c.args.self.now c.args.row.now) c.from_residual.result c.from_residual.ensures
    (whole_too_large c.args.self.now c.args.row.now _ _ c.times.result
    (to_z-of_z w128 c.constant.result (record { sfits = c.constant.type_inv }) ∙ c.constant.ensures)
    (to_z-of_z w128 c.args.self.now.divisor (search rules)) c.times.ensures c.in_err-whole.was)

pub returns-in_err-rest : goal.returns-in_err-rest
returns-in_err-rest c =
    let whole : to_z w128 (of_z w128 c.in_ok-whole.whole) ≡ c.args.row.now.constant *ℤ c.args.self.now.divisor =
    to_z-of_z w128 c.in_ok-whole.whole (search rules) ∙ whole_made c.args.self.now c.args.row.now _ _ c.in_ok-whole.whole c.times.result
    (to_z-of_z w128 c.constant.result (record { sfits = c.constant.type_inv }) ∙ c.constant.ensures)
    (to_z-of_z w128 c.args.self.now.divisor (search rules)) c.times.ensures c.in_ok-whole.was in
    none_made (slack_fits c.args.self.now c.args.row.now ≡ false) (λ s. s ≡ slack_of c.args.self.now c.args.row.now) c.from_residual-in_err-rest.result c.from_residual-in_err-rest.ensures
    (rest_too_large c.args.self.now c.args.row.now (to_z w128 (of_z w128 c.in_ok-whole.whole)) (to_z w128 (of_z w128 c.last.result)) (to_z w128 (of_z w128 c.args.self.now.last)) whole
    (to_z-of_z w128 c.last.result (record { sfits = c.last.type_inv }) ∙ c.last.ensures)
    (to_z-of_z w128 c.args.self.now.last (search rules)) c.in_err-rest.ensures)

pub returns : goal.returns
returns c =
    let whole : to_z w128 (of_z w128 c.in_ok-whole.whole) ≡ c.args.row.now.constant *ℤ c.args.self.now.divisor =
    to_z-of_z w128 c.in_ok-whole.whole (search rules) ∙ whole_made c.args.self.now c.args.row.now _ _ c.in_ok-whole.whole c.times.result
    (to_z-of_z w128 c.constant.result (record { sfits = c.constant.type_inv }) ∙ c.constant.ensures)
    (to_z-of_z w128 c.args.self.now.divisor (search rules)) c.times.ensures c.in_ok-whole.was in
    let rest = rest_made c.args.self.now c.args.row.now (to_z w128 (of_z w128 c.in_ok-whole.whole)) (to_z w128 (of_z w128 c.last.result)) (to_z w128 (of_z w128 c.args.self.now.last)) (to_z w128 (of_z w128 c.in_ok-rest.rest)) whole
    (to_z-of_z w128 c.last.result (record { sfits = c.last.type_inv }) ∙ c.last.ensures)
    (to_z-of_z w128 c.args.self.now.last (search rules)) (to_z-of_z w128 c.in_ok-rest.rest (search rules) ∙ c.in_ok-rest.ensures) in
    slack_made c.args.self.now c.args.row.now (to_z w128 (of_z w128 c.in_ok-rest.rest)) c.terms.result.now c.without.result rest c.terms.ensures c.without.ensures
