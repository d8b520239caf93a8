use Rattle.std.proofs.Common.{rules, ◌≡◌, ◌+◌, List, length, sym, ◌∙◌, ap, true, false, []}
use Rattle.std.specs.Prelude.{◌&&◌, nat_le}
use Rattle.row_elimination.specs.Derivations.{Derivation}
use Rattle.row_elimination.specs.Steps.{without, with_var, matches, matches_fit, with_each, combined}
use Rattle.row_elimination.proofs.Matching.{step_made, step_settled}
use Rattle.row_elimination.proofs.steps.eliminate.Goals as goal

pub returns-in-None : goal.returns-in-None
returns-in-None c =
    let with_is : c.as_slice.result.now ≡ with_var c.args.var.now c.args.rows.items = search rules in
    let count : c.len-count.result ≡ length (without c.args.var.now c.args.rows.items) = search rules in
    let ends : (matches_fit c.args.var.now (matches c.args.var.now c.as_slice.result.now) && nat_le (c.len-count.result + length (matches c.args.var.now c.as_slice.result.now)) 4096) ≡ false = search rules in
    step_settled c.args.var.now c.args.rows.items c.len-count.result false count
    (ap (λ (rs : List Derivation). matches_fit c.args.var.now (matches c.args.var.now rs) && nat_le (c.len-count.result + length (matches c.args.var.now rs)) 4096) (sym with_is) ∙ ends)

pub returns-in-Some : goal.returns-in-Some
returns-in-Some c =
    let free : c.in_ok-without.field-0.without.items ≡ without c.args.var.now c.args.rows.items = search rules in
    let with_is : c.as_slice.result.now ≡ with_var c.args.var.now c.args.rows.items = search rules in
    let kept : c.keep_each.new.kept.items ≡ with_each [] c.in_ok-without.field-0.without.items = search rules in
    let made : c.combine_all.new.kept.items ≡ with_each c.keep_each.new.kept.items (combined c.args.var.now (matches c.args.var.now c.as_slice.result.now)) = search rules in
    let count : c.len-count.result ≡ length (without c.args.var.now c.args.rows.items) = search rules in
    let ends : (matches_fit c.args.var.now (matches c.args.var.now c.as_slice.result.now) && nat_le (c.len-count.result + length (matches c.args.var.now c.as_slice.result.now)) 4096) ≡ true = search rules in (
      step_settled c.args.var.now c.args.rows.items c.len-count.result true count
          (ap (λ (rs : List Derivation). matches_fit c.args.var.now (matches c.args.var.now rs) && nat_le (c.len-count.result + length (matches c.args.var.now rs)) 4096) (sym with_is) ∙ ends),
      search rules,
      step_made c.args.var.now c.args.rows.items c.in_ok-without.field-0.without.items c.keep_each.new.kept.items c.combine_all.new.kept.items 0 free kept
          (made ∙ ap (λ (rs : List Derivation). with_each c.keep_each.new.kept.items (combined c.args.var.now (matches c.args.var.now rs))) with_is),
    )
