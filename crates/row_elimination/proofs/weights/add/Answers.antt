use Rattle.std.proofs.Common.{rules, ◌≡◌, ◌∙◌, ap, ℕ, arith, set, Some, None, ◌+◌}
use Rattle.std.specs.List.{insert}
use Rattle.row_elimination.specs.Weights.{found_factor, before_row}
use Rattle.row_elimination.proofs.Adding.{absent_fits, joined, joined_fits, inserted, found_within, none_if, some_if, true_if}
use Rattle.row_elimination.proofs.weights.add.Goals as goal

pub returns-in_default : goal.returns-in_default
returns-in_default c =
    let found : found_factor c.args.new.row c.args.out.now.items ≡ Some c.in-Some.old = search rules in
    joined_fits c.args.new c.args.out.now.items c.in-Some.old found ∙ none_if {A = ℕ} _ _ _ c.sum.ensures c.in_default.is

pub index_mut-requires : goal.index_mut-requires
index_mut-requires c =
    let found : found_factor c.args.new.row c.args.out.now.items ≡ Some c.in-Some.old = search rules in
    let within = found_within c.args.new.row c.args.out.now.items c.in-Some.old found in
    let place : c.place_of-place.result.index ≡ before_row c.args.new.row c.args.out.now.items = search rules in
    omega arith

pub returns-in-Some-sum : goal.returns-in-Some-sum
returns-in-Some-sum c =
    let found : found_factor c.args.new.row c.args.out.now.items ≡ Some c.in-Some.old = search rules in
    let place : c.place_of-place.result.index ≡ before_row c.args.new.row c.args.out.now.items = search rules in
    let factor : c.in-Some-sum.factor ≡ c.in-Some.old + c.args.new.factor = some_if {A = ℕ} _ _ _ _ c.sum.ensures c.in-Some-sum.is in
    let fits = joined_fits c.args.new c.args.out.now.items c.in-Some.old found ∙ true_if {A = ℕ} _ _ _ _ c.sum.ensures c.in-Some-sum.is in
    let made =
    ap (λ f. set c.args.out.now.items c.place_of-place.result.index (record { row = c.args.new.row; factor = f })) factor
    ∙ ap (λ n. set c.args.out.now.items n (record { row = c.args.new.row; factor = c.in-Some.old + c.args.new.factor })) place
    ∙ joined c.args.new c.args.out.now.items c.in-Some.old found in
    (fits, made)

pub returns-in_ok-insert-in-None : goal.returns-in_ok-insert-in-None
returns-in_ok-insert-in-None c =
    let found : found_factor c.args.new.row c.args.out.now.items ≡ None = search rules in
    let place : c.place_of-place.result.index ≡ before_row c.args.new.row c.args.out.now.items = search rules in
    let items = c.in_ok-insert-in-None.ensures.items in
    (absent_fits c.args.new c.args.out.now.items found, items ∙ ap (λ n. insert c.args.out.now.items n c.args.new) place ∙ inserted c.args.new c.args.out.now.items found)
