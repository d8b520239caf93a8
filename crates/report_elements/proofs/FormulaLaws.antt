-- The text of a formula is read as the formula.
use Rattle.std.proofs.Common.{ℕ, zero, suc, ◌-◌, ◌^◌, ◌≡◌, ◌≢◌, ◌<◌, ◌&&◌, Bool, true, false, List, IsTrue, Option, Some, None, refl, sym, ap, ◌∙◌, map, nat_lt, option_and_then, if◌then◌else◌, arith}
use Rattle.std.proofs.lemmas.Bool.Decides.{nat_tests}
use Rattle.cost_multiset.specs.CostLists.{IsDescending, descends, places}
use Rattle.wsym_formula.specs.declared.terms.Term.{fold-roll-Term}
use Rattle.wsym_formula.specs.declared.terms.Term.TheOpen.{Term-F}
use Rattle.wsym_formula.specs.declared.terms.Term.TheVariants as f
use Rattle.cost_multiset.specs.CostLists.{CostList}
use Rattle.wsym_formula.specs.declared.terms.Term.{Term}
use Rattle.report_elements.specs.Elements.{costs_text, term_text}
use Rattle.report_elements.specs.ConstantReading.{costs_fit}
use Rattle.report_elements.proofs.ConstantLaws.{costs_read, costs_plain}
use Rattle.report_elements.specs.Constants.{checked, is_list, list_fits, list_of}
use Rattle.report_elements.specs.FormulaReading.{parsed, fits, fits_level}
use Rattle.report_elements.specs.TreeReading.{all_fit, inside, is_loop}
use Rattle.report_elements.proofs.BracketLaws.{Plain, parsed_text}

both : (a b : Bool) → (a && b) ≡ true → (a ≡ true) × (b ≡ true)
both true true e = (refl, refl)
both true false e = absurd (cc)
both false b e = absurd (cc)

list_read : (c : CostList) → list_fits c ≡ true → list_of (costs_text c) ≡ Some c
list_read c e =
    let p = both (costs_fit c) (is_list c) e in
    ap (option_and_then checked) (costs_read c p.0) ∙ ap (λ (b : Bool). if b then Some c else None) p.1

list_plain : (c : CostList) → list_fits c ≡ true → Plain (costs_text c)
list_plain c e = costs_plain c (both (costs_fit c) (is_list c) e).0

module _ (loops : ℕ) where
  pub formula_read : (limit : ℕ) (term : Term) → fits loops list_fits term limit ≡ true → parsed list_of limit (term_text term) ≡ Some term
  formula_read limit term fit = parsed_text loops list_of list_fits list_read list_plain limit term fit

  -- the limits of a formula, one level at a time
  abbrev in_room : Term → ℕ → Bool
  in_room = fits loops list_fits

  pub fits_const : (c : CostList) → in_room (f.Const c) ≡ inside (λ room. list_fits c)
  fits_const c = ap in_room (sym (f.rolls-Const c)) ∙ fold-roll-Term (ℕ → Bool) (fits_level loops list_fits) (Term-F.Const c)

  pub fits_sum : (ts : List Term) → in_room (f.Sum ts) ≡ inside (all_fit (map in_room ts))
  fits_sum ts = ap in_room (sym (f.rolls-Sum ts)) ∙ fold-roll-Term (ℕ → Bool) (fits_level loops list_fits) (Term-F.Sum ts)

  pub fits_alt : (ts : List Term) → in_room (f.Alt ts) ≡ inside (all_fit (map in_room ts))
  fits_alt ts = ap in_room (sym (f.rolls-Alt ts)) ∙ fold-roll-Term (ℕ → Bool) (fits_level loops list_fits) (Term-F.Alt ts)

  pub fits_power : (id : ℕ) (body : Term) → in_room (f.Power id body) ≡ inside (λ room. is_loop loops id && in_room body room)
  fits_power id body = ap in_room (sym (f.rolls-Power id body)) ∙ fold-roll-Term (ℕ → Bool) (fits_level loops list_fits) (Term-F.Power id body)

  pub fits_scaled : (id : ℕ) (body : Term) → in_room (f.Scaled id body) ≡ inside (λ room. is_loop loops id && in_room body room)
  fits_scaled id body = ap in_room (sym (f.rolls-Scaled id body)) ∙ fold-roll-Term (ℕ → Bool) (fits_level loops list_fits) (Term-F.Scaled id body)

  pub fits_once : (body : Term) → in_room (f.Once body) ≡ inside (in_room body)
  fits_once body = ap in_room (sym (f.rolls-Once body)) ∙ fold-roll-Term (ℕ → Bool) (fits_level loops list_fits) (Term-F.Once body)

  named_at : (id room : ℕ) (body term : Term) (b r : Bool) → in_room term ≡ inside (λ room. is_loop loops id && in_room body room) → room ≢ 0 → b ≡ in_room body (room - 1) → r ≡ (is_loop loops id && b) → r ≡ in_room term room
  named_at id zero body term b r is some first all = absurd (some refl)
  named_at id (suc room) body term b r is some first all =
      let less : suc room - 1 ≡ room = omega arith in
      all
      ∙ ap (λ (x : Bool). is_loop loops id && x) (first ∙ ap (in_room body) less)
      ∙ sym (ap (λ (g : ℕ → Bool). g (suc room)) is)

  pub power_at : (id room : ℕ) (body term : Term) (b r : Bool) → term ≡ f.Power id body → room ≢ 0 → b ≡ in_room body (room - 1) → r ≡ (is_loop loops id && b) → r ≡ in_room term room
  power_at id room body term b r is = named_at id room body term b r (ap in_room is ∙ fits_power id body)

  pub scaled_at : (id room : ℕ) (body term : Term) (b r : Bool) → term ≡ f.Scaled id body → room ≢ 0 → b ≡ in_room body (room - 1) → r ≡ (is_loop loops id && b) → r ≡ in_room term room
  scaled_at id room body term b r is = named_at id room body term b r (ap in_room is ∙ fits_scaled id body)

  pub once_at : (room : ℕ) (body term : Term) (r : Bool) → term ≡ f.Once body → room ≢ 0 → r ≡ in_room body (room - 1) → r ≡ in_room term room
  once_at zero body term r is some first = absurd (some refl)
  once_at (suc room) body term r is some first =
      let less : suc room - 1 ≡ room = omega arith in
      first
      ∙ ap (in_room body) less
      ∙ sym (ap (λ (g : ℕ → Bool). g (suc room)) (ap in_room is ∙ fits_once body))
