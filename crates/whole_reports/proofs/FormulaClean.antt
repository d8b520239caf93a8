-- No line feed stands in the text of a formula.
use Rattle.std.proofs.Common.{◌≡◌, ◌&&◌, ◌==◌, if◌then◌else◌, ℕ, zero, suc, ◌^◌, ◌<◌, Bool, true, false, List, [], ◌∷◌, ◌++◌, refl, sym, ap, ◌∙◌, subst, map, nat_lt, codes, arith}
use Rattle.std.proofs.lemmas.Bool.Decides.{nat_tests}
use Rattle.std.specs.Fmt.{decimal}
use denote.Hole.Holds.{Such}
use Rattle.cost_multiset.specs.declared.costs.Run.{Run}
use Rattle.cost_multiset.specs.CostLists.{CostList}
use Rattle.wsym_terms.specs.declared.costs.Cost.{Cost}
use Rattle.wsym_terms.specs.declared.costs.Cost.TheVariants.{Fin, Beyond, Unbounded}
use Rattle.wsym_formula.specs.declared.terms.Term.{Term, fold-roll-Term, roll-Term, ind-Term}
use Rattle.wsym_formula.specs.declared.terms.Term.TheOpen.{Term-F}
use Rattle.wsym_formula.specs.declared.terms.Term.TheVariants as f
use Rattle.wsym_formula.specs.declared.terms.Term.TheBlock.{the_family, member-Term}
use Rattle.wsym_formula.specs.declared.terms.Term.TheFolds.{claims, map-Term}
use Rattle.report_elements.specs.Elements.{cost_text, costs_text, further_runs, run_text, runs_text, spaced, term_text}
use Rattle.report_elements.proofs.Opening.{text_const, text_sum, text_choices, text_power, text_once, text_scaled}
use Rattle.report_elements.specs.ConstantReading.{cost_fits, costs_fit, run_fits, runs_fit}
use Rattle.report_elements.specs.FormulaReading.{fits, fits_level}
use Rattle.report_elements.specs.TreeReading.{all_fit, inside, is_loop}
use Rattle.report_elements.proofs.TreeLaws.{loop_small}
use Rattle.report_elements.specs.Constants.{list_fits}
use Rattle.whole_reports.proofs.WalkLaws.{NoFeed, no_feed_both}
use Rattle.whole_reports.proofs.CleanLaws.{both, clean_decimal, clean_fixed}

cost_clean : (c : Cost) → cost_fits c ≡ true → NoFeed (cost_text c)
cost_clean (Fin n) e = let small : n < 2 ^ 127 = grind (arith, nat_tests, e) in clean_decimal n small
cost_clean Beyond e = absurd (cc)
cost_clean Unbounded e = absurd (cc)

count_clean : (b : Bool) (n : ℕ) → n < 2 ^ 63 → NoFeed (if b then [] else codes "*" ++ decimal n)
count_clean true n few = tt
count_clean false n few = no_feed_both (codes "*") (decimal n) (clean_fixed (codes "*") refl) (clean_decimal n (omega arith))

run_clean : (r : Run) → run_fits r ≡ true → NoFeed (run_text r)
run_clean r fit =
    let fits2 = both (cost_fits r.value) (nat_lt r.count (2 ^ 63)) fit in
    let few : r.count < 2 ^ 63 = grind (arith, nat_tests, fits2.1) in
    no_feed_both (cost_text r.value) (if r.count == 1 then [] else codes "*" ++ decimal r.count) (cost_clean r.value fits2.0) (count_clean (r.count == 1) r.count few)

further_clean : (rs : List Run) → runs_fit rs ≡ true → NoFeed (further_runs rs)
further_clean [] fit = tt
further_clean (r ∷ rs) fit = let fits2 = both (run_fits r) (runs_fit rs) fit in no_feed_both (codes "," ++ run_text r) (further_runs rs) (no_feed_both (codes ",") (run_text r) (clean_fixed (codes ",") refl) (run_clean r fits2.0)) (further_clean rs fits2.1)

runs_clean : (rs : List Run) → runs_fit rs ≡ true → NoFeed (runs_text rs)
runs_clean [] fit = tt
runs_clean (r ∷ rs) fit = let fits2 = both (run_fits r) (runs_fit rs) fit in no_feed_both (run_text r) (further_runs rs) (run_clean r fits2.0) (further_clean rs fits2.1)

costs_clean : (c : CostList) → costs_fit c ≡ true → NoFeed (costs_text c)
costs_clean c fit =
    let fits2 = both (runs_fit c.runs) (cost_fits c.tail) fit in
    let one = no_feed_both (codes "{") (runs_text c.runs) (clean_fixed (codes "{") refl) (runs_clean c.runs fits2.0) in
    let two = no_feed_both (codes "{" ++ runs_text c.runs) (codes "|") one (clean_fixed (codes "|") refl) in
    let three = no_feed_both (codes "{" ++ runs_text c.runs ++ codes "|") (cost_text c.tail) two (cost_clean c.tail fits2.1) in
    no_feed_both (codes "{" ++ runs_text c.runs ++ codes "|" ++ cost_text c.tail) (codes "}") three (clean_fixed (codes "}") refl)

module _ (loops : ℕ) where
  abbrev in_room : Term → ℕ → Bool
  in_room = fits loops list_fits

  abbrev pub Clean : Term → Type 0
  Clean term = (room : ℕ) → in_room term room ≡ true → NoFeed (term_text term)

  abbrev AllClean : List Term → Type 0
  AllClean [] = Unit {0}
  AllClean (x ∷ xs) = Clean x × AllClean xs

  opened : (y : Term-F Term) (room : ℕ) → in_room (roll-Term y) room ≡ true → fits_level loops list_fits (map-Term Term (ℕ → Bool) in_room y) room ≡ true
  opened y room fit = ap (λ (g : ℕ → Bool). g room) (sym (fold-roll-Term (ℕ → Bool) (fits_level loops list_fits) y)) ∙ fit

  clean_members : (room : ℕ) (ts : List Term) → AllClean ts → all_fit (map in_room ts) room ≡ true → NoFeed (spaced term_text ts)
  clean_members room [] all fit = tt
  clean_members room (x ∷ xs) all fit =
      let fits2 = both (in_room x room) (all_fit (map in_room xs) room) fit in
      ((clean_fixed (32 ∷ []) refl).0, no_feed_both (term_text x) (spaced term_text xs) (all.0 room fits2.0) (clean_members room xs all.1 fits2.1))

  clean_bracket : (a b c : List ℕ) → NoFeed a → NoFeed b → NoFeed c → NoFeed (a ++ b ++ c)
  clean_bracket a b c x y z = no_feed_both (a ++ b) c (no_feed_both a b x y) z

  members_room : (room : ℕ) (ts : List Term) → AllClean ts → inside (all_fit (map in_room ts)) room ≡ true → NoFeed (spaced term_text ts)
  members_room zero ts all fit = absurd (cc)
  members_room (suc room) ts all fit = clean_members room ts all fit

  id_room : (front : List ℕ) (room id : ℕ) (body : Term) → NoFeed front → Clean body → inside (λ k. is_loop loops id && in_room body k) room ≡ true → NoFeed (front ++ decimal id ++ codes " " ++ term_text body ++ codes ")")
  id_room front zero id body start first fit = absurd (cc)
  id_room front (suc room) id body start first fit =
      let fits2 = both (is_loop loops id) (in_room body room) fit in
      let small : id < 2 ^ 32 = loop_small loops id fits2.0 in
      let one = no_feed_both front (decimal id) start (clean_decimal id (omega (arith, small))) in
      let two = no_feed_both (front ++ decimal id) (codes " ") one (clean_fixed (codes " ") refl) in
      clean_bracket (front ++ decimal id ++ codes " ") (term_text body) (codes ")") two (first room fits2.1) (clean_fixed (codes ")") refl)

  const_room : (room : ℕ) (c : CostList) → inside (λ r. list_fits c) room ≡ true → list_fits c ≡ true
  const_room zero c fit = absurd (cc)
  const_room (suc room) c fit = fit

  once_room : (room : ℕ) (body : Term) → Clean body → inside (in_room body) room ≡ true → NoFeed (codes "(once " ++ term_text body ++ codes ")")
  once_room zero body first fit = absurd (cc)
  once_room (suc room) body first fit = clean_bracket (codes "(once ") (term_text body) (codes ")") (clean_fixed (codes "(once ") refl) (first room fit) (clean_fixed (codes ")") refl)

  abbrev Known : Type 0
  Known = Such the_family (claims Clean) member-Term

  all_clean : (ys : List Known) → AllClean (map (λ e. e.0) ys)
  all_clean [] = tt
  all_clean (y ∷ ys) = (y.1, all_clean ys)

  text_rolled : {a : Term} {b : Term} → a ≡ b → NoFeed (term_text b) → NoFeed (term_text a)
  text_rolled e n = subst (λ (x : Term). NoFeed (term_text x)) (sym e) n

  one_level : (y : Term-F Known) → Clean (roll-Term (map-Term Known Term (λ e. e.0) y))
  one_level (Term-F.Const c) room fit =
      let in_list : list_fits c ≡ true = const_room room c (opened (Term-F.Const c) room fit) in
      text_rolled (f.rolls-Const c) (subst NoFeed (sym (text_const c)) (costs_clean c (both (costs_fit c) _ in_list).0))
  one_level (Term-F.Sum ys) room fit =
      let ts = map (λ (e : Known). e.0) ys in
      text_rolled (f.rolls-Sum ts) (subst NoFeed (sym (text_sum ts)) (clean_bracket (codes "(sum") (spaced term_text ts) (codes ")") (clean_fixed (codes "(sum") refl) (members_room room ts (all_clean ys) (opened (Term-F.Sum ts) room fit)) (clean_fixed (codes ")") refl)))
  one_level (Term-F.Alt ys) room fit =
      let ts = map (λ (e : Known). e.0) ys in
      text_rolled (f.rolls-Alt ts) (subst NoFeed (sym (text_choices ts)) (clean_bracket (codes "(alt") (spaced term_text ts) (codes ")") (clean_fixed (codes "(alt") refl) (members_room room ts (all_clean ys) (opened (Term-F.Alt ts) room fit)) (clean_fixed (codes ")") refl)))
  one_level (Term-F.Power id body) room fit = text_rolled (f.rolls-Power id body.0) (subst NoFeed (sym (text_power id body.0)) (id_room (codes "(power ") room id body.0 (clean_fixed (codes "(power ") refl) body.1 (opened (Term-F.Power id body.0) room fit)))
  one_level (Term-F.Scaled id body) room fit = text_rolled (f.rolls-Scaled id body.0) (subst NoFeed (sym (text_scaled id body.0)) (id_room (codes "(scaled ") room id body.0 (clean_fixed (codes "(scaled ") refl) body.1 (opened (Term-F.Scaled id body.0) room fit)))
  one_level (Term-F.Once body) room fit = text_rolled (f.rolls-Once body.0) (subst NoFeed (sym (text_once body.0)) (once_room room body.0 body.1 (opened (Term-F.Once body.0) room fit)))

  pub formula_clean : (term : Term) → Clean term
  formula_clean term = ind-Term Clean (λ x y e. subst (λ (l : Term-F Term). Clean (roll-Term l)) e (one_level y)) term
