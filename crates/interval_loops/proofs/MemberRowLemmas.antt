-- The rows of the blocks of a loop after each block of it.
use Rattle.std.proofs.Common.{◌≡◌, refl, sym, ap, ◌∙◌, subst, ℕ, zero, suc, ◌+◌, ◌-◌, ◌<◌, ◌≤◌, inl, inr, Bool, true, false, List, [], ◌∷◌}
use Rattle.std.proofs.Common.{◌++◌, length, take, get_or, arith}
use Rattle.std.specs.Prelude.{◌≢◌, ◌||◌, ◌&&◌, ◌==◌, nat_eq, nat_lt, if◌then◌else◌, slice_set, slice_get, Some}
use Rattle.std.specs.List.{list_any}
use Rattle.std.proofs.lemmas.Bool.{cases_eq, or_cases, or_left, or_right, or_from, and_from, lt-ltb, cond-true, cond-false, eqb-true}
use Rattle.std.proofs.lemmas.Bool.{eq-eqb, ne_eqb, false≢true}
use Rattle.std.proofs.lemmas.Bool.Decides.{nat_tests}
use Rattle.std.proofs.lemmas.List.{get_or-set_same, get_or-set_other, take_all}
use Rattle.std.proofs.lemmas.List.Folds.{list_any_more}
use Rattle.graph_search.specs.NodeLists.{holds, Distinct, added, added_all}
use Rattle.graph_search.proofs.ListLemmas.{nat_equality, holds_one, holds_first, from_all}
use Rattle.graph_search.proofs.SearchLemmas.{holds_at, take_next, start_searched}
use Rattle.graph_search.specs.Searches.{Searched}
use Rattle.graph_search.specs.Flows.{Flow, IsBounded}
use Rattle.std.proofs.Math.Numerals.{add-one}
use Rattle.graph_search.proofs.BelowLemmas.{few_below}
use Rattle.graph_search.specs.Rows.{row_in}
use Rattle.graph_search.proofs.RowLemmas.{holds_end, inside_at}

pub block_inside : (n m at p : ℕ) (ps : List ℕ) → ((q : ℕ) → holds nat_eq q ps ≡ true → q < n) → slice_get ps at ≡ Some p → m ≡ n → p < m
block_inside n m at p ps all g e = let l = inside_at n at p ps all g in omega (arith, l, e)

-- a point of a list of different ones isn't among those before it
pub not_before : (ps : List ℕ) (at p : ℕ) → slice_get ps at ≡ Some p → Distinct nat_eq ps → holds nat_eq p (take at ps) ≡ false
not_before ps zero p g d = refl
not_before [] (suc at) p g d = absurd (cc)
not_before (x ∷ ps) (suc at) p g d =
    or_from (nat_eq p x) (holds nat_eq p (take at ps)) (ne_eqb p x (λ e. false≢true
    (sym d.0 ∙ subst (λ y. holds nat_eq y ps ≡ true) e (holds_at ℕ nat_equality ps at p g)))) (not_before ps at p g d.1)

pub take_one_more : (ps : List ℕ) (at p : ℕ) → slice_get ps at ≡ Some p → (q : ℕ) → holds nat_eq q (take (at + 1) ps) ≡
    (nat_eq q p || holds nat_eq q (take at ps))
take_one_more ps at p g q = ap (λ n. holds nat_eq q (take n ps)) (add-one at) ∙
    (ap (holds nat_eq q) (take_next ps at p g) ∙ holds_end q p (take at ps))

module _ (old rows : List (List ℕ)) (at p number : ℕ) (ps : List ℕ) (g : slice_get ps at ≡ Some p) (d : Distinct nat_eq ps)
    (before : (q : ℕ) → row_in rows q ≡ (if holds nat_eq q (take at ps) then row_in old q ++ number ∷ [] else row_in old q)) where
  as_it_was : row_in rows p ≡ row_in old p
  as_it_was = before p ∙ cond-false (holds nat_eq p (take at ps)) (row_in old p ++ number ∷ []) (row_in old p) (not_before ps at p g d)

  pub was_long : 16 ≤ length (row_in rows p) → (q : ℕ) × (holds nat_eq q ps ≡ true) × (16 ≤ length (row_in old q))
  was_long l = (p, holds_at ℕ nat_equality ps at p g, subst (λ (xs : List ℕ). 16 ≤ length xs) as_it_was l)

  pub rows_next : (new : List (List ℕ)) → ((q : ℕ) → row_in new q ≡ (if nat_eq q p then row_in rows q ++ number ∷ [] else row_in rows q))
      → (q : ℕ) → row_in new q ≡ (if holds nat_eq q (take (at + 1) ps) then row_in old q ++ number ∷ [] else row_in old q)
  rows_next new now q =
      now q ∙ (elim (cases_eq q p) as (λ _. (if nat_eq q p then row_in rows q ++ number ∷ [] else row_in rows q) ≡
      (if (nat_eq q p || holds nat_eq q (take at ps)) then row_in old q ++ number ∷ [] else row_in old q)) [
        | inl e ↦
            cond-true (nat_eq q p) (row_in rows q ++ number ∷ []) (row_in rows q) (eq-eqb q p e)
            ∙ (ap (λ (xs : List ℕ). xs ++ number ∷ []) (subst (λ x. row_in rows x ≡ row_in old x) (sym e) as_it_was)
            ∙ sym (cond-true (nat_eq q p || holds nat_eq q (take at ps)) (row_in old q ++ number ∷ []) (row_in old q)
            (or_left (nat_eq q p) (holds nat_eq q (take at ps)) (eq-eqb q p e))))
        | inr ne ↦
            cond-false (nat_eq q p) (row_in rows q ++ number ∷ []) (row_in rows q) (ne_eqb q p ne)
            ∙ (before q ∙ ap (λ (b : Bool). if (b || holds nat_eq q (take at ps)) then row_in old q ++ number ∷ [] else row_in old q)
            (sym (ne_eqb q p ne)))
      ] ∙ ap (λ (b : Bool). if b then row_in old q ++ number ∷ [] else row_in old q) (sym (take_one_more ps at p g q)))

  pub few_next : ((q : ℕ) → holds nat_eq q (take at ps) ≡ true → length (row_in old q) < 16) → length (row_in rows p) < 16 → (q : ℕ)
      → holds nat_eq q (take (at + 1) ps) ≡ true → length (row_in old q) < 16
  few_next few one q h =
      elim (or_cases (nat_eq q p) (holds nat_eq q (take at ps)) (sym (take_one_more ps at p g q) ∙ h)) as
      (λ _. length (row_in old q) < 16) [
        | inl e ↦ subst (λ x. length (row_in old x) < 16) (sym (eqb-true q p e)) (subst (λ (xs : List ℕ). length xs < 16) as_it_was one)
        | inr o ↦ few q o
      ]
