-- Two lists grow in step.
use Rattle.std.proofs.Common.{◌≡◌, sym, ap, ◌∙◌, subst, ℕ, ◌+◌, ◌<◌, inl, inr, List, [], ◌∷◌, ◌++◌, length, take, get_or, arith}
use Rattle.std.specs.Prelude.{Some, slice_get}
use Rattle.std.proofs.lemmas.List.{length-append}
use Rattle.std.proofs.lemmas.Option.{slice_get-get_or, slice_get_within}
use Rattle.std.proofs.Math.Numerals.{add-one}
use Rattle.function_points.proofs.ContextLemmas.{get_cases}
use Rattle.graph_search.proofs.SearchLemmas.{take_next}
use Rattle.point_tables.specs.Numbers.{Pointwise}

pub next_front : {A : Type 0} (xs : List A) (at : ℕ) (d : A) → at < length xs → take (at + 1) xs ≡ take at xs ++ get_or xs at d ∷ []
next_front xs at d l = ap (λ n. take n xs) (add-one at) ∙ take_next xs at (get_or xs at d) (slice_get-get_or xs at d l)

module _ {A B : Type 0} (R : A → B → Type 0) where
  pub none_pointwise : (ys : List B) → ys ≡ [] → Pointwise R [] ys
  none_pointwise ys e = record { long = ap length e; each = λ k x y f g. absurd (no_some k x f) }
    where
      no_some : (k : ℕ) (x : A) → slice_get {X = A} [] k ≡ Some x → ⊥
      no_some k x f = cc

  pub one_pointwise : (xs zs : List A) (x : A) (ys more : List B) (y : B) → Pointwise R xs ys → R x y → zs ≡ xs ++ x ∷ []
      → more ≡ ys ++ y ∷ [] → Pointwise R zs more
  one_pointwise xs zs x ys more y w r e f =
      let even = w.long in
      record {
        long = ap length f ∙ length-append ys (y ∷ []) ∙ ap (λ k. k + 1) even ∙ sym (ap length e ∙ length-append xs (x ∷ []));
        each = λ k p q g h.
            elim (get_cases xs x k p (ap (λ z. slice_get z k) (sym e) ∙ g)) as (λ _. R p q) [
              | inl old ↦
                  let l = slice_get_within xs k p old in
                  elim (get_cases ys y k q (ap (λ z. slice_get z k) (sym f) ∙ h)) as (λ _. R p q) [
                    | inl there ↦ w.each k p q old there
                    | inr last ↦ let at = last.0 in absurd (omega (arith, at, l, even))
                  ]
              | inr new ↦
                  elim (get_cases ys y k q (ap (λ z. slice_get z k) (sym f) ∙ h)) as (λ _. R p q) [
                    | inl there ↦ let l = slice_get_within ys k q there in let at = new.0 in absurd (omega (arith, at, l, even))
                    | inr last ↦ subst (λ z. R z q) new.1 (subst (λ z. R x z) last.1 r)
                  ]
            ];
      }
