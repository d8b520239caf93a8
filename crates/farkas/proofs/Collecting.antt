-- The given rows, one after another.
use Rattle.std.proofs.Common.{◌≡◌, sym, ap, ◌∙◌, ℕ, suc, ◌+◌, ◌<◌, List, [], ◌∷◌, ◌++◌, length, drop, get_or, drop-cons, append_assoc, arith}
use Rattle.linear_rows.specs.Rows.{Inequality}
use Rattle.linear_rows.specs.Terms.{IsCollected}
use Rattle.row_elimination.specs.Derivations.{Derivation, given, given_from, EachCollected}

pub collected_push : (rs : List Derivation) (r : Derivation) → EachCollected rs → IsCollected r.terms → EachCollected (rs ++ r ∷ [])
collected_push [] r h k = (k, tt)
collected_push (s ∷ ss) r h k = (h.0, collected_push ss r h.1 k)

pub given_next : (rows : List Inequality) (out out' all : List Derivation) (place i : ℕ) (row : Inequality) (d : Derivation) → i < length rows → row ≡ get_or rows i row → d ≡ given place row →
    out' ≡ out ++ d ∷ [] → out ++ given_from place (drop i rows) ≡ all → out' ++ given_from (place + 1) (drop (i + 1) rows) ≡ all
given_next rows out out' all place i row d h is e f g =
    let first : drop i rows ≡ row ∷ drop (suc i) rows = drop-cons rows i row h ∙ ap (λ (x : Inequality). x ∷ drop (suc i) rows) (sym is) in
    let next : i + 1 ≡ suc i = omega arith in
    ap (λ (n : ℕ). out' ++ given_from (place + 1) (drop n rows)) next
    ∙ ap (λ (xs : List Derivation). xs ++ given_from (place + 1) (drop (suc i) rows)) (f ∙ ap (λ (x : Derivation). out ++ x ∷ []) e)
    ∙ append_assoc out (given place row ∷ []) (given_from (place + 1) (drop (suc i) rows))
    ∙ sym (ap (λ (xs : List Inequality). out ++ given_from place xs) first) ∙ g
