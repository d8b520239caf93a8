-- The first place of a list at which a test passes.
use Rattle.std.proofs.Common.{◌≡◌, ℕ, suc, ◌+◌, Bool, true, false, cond, Option, Some, None, List, [], ◌∷◌, ◌++◌, length, refl, sym, ap, ◌∙◌, arith}
use Rattle.std.specs.List.{position, position_from}
use Rattle.std.specs.Option.{option_or}
use Rattle.std.proofs.lemmas.Iterator.Adapters.{position_from-zero}

-- at the head of a list, given its tail
at_head : (b : Bool) (i : ℕ) (all tail last : Option ℕ) → all ≡ option_or tail last → cond b (Some i) all ≡ option_or (cond b (Some i) tail) last
at_head true i all tail last is = refl
at_head false i all tail last is = is

position_from_push : {X : Type 0} (p : X → Bool) (i : ℕ) (xs : List X) (y : X) → position_from p i (xs ++ y ∷ []) ≡ option_or (position_from p i xs) (cond (p y) (Some (i + length xs)) None)
position_from_push p i [] y = let same : i ≡ i + 0 = omega arith in ap (λ (n : ℕ). cond (p y) (Some n) None) same
position_from_push p i (x ∷ xs) y =
    let same : i + 1 + length xs ≡ i + suc (length xs) = omega arith in
    at_head (p x) i (position_from p (i + 1) (xs ++ y ∷ [])) (position_from p (i + 1) xs) (cond (p y) (Some (i + suc (length xs))) None)
    (position_from_push p (i + 1) xs y ∙ ap (λ (n : ℕ). option_or (position_from p (i + 1) xs) (cond (p y) (Some n) None)) same)

-- The first place in a longer list is that of the list, or else that of the last element, where that passes.
pub position_push : {X : Type 0} (p : X → Bool) (xs : List X) (y : X) → position p (xs ++ y ∷ []) ≡ option_or (position p xs) (cond (p y) (Some (length xs)) None)
position_push p xs y =
    let same : 0 + length xs ≡ length xs = omega arith in
    position_from-zero p (xs ++ y ∷ [])
    ∙ position_from_push p 0 xs y
    ∙ ap (λ (o : Option ℕ). option_or o (cond (p y) (Some (0 + length xs)) None)) (sym (position_from-zero p xs))
    ∙ ap (λ (n : ℕ). option_or (position p xs) (cond (p y) (Some n) None)) same
