-- One more inequality in the parts without and with a variable.
use Rattle.std.proofs.Common.{◌≡◌, refl, ap, ◌∙◌, List, [], ◌∷◌, ◌++◌, Bool, true, false}
use Rattle.std.specs.Prelude.{if◌then◌else◌}
use Rattle.linear_rows.specs.declared.rows.Var.{Var}
use Rattle.row_elimination.specs.Derivations.{Derivation}
use Rattle.row_elimination.specs.Steps.{mentions, without, with_var}

without_one : (y : Var) (r : Derivation) (rs : List Derivation) → without y (r ∷ rs) ≡ (if mentions y r then without y rs else r ∷ without y rs)
without_one y r rs = refl

pub without_same : (y : Var) (rs : List Derivation) (r : Derivation) → mentions y r ≡ true → without y (rs ++ r ∷ []) ≡ without y rs
without_same y [] r e = ap (λ (b : Bool). if b then [] else r ∷ []) e
without_same y (s ∷ ss) r e = ap (λ (us : List Derivation). if mentions y s then us else s ∷ us) (without_same y ss r e)

pub without_more : (y : Var) (rs : List Derivation) (r : Derivation) → mentions y r ≡ false → without y (rs ++ r ∷ []) ≡ without y rs ++ r ∷ []
without_more y [] r e = ap (λ (b : Bool). if b then [] else r ∷ []) e
without_more y (s ∷ ss) r e =
    ap (λ (us : List Derivation). if mentions y s then us else s ∷ us) (without_more y ss r e) ∙ either (mentions y s)
  where
    either : (b : Bool) → (if b then without y ss ++ r ∷ [] else s ∷ (without y ss ++ r ∷ [])) ≡ (if b then without y ss else s ∷ without y ss) ++ r ∷ []
    either true = refl
    either false = refl

pub with_same : (y : Var) (rs : List Derivation) (r : Derivation) → mentions y r ≡ false → with_var y (rs ++ r ∷ []) ≡ with_var y rs
with_same y [] r e = ap (λ (b : Bool). if b then r ∷ [] else []) e
with_same y (s ∷ ss) r e = ap (λ (us : List Derivation). if mentions y s then s ∷ us else us) (with_same y ss r e)

pub with_more : (y : Var) (rs : List Derivation) (r : Derivation) → mentions y r ≡ true → with_var y (rs ++ r ∷ []) ≡ with_var y rs ++ r ∷ []
with_more y [] r e = ap (λ (b : Bool). if b then r ∷ [] else []) e
with_more y (s ∷ ss) r e =
    ap (λ (us : List Derivation). if mentions y s then s ∷ us else us) (with_more y ss r e) ∙ either (mentions y s)
  where
    either : (b : Bool) → (if b then s ∷ (with_var y ss ++ r ∷ []) else (with_var y ss ++ r ∷ [])) ≡ (if b then s ∷ with_var y ss else with_var y ss) ++ r ∷ []
    either true = refl
    either false = refl
