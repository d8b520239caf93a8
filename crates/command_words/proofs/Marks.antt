-- Where a mark stands in a text.
use Rattle.std.proofs.Common.{◌≡◌, ◌<◌, ℕ, List, [], ◌∷◌, Bool, cond, not, ◌||◌, ◌+◌, suc, length, true, false, refl, arith}
use Rattle.std.specs.List.{list_any, position_or_len}

found_cons : (b : Bool) (n m : ℕ) (rest : Bool) → (n < m → rest ≡ true) → cond (not b) (1 + n) 0 < suc m → (b || rest) ≡ true
found_cons true n m rest f h = refl
found_cons false n m rest f h = f (omega (arith, h))

-- an element that passes is found
pub found_first : (p : ℕ → Bool) (xs : List ℕ) → position_or_len p xs < length xs → list_any p xs ≡ true
found_first p [] h = absurd (omega (arith, h))
found_first p (x ∷ xs) h = found_cons (p x) (position_or_len p xs) (length xs) (list_any p xs) (found_first p xs) h

none_cons : (b : Bool) (n m : ℕ) (rest : Bool) → (n ≡ m → rest ≡ false) → cond (not b) (1 + n) 0 ≡ suc m → (b || rest) ≡ false
none_cons true n m rest f h = absurd (omega (arith, h))
none_cons false n m rest f h = f (omega (arith, h))

-- no element passes
pub none_first : (p : ℕ → Bool) (xs : List ℕ) → position_or_len p xs ≡ length xs → list_any p xs ≡ false
none_first p [] h = refl
none_first p (x ∷ xs) h = none_cons (p x) (position_or_len p xs) (length xs) (list_any p xs) (none_first p xs) h
