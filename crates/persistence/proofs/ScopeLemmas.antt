-- A use has one scope, or none.
use Rattle.std.proofs.Common.{◌≡◌, ℕ, ◌<◌, Bool, arith}
use Rattle.persistence.specs.Younger.{Code, HasNoScope, IsScope}

by_order : (d e : ℕ) → (d < e → ⊥) → (e < d → ⊥) → d ≡ e
by_order d e a b = grind (arith, a, b)

pub one_scope : (c : Code) (sets ways : ℕ) (within : ℕ → ℕ → Bool) (depth p d e : ℕ)
    → IsScope c sets ways within depth p d → IsScope c sets ways within depth p e → d ≡ e
one_scope c sets ways within depth p d e s u = by_order d e (λ lt. s.1 (u.2 d lt)) (λ lt. u.1 (s.2 e lt))

pub never_both : (c : Code) (sets ways : ℕ) (within : ℕ → ℕ → Bool) (depth p d : ℕ)
    → IsScope c sets ways within depth p d → HasNoScope c sets ways within depth p → ⊥
never_both c sets ways within depth p d s none = s.1 (none d s.0)
