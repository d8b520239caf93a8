-- What of a block's points misses: the uses of the block, with and without a scope.
use Rattle.std.specs.Prelude.{◌≡◌, ℕ, ◌+◌, Bool, true, if◌then◌else◌, not, nat_eq, List, [], ◌∷◌, Option, Some, None}
use Rattle.fetch_timing.specs.declared.timing.Timing.{Timing}
use Rattle.persistence.specs.BlockHistories.{finds}
use Rattle.persistence.specs.Younger.{Code}

-- the first point of a block, or one of another line than the point before it
abbrev pub is_use : Code → Option ℕ → ℕ → Bool
is_use c None p = true
is_use c (Some q) p = not (nat_eq (c.line q) (c.line p))

-- how many of some points miss, in their order, after a history
abbrev pub missing : Timing → List (List ℕ) → Code → List ℕ → List ℕ → ℕ
missing t sets c [] h = 0
missing t sets c (p ∷ ps) h = (if finds t sets c p h then 0 else 1) + missing t sets c ps (p ∷ h)

-- how many are uses without a scope
abbrev pub always : Code → (ℕ → Bool) → Option ℕ → List ℕ → ℕ
always c scoped before [] = 0
always c scoped before (p ∷ ps) = (if is_use c before p then (if scoped p then 0 else 1) else 0) + always c scoped
    (Some p) ps

-- how many uses with a scope miss
abbrev pub missed_uses : Timing → List (List ℕ) → Code → (ℕ → Bool) → Option ℕ → List ℕ → List ℕ → ℕ
missed_uses t sets c scoped before [] h = 0
missed_uses t sets c scoped before (p ∷ ps) h = (if is_use c before p then
    (if scoped p then (if finds t sets c p h then 0 else 1) else 0) else 0) + missed_uses t sets c scoped (Some p) ps
    (p ∷ h)

abbrev pub IsBefore : Option ℕ → List ℕ → Type 0
IsBefore None h = Unit {0}
IsBefore (Some q) [] = ⊥
IsBefore (Some q) (x ∷ h) = x ≡ q
