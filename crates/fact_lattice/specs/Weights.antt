-- How far an abstract state may still fall: by this measure the search ends.
use Rattle.std.specs.Prelude.{◌≡◌, ℕ, zero, suc, ◌+◌, ◌-◌, ◌⊎◌, ◌≤ℤ◌, Bool, false, if◌then◌else◌, List, [], ◌∷◌}
use Rattle.std.specs.Prelude.{Option, Some, None, IfSome}
use Rattle.std.specs.Int.{int_gap}
use Rattle.path_facts.specs.Facts.{Location}
use Rattle.fact_lattice.specs.declared.cells.Range.{Range}
use Rattle.fact_lattice.specs.Cells.{AbstractState}

abbrev pub total : {A : Type 0} → (A → ℕ) → List A → ℕ
total f [] = 0
total f (x ∷ xs) = f x + total f xs

abbrev pub Member : {A : Type 0} → A → List A → Type 0
Member x [] = ⊥
Member x (y ∷ ys) = (x ≡ y) ⊎ Member x ys

-- a cell may widen to the stack and 64 bytes more, and then be lost
abbrev pub weight_of_cell : ℕ → Option Range → ℕ
weight_of_cell stack None = 0
weight_of_cell stack (Some r) = suc (stack + 64 - int_gap r.low r.high)

abbrev pub weight_of_mark : Bool → ℕ
weight_of_mark b = if b then 1 else 0

abbrev pub weight_of : ℕ → List Location → List ℕ → AbstractState → ℕ
weight_of stack locations words m =
    total (λ location. weight_of_cell stack (m.cell location)) locations + total
    (λ k. weight_of_mark (m.marked k)) words

-- a point that wasn't reached is heavier than any that was
abbrev pub weight_at : ℕ → List Location → List ℕ → Option AbstractState → ℕ
weight_at stack locations words None = suc (total (λ p. suc (stack + 64)) locations + total (λ k. 1) words)
weight_at stack locations words (Some m) = weight_of stack locations words m

-- all points below a number
abbrev pub weight_below : ℕ → List Location → List ℕ → (ℕ → Option AbstractState) → ℕ → ℕ
weight_below stack locations words map zero = 0
weight_below stack locations words map (suc n) =
    weight_at stack locations words (map n) + weight_below stack locations words map n

-- each range has its ends in order, and only these locations and words have cells and marks
pub record IsFormed (locations : List Location) (words : List ℕ) (m : AbstractState) : Type 0 where
  pub ordered : (location : Location) → IfSome (m.cell location) (λ r. r.low ≤ℤ r.high)
  pub cells : (location : Location) → (m.cell location ≡ None) ⊎ Member location locations
  pub marks : (k : ℕ) → (m.marked k ≡ false) ⊎ Member k words
