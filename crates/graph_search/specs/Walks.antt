-- Walks along the edges of a graph (a walk may pass a node more than once). A graph is the relation of its edges.
use Rattle.std.specs.Prelude.{◌≡◌, ◌≢◌, ℕ, zero, suc}

-- a walk of n edges
abbrev pub Walk : {A : Type 0} → (A → A → Type 0) → A → A → ℕ → Type 0
Walk E a b zero = a ≡ b
Walk {A} E a b (suc n) = (c : A) × Walk E a c n × E c b

-- some walk leads from a to b
abbrev pub Reached : {A : Type 0} → (A → A → Type 0) → A → A → Type 0
Reached E a b = (n : ℕ) × Walk E a b n

-- an edge that doesn't lead to h
abbrev pub aside : {A : Type 0} → (A → A → Type 0) → A → A → A → Type 0
aside E h u v = E u v × (v ≢ h)

-- a walk on which h doesn't stand
abbrev pub Avoids : {A : Type 0} → (A → A → Type 0) → A → A → A → ℕ → Type 0
Avoids E h a b n = (a ≢ h) × Walk (aside E h) a b n

-- each walk from a to b passes h (h dominates b where a is the entry)
abbrev pub Passes : {A : Type 0} → (A → A → Type 0) → A → A → A → Type 0
Passes E a h b = (n : ℕ) → Avoids E h a b n → ⊥
