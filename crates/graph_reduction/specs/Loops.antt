-- Loops of a graph whose closing edges are known.
use Rattle.std.specs.Prelude.{◌≡◌, ◌≢◌, ◌⊎◌, ℕ, suc, Bool, true, false}
use Rattle.graph_search.specs.Flows.{Flow, edge, leads}
use Rattle.graph_search.specs.Walks.{Walk, Reached, Avoids, Passes}

-- an edge that doesn't close
abbrev pub stays : (ℕ → ℕ → Type 0) → (ℕ → ℕ → Bool) → ℕ → ℕ → Type 0
stays E closed u h = E u h × (closed u h ≡ false)

-- what holds of the closing edges
pub record ClosesLoops (E : ℕ → ℕ → Type 0) (closed : ℕ → ℕ → Bool) (entry : ℕ) : Type 0 where
  pub edges : (u h : ℕ) → closed u h ≡ true → E u h
  pub passed : (u h : ℕ) → closed u h ≡ true → Passes E entry h u
  pub ends : (x n : ℕ) → Walk (stays E closed) x x (suc n) → ⊥

-- h, and what reaches a closing edge of h without passing h
abbrev pub InLoop : (ℕ → ℕ → Type 0) → (ℕ → ℕ → Bool) → ℕ → ℕ → Type 0
InLoop E closed h x = (x ≡ h) ⊎ ((u : ℕ) × (n : ℕ) × (closed u h ≡ true) × Avoids E h x u n)

abbrev pub IsWithin : (ℕ → ℕ → Type 0) → (ℕ → ℕ → Bool) → ℕ → ℕ → Type 0
IsWithin E closed h k = (x : ℕ) → InLoop E closed h x → InLoop E closed k x

pub record AreNested (E : ℕ → ℕ → Type 0) (closed : ℕ → ℕ → Bool) (entry : ℕ) : Type 0 where
  -- each walk to a block of a loop passes the header
  pub passes : (h x : ℕ) → InLoop E closed h x → Passes E entry h x
  -- an edge into a loop from outside goes to the header
  pub entered : (h u x : ℕ) → InLoop E closed h x → E u x → x ≢ h → InLoop E closed h u
  -- an edge from inside to the header closes, and so does each where every walk to its source passes the header
  pub closing : (h u : ℕ) → Reached E entry u → Passes E entry h u → E u h → closed u h ≡ true
  -- two loops with a common block lie one in the other
  pub nested : (h k x : ℕ) → Reached E entry x → InLoop E closed h x → InLoop E closed k x → IsWithin E closed h k
      ⊎ IsWithin E closed k h

-- some cycle has no closing edge
abbrev pub IsIrreducible : Flow → (ℕ → ℕ → Bool) → Type 0
IsIrreducible flow closed = (x : ℕ) × (n : ℕ) × Walk (stays (leads (edge flow)) closed) x x (suc n)
