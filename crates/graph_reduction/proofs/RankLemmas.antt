-- Edges that go up in rank have no cycle.
use Rattle.std.proofs.Common.{◌≡◌, ap, ℕ, zero, suc, ◌+◌, ◌<◌, ◌≤◌, arith}
use Rattle.graph_search.specs.Walks.{Walk}

pub walk_rises : (E : ℕ → ℕ → Type 0) (rank : ℕ → ℕ) → ((u x : ℕ) → E u x → rank u < rank x) → (a b n : ℕ) → Walk E a b n
    → rank a + n ≤ rank b
walk_rises E rank up a b zero w = let e : rank a ≡ rank b = ap rank w in omega (arith, e)
walk_rises E rank up a b (suc n) w = let r = walk_rises E rank up a w.0 n w.1 in let s = up w.0 b w.2 in omega (arith, r, s)

pub ranked_ends : (E : ℕ → ℕ → Type 0) (rank : ℕ → ℕ) → ((u x : ℕ) → E u x → rank u < rank x) → (x n : ℕ) → Walk E x x (suc n) → ⊥
ranked_ends E rank up x n w = let r = walk_rises E rank up x x (suc n) w in omega (arith, r)
