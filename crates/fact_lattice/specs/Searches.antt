-- One step of the search for a fixed point, and what the search keeps.
use Rattle.std.specs.Prelude.{◌≡◌, ℕ, ◌<◌, ◌⊎◌, ◌==◌, Bool, true, false, if◌then◌else◌}
use Rattle.std.specs.Prelude.{Option, Some, None, IfSome, IsSomeAnd, is_some, slice_get}
use Rattle.control_flow.specs.Routes.{Place, Way}
use Rattle.control_flow.specs.Routes.Place.{At, Exit}
use Rattle.fact_lattice.specs.declared.solving.Stop.{Stop}
use Rattle.fact_lattice.specs.declared.solving.Stop.TheVariants as stop
use Rattle.fact_lattice.specs.Cells.{AbstractState, Within, joined, state_of}
use Rattle.fact_lattice.specs.Flows.{AreRealized, Flow, IsClosedAt, IsLostAt, IsRegular, step_at}

-- where a way leads to a point it has the property
abbrev pub IfAt : Place ℕ → (ℕ → Type 0) → Type 0
IfAt (At q) P = P q
IfAt Exit P = Unit {0}

abbrev pub joined_at : ℕ → Option AbstractState → AbstractState → AbstractState
joined_at stack None t = t
joined_at stack (Some n) t = joined stack n t

-- a state joined into that of a point
abbrev pub merged : ℕ → ℕ → AbstractState → (ℕ → Option AbstractState) → ℕ → Option AbstractState
merged stack q t map x = if x == q then Some (joined_at stack (map q) t) else map x

-- The state after a way of p, of which m is known, is merged into that of the point where the way leads. The answer is
-- that point where this changes its state, and else nothing.
abbrev pub MergedBy : Flow → ℕ → Way ℕ → AbstractState → (ℕ → Option AbstractState) → (ℕ → Option AbstractState)
    → Option ℕ → Type 0
MergedBy flow p w m map new None =
    (new ≡ map) × IfAt w.to (λ q. IsSomeAnd (map q) (Within (step_at flow p w.done m)))
MergedBy flow p w m map new (Some q) = (w.to ≡ At q) × (new ≡ merged flow.stack q (step_at flow p w.done m) map)

-- the same of p's way of number j
abbrev pub Merged : Flow → ℕ → ℕ → (ℕ → Option AbstractState) → (ℕ → Option AbstractState) → Option ℕ → Type 0
Merged flow p j map new changed =
    IfSome (map p) (λ m. IfSome (slice_get (flow.ways p) j) (λ w. MergedBy flow p w m map new changed))

abbrev pub Grows : (ℕ → Option AbstractState) → (ℕ → Option AbstractState) → Type 0
Grows map new = (x : ℕ) → IfSome (map x) (λ m. IsSomeAnd (new x) (Within m))

-- what p's way of number j gives is within what is known where it leads
abbrev pub IsGone : Flow → ℕ → ℕ → (ℕ → Option AbstractState) → (ℕ → Option AbstractState) → Type 0
IsGone flow p j map new =
    IfSome (map p) (λ m. IfSome (slice_get (flow.ways p) j)
    (λ w. IfAt w.to (λ q. IsSomeAnd (new q) (Within (step_at flow p w.done m)))))

-- the first ways of p are gone, and the points that changed since wait beside those that did
pub record Passed (flow : Flow) (p n : ℕ) (map new : ℕ → Option AbstractState) (was waits : ℕ → Bool) : Type 0 where
  pub regular : IsRegular flow
  pub real : AreRealized flow new
  pub waiting : (x : ℕ) → waits x ≡ false → (was x ≡ false) × (new x ≡ map x)
  pub visited : (x : ℕ) → waits x ≡ true → (was x ≡ true) ⊎ (is_some (new x) ≡ true)
  pub grows : Grows map new
  pub gone : (j : ℕ) → j < n → waits p ≡ false → IsGone flow p j map new

-- all that doesn't wait is closed
pub record IsSolving (flow : Flow) (map : ℕ → Option AbstractState) (waits : ℕ → Bool) : Type 0 where
  pub regular : IsRegular flow
  pub starts : IsSomeAnd (map flow.start) (Within (state_of flow.first))
  pub real : AreRealized flow map
  pub closed : (x : ℕ) → waits x ≡ false → IfSome (map x) (IsClosedAt flow map x)
  pub visited : (x : ℕ) → waits x ≡ true → is_some (map x) ≡ true

-- at first only the start has a state
abbrev pub first_map : Flow → ℕ → Option AbstractState
first_map flow x = if x == flow.start then Some (state_of flow.first) else None

-- a point more waits
abbrev pub adds : Option ℕ → (ℕ → Bool) → ℕ → Bool
adds None waits x = waits x
adds (Some q) waits x = if x == q then true else waits x

-- a point that waited doesn't any more
pub record IsTaken (was waits : ℕ → Bool) (p : ℕ) : Type 0 where
  pub member : was p ≡ true
  pub rest : (q : ℕ) → waits q ≡ (if q == p then false else was q)

-- why the search ends early: want of memory, or a point that is lost
abbrev pub IsStopAt : Flow → Stop → Type 0
IsStopAt flow stop.Memory = Unit {0}
IsStopAt flow (stop.Lost p) = IsLostAt flow p
