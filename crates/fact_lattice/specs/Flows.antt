-- Points by their numbers, the facts along their histories, and what is to be found out of them.
use Rattle.std.specs.Prelude.{◌≡◌, ◌≢◌, ◌⊎◌, ℕ, ℤ, pos, neg_ℤ, ◌<ℤ◌, ◌||◌, not, Bool, true, false, Contains, List, []}
use Rattle.std.specs.Prelude.{◌∷◌}
use Rattle.std.specs.Prelude.{Option, Some, None, IfSome, IsSomeAnd, is_some, option_and_then}
use Rattle.control_flow.specs.Routes.{IsHistory, Taken, Way}
use Rattle.control_flow.specs.Routes.Place.{At}
use Rattle.path_facts.specs.Facts.{Fact, Facts, Source, fact_from, offset_of}
use Rattle.fact_lattice.specs.Cells.{AbstractState, Covers, IsRealized, Step, Within, after, one_offset, state_of}
use Rattle.fact_lattice.specs.Cells.{transferred}

-- points with the ways between them, and what the instruction at each does where it is done or skipped, by r13's offset
pub record Flow : Type 0 where
  pub stack : ℕ
  pub start : ℕ
  pub first : Facts
  pub ways : ℕ → List (Way ℕ)
  pub step : ℕ → Bool → Option ℤ → Step
  pub accesses : ℕ → Bool

-- The offset doesn't matter where the instruction doesn't access the stack by r13, and a mark that is there takes none
-- away.
pub record IsRegular (flow : Flow) : Type 0 where
  pub even : (p : ℕ) (d : Bool) (o q : Option ℤ) → flow.accesses p ≡ false → flow.step p d o ≡ flow.step p d q
  pub rises : (p : ℕ) (d : Bool) (o : Option ℤ) (k : ℕ) → (flow.step p d o).mark k false ≡ true
      → (flow.step p d o).mark k true ≡ true

abbrev pub IsHistoryIn : Flow → List (Taken ℕ) → ℕ → Type 0
IsHistoryIn flow h p = IsHistory flow.ways flow.start h p

-- the facts after a history
abbrev pub facts_in : Flow → List (Taken ℕ) → Facts
facts_in flow [] = flow.first
facts_in flow (x ∷ h) = after flow.stack (flow.step x.point x.done (offset_of (facts_in flow h))) (facts_in flow h)

-- r13's offset isn't the same on all histories of an access by r13, or isn't known on one
pub record IsLostAt (flow : Flow) (p : ℕ) : Type 0 where
  pub accesses : flow.accesses p ≡ true
  pub one : List (Taken ℕ)
  pub other : List (Taken ℕ)
  pub leads : IsHistoryIn flow one p
  pub leads_too : IsHistoryIn flow other p
  pub differ : (offset_of (facts_in flow one) ≡ None)
      ⊎ (offset_of (facts_in flow one) ≢ offset_of (facts_in flow other))

-- A history gives an access by r13 this lowest byte, below the stack's bytes; `at` is the lowest byte by r13's offset.
pub record IsOverAt (flow : Flow) (at : ℤ → Option ℤ) (p : ℕ) (lowest : ℤ) : Type 0 where
  pub accesses : flow.accesses p ≡ true
  pub history : List (Taken ℕ)
  pub leads : IsHistoryIn flow history p
  pub is : option_and_then at (offset_of (facts_in flow history)) ≡ Some lowest
  pub beyond : lowest <ℤ neg_ℤ (pos flow.stack)

-- a history of the point doesn't bring the wanted fact; `source` is what it brings by r13's offset
pub record IsUnprovedAt (flow : Flow) (source : Option ℤ → Source) (wanted : Fact) (p : ℕ) : Type 0 where
  pub history : List (Taken ℕ)
  pub leads : IsHistoryIn flow history p
  pub other : fact_from (facts_in flow history) (source (offset_of (facts_in flow history))) ≢ Some wanted

-- the facts of the histories to a point
abbrev pub HasFacts : Flow → ℕ → Facts → Type 0
HasFacts flow p f = (h : List (Taken ℕ)) × IsHistoryIn flow h p × (facts_in flow h ≡ f)

-- those that a state covers
abbrev pub HasCoveredFacts : Flow → ℕ → AbstractState → Facts → Type 0
HasCoveredFacts flow p m f = HasFacts flow p f × Covers m f

-- the state of each point that was reached comes from histories
abbrev pub AreRealized : Flow → (ℕ → Option AbstractState) → Type 0
AreRealized flow map = (p : ℕ) → IfSome (map p) (λ m. IsRealized flow.stack (HasCoveredFacts flow p m) m)

-- the state after the instruction at a point, by the state before
abbrev pub step_at : Flow → ℕ → Bool → AbstractState → AbstractState
step_at flow p done m = transferred flow.stack (flow.step p done (one_offset m)) m

-- an access by r13 needs one offset
abbrev pub is_placed : Flow → ℕ → AbstractState → Bool
is_placed flow p m = not (flow.accesses p) || is_some (one_offset m)

abbrev pub way_to : Bool → ℕ → Way ℕ
way_to done q = record { done = done; to = At q }

-- what is known after a point is within what is known where its ways lead
pub record IsClosedAt (flow : Flow) (map : ℕ → Option AbstractState) (p : ℕ) (m : AbstractState) : Type 0 where
  pub placed : is_placed flow p m ≡ true
  pub ways : (done : Bool) (q : ℕ) → Contains (flow.ways p) (way_to done q)
      → IsSomeAnd (map q) (Within (step_at flow p done m))

-- a fixed point: nothing changes any more
pub record IsSolved (flow : Flow) (map : ℕ → Option AbstractState) : Type 0 where
  pub regular : IsRegular flow
  pub starts : IsSomeAnd (map flow.start) (Within (state_of flow.first))
  pub real : AreRealized flow map
  pub closed : (p : ℕ) → IfSome (map p) (IsClosedAt flow map p)
