-- What all paths to a point say together. A location has a cell: an origin with the least and the greatest constant of
-- the paths, or nothing where no one origin serves all of them. This is an abstract domain as of Cousot and Cousot,
-- "Abstract interpretation: a unified lattice model" (POPL 1977), with its transfer function and its join; `Covers` is
-- what its elements stand for.
use Rattle.std.specs.Prelude.{◌≡◌, ◌≢◌, ◌⊎◌, ℕ, ℤ, pos, neg_ℤ, ◌+ℤ◌, ◌≤ℤ◌, ◌<ℤ◌, ◌*◌, ◌+◌, ◌==◌, ◌&&◌, ◌||◌, int_le}
use Rattle.std.specs.Prelude.{nat_le, Bool, true, false, if◌then◌else◌, Option, Some, None}
use Rattle.std.specs.Int.{int_max, int_min}
use Rattle.std.specs.Ordering.{int_eq}
use Rattle.path_facts.specs.declared.origin.Origin.{Origin}
use Rattle.path_facts.specs.declared.origin.Origin.TheVariants as origin
use Rattle.path_facts.specs.Facts.{Fact, Facts, Location, Source, fact_from, is_signed_word, offset_in}
use Rattle.path_facts.specs.Facts.Location.{Register, StackWord}
use Rattle.path_facts.specs.Facts.Source.{Nothing, Constant, Sum, Copy, IfMarked}
use Rattle.path_facts.specs.Histories.{without_marks_below}
use Rattle.fact_lattice.specs.declared.cells.Range.{Range}

-- What one instruction does at one offset of r13: each location's source, and each stack word's mark by its mark
-- before.
pub record Step : Type 0 where
  pub source : Location → Source
  pub mark : ℕ → Bool → Bool

-- the facts after an instruction
abbrev pub after : ℕ → Step → Facts → Facts
after stack s f = without_marks_below stack (record {
  fact = λ location. fact_from f (s.source location);
  marked = λ k. s.mark k (f.marked k);
})

-- each location's cell, and the words that all paths mark
pub record AbstractState : Type 0 where
  pub cell : Location → Option Range
  pub marked : ℕ → Bool

-- the start's r13
abbrev pub is_start_sp : Origin → Bool
is_start_sp origin.Zero = false
is_start_sp (origin.AtStart r) = r == 13

-- one constant
abbrev pub only : Origin → ℤ → Range
only o c = record { origin = o; low = c; high = c }

abbrev pub only_fact : Option Fact → Option Range
only_fact None = None
only_fact (Some f) = Some (only f.origin f.constant)

-- what one path says
abbrev pub state_of : Facts → AbstractState
state_of f = record { cell = λ location. only_fact (f.fact location); marked = f.marked }

-- a constant of 32 bits
abbrev pub constant_cell : ℤ → Option Range
constant_cell c = if is_signed_word c then Some (only origin.Zero c) else None

-- a cell with a constant added; it is lost where an end leaves 32 bits
abbrev pub shifted_cell : ℤ → Option Range → Option Range
shifted_cell by None = None
shifted_cell by (Some r) =
    if is_signed_word (r.low +ℤ by) && is_signed_word (r.high +ℤ by)
    then Some (record { origin = r.origin; low = r.low +ℤ by; high = r.high +ℤ by })
    else None

-- the cell of a location that has this source, by the cells before
abbrev pub cell_of : AbstractState → Source → Option Range
cell_of m Nothing = None
cell_of m (Constant c) = constant_cell c
cell_of m (Sum r by) = shifted_cell by (m.cell (Register r))
cell_of m (Copy location) = m.cell location
cell_of m (IfMarked k) = if m.marked k then m.cell (StackWord k) else None

-- on all paths the word isn't below r13, and r13 lies in the stack or at most 64 bytes above it
abbrev pub all_above : ℕ → Option Range → ℕ → Bool
all_above stack None k = false
all_above stack (Some r) k =
    is_start_sp r.origin
    && (int_le (neg_ℤ (pos stack)) r.low && int_le r.high (pos 64) && nat_le (4 * k) stack
    && int_le r.high (neg_ℤ (pos (4 * k))))

-- the transfer function
abbrev pub transferred : ℕ → Step → AbstractState → AbstractState
transferred stack s m = record {
  cell = λ location. cell_of m (s.source location);
  marked = λ k. all_above stack (cell_of m (s.source (Register 13))) k && s.mark k (m.marked k);
}

abbrev pub same_origin : Origin → Origin → Bool
same_origin origin.Zero origin.Zero = true
same_origin origin.Zero (origin.AtStart q) = false
same_origin (origin.AtStart r) origin.Zero = false
same_origin (origin.AtStart r) (origin.AtStart q) = r == q

-- Whether one cell may hold constants so far apart: only offsets from the start's r13 may differ, by no more than the
-- stack and the 64 bytes above it.
abbrev pub may_span : ℕ → Origin → ℤ → ℤ → Bool
may_span stack o low high = int_eq low high || (is_start_sp o && int_le high (low +ℤ pos (stack + 64)))

abbrev pub joined_range : ℕ → Range → Range → Option Range
joined_range stack r q =
    if same_origin r.origin q.origin && may_span stack r.origin (int_min r.low q.low) (int_max r.high q.high)
    then Some (record { origin = r.origin; low = int_min r.low q.low; high = int_max r.high q.high })
    else None

abbrev pub joined_cell : ℕ → Option Range → Option Range → Option Range
joined_cell stack None c = None
joined_cell stack (Some r) None = None
joined_cell stack (Some r) (Some q) = joined_range stack r q

-- the join
abbrev pub joined : ℕ → AbstractState → AbstractState → AbstractState
joined stack m n = record {
  cell = λ location. joined_cell stack (m.cell location) (n.cell location);
  marked = λ k. m.marked k && n.marked k;
}

-- the fact that all paths give, where they give one
abbrev pub known_in : Option Range → Option Fact
known_in None = None
known_in (Some r) = if int_eq r.low r.high then Some (record { origin = r.origin; constant = r.low }) else None

-- r13's offset, where all paths give the same
abbrev pub one_offset : AbstractState → Option ℤ
one_offset m = offset_in (known_in (m.cell (Register 13)))

-- a fact that a cell stands for; no cell stands for all, and for a path that gives none
abbrev pub Lies : Option Range → Option Fact → Type 0
Lies None f = Unit {0}
Lies (Some r) None = ⊥
Lies (Some r) (Some f) = (f.origin ≡ r.origin) × (r.low ≤ℤ f.constant) × (f.constant ≤ℤ r.high)

-- the facts of a path are some of those for which the state stands
pub record Covers (m : AbstractState) (f : Facts) : Type 0 where
  pub facts : (location : Location) → Lies (m.cell location) (f.fact location)
  pub marks : (k : ℕ) → m.marked k ≡ true → f.marked k ≡ true

-- two facts that no cell holds
abbrev pub Clash : ℕ → Option Fact → Option Fact → Type 0
Clash stack None g = Unit {0}
Clash stack (Some f) None = Unit {0}
Clash stack (Some f) (Some g) =
    (f.origin ≢ g.origin)
    ⊎ (((is_start_sp f.origin ≡ false) × (f.constant ≢ g.constant))
    ⊎ ((f.constant +ℤ pos (stack + 64)) <ℤ g.constant))

-- the ends of a cell are facts of the set, and where there is no cell two facts of the set clash
abbrev pub Ends : ℕ → (Option Fact → Type 0) → Option Range → Type 0
Ends stack V None = (f : Option Fact) × (g : Option Fact) × V f × V g × Clash stack f g
Ends stack V (Some r) =
    V (Some (record { origin = r.origin; constant = r.low }))
    × V (Some (record { origin = r.origin; constant = r.high }))

-- a fact that some facts of the set give a location
abbrev pub Given : (Facts → Type 0) → Location → Option Fact → Type 0
Given T location v = (f : Facts) × T f × (f.fact location ≡ v)

-- the state says no more and no less than a set of facts: it covers them, and for each end of a cell, each missing cell
-- and each missing mark there are such facts
pub record IsRealized (stack : ℕ) (T : Facts → Type 0) (m : AbstractState) : Type 0 where
  pub covers : (f : Facts) → T f → Covers m f
  pub cells : (location : Location) → Ends stack (Given T location) (m.cell location)
  pub marks : (k : ℕ) → m.marked k ≡ false → (f : Facts) × T f × (f.marked k ≡ false)

-- whatever the first covers the second covers
pub record Within (m n : AbstractState) : Type 0 where
  pub facts : (location : Location) (f : Option Fact) → Lies (m.cell location) f → Lies (n.cell location) f
  pub marks : (k : ℕ) → n.marked k ≡ true → m.marked k ≡ true

-- whether two cells are one
abbrev pub same_cell : Option Range → Option Range → Bool
same_cell None None = true
same_cell None (Some q) = false
same_cell (Some r) None = false
same_cell (Some r) (Some q) = same_origin r.origin q.origin && int_eq r.low q.low && int_eq r.high q.high
