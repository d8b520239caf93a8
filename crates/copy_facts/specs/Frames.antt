-- What is known at the points of a function, by their histories, and why a function is refused.
use Rattle.std.specs.Prelude.{◌==◌, ◌&&◌, ◌||◌, not, nat_lt, int_lt, if◌then◌else◌, pos, neg_ℤ, Bool, true, false}
use Rattle.std.specs.Prelude.{IfSome, IsSomeAnd, option_and_then}
use Rattle.std.specs.Prelude.{◌≡◌, ◌⊎◌, ℕ, ℤ, ◌≤ℤ◌, ◌<◌, ◌≤◌, List, map, get_or, slice_get, length, Option, Some, None}
use Rattle.elf32_image.specs.Parts.{ImageValue}
use Rattle.control_flow.specs.Instructions.{instruction_at}
use Rattle.control_flow.specs.Points.{Point, entry_point, last_return}
use Rattle.control_flow.specs.Ways.{ways_from}
use Rattle.path_facts.specs.Histories.{literal_of, wanted_fact}
use Rattle.point_tables.specs.Targets.{AreTargets}
use Rattle.path_facts.specs.Facts.{Fact, Location, Source}
use Rattle.path_facts.specs.Facts.Source.{Nothing}
use Rattle.path_facts.specs.Sources.{return_source}
use Rattle.path_facts.specs.StackUse.{IsReturnUnproved, IsStackLost, IsStackOver, accesses_by_sp, lowest_byte}
use Rattle.fact_lattice.specs.Flows.{IsSolved}
use Rattle.arm_isa.specs.Writes.{is_return_form}
use Rattle.fact_lattice.specs.Cells.{AbstractState, cell_of, known_in, one_offset, only_fact, same_cell}
use Rattle.copy_facts.specs.declared.least.Found.{Found}
use Rattle.copy_facts.specs.declared.queries.KnownFact.{KnownFact}
use Rattle.copy_facts.specs.declared.following.FrameRefusal.{FrameRefusal}
use Rattle.copy_facts.specs.declared.following.FrameRefusal.TheVariants as why
use Rattle.copy_facts.specs.declared.sites.Site.{Site}
use Rattle.copy_facts.specs.declared.tables.PointFacts.{PointFacts}
use Rattle.copy_facts.specs.Tables.{IsTable}
use Rattle.copy_facts.specs.Points.{flow_of}
use Rattle.copy_facts.specs.Searching.{IsInside, map_of}

-- what is needed of a point
pub record IsSite (image : ImageValue) (p : Point) (site : Site) : Type 0 where
  pub address : site.address ≡ p.address
  pub insn : instruction_at image p.address ≡ Some site.insn
  pub literal : site.literal ≡ literal_of image p.address site.insn.op
  pub home : site.home ≡ last_return p.returns

-- all points that control reaches, by their numbers
pub record AreSites (image : ImageValue) (entry : ℕ) (ps : List Point) (sites : List Site) : Type 0 where
  pub table : AreTargets (ways_from image entry) (entry_point entry) ps (map (λ (s : Site). s.targets) sites)
  pub each : (i : ℕ) (site : Site) → slice_get sites i ≡ Some site → IsSite image (get_or ps i (entry_point entry)) site

-- the points of a function in a table: their numbers, and that of the entry
pub record AreFramePoints (image : ImageValue) (entry : ℕ) (ps : List Point) (start : ℕ)
    (sites : List Site) : Type 0 where
  pub each : AreSites image entry ps sites
  pub long : length sites ≡ length ps
  pub starts : start < length sites
  pub begins : get_or ps start (entry_point entry) ≡ entry_point entry
  pub inside : (i : ℕ) (site : Site) → slice_get sites i ≡ Some site → IsInside (length sites) site

-- the lowest byte that an access of a point reaches, by r13's offset
abbrev pub lowest_in : Option Site → ℤ → Option ℤ
lowest_in None o = None
lowest_in (Some site) o = lowest_byte o site.insn.op

-- what a return of a point brings, by r13's offset
abbrev pub returned_in : Option Site → Option ℤ → Source
returned_in None o = Nothing
returned_in (Some site) o = return_source o site.insn.op

-- what a search that came to its end leaves
pub record AreFrames (stack start : ℕ) (sites : List Site) (facts : List (Option PointFacts)) : Type 0 where
  pub tables : (p : ℕ) (t : PointFacts) → get_or facts p None ≡ Some t → IsTable t
  pub solved : IsSolved (flow_of stack start sites) (map_of facts)

-- the points before this address have nothing with the property, and those at it nothing less
pub record IsLeastOver (image : ImageValue) (entry stack a : ℕ) (lowest : ℤ) : Type 0 where
  pub at : Point
  pub there : at.address ≡ a
  pub over : IsStackOver image entry stack at lowest
  pub least : (p : Point) (o : ℤ) → IsStackOver image entry stack p o → (a < p.address) ⊎
      ((a ≡ p.address) × (lowest ≤ℤ o))

pub record IsLeastUnproved (image : ImageValue) (entry stack a : ℕ) : Type 0 where
  pub at : Point
  pub there : at.address ≡ a
  pub unproved : IsReturnUnproved image entry stack at
  pub least : (p : Point) → IsReturnUnproved image entry stack p → a ≤ p.address

abbrev pub NoneLost : ImageValue → ℕ → ℕ → Type 0
NoneLost image entry stack = (p : Point) → IsStackLost image entry stack p → ⊥

abbrev pub NoneOver : ImageValue → ℕ → ℕ → Type 0
NoneOver image entry stack = (p : Point) (o : ℤ) → IsStackOver image entry stack p o → ⊥

abbrev pub NoneUnproved : ImageValue → ℕ → ℕ → Type 0
NoneUnproved image entry stack = (p : Point) → IsReturnUnproved image entry stack p → ⊥

-- Why a function's use of the stack is refused: memory; a point at which r13 is lost; the least address of an access
-- beyond the stack, and there the least offset; or the least address of a return that isn't proved.
abbrev pub IsRefusedFrame : ImageValue → ℕ → ℕ → FrameRefusal → Type 0
IsRefusedFrame image entry stack why.Memory = Unit {0}
IsRefusedFrame image entry stack (why.Lost a) = (p : Point) × IsStackLost image entry stack p × (p.address ≡ a)
IsRefusedFrame image entry stack (why.Over a lowest) = NoneLost image entry stack
    × IsLeastOver image entry stack a lowest
IsRefusedFrame image entry stack (why.Unproved a) =
    NoneLost image entry stack × NoneOver image entry stack × IsLeastUnproved image entry stack a

abbrev pub IsRefusedFor : ℕ → ℕ → List Site → FrameRefusal → Type 0
IsRefusedFor stack start sites why =
    (image : ImageValue) (entry : ℕ) (ps : List Point) → AreFramePoints image entry ps start sites
    → IsRefusedFrame image entry stack why

-- an offset that lies below the stack's bytes
abbrev pub beyond : ℕ → Option ℤ → Option ℤ
beyond stack None = None
beyond stack (Some z) = if int_lt z (neg_ℤ (pos stack)) then Some z else None

-- the lowest byte of a point's access, where it lies below the stack's bytes, by what all paths say
abbrev pub over_in : ℕ → Option Site → Option AbstractState → Option ℤ
over_in stack None m = None
over_in stack (Some site) None = None
over_in stack (Some site) (Some m) =
    if accesses_by_sp site.insn.op
    then beyond stack (option_and_then (λ o. lowest_byte o site.insn.op) (one_offset m))
    else None

-- a return of which all paths don't say that it brings its own return address
abbrev pub unproved_in : Option Site → Option AbstractState → Bool
unproved_in None m = false
unproved_in (Some site) None = false
unproved_in (Some site) (Some m) =
    is_return_form site.insn
    && not (same_cell (cell_of m (return_source (one_offset m) site.insn.op))
    (only_fact (Some (wanted_fact site.home))))

abbrev pub address_in : Option Site → ℕ
address_in None = 0
address_in (Some site) = site.address

-- what comes first by its address, and then by its offset
abbrev pub lesser : Option Found → ℕ → ℤ → Option Found
lesser None a z = Some (record { address = a; lowest = z })
lesser (Some x) a z =
    if nat_lt a x.address || ((a == x.address) && int_lt z x.lowest) then Some (record { address = a; lowest = z })
    else Some x

abbrev pub with_lowest : Option Found → ℕ → Option ℤ → Option Found
with_lowest found a None = found
with_lowest found a (Some z) = lesser found a z

-- of the first n points what comes first of those that have the property
pub record IsLeastTo (P : ℕ → ℤ → Type 0) (A : ℕ → ℕ) (n : ℕ) (found : Option Found) : Type 0 where
  pub there : IfSome found (λ x. (i : ℕ) × (i < n) × P i x.lowest × (A i ≡ x.address))
  pub least : (i : ℕ) (o : ℤ) → i < n → P i o
      → IsSomeAnd found (λ x. (x.address < A i) ⊎ ((x.address ≡ A i) × (x.lowest ≤ℤ o)))

abbrev pub IsOverNumber : ℕ → List Site → List (Option PointFacts) → ℕ → ℤ → Type 0
IsOverNumber stack sites facts i o = over_in stack (slice_get sites i) (map_of facts i) ≡ Some o

abbrev pub IsUnprovedNumber : List Site → List (Option PointFacts) → ℕ → ℤ → Type 0
IsUnprovedNumber sites facts i o = (unproved_in (slice_get sites i) (map_of facts i) ≡ true) × (o ≡ pos 0)

abbrev pub IsNoneOverFor : ℕ → ℕ → List Site → Type 0
IsNoneOverFor stack start sites =
    (image : ImageValue) (entry : ℕ) (ps : List Point) → AreFramePoints image entry ps start sites
    → NoneOver image entry stack

abbrev pub IsNoneUnprovedFor : ℕ → ℕ → List Site → Type 0
IsNoneUnprovedFor stack start sites =
    (image : ImageValue) (entry : ℕ) (ps : List Point) → AreFramePoints image entry ps start sites
    → NoneUnproved image entry stack

abbrev pub IsNoneLostFor : ℕ → ℕ → List Site → Type 0
IsNoneLostFor stack start sites =
    (image : ImageValue) (entry : ℕ) (ps : List Point) → AreFramePoints image entry ps start sites
    → NoneLost image entry stack

-- the fact that all paths to a point give a location; nothing where the point wasn't reached
abbrev pub known_at : Option AbstractState → Location → Option Fact
known_at None location = None
known_at (Some m) location = known_in (m.cell location)

abbrev pub kept_at : Option AbstractState → ℕ → Bool
kept_at None k = false
kept_at (Some m) k = m.marked k

abbrev pub offset_at : Option AbstractState → Option ℤ
offset_at None = None
offset_at (Some m) = one_offset m

-- what a fact in code means
abbrev pub fact_meant : KnownFact → Fact
fact_meant k = record { origin = k.origin; constant = k.constant }
