-- Where control goes from points, by the numbers of points.
use Rattle.std.specs.Prelude.{◌≡◌, ℕ, ◌<◌, ◌≤◌, ◌==◌, Bool, true, false, if◌then◌else◌, Contains, Option, Some, None}
use Rattle.std.specs.Prelude.{List, [], ◌∷◌, ◌++◌}
use Rattle.std.specs.Prelude.{length, get_or, slice_get}
use Rattle.std.specs.Str.{bytes_eq}
use Rattle.graph_search.specs.NodeLists.{Distinct}
use Rattle.control_flow.specs.Routes.{IsReached, Place, Way}
use Rattle.control_flow.specs.Routes.Place.{At, Exit}
use Rattle.basic_blocks.specs.Blocks.{Ascending}
use Rattle.point_order.specs.Ranks.{PairBefore}
use Rattle.point_tables.specs.declared.targets.Targets.{Targets}
use Rattle.point_tables.specs.Numbers.{Answers, Pointwise}

abbrev pub way : {A : Type 0} → Bool → Place A → Way A
way d place = record { done = d; to = place }

abbrev pub numbers_in : Option ℕ → List ℕ
numbers_in None = []
numbers_in (Some j) = j ∷ []

abbrev pub target_numbers : Targets → List ℕ
target_numbers a = numbers_in a.done ++ numbers_in a.skipped

abbrev pub targets_of : Option Targets → List ℕ
targets_of None = []
targets_of (Some a) = target_numbers a

-- the numbers to which a number leads
abbrev pub step_in : List Targets → ℕ → List ℕ
step_in table i = targets_of (slice_get table i)

-- the number after the last point's is that of the way out
abbrev pub number_place : {A : Type 0} → List A → A → ℕ → Place A
number_place ps start j = if j == length ps then Exit else At (get_or ps j start)

abbrev pub numbered_way : {A : Type 0} → List A → A → Bool → Option ℕ → List (Way A)
numbered_way ps start d None = []
numbered_way ps start d (Some j) = way d (number_place ps start j) ∷ []

abbrev pub numbered_ways : {A : Type 0} → List A → A → Targets → List (Way A)
numbered_ways ps start a = numbered_way ps start true a.done ++ numbered_way ps start false a.skipped

-- all points that control reaches in a list without repetition, and the ways of each by numbers
pub record AreTargets {A : Type 0} (ways : A → List (Way A)) (start : A) (ps : List A)
    (table : List Targets) : Type 0 where
  pub all : (p : A) → IsReached ways start p → Contains ps p
  pub only : (p : A) → Contains ps p → IsReached ways start p
  pub distinct : (i j : ℕ) → i < length ps → j < length ps → get_or ps i start ≡ get_or ps j start → i ≡ j
  pub long : length table ≡ length ps
  pub ahead : (i : ℕ) (a : Targets) → slice_get table i ≡ Some a → ways (get_or ps i start) ≡ numbered_ways ps start a
  pub inside : (i j : ℕ) → Contains (step_in table i) j → j ≤ length ps

-- points by the number of their list and their address, in order, and each list is there
pub record AreSorted (ls : List (List ℕ)) (ns : List (ℕ × ℕ)) : Type 0 where
  pub distinct : Distinct bytes_eq ls
  pub sorted : Ascending PairBefore ns
  pub under : (n : ℕ × ℕ) → Contains ns n → n.0 < length ls

abbrev pub IsNumber : List (ℕ × ℕ) → ℕ → ℕ → ℕ → Type 0
IsNumber ns c a k = slice_get ns k ≡ Some (c, a)

-- the number of the point after a skipped instruction
abbrev pub IsSkippedNumber : List (ℕ × ℕ) → ℕ → Option ℕ → Option ℕ → Type 0
IsSkippedNumber ns c None o = o ≡ None
IsSkippedNumber ns c (Some a) o = Answers (IsNumber ns c a) o

-- the points to which the ways lead are in the list
abbrev pub LeadInto : {A : Type 0} → List A → List (Way A) → Type 0
LeadInto {A} ps ws = (d : Bool) (q : A) → Contains ws (way d (At q)) → Contains ps q

-- the ways by numbers
pub record HasTargets {A : Type 0} (ps : List A) (ws : List (Way A)) (a : Targets) : Type 0 where
  pub ways : (start : A) → ws ≡ numbered_ways ps start a
  pub inside : (j : ℕ) → Contains (target_numbers a) j → j ≤ length ps

-- the ways of some points by numbers
abbrev pub AllHaveTargets : {A : Type 0} → (A → List (Way A)) → List A → List A → List Targets → Type 0
AllHaveTargets ways ps qs table = Pointwise (λ q a. HasTargets ps (ways q) a) qs table
