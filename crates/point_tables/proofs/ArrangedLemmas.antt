-- Points in their order, from those that were gathered.
use Rattle.std.proofs.Common.{◌≡◌, sym, ◌∙◌, subst, ℕ, suc, ◌<◌, ◌≤◌, inl, inr, Bool, true, false, List, [], ◌∷◌, length, get_or}
use Rattle.std.specs.Prelude.{◌↔◌, Contains, Some, slice_get, nat_eq}
use Rattle.std.specs.Str.{bytes_eq}
use Rattle.std.proofs.lemmas.Option.{slice_get-get_or, slice_get_within}
use Rattle.graph_search.specs.NodeLists.{holds, Distinct}
use Rattle.graph_search.specs.Walks.{Reached}
use Rattle.graph_search.specs.Searches.{steps_to}
use Rattle.control_flow.specs.Ways.{ways_from}
use Rattle.basic_blocks.specs.Blocks.{Ascending}
use Rattle.point_order.specs.Families.{Lower}
use Rattle.function_points.specs.PointLists.{point_at, points_at}
use Rattle.control_flow.specs.Points.{Point, entry_point}
use Rattle.basic_blocks.specs.PointOrder.{Before}
use Rattle.control_flow.specs.Routes.{Way}
use Rattle.point_tables.specs.Targets.{step_in, AreTargets, AreSorted, LeadInto, HasTargets, AllHaveTargets}
use Rattle.basic_blocks.proofs.AgreementLemmas.{before_apart}
use Rattle.function_points.proofs.PointLemmas.{points_length}
use Rattle.function_points.proofs.ContextLemmas.{list_equality}
use Rattle.basic_blocks.specs.LivePoints.{before}
use Rattle.basic_blocks.specs.Chains.{is_flagged}
use Rattle.std.proofs.lemmas.Bool.{cases_Bool}
use Rattle.basic_blocks.proofs.NumberLemmas.{map_in, ascending_at}
use Rattle.point_order.proofs.ArrangementLemmas.{held_contains, points_rise}
use Rattle.point_tables.specs.declared.targets.Targets.{Targets}
use Rattle.point_order.specs.Arrangements.{IsArranged}
use Rattle.point_tables.proofs.TableLemmas.{step_row}
use Rattle.point_order.proofs.FamilyLemmas.{three}
use Rattle.point_order.proofs.PlaceLemmas.{lower_apart}
use Rattle.elf32_image.specs.Parts.{ImageValue}

pub rising_distinct : (ls : List (List ℕ)) → Ascending Lower ls → Distinct bytes_eq ls
rising_distinct [] a = tt
rising_distinct (x ∷ xs) a = (
  elim (cases_Bool (holds bytes_eq x xs)) as (λ _. holds bytes_eq x xs ≡ false) [
    | inl t ↦ let l = a.0 x (held_contains list_equality x xs t) in absurd (lower_apart x x l l)
    | inr f ↦ f
  ],
  rising_distinct xs a.1,
)

pub live_same : (flags fl : List Bool) (rows rs : List (List ℕ)) (n m : ℕ) → flags ≡ fl → rows ≡ rs → n ≡ m
    → ((i : ℕ) → i ≤ n → (is_flagged flags i ≡ true) ↔ Reached (steps_to nat_eq (before rows)) n i)
    → (i : ℕ) → i ≤ m → (is_flagged fl i ≡ true) ↔ Reached (steps_to nat_eq (before rs)) m i
live_same flags fl rows rs n m a b e h =
    subst (λ (zs : List Bool). (i : ℕ) → i ≤ m → (is_flagged zs i ≡ true) ↔ Reached (steps_to nat_eq (before rs)) m i) a
    (subst (λ (zs : List (List ℕ)). (i : ℕ) → i ≤ m → (is_flagged flags i ≡ true) ↔ Reached (steps_to nat_eq (before zs)) m i) b
    (subst (λ (k : ℕ). (i : ℕ) → i ≤ k → (is_flagged flags i ≡ true) ↔ Reached (steps_to nat_eq (before rows)) k i) e h))

-- the tables of arranged points
module _ (image : ImageValue) (entry : ℕ) (ls : List (List ℕ)) (ns : List (ℕ × ℕ)) (are : IsArranged image entry ls ns) where
  abbrev ps : List Point
  ps = points_at ls ns

  abbrev ways : Point → List (Way Point)
  ways = ways_from image entry

  pub is_sorted : AreSorted ls ns
  is_sorted = record { distinct = rising_distinct ls are.rising; sorted = are.sorted; under = are.under }

  pub is_closed : (n : ℕ × ℕ) → Contains ns n → LeadInto ps (ways (point_at ls n))
  is_closed n i d q c =
      let p = (are.points (point_at ls n)).0 (map_in (point_at ls) ns n i) in
      (are.points q).1 (suc p.0, (point_at ls n, p.1, (d, c)))

  pub rise : Ascending Before ps
  rise = points_rise ls ns are.rising are.sorted are.under

  one_of_them : (i j : ℕ) → i < length ps → j < length ps → get_or ps i (entry_point entry) ≡ get_or ps j (entry_point entry) → i ≡ j
  one_of_them i j l m e =
      elim (three i j) as (λ _. i ≡ j) [
        | inl less ↦ absurd (twice (get_or ps i (entry_point entry)) (get_or ps j (entry_point entry)) e
            (ascending_at Before ps (entry_point entry) i j rise less m))
        | inr n ↦
            elim n as (λ _. i ≡ j) [
              | inl s ↦ s
              | inr less ↦ absurd (twice (get_or ps j (entry_point entry)) (get_or ps i (entry_point entry)) (sym e)
                  (ascending_at Before ps (entry_point entry) j i rise less l))
            ]
      ]
    where
      twice : (p q : Point) → p ≡ q → Before p q → ⊥
      twice p q e b = let c = subst (λ z. Before z q) e b in before_apart q q c c

  pub are_targets : (table : List Targets) → AllHaveTargets ways ps ps table → AreTargets ways (entry_point entry) ps table
  are_targets table w =
      record {
        all = λ p c. (are.points p).1 c;
        only = λ p i. (are.points p).0 i;
        distinct = one_of_them;
        long = w.long;
        ahead = λ i a e. (row i a e).ways (entry_point entry);
        inside = λ i j c. let r = step_row table i j c in (row i r.0 r.1).inside j r.2;
      }
    where
      row : (i : ℕ) (a : Targets) → slice_get table i ≡ Some a → HasTargets ps (ways (get_or ps i (entry_point entry))) a
      row i a e =
          let l = slice_get_within table i a e in
          w.each i (get_or ps i (entry_point entry)) a (slice_get-get_or ps i (entry_point entry) (subst (λ k. i < k) w.long l)) e

  pub table_long : (table : List Targets) → AllHaveTargets ways ps ps table → length table ≡ length ns
  table_long table w = w.long ∙ points_length ls ns

  pub table_inside : (table : List Targets) → AllHaveTargets ways ps ps table → (i j : ℕ) → Contains (step_in table i) j → j ≤ length table
  table_inside table w i j c = subst (λ k. j ≤ k) (sym w.long) ((are_targets table w).inside i j c)
