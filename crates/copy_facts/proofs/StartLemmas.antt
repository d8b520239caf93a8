-- The table with which the search begins.
use Rattle.std.proofs.Common.{◌≡◌, refl, sym, ap, ◌∙◌, subst, ℕ, zero, suc, ◌<◌, ◌≤◌, ◌⊎◌, inl, inr, true, false, List, [], ◌∷◌, ◌++◌}
use Rattle.std.proofs.Common.{length, get_or, arith}
use Rattle.std.specs.Prelude.{◌≢◌, ◌==◌, ◌^◌, pos, nat_lt, Option, Some, None, IfSome, option_map, slice_get, slice_set}
use Rattle.std.proofs.lemmas.Bool.{cases_eq, cond-false, cond-true, eq-eqb, ne_eqb}
use Rattle.std.proofs.lemmas.Bool.Decides.{nat_tests}
use Rattle.std.proofs.lemmas.List.{get_or-set_same, get_or-set_other, length-set}
use Rattle.std.proofs.lemmas.Option.{same_Some, none-some}
use Rattle.path_facts.specs.declared.origin.Origin.TheVariants as origin
use Rattle.path_facts.specs.Facts.{Location}
use Rattle.path_facts.specs.Facts.Location.{Register, StackWord}
use Rattle.path_facts.specs.Histories.{start_fact, start_facts}
use Rattle.fact_lattice.specs.declared.cells.Range.{Range}
use Rattle.fact_lattice.specs.Cells.{only_fact, state_of}
use Rattle.fact_lattice.specs.Searches.{first_map}
use Rattle.fact_lattice.specs.Weights.{IsFormed}
use Rattle.copy_facts.specs.declared.sites.Site.{Site}
use Rattle.copy_facts.specs.declared.tables.PointFacts.{PointFacts}
use Rattle.copy_facts.specs.declared.tables.WordFacts.{WordFacts}
use Rattle.copy_facts.specs.Points.{flow_of}
use Rattle.copy_facts.specs.Searching.{ArePoints, IsInside, map_of, stack_locations, stack_words}
use Rattle.copy_facts.specs.Tables.{IsTable, cell_in, state_in, state_of_point}
use Rattle.copy_facts.proofs.FlowLemmas.{formed_start}
use Rattle.copy_facts.proofs.StepLemmas.{PartlyStepped}

-- ---- registers

abbrev pub start_cell : ℕ → Option Range
start_cell r = only_fact (start_fact (Register r))

pub own_origin : (r : ℕ) → r < 15 → Some (record { origin = origin.AtStart r; low = pos 0; high = pos 0 }) ≡ start_cell r
own_origin r l = sym (ap only_fact (cond-true (nat_lt r 15) _ None (below r l))) where
  below : (r : ℕ) → r < 15 → nat_lt r 15 ≡ true
  below r l = grind (arith, nat_tests)

pub all_own : (at : ℕ) (now : List (Option Range)) → PartlyStepped start_cell at now → 15 ≤ at → (r : ℕ) → get_or now r None ≡ start_cell r
all_own at now s l r =
    elim (cases_15 r at l) as (λ _. get_or now r None ≡ start_cell r) [
      | inl b ↦ s.done r b
      | inr g ↦ let long = s.long in no_more now r (omega (arith, long, g)) ∙ sym
          (ap only_fact (cond-false (nat_lt r 15) _ None (above r g)))
    ] where
      cases_15 : (r at : ℕ) → 15 ≤ at → (r < at) ⊎ (15 ≤ r)
      cases_15 r at l = grind arith

      above : (r : ℕ) → 15 ≤ r → nat_lt r 15 ≡ false
      above r g = grind (arith, nat_tests)

      no_more : {A : Type 0} (xs : List (Option A)) (r : ℕ) → length xs ≤ r → get_or xs r None ≡ None
      no_more [] r l = refl
      no_more (x ∷ xs) zero l = absurd (omega (arith, l))
      no_more (x ∷ xs) (suc r) l = no_more xs r (omega (arith, l))

pub start_is : (rs : List (Option Range)) (ws : List WordFacts) → ((r : ℕ) → get_or rs r None ≡ start_cell r) → ws ≡ [] → state_in rs ws
    ≡ state_of start_facts
start_is rs ws cells e = ap (state_in rs) e ∙ (λ j. record { cell = λ p. each p j; marked = λ k. false }) where
  each : (p : Location) → cell_in rs [] p ≡ (state_of start_facts).cell p
  each (Register r) = cells r
  each (StackWord k) = refl

-- ---- no facts

pub none_pushed : (xs : List (Option PointFacts)) → ((p : ℕ) → get_or xs p None ≡ None) → (p : ℕ) → get_or (xs ++ None ∷ []) p None ≡ None
none_pushed [] h zero = refl
none_pushed [] h (suc p) = refl
none_pushed (x ∷ xs) h zero = h 0
none_pushed (x ∷ xs) h (suc p) = none_pushed xs (λ q. h (suc q)) p

-- ---- the table

module _ (stack start : ℕ) (sites : List Site) (facts : List (Option PointFacts)) (t : PointFacts) (long : length facts ≡ length sites)
    (starts : start < length sites)
    (none : (p : ℕ) → get_or facts p None ≡ None) (table : IsTable t) (state : state_of_point t ≡ state_of start_facts) where
  there : get_or (slice_set facts start (Some t)) start None ≡ Some t
  there = get_or-set_same facts start (Some t) None (omega (arith, long, starts))

  away : (p : ℕ) → p ≢ start → get_or (slice_set facts start (Some t)) p None ≡ None
  away p n = get_or-set_other facts start p (Some t) None n ∙ none p

  first_at : (x : ℕ) → map_of (slice_set facts start (Some t)) x ≡ first_map (flow_of stack start sites) x
  first_at x =
      elim (cases_eq x start) as (λ _. map_of (slice_set facts start (Some t)) x ≡ first_map (flow_of stack start sites) x) [
        | inl e ↦
            ap (map_of (slice_set facts start (Some t))) e
            ∙ (ap (option_map state_of_point) there ∙
            (ap Some state ∙ sym (cond-true (x == start) (Some (state_of start_facts)) None (eq-eqb x start e))))
        | inr n ↦ ap (option_map state_of_point) (away x n) ∙ sym
            (cond-false (x == start) (Some (state_of start_facts)) None (ne_eqb x start n))
      ]

  pub first_is : map_of (slice_set facts start (Some t)) ≡ first_map (flow_of stack start sites)
  first_is j x = first_at x j

  pub first_points : stack < 2 ^ 31 → length sites < 2 ^ 32 →
      ((i : ℕ) (site : Site) → slice_get sites i ≡ Some site → IsInside (length sites) site)
      → ArePoints stack sites (slice_set facts start (Some t))
  first_points small few inside = record {
    small = small;
    few = few;
    long = length-set facts start (Some t) ∙ long;
    tables = λ p u e.
        elim (cases_eq p start) as (λ _. IsTable u) [
          | inl s ↦ subst IsTable (same_Some t u (sym there ∙ (ap (λ x. get_or (slice_set facts start (Some t)) x None) (sym s) ∙ e))) table
          | inr n ↦ absurd (none-some u (sym (away p n) ∙ e))
        ];
    formed = λ p.
        elim (cases_eq p start) as
        (λ _. IfSome (map_of (slice_set facts start (Some t)) p) (IsFormed (stack_locations stack) (stack_words stack))) [
          | inl s ↦
              subst (λ o. IfSome o (IsFormed (stack_locations stack) (stack_words stack)))
              (sym (ap (map_of (slice_set facts start (Some t))) s ∙ (ap (option_map state_of_point) there ∙ ap Some state)))
              (formed_start stack)
          | inr n ↦ subst (λ o. IfSome o (IsFormed (stack_locations stack) (stack_words stack)))
              (sym (ap (option_map state_of_point) (away p n))) tt
        ];
    inside = inside;
  }
