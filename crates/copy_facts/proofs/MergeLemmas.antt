-- One way more that is met at a point, as a step of the search.
use Rattle.std.proofs.Common.{◌≡◌, refl, sym, ap, ◌∙◌, subst, ℕ, zero, suc, ◌+◌, ◌<◌, ◌≤◌, inl, inr, Bool, true, false, List, [], ◌∷◌}
use Rattle.std.proofs.Common.{length, get_or, arith}
use Rattle.std.specs.Prelude.{◌≢◌, ◌==◌, if◌then◌else◌, Option, Some, None, IfSome, IfNone, IsSomeAnd, is_some, option_map, slice_get}
use Rattle.std.specs.Prelude.{slice_set}
use Rattle.std.proofs.lemmas.Option.{same_Some, slice_get-get_or, get_or_from_slice_get}
use Rattle.std.proofs.lemmas.Bool.{cases_eq, cond-false, cond-true, eq-eqb, false≢true, ne_eqb}
use Rattle.std.proofs.lemmas.List.{get_or-set_same, get_or-set_other, length-set}
use Rattle.control_flow.specs.Routes.Place.{At, Exit}
use Rattle.control_flow.specs.Routes.{Way}
use Rattle.path_facts.specs.Facts.{Location}
use Rattle.fact_lattice.specs.Cells.{AbstractState, Within, joined, one_offset, transferred}
use Rattle.fact_lattice.specs.Flows.{step_at}
use Rattle.fact_lattice.specs.Searches.{IfAt, Merged, MergedBy, joined_at, merged}
use Rattle.fact_lattice.specs.Weights.{IsFormed, weight_at, weight_below}
use Rattle.fact_lattice.proofs.CoverLemmas.{within_right}
use Rattle.fact_lattice.proofs.SolvedLemmas.{if_some, merged_away, merged_there, some_of}
use Rattle.fact_lattice.proofs.WeightLemmas.{merged_lighter, point_falls}
use Rattle.copy_facts.specs.declared.sites.Site.{Site}
use Rattle.copy_facts.specs.declared.tables.PointFacts.{PointFacts}
use Rattle.copy_facts.specs.Points.{flow_of, place_in, step_in, stepped_state, ways_in}
use Rattle.copy_facts.specs.Searching.{ArePoints, IsMet, Replaces, Stays, map_of, stack_locations, stack_words, weight_of_points}
use Rattle.copy_facts.specs.Tables.{IsTable, state_of_point}
use Rattle.copy_facts.proofs.EntryLemmas.{got, got_none}
use Rattle.copy_facts.proofs.FlowLemmas.{formed_in, formed_joined}

pub replaces_by : (stack : ℕ) (old : Option PointFacts) (u : PointFacts) (next : AbstractState) (t : PointFacts) → old ≡ Some u → IsTable t
    → state_of_point t ≡ joined stack (state_of_point u) next → joined stack (state_of_point u) next ≢ state_of_point u
    → Replaces stack old next t
replaces_by stack old u next t e table same differs =
    subst (λ o. Replaces stack o next t) (sym e) (record {
      table = table;
      joined = same;
      differs = λ h. differs (sym (same_Some (state_of_point u) (joined stack (state_of_point u) next) h));
    })

pub stays_by : (stack : ℕ) (old : Option PointFacts) (u : PointFacts) (next : AbstractState) → old ≡ Some u
    → joined stack (state_of_point u) next ≡ state_of_point u → Stays stack old next
stays_by stack old u next e same = subst (λ o. Stays stack o next) (sym e) same

pub same_got : {A : Type 0} (xs : List A) (i : ℕ) (x d : A) → i < length xs → x ≡ get_or xs i x → x ≡ get_or xs i d
same_got xs i x d l e = e ∙ sym (get_or_from_slice_get xs i (get_or xs i x) d (slice_get-get_or xs i x l))

pub if_none : {A : Type 0} (o : Option A) (P : Type 0) → o ≡ None → IfNone o P → P
if_none o P e h = subst (λ o. IfNone o P) e h

-- ---- the table as a function of points

get_set_same : {A : Type 0} (xs : List A) (i : ℕ) (x d : A) → i < length xs → get_or (slice_set xs i x) i d ≡ x
get_set_same xs i x d l = get_or-set_same xs i x d l

get_set_other : {A : Type 0} (xs : List A) (i j : ℕ) (x d : A) → j ≢ i → get_or (slice_set xs i x) j d ≡ get_or xs j d
get_set_other xs i j x d n = get_or-set_other xs i j x d n

set_long : {A : Type 0} (xs : List A) (i : ℕ) (x : A) → length (slice_set xs i x) ≡ length xs
set_long xs i x = length-set xs i x

map_set : (stack : ℕ) (facts : List (Option PointFacts)) (q : ℕ) (next : AbstractState) (t : PointFacts) → q < length facts
    → state_of_point t ≡ joined_at stack (map_of facts q) next → (x : ℕ) → map_of (slice_set facts q (Some t)) x ≡ merged stack q next
    (map_of facts) x
map_set stack facts q next t l is x =
    elim (cases_eq x q) as (λ _. map_of (slice_set facts q (Some t)) x ≡ merged stack q next (map_of facts) x) [
      | inl e ↦
          ap (λ y. map_of (slice_set facts q (Some t)) y) e
          ∙ (ap (option_map state_of_point) (get_set_same facts q (Some t) None l)
          ∙ (ap Some is ∙ sym (merged_there stack q next (map_of facts) x e)))
      | inr n ↦ ap (option_map state_of_point) (get_set_other facts q x (Some t) None n) ∙ sym (merged_away stack q next (map_of facts) x n)
    ]

-- ---- one way

-- the answer of a merge
abbrev pub changed_point : Bool → ℕ → Option ℕ
changed_point changed j = if changed then Some j else None

stays_within : (stack : ℕ) (o : Option AbstractState) (next : AbstractState) → IsSomeAnd o (λ m. joined stack m next ≡ m) → IsSomeAnd o
    (Within next)
stays_within stack None next h = h
stays_within stack (Some m) next h = subst (Within next) h (within_right stack m next)

module _ (stack start : ℕ) (sites : List Site) (facts : List (Option PointFacts)) (p way : ℕ) (done : Bool) (j : ℕ)
    (known : is_some (map_of facts p) ≡ true)
    (going : slice_get (ways_in (length sites) (slice_get sites p)) way ≡ Some
    (record { done = done; to = place_in (length sites) j })) where
  abbrev m : AbstractState
  m = (some_of (map_of facts p) known).0

  merged_by : (new : List (Option PointFacts)) (changed : Option ℕ)
      → MergedBy (flow_of stack start sites) p (record { done = done; to = place_in (length sites) j }) m (map_of facts)
      (map_of new) changed
      → Merged (flow_of stack start sites) p way (map_of facts) (map_of new) changed
  merged_by new changed by =
      subst (λ o. IfSome o (λ m. IfSome (slice_get (ways_in (length sites) (slice_get sites p)) way)
      (λ w. MergedBy (flow_of stack start sites) p w m (map_of facts) (map_of new) changed)))
      (sym (some_of (map_of facts p) known).1)
      (subst (λ w. IfSome w (λ w. MergedBy (flow_of stack start sites) p w m (map_of facts) (map_of new) changed)) (sym going) by)

  -- the way leads out of the function
  pub went_out : j ≡ length sites → Merged (flow_of stack start sites) p way (map_of facts) (map_of facts) None
  went_out e =
      merged_by facts None (
        refl,
        subst (λ to. IfAt to (λ q. IsSomeAnd (map_of facts q) (Within (step_at (flow_of stack start sites) p done m))))
            (sym (cond-true (j == length sites) Exit (At j) (eq-eqb j (length sites) e))) tt,
      )

  at_m : (next : AbstractState) → IfSome (map_of facts p)
      (λ m. next ≡ transferred stack (step_in stack (slice_get sites p) done (one_offset m)) m)
      → next ≡ transferred stack (step_in stack (slice_get sites p) done (one_offset m)) m
  at_m next is =
      if_some (map_of facts p) (λ m. next ≡ transferred stack (step_in stack (slice_get sites p) done (one_offset m)) m) m
      (some_of (map_of facts p) known).1 is

  pub next_formed : (next : AbstractState) → ArePoints stack sites facts
      → IfSome (map_of facts p) (λ m. next ≡ transferred stack (step_in stack (slice_get sites p) done (one_offset m)) m)
      → IsFormed (stack_locations stack) (stack_words stack) next
  next_formed next a is =
      subst (IsFormed (stack_locations stack) (stack_words stack)) (sym (at_m next is))
      (formed_in stack (slice_get sites p) done (one_offset m) m
      (if_some (map_of facts p) (IsFormed (stack_locations stack) (stack_words stack)) m (some_of (map_of facts p) known).1 (a.formed p)))

  pub went_met : (new : List (Option PointFacts)) (next : AbstractState) (changed : Bool) → j ≢ length sites → j < length facts
      → IfSome (map_of facts p) (λ m. next ≡ transferred stack (step_in stack (slice_get sites p) done (one_offset m)) m)
      → IsMet stack facts j next new changed
      → Merged (flow_of stack start sites) p way (map_of facts) (map_of new) (changed_point changed j)
  went_met new next true other l is met =
      merged_by new (Some j) (
        cond-false (j == length sites) Exit (At j) (ne_eqb j (length sites) other),
        λ i x.
            (ap (λ ys. map_of ys x) met.2
            ∙ (map_set stack facts j next met.0 l met.1.joined x
            ∙ ap (λ y. merged stack j y (map_of facts) x) (at_m next is))) i,
      )
  went_met new next false other l is met =
      merged_by new None (
        λ i x. map_of (met.1 i) x,
        subst (λ to. IfAt to (λ q. IsSomeAnd (map_of facts q) (Within (step_at (flow_of stack start sites) p done m))))
            (sym (cond-false (j == length sites) Exit (At j) (ne_eqb j (length sites) other)))
            (subst (λ n. IsSomeAnd (map_of facts j) (Within n)) (at_m next is)
            (stays_within stack (map_of facts j) next met.0)),
      )

-- ---- the table stays in order, and gets lighter where it changes

formed_joined_at : (stack : ℕ) (ls : List Location) (ws : List ℕ) (o : Option AbstractState) (next : AbstractState) → IfSome o
    (IsFormed ls ws) → IsFormed ls ws next
    → IsFormed ls ws (joined_at stack o next)
formed_joined_at stack ls ws None next f g = g
formed_joined_at stack ls ws (Some m) next f g = formed_joined stack ls ws m next f

pub met_points : (stack : ℕ) (sites : List Site) (facts new : List (Option PointFacts)) (q : ℕ) (next : AbstractState) (changed : Bool)
    → ArePoints stack sites facts
    → q < length facts → IsFormed (stack_locations stack) (stack_words stack) next → IsMet stack facts q next new changed
    → ArePoints stack sites new
met_points stack sites facts new q next true a l f met =
    subst (ArePoints stack sites) (sym met.2) (record {
      small = a.small;
      few = a.few;
      long = set_long facts q (Some met.0) ∙ a.long;
      tables = λ p t e.
          elim (cases_eq p q) as (λ _. IsTable t) [
            | inl s ↦
                subst IsTable (same_Some met.0 t
                (sym (get_set_same facts q (Some met.0) None l) ∙
                (ap (λ x. get_or (slice_set facts q (Some met.0)) x None) (sym s) ∙ e))) met.1.table
            | inr n ↦ a.tables p t (sym (get_set_other facts q p (Some met.0) None n) ∙ e)
          ];
      formed = λ p.
          subst (λ o. IfSome o (IsFormed (stack_locations stack) (stack_words stack)))
          (sym (map_set stack facts q next met.0 l met.1.joined p))
          (elim (cases_eq p q) as
          (λ _. IfSome (merged stack q next (map_of facts) p) (IsFormed (stack_locations stack) (stack_words stack))) [
            | inl s ↦
                subst (λ o. IfSome o (IsFormed (stack_locations stack) (stack_words stack)))
                (sym (merged_there stack q next (map_of facts) p s))
                (formed_joined_at stack (stack_locations stack) (stack_words stack) (map_of facts q) next (a.formed q) f)
            | inr n ↦ subst (λ o. IfSome o (IsFormed (stack_locations stack) (stack_words stack)))
                (sym (merged_away stack q next (map_of facts) p n)) (a.formed p)
          ]);
      inside = a.inside;
    })
met_points stack sites facts new q next false a l f met = subst (ArePoints stack sites) (sym met.1) a

lighter_set : (stack : ℕ) (facts : List (Option PointFacts)) (q : ℕ) (next : AbstractState) (t : PointFacts) →
    ((p : ℕ) → IfSome (map_of facts p) (IsFormed (stack_locations stack) (stack_words stack)))
    → q < length facts → Replaces stack (get_or facts q None) next t → weight_of_points stack
    (slice_set facts q (Some t)) < weight_of_points stack facts
lighter_set stack facts q next t formed l r =
    let light =
    elim (point_falls stack (stack_locations stack) (stack_words stack) (map_of facts q) next (formed q))
    as (λ _. weight_at stack (stack_locations stack) (stack_words stack) (Some (joined_at stack (map_of facts q) next)) < weight_at stack
    (stack_locations stack) (stack_words stack) (map_of facts q)) [
      | inl s ↦ absurd (r.differs s.0)
      | inr k ↦ k
    ] in
    let less = merged_lighter stack (stack_locations stack) (stack_words stack) q next (map_of facts) (length facts) l light in
    subst (λ n. weight_below stack (stack_locations stack) (stack_words stack)
    (map_of (slice_set facts q (Some t))) n < weight_of_points stack facts) (sym (set_long facts q (Some t)))
    (subst (λ f. weight_below stack (stack_locations stack) (stack_words stack) f (length facts) < weight_of_points stack facts)
    (λ i x. sym (map_set stack facts q next t l r.joined x) i) less)

pub met_less : (stack : ℕ) (sites : List Site) (facts new : List (Option PointFacts)) (q : ℕ) (next : AbstractState) (changed : Bool)
    → ArePoints stack sites facts
    → q < length facts → IsMet stack facts q next new changed
    → (if is_some (changed_point changed q) then 1 else 0) + weight_of_points stack new ≤ weight_of_points stack facts
met_less stack sites facts new q next true a l met =
    let less = lighter_set stack facts q next met.0 a.formed l met.1 in
    subst (λ f. 1 + weight_of_points stack f ≤ weight_of_points stack facts) (sym met.2) (omega (arith, less))
met_less stack sites facts new q next false a l met = subst (λ f. 0 + weight_of_points stack f ≤ weight_of_points stack facts) (sym met.1)
    (omega arith)

-- ---- what is known after the instruction at a point

pub table_known : (facts : List (Option PointFacts)) (p : ℕ) (x : Option PointFacts) (t : PointFacts) → p < length facts → x
    ≡ get_or facts p x → x ≡ Some t
    → get_or facts p None ≡ Some t
table_known facts p x t l e s = sym (same_got facts p x None l e) ∙ s

pub next_is : (stack : ℕ) (sites : List Site) (facts : List (Option PointFacts)) (p : ℕ) (done : Bool) (site : Site) (t : PointFacts)
    (next : AbstractState)
    → get_or facts p None ≡ Some t → p < length sites → site ≡ get_or sites p site → next ≡ stepped_state stack site done t
    → IfSome (map_of facts p) (λ m. next ≡ transferred stack (step_in stack (slice_get sites p) done (one_offset m)) m)
next_is stack sites facts p done site t next known l here is =
    subst (λ o. IfSome (option_map state_of_point o)
    (λ m. next ≡ transferred stack (step_in stack (slice_get sites p) done (one_offset m)) m)) (sym known)
    (subst (λ s. next ≡ transferred stack (step_in stack s done (one_offset (state_of_point t))) (state_of_point t))
    (sym (got sites p site l here)) is)

pub below_other : (j n l : ℕ) → j ≤ n → j ≢ n → l ≡ n → j < l
below_other j n l a b c = grind arith

pub no_way : (count p way : ℕ) (sites : List Site) (x : Option (Way ℕ)) → length sites ≤ p → way < length
    (ways_in count (slice_get sites p))
    → slice_get (ways_in count (slice_get sites p)) way ≡ x
no_way count p way sites x l w = absurd (nothing (subst (λ s. way < length (ways_in count s)) (got_none sites p l) w)) where
  nothing : way < 0 → ⊥
  nothing h = omega (arith, h)

pub known_below : (facts : List (Option PointFacts)) (p : ℕ) → is_some (map_of facts p) ≡ true → p < length facts
known_below [] p e = absurd (false≢true e)
known_below (x ∷ xs) zero e = omega arith
known_below (x ∷ xs) (suc p) e = let h = known_below xs p e in omega (arith, h)

pub there_below : {A : Type 0} (xs : List A) (p : ℕ) → is_some (slice_get xs p) ≡ true → p < length xs
there_below [] p e = absurd (false≢true e)
there_below (x ∷ xs) zero e = omega arith
there_below (x ∷ xs) (suc p) e = let h = there_below xs p e in omega (arith, h)
