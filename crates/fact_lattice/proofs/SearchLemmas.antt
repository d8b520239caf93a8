-- What the search keeps from one merge to the next, and from one point to the next.
use Rattle.std.proofs.Common.{◌≡◌, refl, sym, ap, ◌∙◌, subst, ℕ, zero, suc, ◌+◌, ◌<◌, ◌⊎◌, inl, inr, Bool, true, false, List, [], ◌∷◌}
use Rattle.std.proofs.Common.{length, get_or, arith}
use Rattle.std.specs.Prelude.{◌≢◌, ◌==◌, if◌then◌else◌, Option, Some, None, IfSome, IsSomeAnd, is_some, slice_get}
use Rattle.std.specs.List.{Contains}
use Rattle.std.proofs.lemmas.Bool.{cases_eq, cond-true, cond-false, eq-eqb, ne_eqb, false≢true, true≢false}
use Rattle.std.proofs.lemmas.Option.{IfSome_then, get_or_from_slice_get}
use Rattle.std.proofs.Math.Numerals.{add-one}
use Rattle.control_flow.specs.Routes.{Place, Way}
use Rattle.control_flow.specs.Routes.Place.{At, Exit}
use Rattle.fact_lattice.specs.Cells.{AbstractState, IsRealized, Within, state_of}
use Rattle.fact_lattice.specs.Flows.{AreRealized, Flow, HasCoveredFacts, IsClosedAt, IsLostAt, IsRegular, IsSolved, is_placed, step_at}
use Rattle.fact_lattice.specs.Flows.{way_to}
use Rattle.fact_lattice.specs.Searches.{Grows, IfAt, IsGone, IsSolving, IsTaken, Merged, MergedBy, Passed, adds, first_map, merged}
use Rattle.fact_lattice.proofs.CoverLemmas.{within_itself}
use Rattle.fact_lattice.proofs.JoinLemmas.{start_real, start_covers}
use Rattle.fact_lattice.proofs.SolvedLemmas.{if_some, some_of, lost_here, next_real, merged_real, merged_there, merged_away, merged_grows}
use Rattle.fact_lattice.proofs.SolvedLemmas.{within_joined_new, itself_grows, grown, grows_trans}

if_at_then : {P Q : ℕ → Type 0} (o : Place ℕ) → IfAt o P → ((q : ℕ) → P q → Q q) → IfAt o Q
if_at_then (At q) h f = f q h
if_at_then Exit h f = tt

-- ---- lists and sets

get_some : {A : Type 0} (xs : List A) (i : ℕ) → i < length xs → (x : A) × (slice_get xs i ≡ Some x)
get_some [] i h = absurd (omega (arith, h))
get_some (x ∷ xs) zero h = (x, refl)
get_some (x ∷ xs) (suc i) h = get_some xs i (omega (arith, h))

contains_got : {A : Type 0} (xs : List A) (i : ℕ) (x : A) → i < length xs → slice_get xs i ≡ Some x → Contains xs x
contains_got xs i x h e = (i, h, get_or_from_slice_get xs i x x e)

got_contained : {A : Type 0} (xs : List A) (i : ℕ) (x d : A) → i < length xs → get_or xs i d ≡ x → slice_get xs i ≡ Some x
got_contained [] i x d h e = absurd (omega (arith, h))
got_contained (y ∷ xs) zero x d h e = ap Some e
got_contained (y ∷ xs) (suc i) x d h e = got_contained xs i x d (omega (arith, h)) e

below_next : (j i : ℕ) → j < suc i → (j ≡ i) ⊎ (j < i)
below_next j i h = grind arith

some_after_at : (o r : Option AbstractState) → IfSome o (λ m. IsSomeAnd r (Within m)) → is_some o ≡ true → is_some r ≡ true
some_after_at None r h e = absurd (false≢true e)
some_after_at (Some m) None h e = absurd h
some_after_at (Some m) (Some n) h e = refl

some_after : (a b : ℕ → Option AbstractState) → Grows a b → (x : ℕ) → is_some (a x) ≡ true → is_some (b x) ≡ true
some_after a b g x e = some_after_at (a x) (b x) (g x) e

-- ---- one merge

pub nothing_passed : (flow : Flow) (p : ℕ) (map : ℕ → Option AbstractState) (was : ℕ → Bool) → IsRegular flow → AreRealized flow map
    → Passed flow p 0 map map was was
nothing_passed flow p map was regular real =
    record {
      regular = regular;
      real = real;
      waiting = λ x e. (e, refl);
      visited = λ x e. inl e;
      grows = λ x. itself_grows (map x);
      gone = λ j l e. absurd (omega (arith, l));
    }

-- what went is_above where the map grows
gone_grows : (flow : Flow) (p j : ℕ) (map now new : ℕ → Option AbstractState) → Grows now new → IsGone flow p j map now
    → IsGone flow p j map new
gone_grows flow p j map now new g h =
    IfSome_then (map p) h
    (λ m a. IfSome_then (slice_get (flow.ways p) j) a
    (λ w b. if_at_then w.to b (λ q c. grown (step_at flow p w.done m) (now q) (new q) c (g q))))

adds_false : (q x : ℕ) (waits : ℕ → Bool) → adds (Some q) waits x ≡ false → (x ≢ q) × (waits x ≡ false)
adds_false q x waits e =
    elim (cases_eq x q) as (λ _. (x ≢ q) × (waits x ≡ false)) [
      | inl s ↦ absurd (true≢false (sym (cond-true (x == q) true (waits x) (eq-eqb x q s)) ∙ e))
      | inr n ↦ (n, sym (cond-false (x == q) true (waits x) (ne_eqb x q n)) ∙ e)
    ]

adds_true : (q x : ℕ) (waits : ℕ → Bool) → adds (Some q) waits x ≡ true → (x ≡ q) ⊎ (waits x ≡ true)
adds_true q x waits e =
    elim (cases_eq x q) as (λ _. (x ≡ q) ⊎ (waits x ≡ true)) [
      | inl s ↦ inl s
      | inr n ↦ inr (sym (cond-false (x == q) true (waits x) (ne_eqb x q n)) ∙ e)
    ]

module _ (flow : Flow) (p i : ℕ) (map now : ℕ → Option AbstractState) (was waits : ℕ → Bool) where
  unchanged_passes : (new : ℕ → Option AbstractState) (then' : ℕ → Bool) → Passed flow p i map now was waits → Merged flow p i now new None
      → (new ≡ now) → ((x : ℕ) → then' x ≡ waits x) → Passed flow p (suc i) map new was then'
  unchanged_passes new then' s h same v =
      subst (λ (f : ℕ → Option AbstractState). Passed flow p (suc i) map f was then') (sym same) (record {
        regular = s.regular;
        real = s.real;
        waiting = λ x e. s.waiting x (sym (v x) ∙ e);
        visited = λ x e. s.visited x (sym (v x) ∙ e);
        grows = s.grows;
        gone = λ j l e.
            let e' = sym (v p) ∙ e in
            elim (below_next j i l) as (λ _. IsGone flow p j map now) [
              | inl is ↦
                  subst (λ k. IsGone flow p k map now) (sym is)
                  (subst (λ o. IfSome o
                  (λ m. IfSome (slice_get (flow.ways p) i)
                  (λ w. IfAt w.to (λ q. IsSomeAnd (now q) (Within (step_at flow p w.done m)))))) (s.waiting p e').1
                  (IfSome_then (now p) h (λ m a. IfSome_then (slice_get (flow.ways p) i) a (λ w b. b.1))))
              | inr le ↦ s.gone j le e'
            ];
      })

  changed_passes : (new : ℕ → Option AbstractState) (then' : ℕ → Bool) (q : ℕ) (m : AbstractState) (w : Way ℕ)
      → Passed flow p i map now was waits
      → now p ≡ Some m → is_placed flow p m ≡ true → i < length (flow.ways p) → slice_get (flow.ways p) i ≡ Some w
      → w.to ≡ At q → new ≡ merged flow.stack q (step_at flow p w.done m) now → ((x : ℕ) → then' x ≡ adds (Some q) waits x) → Passed flow p
      (suc i) map new was then'
  changed_passes new then' q m w s at placed lt got to is v =
      let t = step_at flow p w.done m in
      let next = merged flow.stack q t now in
      let along : w ≡ way_to w.done q = λ j. record { done = w.done; to = to j } in
      let grows : Grows now next = merged_grows flow.stack q t now in
      let r = next_real flow s.regular p w.done q m
      (if_some (now p) (λ n. IsRealized flow.stack (HasCoveredFacts flow p n) n) m at (s.real p)) placed
      (contains_got (flow.ways p) i (way_to w.done q) lt (got ∙ ap Some along)) in
      subst (λ (f : ℕ → Option AbstractState). Passed flow p (suc i) map f was then') (sym is) (record {
        regular = s.regular;
        real = merged_real flow q t now s.real r;
        waiting = λ x e.
            let a = adds_false q x waits (sym (v x) ∙ e) in
            let b = s.waiting x a.1 in
            (b.0, merged_away flow.stack q t now x a.0 ∙ b.1);
        visited = λ x e.
            elim (adds_true q x waits (sym (v x) ∙ e)) as (λ _. (was x ≡ true) ⊎ (is_some (next x) ≡ true)) [
              | inl same ↦ inr (ap is_some (merged_there flow.stack q t now x same))
              | inr old ↦
                  elim (s.visited x old) as (λ _. (was x ≡ true) ⊎ (is_some (next x) ≡ true)) [
                    | inl a ↦ inl a
                    | inr b ↦ inr (some_after now next grows x b)
                  ]
            ];
        grows = grows_trans map now next s.grows grows;
        gone = λ j l e.
            let a = adds_false q p waits (sym (v p) ∙ e) in
            elim (below_next j i l) as (λ _. IsGone flow p j map next) [
              | inl same ↦
                  subst (λ k. IsGone flow p k map next) (sym same)
                  (subst (λ o. IfSome o
                  (λ m. IfSome (slice_get (flow.ways p) i)
                  (λ w. IfAt w.to (λ q. IsSomeAnd (next q) (Within (step_at flow p w.done m)))))) (sym at ∙ (s.waiting p a.1).1)
                  (subst (λ o. IfSome o (λ w. IfAt w.to (λ q. IsSomeAnd (next q) (Within (step_at flow p w.done m))))) (sym got)
                  (subst (λ o. IfAt o (λ y. IsSomeAnd (next y) (Within t))) (sym to)
                  (subst (λ o. IsSomeAnd o (Within t)) (sym (merged_there flow.stack q t now q refl))
                  (within_joined_new flow.stack (now q) t)))))
              | inr le ↦ gone_grows flow p j map now next grows (s.gone j le a.1)
            ];
      })

  each_passes : (new : ℕ → Option AbstractState) (then' : ℕ → Bool) (changed : Option ℕ) (m : AbstractState) (w : Way ℕ)
      → Passed flow p i map now was waits
      → now p ≡ Some m → is_placed flow p m ≡ true → i < length (flow.ways p) → slice_get (flow.ways p) i ≡ Some w
      → MergedBy flow p w m now new changed → Merged flow p i now new changed → ((x : ℕ) → then' x ≡ adds changed waits x) → Passed flow p
      (suc i) map new was then'
  each_passes new then' None m w s at placed lt got by went v = unchanged_passes new then' s went by.0 v
  each_passes new then' (Some q) m w s at placed lt got by went v = changed_passes new then' q m w s at placed lt got by.0 by.1 v

  pub merge_passes : (all : Flow) → all ≡ flow → (new : ℕ → Option AbstractState) (then' : ℕ → Bool) (changed : Option ℕ) (b : Bool)
      → Passed flow p i map now was waits → is_some (map p) ≡ true
      → IfSome (now p) (λ m. b ≡ is_placed all p m) → b ≡ true → i < length (flow.ways p)
      → Merged all p i now new changed → ((x : ℕ) → then' x ≡ adds changed waits x) → Passed flow p (i + 1) map new was then'
  merge_passes all same new then' changed b s some placed ready lt went v =
      let m = some_of (now p) (some_after map now s.grows p some) in
      let w = get_some (flow.ways p) i lt in
      let went' = subst (λ (f : Flow). Merged f p i now new changed) same went in
      let by = if_some (slice_get (flow.ways p) i) (λ w. MergedBy flow p w m.0 now new changed) w.0 w.1
      (if_some (now p) (λ m. IfSome (slice_get (flow.ways p) i) (λ w. MergedBy flow p w m now new changed)) m.0 m.1 went') in
      let ok = subst (λ (f : Flow). b ≡ is_placed f p m.0) same (if_some (now p) (λ m. b ≡ is_placed all p m) m.0 m.1 placed) in
      subst (λ n. Passed flow p n map new was then') (sym (add-one i))
      (each_passes new then' changed m.0 w.0 s m.1 (sym ok ∙ ready) lt w.1 by went' v)

-- ---- one point

pub solving_start : (flow : Flow) → IsRegular flow → (waits : ℕ → Bool) → ((x : ℕ) → waits x ≡ (if x == flow.start then true else false))
    → IsSolving flow (first_map flow) waits
solving_start flow regular waits v =
    record {
      regular = regular;
      starts = subst (λ o. IsSomeAnd o (Within (state_of flow.first))) (sym (there flow.start refl)) (within_itself (state_of flow.first));
      real = λ x.
          elim (cases_eq x flow.start) as (λ _. IfSome (first_map flow x) (λ m. IsRealized flow.stack (HasCoveredFacts flow x m) m)) [
            | inl e ↦
                subst (λ o. IfSome o (λ m. IsRealized flow.stack (HasCoveredFacts flow x m) m)) (sym (there x e))
                (start_real flow.stack (HasCoveredFacts flow x (state_of flow.first)) flow.first (([], e, refl), start_covers flow.first)
                (λ g a. a.1))
            | inr n ↦ subst (λ o. IfSome o (λ m. IsRealized flow.stack (HasCoveredFacts flow x m) m)) (sym (away x n)) tt
          ];
      closed = λ x e.
          elim (cases_eq x flow.start) as (λ _. IfSome (first_map flow x) (IsClosedAt flow (first_map flow) x)) [
            | inl s ↦ absurd (true≢false (sym (cond-true (x == flow.start) true false (eq-eqb x flow.start s)) ∙ (sym (v x) ∙ e)))
            | inr n ↦ subst (λ o. IfSome o (IsClosedAt flow (first_map flow) x)) (sym (away x n)) tt
          ];
      visited = λ x e.
          elim (cases_eq x flow.start) as (λ _. is_some (first_map flow x) ≡ true) [
            | inl s ↦ ap is_some (there x s)
            | inr n ↦ absurd (false≢true (sym (cond-false (x == flow.start) true false (ne_eqb x flow.start n)) ∙ (sym (v x) ∙ e)))
          ];
    } where
      there : (x : ℕ) → x ≡ flow.start → first_map flow x ≡ Some (state_of flow.first)
      there x e = cond-true (x == flow.start) (Some (state_of flow.first)) None (eq-eqb x flow.start e)

      away : (x : ℕ) → x ≢ flow.start → first_map flow x ≡ None
      away x n = cond-false (x == flow.start) (Some (state_of flow.first)) None (ne_eqb x flow.start n)

closed_grows : (flow : Flow) (map new : ℕ → Option AbstractState) (x : ℕ) (m : AbstractState) → Grows map new → IsClosedAt flow map x m
    → IsClosedAt flow new x m
closed_grows flow map new x m g c =
    record { placed = c.placed; ways = λ d q h. grown (step_at flow x d m) (map q) (new q) (c.ways d q h) (g q) }

-- each way of a point is within
point_closed : (flow : Flow) (p : ℕ) (map new : ℕ → Option AbstractState) (m : AbstractState) → map p ≡ Some m → is_placed flow p m ≡ true
    → ((j : ℕ) → j < length (flow.ways p) → IsGone flow p j map new) → IsClosedAt flow new p m
point_closed flow p map new m e placed gone =
    record {
      placed = placed;
      ways = λ d q h.
          let got = got_contained (flow.ways p) h.0 (way_to d q) (way_to d q) h.1 h.2 in
          let a = if_some (map p)
          (λ m. IfSome (slice_get (flow.ways p) h.0) (λ w. IfAt w.to (λ q. IsSomeAnd (new q) (Within (step_at flow p w.done m))))) m e
          (gone h.0 h.1) in
          if_some (slice_get (flow.ways p) h.0) (λ w. IfAt w.to (λ q. IsSomeAnd (new q) (Within (step_at flow p w.done m))))
          (way_to d q) got a;
    }

pub solving_next : (flow : Flow) (p : ℕ) (map new : ℕ → Option AbstractState) (was mid waits : ℕ → Bool) → IsSolving flow map was
    → IsTaken was mid p
    → Passed flow p (length (flow.ways p)) map new mid waits
    → (waits p ≡ false → IfSome (map p) (λ m. is_placed flow p m ≡ true))
    → IsSolving flow new waits
solving_next flow p map new was mid waits s t g placed =
    record {
      regular = g.regular;
      starts = grown (state_of flow.first) (map flow.start) (new flow.start) s.starts (g.grows flow.start);
      real = g.real;
      closed = λ x e.
          let a = g.waiting x e in
          elim (cases_eq x p) as (λ _. IfSome (new x) (IsClosedAt flow new x)) [
            | inl is ↦
                let e' = subst (λ y. waits y ≡ false) is e in
                let m = some_of (map p) (s.visited p t.member) in
                subst (λ y. IfSome (new y) (IsClosedAt flow new y)) (sym is)
                (subst (λ o. IfSome o (IsClosedAt flow new p)) (sym ((g.waiting p e').1 ∙ m.1))
                (point_closed flow p map new m.0 m.1 (if_some (map p) (λ m. is_placed flow p m ≡ true) m.0 m.1 (placed e'))
                (λ j l. g.gone j l e')))
            | inr n ↦
                let old : was x ≡ false = sym (cond-false (x == p) false (was x) (ne_eqb x p n)) ∙ (sym (t.rest x) ∙ a.0) in
                subst (λ o. IfSome o (IsClosedAt flow new x)) (sym a.1)
                (IfSome_then (map x) (s.closed x old) (λ m c. closed_grows flow map new x m g.grows c))
          ];
      visited = λ x e.
          elim (g.visited x e) as (λ _. is_some (new x) ≡ true) [
            | inl a ↦
                elim (cases_eq x p) as (λ _. is_some (new x) ≡ true) [
                  | inl is ↦ some_after map new g.grows x (s.visited x (subst (λ y. was y ≡ true) (sym is) t.member))
                  | inr n ↦ some_after map new g.grows x
                      (s.visited x (sym (cond-false (x == p) false (was x) (ne_eqb x p n)) ∙ (sym (t.rest x) ∙ a)))
                ]
            | inr b ↦ b
          ];
    }

pub solving_end : (flow : Flow) (map : ℕ → Option AbstractState) (waits : ℕ → Bool) → IsSolving flow map waits → ((x : ℕ) → waits x ≡ false)
    → IsSolved flow map
solving_end flow map waits s none = record { regular = s.regular; starts = s.starts; real = s.real; closed = λ x. s.closed x (none x) }

-- where a point can't be passed it is lost
pub lost_after : (flow all : Flow) → all ≡ flow → (p many : ℕ) (map now : ℕ → Option AbstractState) (was waits : ℕ → Bool)
    → Passed flow p many map now was waits → is_some (map p) ≡ true
    → (b : Bool) → IfSome (now p) (λ m. b ≡ is_placed all p m) → b ≡ false → IsLostAt flow p
lost_after flow all same p many map now was waits s some b placed unready =
    let m = some_of (now p) (some_after map now s.grows p some) in
    lost_here flow now s.real p m.0 m.1
    (sym (subst (λ (f : Flow). b ≡ is_placed f p m.0) same (if_some (now p) (λ m. b ≡ is_placed all p m) m.0 m.1 placed)) ∙ unready)

pub placed_after : (flow all : Flow) → all ≡ flow → (p many : ℕ) (map now : ℕ → Option AbstractState) (was waits : ℕ → Bool)
    → Passed flow p many map now was waits
    → (b : Bool) → IfSome (now p) (λ m. b ≡ is_placed all p m) → b ≡ true → waits p ≡ false → IfSome (map p)
    (λ m. is_placed flow p m ≡ true)
placed_after flow all same p many map now was waits s b placed ready e =
    subst (λ o. IfSome o (λ m. is_placed flow p m ≡ true)) (s.waiting p e).1
    (IfSome_then (now p) placed (λ m h. sym (subst (λ (f : Flow). b ≡ is_placed f p m) same h) ∙ ready))

-- ---- the loop's answers

pub solving_begins : (flow : Flow) → IsRegular flow → (start : ℕ) (map : ℕ → Option AbstractState) (none waits : ℕ → Bool) → flow.start
    ≡ start → map ≡ first_map flow → ((x : ℕ) → none x ≡ false)
    → ((x : ℕ) → waits x ≡ adds (Some start) none x) → IsSolving flow map waits
solving_begins flow regular start map none waits is first empty v =
    subst (λ (f : ℕ → Option AbstractState). IsSolving flow f waits) (sym first)
    (solving_start flow regular waits
    (λ x. v x ∙ (ap (λ b. if x == start then true else b) (empty x) ∙ ap (λ y. if x == y then true else false) (sym is))))

pub real_again : (flow all : Flow) → all ≡ flow → (map : ℕ → Option AbstractState) (waits : ℕ → Bool) → IsSolving flow map waits
    → AreRealized all map
real_again flow all same map waits s = subst (λ (f : Flow). AreRealized f map) (sym same) s.real

pub solving_passes : (flow all : Flow) → all ≡ flow → (p : ℕ) (map new : ℕ → Option AbstractState) (was mid waits : ℕ → Bool)
    → IsSolving flow map was → IsTaken was mid p
    → Passed all p (length (all.ways p)) map new mid waits
    → (waits p ≡ false → IfSome (map p) (λ m. is_placed all p m ≡ true))
    → IsSolving flow new waits
solving_passes flow all same p map new was mid waits s t g placed =
    solving_next flow p map new was mid waits s t
    (subst (λ (f : Flow). Passed f p (length (f.ways p)) map new mid waits) same g)
    (subst (λ (f : Flow). waits p ≡ false → IfSome (map p) (λ m. is_placed f p m ≡ true)) same placed)

pub solving_ends : (flow : Flow) (map : ℕ → Option AbstractState) (waits : ℕ → Bool) → IsSolving flow map waits →
    ((x : ℕ) → waits x ≡ false) → IsSolved flow map
solving_ends flow map waits s none = solving_end flow map waits s none
