-- Where nothing waits, each history is covered.
use Rattle.std.proofs.Common.{◌≡◌, refl, sym, ap, ◌∙◌, subst, ℕ, inl, inr, Bool, true, false, ℤ, pos, List, [], ◌∷◌}
use Rattle.std.specs.Prelude.{◌≢◌, ◌<ℤ◌, ◌↔◌, neg_ℤ, option_and_then, not, ◌==◌, Option, Some, None, IfSome, IsSomeAnd, is_some}
use Rattle.std.specs.List.{Contains}
use Rattle.std.proofs.lemmas.Bool.{cases_eq, or_cases, or_parts, not-true, not-false, cond-true, cond-false, eq-eqb, ne_eqb, false≢true}
use Rattle.std.proofs.lemmas.Bool.{true≢false}
use Rattle.control_flow.specs.Routes.{Taken}
use Rattle.path_facts.specs.Facts.{Fact, Facts, Location, Source, fact_from, offset_in, offset_of}
use Rattle.path_facts.specs.Facts.Location.{Register}
use Rattle.fact_lattice.specs.declared.cells.Range.{Range}
use Rattle.fact_lattice.specs.Cells.{AbstractState, Covers, Given, IsRealized, Lies, Within, after, cell_of, joined, known_in, one_offset}
use Rattle.fact_lattice.specs.Cells.{state_of}
use Rattle.fact_lattice.specs.Flows.{AreRealized, Flow, HasCoveredFacts, HasFacts, IsClosedAt, IsHistoryIn, IsLostAt, IsOverAt, IsRegular}
use Rattle.fact_lattice.specs.Flows.{IsSolved, IsUnprovedAt, facts_in, is_placed, step_at, way_to}
use Rattle.fact_lattice.specs.Searches.{Grows, joined_at, merged}
use Rattle.fact_lattice.proofs.CoverLemmas.{covers_step, within_left, within_right, within_itself, within_trans, within_covers}
use Rattle.fact_lattice.proofs.RealizedLemmas.{real_step, ends_map, someone}
use Rattle.fact_lattice.proofs.JoinLemmas.{Differ, real_joined, start_covers, exact_from, known_exact, kept_exact, source_exact}
use Rattle.fact_lattice.proofs.JoinLemmas.{lost_is_true, unproved_is_true}

-- ---- options

pub both_some : {A : Type 0} (o : Option A) (P Q : A → Type 0) → IsSomeAnd o P → IfSome o Q → (x : A) × (o ≡ Some x) × P x × Q x
both_some None P Q h k = absurd h
both_some (Some x) P Q h k = (x, refl, h, k)

pub if_some : {A : Type 0} (o : Option A) (P : A → Type 0) (x : A) → o ≡ Some x → IfSome o P → P x
if_some o P x e h = subst (λ o. IfSome o P) e h

pub some_and : {A : Type 0} (o : Option A) (P : A → Type 0) (x : A) → o ≡ Some x → IsSomeAnd o P → P x
some_and o P x e h = subst (λ o. IsSomeAnd o P) e h

pub some_of : {A : Type 0} (o : Option A) → is_some o ≡ true → (x : A) × (o ≡ Some x)
some_of None e = absurd (false≢true e)
some_of (Some x) e = (x, refl)

none_of : {A : Type 0} (o : Option A) → is_some o ≡ false → o ≡ None
none_of None e = refl
none_of (Some x) e = absurd (true≢false e)

-- ---- one offset_of

offset_known : (k : Option Fact) (c : Option Range) (v : Option Fact) → known_in c ≡ k → is_some (offset_in k) ≡ true → Lies c v
    → offset_in v ≡ offset_in k
offset_known None c v e s l = absurd (false≢true s)
offset_known (Some k) c v e s l = ap offset_in (exact_from k c v e l)

pub offset_covered : (m : AbstractState) (f : Facts) → is_some (one_offset m) ≡ true → Covers m f → one_offset m ≡ offset_of f
offset_covered m f s c = sym
    (offset_known (known_in (m.cell (Register 13))) (m.cell (Register 13)) (f.fact (Register 13)) refl s (c.facts (Register 13)))

-- what is covered has the sources that the merged state has
pub same_step : (flow : Flow) → IsRegular flow → (p : ℕ) (d : Bool) (m : AbstractState) (f : Facts) → is_placed flow p m ≡ true → Covers m f
    → flow.step p d (one_offset m) ≡ flow.step p d (offset_of f)
same_step flow regular p d m f e c =
    elim (or_cases (not (flow.accesses p)) (is_some (one_offset m)) e) as
    (λ _. flow.step p d (one_offset m) ≡ flow.step p d (offset_of f)) [
      | inl a ↦ regular.even p d (one_offset m) (offset_of f) (not-true (flow.accesses p) a)
      | inr b ↦ ap (flow.step p d) (offset_covered m f b c)
    ]

next_covered : (flow : Flow) → IsRegular flow → (p : ℕ) (d : Bool) (m : AbstractState) (f : Facts) → is_placed flow p m ≡ true → Covers m f
    → Covers (step_at flow p d m) (after flow.stack (flow.step p d (offset_of f)) f)
next_covered flow regular p d m f e c =
    subst (λ s. Covers (step_at flow p d m) (after flow.stack s f)) (same_step flow regular p d m f e c)
    (covers_step flow.stack (flow.step p d (one_offset m)) m f (regular.rises p d (one_offset m)) c)

-- ---- each history is covered

pub closed_covers : (flow : Flow) (map : ℕ → Option AbstractState) → IsSolved flow map → (h : List (Taken ℕ)) (p : ℕ) → IsHistoryIn flow h p
    → IsSomeAnd (map p) (λ m. Covers m (facts_in flow h))
closed_covers flow map s [] p e =
    let b = both_some (map flow.start) (Within (state_of flow.first)) (λ m. Unit {0}) s.starts (anything (map flow.start)) in
    subst (λ o. IsSomeAnd o (λ m. Covers m flow.first)) (sym (ap map e ∙ b.1))
    (within_covers (state_of flow.first) b.0 flow.first b.2 (start_covers flow.first)) where
      anything : (o : Option AbstractState) → IfSome o (λ m. Unit {0})
      anything None = tt
      anything (Some x) = tt
closed_covers flow map s (x ∷ h) p e =
    let b = both_some (map x.point) (λ m. Covers m (facts_in flow h)) (IsClosedAt flow map x.point) (closed_covers flow map s h x.point e.0)
    (s.closed x.point) in
    let m = b.0 in
    let t = next_covered flow s.regular x.point x.done m (facts_in flow h) b.3.placed b.2 in
    some_covers (map p) (step_at flow x.point x.done m) (facts_in flow (x ∷ h)) (b.3.ways x.done p e.1) t where
      some_covers : (o : Option AbstractState) (t : AbstractState) (f : Facts) → IsSomeAnd o (Within t) → Covers t f → IsSomeAnd o
          (λ n. Covers n f)
      some_covers None t f w c = w
      some_covers (Some n) t f w c = within_covers t n f w c

at_covered : (flow : Flow) (map : ℕ → Option AbstractState) → IsSolved flow map → (p : ℕ) (m : AbstractState) → map p ≡ Some m → (f : Facts)
    → HasFacts flow p f → Covers m f
at_covered flow map s p m e f a = subst (Covers m) a.2
    (some_and (map p) (λ m. Covers m (facts_in flow a.0)) m e (closed_covers flow map s a.0 p a.1))

-- the state of a point is realised by its histories
pub solved_real : (flow : Flow) (map : ℕ → Option AbstractState) → IsSolved flow map → (p : ℕ) (m : AbstractState) → map p ≡ Some m
    → IsRealized flow.stack (HasFacts flow p) m
solved_real flow map s p m e =
    let r = if_some (map p) (λ m. IsRealized flow.stack (HasCoveredFacts flow p m) m) m e (s.real p) in
    record {
      covers = at_covered flow map s p m e;
      cells = λ q. ends_map flow.stack (Given (HasCoveredFacts flow p m) q) (Given (HasFacts flow p) q) (λ v g. (g.0, g.1.0, g.2))
          (m.cell q) (r.cells q);
      marks = λ k u. let g = r.marks k u in (g.0, g.1.0, g.2);
    }

-- ---- what the caller reads off

differ_not : (x y o : Option ℤ) → is_some o ≡ true → o ≡ x → o ≡ y → Differ x y → ⊥
differ_not x y o e f g (inl none) = false≢true (sym (ap is_some (f ∙ none)) ∙ e)
differ_not x y o e f g (inr other) = other (sym f ∙ g)

-- no point is lost
pub none_lost : (flow : Flow) (map : ℕ → Option AbstractState) → IsSolved flow map → (p : ℕ) → IsLostAt flow p → ⊥
none_lost flow map s p l =
    let b = both_some (map p) (λ m. Covers m (facts_in flow l.one)) (IsClosedAt flow map p) (closed_covers flow map s l.one p l.leads)
    (s.closed p) in
    let m = b.0 in
    let other = some_and (map p) (λ m. Covers m (facts_in flow l.other)) m b.1 (closed_covers flow map s l.other p l.leads_too) in
    elim (or_cases (not (flow.accesses p)) (is_some (one_offset m)) b.3.placed) as (λ _. ⊥) [
      | inl a ↦ false≢true (sym (not-true (flow.accesses p) a) ∙ l.accesses)
      | inr o ↦
          differ_not (offset_of (facts_in flow l.one)) (offset_of (facts_in flow l.other)) (one_offset m) o
          (offset_covered m (facts_in flow l.one) o b.2) (offset_covered m (facts_in flow l.other) o other) l.differ
    ]

-- a fact is known where each history gives it, and only there
pub known_everywhere : (flow : Flow) (map : ℕ → Option AbstractState) → IsSolved flow map → (p : ℕ) (m : AbstractState) → map p ≡ Some m →
    (place : Location) (k : Fact)
    → (known_in (m.cell place) ≡ Some k) ↔ ((h : List (Taken ℕ)) → IsHistoryIn flow h p → (facts_in flow h).fact place ≡ Some k)
known_everywhere flow map s p m e place k =
    let x = known_exact flow.stack (HasFacts flow p) m place k (solved_real flow map s p m e) in
    (λ a h i. x.0 a (facts_in flow h) (h, i, refl), λ a. x.1 (λ f t. subst (λ (g : Facts). g.fact place ≡ Some k) t.2 (a t.0 t.1)))

pub kept_everywhere : (flow : Flow) (map : ℕ → Option AbstractState) → IsSolved flow map → (p : ℕ) (m : AbstractState) → map p ≡ Some m →
    (word : ℕ)
    → (m.marked word ≡ true) ↔ ((h : List (Taken ℕ)) → IsHistoryIn flow h p → (facts_in flow h).marked word ≡ true)
kept_everywhere flow map s p m e word =
    let x = kept_exact flow.stack (HasFacts flow p) m word (solved_real flow map s p m e) in
    (λ a h i. x.0 a (facts_in flow h) (h, i, refl), λ a. x.1 (λ f t. subst (λ (g : Facts). g.marked word ≡ true) t.2 (a t.0 t.1)))

-- the point at which the search gives up is lost
pub lost_here : (flow : Flow) (map : ℕ → Option AbstractState) → AreRealized flow map → (p : ℕ) (m : AbstractState) → map p ≡ Some m
    → is_placed flow p m ≡ false → IsLostAt flow p
lost_here flow map real p m e l =
    let parts = or_parts (not (flow.accesses p)) (is_some (one_offset m)) l in
    let r = if_some (map p) (λ m. IsRealized flow.stack (HasCoveredFacts flow p m) m) m e (real p) in
    let x = lost_is_true flow.stack (HasCoveredFacts flow p m) m r (none_of (one_offset m) parts.1) in
    record {
      accesses = not-false (flow.accesses p) parts.0;
      one = x.2.0.0;
      other = x.3.0.0;
      leads = x.2.0.1;
      leads_too = x.3.0.1;
      differ =
          subst (λ (f : Facts). Differ (offset_of f) (offset_of (facts_in flow x.3.0.0))) (sym x.2.0.2)
          (subst (λ (g : Facts). Differ (offset_of x.0) (offset_of g)) (sym x.3.0.2) x.4);
    }

-- ---- one merge keeps what is realised

pub next_real : (flow : Flow) → IsRegular flow → (p : ℕ) (d : Bool) (q : ℕ) (m : AbstractState) → IsRealized flow.stack
    (HasCoveredFacts flow p m) m → is_placed flow p m ≡ true → Contains (flow.ways p) (way_to d q)
    → IsRealized flow.stack (HasCoveredFacts flow q (step_at flow p d m)) (step_at flow p d m)
next_real flow regular p d q m r placed c =
    real_step flow.stack (flow.step p d (one_offset m)) (HasCoveredFacts flow p m) (HasCoveredFacts flow q (step_at flow p d m)) m r
    (λ f u. u.1)
    (λ f t. (
      (
        record { point = p; done = d } ∷ t.0.0,
        (t.0.1, c),
        subst (λ (g : Facts). after flow.stack (flow.step p d (offset_of g)) g ≡ after flow.stack (flow.step p d (one_offset m)) f)
            (sym t.0.2) (ap (λ s. after flow.stack s f) (sym (same_step flow regular p d m f placed t.1))),
      ),
      covers_step flow.stack (flow.step p d (one_offset m)) m f (regular.rises p d (one_offset m)) t.1,
    ))

joined_real : (flow : Flow) (q : ℕ) (o : Option AbstractState) (t : AbstractState) → IfSome o
    (λ n. IsRealized flow.stack (HasCoveredFacts flow q n) n) → IsRealized flow.stack (HasCoveredFacts flow q t) t
    → IsRealized flow.stack (HasCoveredFacts flow q (joined_at flow.stack o t)) (joined_at flow.stack o t)
joined_real flow q None t h r = r
joined_real flow q (Some n) t h r =
    real_joined flow.stack (HasCoveredFacts flow q n) (HasCoveredFacts flow q t) (HasCoveredFacts flow q (joined flow.stack n t)) n t h r
    (λ f u. u.1)
    (λ f a. (a.0, within_covers n (joined flow.stack n t) f (within_left flow.stack n t) a.1))
    (λ f a. (a.0, within_covers t (joined flow.stack n t) f (within_right flow.stack n t) a.1))

pub merged_there : (stack q : ℕ) (t : AbstractState) (map : ℕ → Option AbstractState) (x : ℕ) → x ≡ q → merged stack q t map x ≡ Some
    (joined_at stack (map q) t)
merged_there stack q t map x e = cond-true (x == q) (Some (joined_at stack (map q) t)) (map x) (eq-eqb x q e)

pub merged_away : (stack q : ℕ) (t : AbstractState) (map : ℕ → Option AbstractState) (x : ℕ) → x ≢ q → merged stack q t map x ≡ map x
merged_away stack q t map x e = cond-false (x == q) (Some (joined_at stack (map q) t)) (map x) (ne_eqb x q e)

pub merged_real : (flow : Flow) (q : ℕ) (t : AbstractState) (map : ℕ → Option AbstractState) → AreRealized flow map → IsRealized flow.stack
    (HasCoveredFacts flow q t) t → AreRealized flow (merged flow.stack q t map)
merged_real flow q t map real r x =
    elim (cases_eq x q) as (λ _. IfSome (merged flow.stack q t map x) (λ m. IsRealized flow.stack (HasCoveredFacts flow x m) m)) [
      | inl e ↦
          subst (λ o. IfSome o (λ m. IsRealized flow.stack (HasCoveredFacts flow x m) m)) (sym (merged_there flow.stack q t map x e))
          (subst (λ y. IsRealized flow.stack (HasCoveredFacts flow y (joined_at flow.stack (map q) t)) (joined_at flow.stack (map q) t))
          (sym e) (joined_real flow q (map q) t (real q) r))
      | inr ne ↦ subst (λ o. IfSome o (λ m. IsRealized flow.stack (HasCoveredFacts flow x m) m)) (sym (merged_away flow.stack q t map x ne))
          (real x)
    ]

within_joined_old : (stack : ℕ) (o : Option AbstractState) (t : AbstractState) → IfSome o (λ m. Within m (joined_at stack o t))
within_joined_old stack None t = tt
within_joined_old stack (Some n) t = within_left stack n t

pub within_joined_new : (stack : ℕ) (o : Option AbstractState) (t : AbstractState) → Within t (joined_at stack o t)
within_joined_new stack None t = within_itself t
within_joined_new stack (Some n) t = within_right stack n t

pub itself_grows : (o : Option AbstractState) → IfSome o (λ m. IsSomeAnd o (Within m))
itself_grows None = tt
itself_grows (Some m) = within_itself m

pub merged_grows : (stack q : ℕ) (t : AbstractState) (map : ℕ → Option AbstractState) → Grows map (merged stack q t map)
merged_grows stack q t map x =
    elim (cases_eq x q) as (λ _. IfSome (map x) (λ m. IsSomeAnd (merged stack q t map x) (Within m))) [
      | inl e ↦
          subst (λ o. IfSome (map x) (λ m. IsSomeAnd o (Within m))) (sym (merged_there stack q t map x e))
          (subst (λ y. IfSome (map y) (λ m. Within m (joined_at stack (map q) t))) (sym e) (within_joined_old stack (map q) t))
      | inr ne ↦ subst (λ o. IfSome (map x) (λ m. IsSomeAnd o (Within m))) (sym (merged_away stack q t map x ne)) (itself_grows (map x))
    ]

pub grown : (n : AbstractState) (o r : Option AbstractState) → IsSomeAnd o (Within n) → IfSome o (λ m. IsSomeAnd r (Within m)) → IsSomeAnd r
    (Within n)
grown n None r h g = absurd h
grown n (Some m) None h g = absurd g
grown n (Some m) (Some l) h g = within_trans n m l h g

grows_trans_at : (o p r : Option AbstractState) → IfSome o (λ m. IsSomeAnd p (Within m)) → IfSome p (λ m. IsSomeAnd r (Within m)) → IfSome o
    (λ m. IsSomeAnd r (Within m))
grows_trans_at None p r a b = tt
grows_trans_at (Some m) p r a b = grown m p r a b

pub grows_trans : (a b c : ℕ → Option AbstractState) → Grows a b → Grows b c → Grows a c
grows_trans a b c f g x = grows_trans_at (a x) (b x) (c x) (f x) (g x)

-- ---- the offset

offset_back : (T : Facts → Type 0) (stack : ℕ) (m : AbstractState) (o : ℤ) (x : Option ℤ) → IsRealized stack T m → one_offset m ≡ x
    → ((f : Facts) → T f → offset_of f ≡ Some o) → one_offset m ≡ Some o
offset_back T stack m o None real e h =
    let l = lost_is_true stack T m real e in absurd
    (differ_not (offset_of l.0) (offset_of l.1) (Some o) refl (sym (h l.0 l.2)) (sym (h l.1 l.3)) l.4)
offset_back T stack m o (Some x) real e h =
    let t = someone stack T (Register 13) (m.cell (Register 13)) (real.cells (Register 13)) in
    offset_covered m t.0 (ap is_some e) (real.covers t.0 t.1) ∙ h t.0 t.1

-- the offset is the one that each history has, and none where they differ or one has none
pub offset_everywhere : (flow : Flow) (map : ℕ → Option AbstractState) → IsSolved flow map → (p : ℕ) (m : AbstractState) → map p ≡ Some m →
    (o : ℤ)
    → (one_offset m ≡ Some o) ↔ ((h : List (Taken ℕ)) → IsHistoryIn flow h p → offset_of (facts_in flow h) ≡ Some o)
offset_everywhere flow map s p m e o =
    let r = solved_real flow map s p m e in (
      λ a h i. sym (offset_covered m (facts_in flow h) (ap is_some a) (r.covers (facts_in flow h) (h, i, refl))) ∙ a,
      λ a. offset_back (HasFacts flow p) flow.stack m o (one_offset m) r refl
          (λ f t. subst (λ (g : Facts). offset_of g ≡ Some o) t.2 (a t.0 t.1)),
    )

-- a point that wasn't reached has no history
pub unreached : (flow : Flow) (map : ℕ → Option AbstractState) → IsSolved flow map → (p : ℕ) → map p ≡ None → (h : List (Taken ℕ))
    → IsHistoryIn flow h p → ⊥
unreached flow map s p e h i = subst (λ o. IsSomeAnd o (λ m. Covers m (facts_in flow h))) e (closed_covers flow map s h p i)

-- ---- accesses beyond the stack, and returns that aren't proved

pub over_everywhere : (flow : Flow) (map : ℕ → Option AbstractState) → IsSolved flow map → (at : ℤ → Option ℤ) (p : ℕ) (m : AbstractState)
    (c o : ℤ)
    → map p ≡ Some m → flow.accesses p ≡ true → one_offset m ≡ Some c
    → IsOverAt flow at p o ↔ ((at c ≡ Some o) × (o <ℤ neg_ℤ (pos flow.stack)))
over_everywhere flow map s at p m c o e uses is =
    let x = offset_everywhere flow map s p m e c in (
      λ v. (subst (λ y. option_and_then at y ≡ Some o) (x.0 is v.history v.leads) v.is, v.beyond),
      λ v.
          let r = solved_real flow map s p m e in
          let t = someone flow.stack (HasFacts flow p) (Register 13) (m.cell (Register 13)) (r.cells (Register 13)) in
          record {
            accesses = uses;
            history = t.1.0;
            leads = t.1.1;
            is = subst (λ y. option_and_then at y ≡ Some o) (sym (x.0 is t.1.0 t.1.1)) v.0;
            beyond = v.1;
          },
    )

-- what is brought by r13's offset is brought by the one that all paths have
same_source : (flow : Flow) (p : ℕ) (m : AbstractState) (f : Facts) (source : Option ℤ → Source)
    → ((o q : Option ℤ) → flow.accesses p ≡ false → source o ≡ source q) → is_placed flow p m ≡ true → Covers m f → source (one_offset m)
    ≡ source (offset_of f)
same_source flow p m f source even e c =
    elim (or_cases (not (flow.accesses p)) (is_some (one_offset m)) e) as (λ _. source (one_offset m) ≡ source (offset_of f)) [
      | inl a ↦ even (one_offset m) (offset_of f) (not-true (flow.accesses p) a)
      | inr b ↦ ap source (offset_covered m f b c)
    ]

pub unproved_everywhere : (flow : Flow) (map : ℕ → Option AbstractState) → IsSolved flow map → (p : ℕ) (m : AbstractState) → map p ≡ Some m
    → (source : Option ℤ → Source)
    → ((o q : Option ℤ) → flow.accesses p ≡ false → source o ≡ source q) → (k : Fact)
    → IsUnprovedAt flow source k p ↔ (known_in (cell_of m (source (one_offset m))) ≢ Some k)
unproved_everywhere flow map s p m e source even k =
    let r = solved_real flow map s p m e in
    let placed = (if_some (map p) (IsClosedAt flow map p) m e (s.closed p)).placed in (
      λ v a.
          let c = r.covers (facts_in flow v.history) (v.history, v.leads, refl) in
          v.other
          (subst (λ x. fact_from (facts_in flow v.history) x ≡ Some k) (same_source flow p m (facts_in flow v.history) source even placed c)
          ((source_exact flow.stack (HasFacts flow p) m (source (one_offset m)) k r).0 a (facts_in flow v.history)
          (v.history, v.leads, refl))),
      λ n.
          let x = unproved_is_true flow.stack (HasFacts flow p) m (source (one_offset m)) k r n in
          let c = r.covers x.0 x.1 in
          record {
            history = x.1.0;
            leads = x.1.1;
            other =
                subst (λ (g : Facts). fact_from g (source (offset_of g)) ≢ Some k) (sym x.1.2)
                (subst (λ y. fact_from x.0 y ≢ Some k) (same_source flow p m x.0 source even placed c) x.2);
          },
    )
