-- The stamps of a walk count the turns, and each visit is paid.
use Rattle.std.proofs.Common.{◌≡◌, ◌≢◌, ℕ, zero, suc, ◌+◌, ◌*◌, ◌<◌, ◌≤◌, ◌&&◌, not, ◌⊎◌, inl, inr, Bool, true, false, if◌then◌else◌, List}
use Rattle.std.proofs.Common.{[], ◌∷◌, length, refl, sym, ap, ◌∙◌, subst, arith}
use Rattle.std.specs.Prelude.{nat_eq}
use Rattle.std.specs.List.{AllByRecursion}
use Rattle.std.proofs.lemmas.Bool.{cases_Bool, eqb-true, false≢true}
use Rattle.fetch_timing.specs.declared.timing.Timing.{Timing}
use Rattle.control_flow.specs.Points.{Point}
use Rattle.wsym_terms.specs.Extents.{Extent, Finite, Infinite, IsWithin}
use Rattle.wsym_terms.specs.declared.trees.Use.{Use}
use Rattle.control_flow.specs.Routes.{Way}
use Rattle.persistence.specs.BlockHistories.{history}
use Rattle.interval_loops.specs.Counts.{count}
use Rattle.interval_loops.specs.Trails.{Ran, Visit, first_visit, next_visit, visits_after}
use Rattle.tree_law.specs.Pieces.{misses}
use Rattle.tree_law.specs.Trails.{Paid}
use Rattle.cycle_bounds.specs.Analyses.{Analysis, IsAnalysis, base_of, flow_of, reversed_of, spots_of, uses_of}
use Rattle.cycle_bounds.specs.Turns.{CountsWithin}
use Rattle.cycle_bounds.specs.Visits.{IsPassed, Passed, all_taken, cycles, missed_in, ran_of, rans}
use Rattle.cycle_bounds.proofs.VisitCostLemmas.{IsCheapHere, paid}
use Rattle.cycle_bounds.proofs.WalkLemmas.{all_back, all_front, blocks_of, passed_points}

-- i: the loop holds the block before, t: this one is its header
one_step : (i t j : Bool) (m k : ℕ) → j ≡ true → (i ≡ true → m ≡ k)
    → (if i then m + (if t then 1 else 0) else 0) ≡ (if i && t then k + 1 else (if not i && j then 0 else k))
one_step true true j m k h e = (let same = e refl in omega (arith, same))
one_step true false j m k h e = (let same = e refl in omega (arith, same))
one_step false t true m k h e = refl
one_step false t false m k h e = absurd (false≢true h)

none_there : (i t h : Bool) (k : ℕ) → i ≡ true → t ≡ false → k ≡ 0 → (if i && t then k + 1 else (if not i && h then 0 else k)) ≡ 0
none_there true false h k e f z = z
none_there true true h k e f z = absurd (false≢true (sym f))
none_there false t h k e f z = absurd (false≢true e)

zero_within : (bound : Extent) (m : ℕ) → m ≡ 0 → IsWithin m bound
zero_within (Finite b) m e = omega (arith, e)
zero_within Infinite m e = tt

top_or_not : (c : ℕ) → (c ≡ 0) ⊎ (c ≢ 0)
top_or_not zero = inl refl
top_or_not (suc c) = inr (λ e. absurd (omega (arith, e)))

not_same : (a : Analysis) (b : ℕ) → a.within 0 (a.loops.header 0) ≡ false → a.within 0 b ≡ true → nat_eq b (a.loops.header 0) ≡ false
not_same a b out i =
    elim (cases_Bool (nat_eq b (a.loops.header 0))) as (λ _. nat_eq b (a.loops.header 0) ≡ false) [
      | inl e ↦ absurd (false≢true (sym out ∙ ap (a.within 0) (sym (eqb-true b (a.loops.header 0) e)) ∙ i))
      | inr f ↦ f
    ]

-- the whole function never turns
none_of_top : (a : Analysis) → a.within 0 (a.loops.header 0) ≡ false → (bs : List ℕ) → AllByRecursion (λ b. a.within 0 b ≡ true) bs
    → count (flow_of a) 0 bs ≡ 0
none_of_top a out [] all = refl
none_of_top a out (b ∷ []) all = refl
none_of_top a out (b ∷ u ∷ bs) all = none_there (a.within 0 u) (nat_eq b (a.loops.header 0)) (a.within 0 b) (count (flow_of a) 0 (u ∷ bs))
    all.1.0 (not_same a b out all.0) (none_of_top a out (u ∷ bs) all.1)

module _ (ways : Point → List (Way Point)) (start : Point) (line most : Point → ℕ) (cost : Point → Bool → ℕ) (t : Timing)
    (sets : List (List ℕ)) (a : Analysis) (is : IsAnalysis ways start line most t a)
    (some : 0 < t.sets) (any : 0 < t.ways) (all_sets : length sets ≡ t.sets) (bounds : ℕ → Extent) where
  -- the stamps are the counts
  abbrev Counted : Visit → List ℕ → Type 0
  Counted v bs = (c : ℕ) → a.within c v.block ≡ true → v.turns (a.at c) ≡ count (flow_of a) c (v.block ∷ bs)

  counted_first : (x : Ran) → Counted (first_visit x) []
  counted_first x c i = refl

  counted_next : (time : ℕ) (v : Visit) (x : Ran) (bs : List ℕ) → Counted v bs
      → Counted (next_visit (flow_of a) a.round time v x) (v.block ∷ bs)
  counted_next time v x bs counted c j =
      let same : a.round x.block (a.at c) ≡ c = is.are_round.own c x.block j in
      ap (λ (k : ℕ). if a.within k v.block then v.turns (a.at c) + (if nat_eq x.block (a.loops.header k) then 1 else 0) else 0) same
      ∙ one_step (a.within c v.block) (nat_eq x.block (a.loops.header c)) (a.within c x.block) (v.turns (a.at c))
      (count (flow_of a) c (v.block ∷ bs)) j (counted c)

  abbrev PaidHere : Visit → Type 0
  PaidHere = Paid t.miss bounds a.nest (flow_of a) a.at

  -- a visit with the misses and the cycles of its block is paid
  paid_visit : (x : Passed) (v : Visit) (bs : List ℕ) → IsPassed a x → AllByRecursion (IsCheapHere cost most t sets a) x.taken
      → v.block ≡ x.block → v.spent ≡ cycles cost t sets a (history (reversed_of a) bs) x.taken
      → v.missed ≡ missed_in t sets a.code (history (reversed_of a) bs) (spots_of a x.block) → Counted v bs
      → AllByRecursion (λ b. a.within 0 b ≡ true) (v.block ∷ bs)
      → ((c : ℕ) → c ≢ 0 → a.within c v.block ≡ true → IsWithin (count (flow_of a) c (v.block ∷ bs)) (bounds c)) → PaidHere v
  paid_visit x v bs p cheap block spent missed counted inside turns = record { costs = costs; few = few }
    where
      costs : v.spent ≤ a.nest.base v.block + t.miss * misses (length (a.nest.uses v.block)) v
      costs =
          let c = paid cost most t sets a some any all_sets x.block x.taken (history (reversed_of a) bs) (passed_points a x p) cheap v
          missed in
          let base : a.nest.base v.block ≡ base_of t most a x.block = ap a.nest.base block ∙ is.base x.block x.chain p.0 in
          let uses : a.nest.uses v.block ≡ uses_of a x.block = ap a.nest.uses block ∙ is.uses x.block x.chain p.0 in
          let same : t.miss * misses (length (a.nest.uses v.block)) v ≡ t.miss * misses (length (uses_of a x.block)) v = ap
          (λ (us : List Use). t.miss * misses (length us) v) uses in
          omega (arith, c, base, same, spent)

      few : (c : ℕ) → a.within c v.block ≡ true → IsWithin (v.turns (a.at c)) (bounds c)
      few c i =
          elim (top_or_not c) as (λ _. IsWithin (v.turns (a.at c)) (bounds c)) [
            | inl e ↦ zero_within (bounds c) (v.turns (a.at c))
                (counted c i ∙ ap (λ (d : ℕ). count (flow_of a) d (v.block ∷ bs)) e ∙ none_of_top a is.are_loops.start (v.block ∷ bs)
                inside)
            | inr ne ↦ subst (λ (m : ℕ). IsWithin m (bounds c)) (sym (counted c i)) (turns c ne i)
          ]

  pub paid_after : (ys : List Passed) (time : ℕ) (v : Visit) (bs : List ℕ) → Counted v bs
      → AllByRecursion (λ b. a.within 0 b ≡ true) (v.block ∷ bs) → AllByRecursion (IsPassed a) ys
      → AllByRecursion (IsCheapHere cost most t sets a) (all_taken ys) → CountsWithin bounds a (v.block ∷ bs) (blocks_of ys)
      → AllByRecursion PaidHere (visits_after (flow_of a) a.round time v (rans cost t sets a (v.block ∷ bs) ys))
  paid_after [] time v bs counted inside passed cheap turns = tt
  paid_after (y ∷ ys) time v bs counted inside passed cheap turns =
      let x = ran_of cost t sets a (history (reversed_of a) (v.block ∷ bs)) y in
      let u = next_visit (flow_of a) a.round time v x in
      let here : Counted u (v.block ∷ bs) = counted_next time v x bs counted in
      let all : AllByRecursion (λ b. a.within 0 b ≡ true) (y.block ∷ v.block ∷ bs) = (is.numbers.inside y.block y.chain passed.0.0, inside)
      in (
        paid_visit y u (v.block ∷ bs) passed.0 (all_front (IsCheapHere cost most t sets a) y.taken (all_taken ys) cheap) refl refl refl here
            all turns.0,
        paid_after ys (time + 1) u (v.block ∷ bs) here all passed.1 (all_back (IsCheapHere cost most t sets a) y.taken (all_taken ys) cheap)
            turns.1,
      )

  pub all_paid : (x : Passed) (xs : List Passed) → AllByRecursion (IsPassed a) (x ∷ xs)
      → AllByRecursion (IsCheapHere cost most t sets a) (all_taken (x ∷ xs)) → CountsWithin bounds a [] (blocks_of (x ∷ xs))
      → AllByRecursion PaidHere
      (first_visit (ran_of cost t sets a [] x) ∷ visits_after (flow_of a) a.round 1 (first_visit (ran_of cost t sets a [] x))
      (rans cost t sets a (x.block ∷ []) xs))
  all_paid x xs passed cheap turns =
      let v = first_visit (ran_of cost t sets a [] x) in
      let all : AllByRecursion (λ b. a.within 0 b ≡ true) (x.block ∷ []) = (is.numbers.inside x.block x.chain passed.0.0, tt) in (
        paid_visit x v [] passed.0 (all_front (IsCheapHere cost most t sets a) x.taken (all_taken xs) cheap) refl refl refl
            (counted_first (ran_of cost t sets a [] x)) all turns.0,
        paid_after xs 1 v [] (counted_first (ran_of cost t sets a [] x)) all passed.1
            (all_back (IsCheapHere cost most t sets a) x.taken (all_taken xs) cheap) turns.1,
      )
