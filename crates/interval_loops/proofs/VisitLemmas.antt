-- The stamps of visits: each visit follows the one before it, and visits with one entry of a loop are one stretch inside it.
use Rattle.std.proofs.Common.{◌≡◌, ℕ, ◌+◌, ◌≤◌, ◌<◌, Bool, true, false, if◌then◌else◌, nat_eq, List, [], ◌∷◌, ◌++◌, refl, sym, ap}
use Rattle.std.proofs.Common.{subst, ◌∙◌, arith}
use Rattle.std.specs.List.{AllByRecursion}
use Rattle.interval_loops.specs.Loops.{LoopFlow, IsRound}
use Rattle.interval_loops.specs.Trails.{Visit, Ran, Follows, next_visit, last_visit}

module _ (f : LoopFlow) (at : ℕ → ℕ) (round : ℕ → ℕ → ℕ) (is : IsRound f at round) where
  pub follows : (time : ℕ) (v : Visit) (x : Ran) → f.next v.block x.block ≡ true → Follows f at v (next_visit f round time v x)
  follows time v x e = record { edge = e; keeps = keeps; counts = counts; fresh = fresh }
    where
      u : Visit
      u = next_visit f round time v x

      keeps : (c : ℕ) → f.within c v.block ≡ true → f.within c x.block ≡ true → (d : ℕ) → d ≤ at c → u.entry d ≡ v.entry d
      keeps c i j d le = ap (λ (b : Bool). if b then v.entry d else time) (is.outer c v.block x.block d i j le)

      counts : (c : ℕ) → f.within c v.block ≡ true → f.within c x.block ≡ true → u.turns (at c) ≡ v.turns (at c) +
          (if nat_eq x.block (f.header c) then 1 else 0)
      counts c i j =
          let same : round x.block (at c) ≡ c = is.own c x.block j in
          ap (λ (k : ℕ). if f.within k v.block then v.turns (at c) + (if nat_eq x.block (f.header k) then 1 else 0) else 0) same
          ∙ ap (λ (b : Bool). if b then v.turns (at c) + (if nat_eq x.block (f.header c) then 1 else 0) else 0) i

      fresh : (c : ℕ) → f.within c v.block ≡ false → f.within c x.block ≡ true → u.turns (at c) ≡ 0
      fresh c i j =
          let same : round x.block (at c) ≡ c = is.own c x.block j in
          ap (λ (k : ℕ). if f.within k v.block then v.turns (at c) + (if nat_eq x.block (f.header k) then 1 else 0) else 0) same
          ∙ ap (λ (b : Bool). if b then v.turns (at c) + (if nat_eq x.block (f.header c) then 1 else 0) else 0) i

module _ (f : LoopFlow) (at : ℕ → ℕ) (round : ℕ → ℕ → ℕ) (is : IsRound f at round) (c : ℕ) where
  -- the entry of the loop at the next visit inside it: the one before, or now
  next_entry : (time : ℕ) (v : Visit) (x : Ran) → f.within c x.block ≡ true → (next_visit f round time v x).entry (at c) ≡
      (if f.within c v.block then v.entry (at c) else time)
  next_entry time v x i = ap (λ (k : ℕ). if f.within k v.block then v.entry (at c) else time) (is.own c x.block i)

  kept : (time : ℕ) (v : Visit) (x : Ran) → f.within c v.block ≡ true → f.within c x.block ≡ true → (next_visit f round time v x).entry
      (at c) ≡ v.entry (at c)
  kept time v x i j = next_entry time v x j ∙ ap (λ (b : Bool). if b then v.entry (at c) else time) i

  -- from a time on, entries are no earlier
  late_step : (t time : ℕ) (v : Visit) (x : Ran) → t ≤ time → (f.within c v.block ≡ true → t ≤ v.entry (at c)) → f.within c x.block ≡ true
      → t ≤ (next_visit f round time v x).entry (at c)
  late_step t time v x le old i = subst (λ (k : ℕ). t ≤ k) (sym (next_entry time v x i)) (by_test (f.within c v.block) refl)
    where
      by_test : (b : Bool) → f.within c v.block ≡ b → t ≤ (if b then v.entry (at c) else time)
      by_test true e = old e
      by_test false e = le

  late : (m : List Ran) (t time : ℕ) (v : Visit) (x : Ran) → t ≤ time → (f.within c v.block ≡ true → t ≤ v.entry (at c))
      → f.within c x.block ≡ true → t ≤ (last_visit f round time v (m ++ x ∷ [])).entry (at c)
  late [] t time v x le old i = late_step t time v x le old i
  late (y ∷ m) t time v x le old i = late m t (time + 1) (next_visit f round time v y) x (omega arith)
      (λ j. late_step t time v y le old j) i

  -- Between two visits of a loop with one entry the loop isn't left.
  pub one_stretch : (m : List Ran) (time : ℕ) (v : Visit) (x : Ran) → v.entry (at c) < time → f.within c v.block ≡ true → f.within c x.block
      ≡ true
      → (last_visit f round time v (m ++ x ∷ [])).entry (at c) ≡ v.entry (at c) → AllByRecursion (λ y. f.within c y.block ≡ true) m
  one_stretch [] time v x low i j same = tt
  one_stretch (y ∷ m) time v x low i j same = by_test (λ e. one_stretch m (time + 1) (next_visit f round time v y) x (earlier e) e j
      (same ∙ sym (kept time v y i e))) (f.within c y.block) refl
    where
      earlier : f.within c y.block ≡ true → (next_visit f round time v y).entry (at c) < time + 1
      earlier e = (let a : (next_visit f round time v y).entry (at c) ≡ v.entry (at c) = kept time v y i e in omega (arith, a, low))

      by_test : (f.within c y.block ≡ true → AllByRecursion (λ y. f.within c y.block ≡ true) m) → (b : Bool) → f.within c y.block ≡ b →
          (f.within c y.block ≡ true) × AllByRecursion (λ y. f.within c y.block ≡ true) m
      by_test rest true e = (e, rest e)
      by_test rest false e =
          let a : time ≤ (last_visit f round (time + 1) (next_visit f round time v y) (m ++ x ∷ [])).entry (at c) =
          late m time (time + 1) (next_visit f round time v y) x (omega arith)
          (λ k. (let g : f.within c y.block ≡ true = k in absurd (cc))) j in
          let b : (last_visit f round (time + 1) (next_visit f round time v y) (m ++ x ∷ [])).entry (at c) ≡ v.entry (at c) = same in
          absurd (omega (arith, a, b, low))
