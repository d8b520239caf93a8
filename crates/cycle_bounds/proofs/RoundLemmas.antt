-- The loop of a depth round a block holds it, and has this depth: it is reached by climbing from the innermost.
use Rattle.std.proofs.Common.{◌≡◌, ◌≢◌, ℕ, zero, suc, ◌+◌, ◌-◌, ◌≤◌, ◌<◌, inl, inr, Bool, true, false, refl, sym, ap, ◌∙◌}
use Rattle.std.proofs.Common.{subst, arith}
use Rattle.std.specs.Prelude.{nat_eq}
use Rattle.std.proofs.lemmas.Bool.{cases_Bool, eqb-true}
use Rattle.std.proofs.lemmas.Bool.Decides.{nat_tests}
use Rattle.interval_loops.specs.Loops.{AreLoops, Loops}

-- the parent's parent and so on
abbrev climbed : Loops → ℕ → ℕ → ℕ
climbed l zero c = c
climbed l (suc n) c = climbed l n (l.parent c)

differs : (x y : ℕ) → nat_eq x y ≡ false → x ≢ y
differs x y h e = grind (arith, nat_tests)

module _ (l : Loops) (next within : ℕ → ℕ → Bool) (entry : ℕ) (at height : ℕ → ℕ) (are : AreLoops l next within entry at height)
  where
    climbed_up : (n c : ℕ) → climbed l (suc n) c ≡ l.parent (climbed l n c)
    climbed_up zero c = refl
    climbed_up (suc n) c = climbed_up n (l.parent c)

    -- a loop round a block is reached by a number of climbs from the innermost
    record Found (c b : ℕ) : Type 0 where
      steps : ℕ
      up : climbed l steps (l.inner b) ≡ c
      deep : at (l.inner b) ≡ at c + steps
      own : within (l.inner b) b ≡ true

    here : (c b : ℕ) → nat_eq (l.inner b) c ≡ true → within c b ≡ true → Found c b
    here c b e i =
        let same : l.inner b ≡ c = eqb-true (l.inner b) c e in
        let same_at = ap at same in
        record { steps = 0; up = same; deep = omega (arith, same_at); own = subst (λ (d : ℕ). within d b ≡ true) (sym same) i }

    further : (c b d : ℕ) → l.parent d ≡ c → d ≢ 0 → Found d b → Found c b
    further c b d up ne r =
        let one : at d ≡ at c + 1 = subst (λ (q : ℕ). at d ≡ at q + 1) up (are.deeper d ne) in
        let deep = r.deep in
        record {
          steps = suc r.steps;
          up = climbed_up r.steps (l.inner b) ∙ ap l.parent r.up ∙ up;
          deep = omega (arith, deep, one);
          own = r.own;
        }

    found : (k c b : ℕ) → height c ≤ k → within c b ≡ true → Found c b
    found zero c b le i =
        elim (cases_Bool (nat_eq (l.inner b) c)) as (λ _. Found c b) [
          | inl e ↦ here c b e i
          | inr f ↦
              let h = are.holds c b i (differs (l.inner b) c f) in
              let low : height (l.hold c b) < height c =
              subst (λ (q : ℕ). height (l.hold c b) < height q) h.0 (are.lower (l.hold c b) h.2) in
              absurd (omega (arith, le, low))
        ]
    found (suc k) c b le i =
        elim (cases_Bool (nat_eq (l.inner b) c)) as (λ _. Found c b) [
          | inl e ↦ here c b e i
          | inr f ↦
              let h = are.holds c b i (differs (l.inner b) c f) in
              let low : height (l.hold c b) < height c =
              subst (λ (q : ℕ). height (l.hold c b) < height q) h.0 (are.lower (l.hold c b) h.2) in
              further c b (l.hold c b) h.0 h.2 (found k (l.hold c b) b (omega (arith, le, low)) h.1)
        ]

    -- what is in a loop is in those above it
    within_above : (m c u : ℕ) → m ≤ at c → within c u ≡ true
        → (within (climbed l m c) u ≡ true) × (at (climbed l m c) + m ≡ at c)
    within_above zero c u le i = (i, omega arith)
    within_above (suc m) c u le i =
        let ne : c ≢ 0 = not_top c m le in
        let one = are.deeper c ne in
        let r = within_above m (l.parent c) u (omega (arith, le, one)) (are.held c u ne i).0 in
        let sum = r.1 in
        (r.0, omega (arith, sum, one))
      where
        not_top : (c m : ℕ) → suc m ≤ at c → c ≢ 0
        not_top c m le e = (let z = ap at e ∙ are.top in omega (arith, le, z))

    -- round a block there is a loop of each depth down to the innermost
    pub some_round : (b d : ℕ) → within 0 b ≡ true → d ≤ at (l.inner b) → (c : ℕ) × (within c b ≡ true) × (at c ≡ d)
    some_round b d i le =
        let r = found (height 0) 0 b (omega arith) i in
        let w = within_above (at (l.inner b) - d) (l.inner b) b (omega arith) r.own in
        let sum = w.1 in
        (climbed l (at (l.inner b) - d) (l.inner b), w.0, omega (arith, sum, le))
