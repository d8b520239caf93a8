-- The uses of an analysis are what the law on misses wants.
use Rattle.std.proofs.Common.{◌≡◌, ℕ, ◌<◌, ◌≤◌, true, Option, Some, None, List, [], ◌∷◌, length, refl, sym, ap, ◌∙◌, subst, arith}
use Rattle.std.specs.Prelude.{is_some, slice_get, unwrap_or}
use Rattle.std.specs.List.{AllByRecursion}
use Rattle.std.proofs.lemmas.Bool.{false≢true}
use Rattle.fetch_timing.specs.declared.timing.Timing.{Timing}
use Rattle.control_flow.specs.Points.{Point}
use Rattle.wsym_terms.specs.declared.trees.Use.{Use}
use Rattle.control_flow.specs.Routes.{Way}
use Rattle.basic_blocks.specs.Blocks.{Chain}
use Rattle.persistence.specs.Spots.{spots, turned}
use Rattle.persistence.specs.Younger.{AtLeast, IsYounger}
use Rattle.tree_law.specs.Levels.{scopes_of}
use Rattle.tree_law.specs.Pieces.{scope_at}
use Rattle.persistence.specs.Runs.{AreUses}
use Rattle.cycle_bounds.specs.Analyses.{Analysis, IsAnalysis, all_uses, flow_of, points_at, points_in, reversed_of, spot_at, spots_of}
use Rattle.cycle_bounds.proofs.RoundLemmas.{some_round}
use Rattle.cycle_bounds.proofs.SpotLemmas.{IsSpot, all_spots, at_spot, scope_of_spot}

all_turned : (P : ℕ → Type 0) (ps h : List ℕ) → AllByRecursion P ps → AllByRecursion P h → AllByRecursion P (turned ps h)
all_turned P [] h all rest = rest
all_turned P (p ∷ ps) h all rest = all_turned P ps (p ∷ h) all.1 (all.0, rest)

all_weaker : (P Q : ℕ → Type 0) (ps : List ℕ) → ((p : ℕ) → P p → Q p) → AllByRecursion P ps → AllByRecursion Q ps
all_weaker P Q [] f all = tt
all_weaker P Q (p ∷ ps) f all = (f p all.0, all_weaker P Q ps f all.1)

some_of : (o : Option ℕ) → is_some o ≡ true → (d : ℕ) × (o ≡ Some d)
some_of None h = absurd (false≢true h)
some_of (Some d) h = (d, refl)

module _ (ways : Point → List (Way Point)) (start : Point) (line most : Point → ℕ) (t : Timing) (a : Analysis)
    (is : IsAnalysis ways start line most t a) where
  -- the points of a block know it
  abbrev IsOf : ℕ → ℕ → Type 0
  IsOf b p = (a.block_of p ≡ b) × (a.within 0 b ≡ true)

  all_of_block : (b : ℕ) → AllByRecursion (IsOf b) (points_at a b)
  all_of_block b = by_block (slice_get a.blocks b) refl
    where
      by_block : (o : Option (Chain ℕ)) → slice_get a.blocks b ≡ o → AllByRecursion (IsOf b) (points_in o)
      by_block None e = tt
      by_block (Some c) e = all_weaker (λ p. a.block_of p ≡ b) (IsOf b) (points_in (Some c)) (λ p h. (h, is.numbers.inside b c e))
          (is.numbers.home b c e)

  round_holds : (b d : ℕ) → a.within 0 b ≡ true → d ≤ a.at (a.loops.inner b) → (a.within (a.round b d) b ≡ true) × (a.at (a.round b d) ≡ d)
  round_holds b d i le =
      let c = some_round a.loops a.next a.within a.entry a.at a.height is.are_loops b d i le in
      let same : a.round b d ≡ c.0 = ap (a.round b) (sym c.2) ∙ is.are_round.own c.0 b c.1 in
      (subst (λ (q : ℕ). a.within q b ≡ true) (sym same) c.1, ap a.at same ∙ c.2)

  -- what the scope of a use is
  record Scoped (b k : ℕ) : Type 0 where
    spot : IsSpot (reversed_of a b) a.scope (IsOf b) (spot_at (spots_of a b) k)
    depth : ℕ
    shown : scopes_of a.nest b k ≡ depth
    low : depth ≤ a.at (a.loops.inner b)
    few : AtLeast t.ways (IsYounger a.code t.sets (λ q. a.within (a.round b depth) (a.block_of q)) (spot_at (spots_of a b) k).point) → ⊥

  -- a block that has uses is there
  listed : (b k : ℕ) → k < length (spots_of a b) → (c : Chain ℕ) × (slice_get a.blocks b ≡ Some c)
  listed b k lt = by_block (slice_get a.blocks b) refl lt
    where
      by_block : (o : Option (Chain ℕ)) → slice_get a.blocks b ≡ o → k < length (spots a.code a.scope None [] (points_in o))
          → (c : Chain ℕ) × (slice_get a.blocks b ≡ Some c)
      by_block None e lt = absurd (omega (arith, lt))
      by_block (Some c) e lt = (c, e)

  scoped : (b k : ℕ) → k < length (spots_of a b) → Scoped b k
  scoped b k lt =
      let s = at_spot (IsSpot (reversed_of a b) a.scope (IsOf b)) (spots_of a b) k lt
      (all_spots a.code a.scope (IsOf b) None [] (points_at a b) (all_of_block b)) in
      let p = (spot_at (spots_of a b) k).point in
      let o = some_of (a.scope p) s.scoped in
      let block : a.block_of p ≡ b = s.own.0 in
      let scope = is.scopes p o.0 o.1 in
      record {
        spot = s;
        depth = o.0;
        shown = ap (λ (us : List Use). scope_at us k) (is.uses b (listed b k lt).0 (listed b k lt).1)
            ∙ scope_of_spot a.code a.scope (spots_of a b) k lt
            ∙ ap (λ (q : Option ℕ). unwrap_or q 0) o.1;
        low = subst (λ (q : ℕ). o.0 ≤ a.at (a.loops.inner q)) block scope.0;
        few = subst (λ (r : ℕ). AtLeast t.ways (IsYounger a.code t.sets (λ q. a.within (a.round r o.0) (a.block_of q)) p) → ⊥) block
            scope.1;
      }

  pub are_uses : AreUses t a.code (flow_of a) a.at (reversed_of a) (λ d p. a.within d (a.block_of p)) (all_uses a)
  are_uses = record { places = λ b k lt. (scoped b k lt).spot.parts; around = around; deep = deep; few = few; whole = whole }
    where
      around : (b k : ℕ) → k < length (spots_of a b) → a.within (a.round b (scopes_of a.nest b k)) b ≡ true
      around b k lt = (let s = scoped b k lt in subst (λ (d : ℕ). a.within (a.round b d) b ≡ true) (sym s.shown)
          (round_holds b s.depth s.spot.own.1 s.low).0)

      deep : (b k : ℕ) → k < length (spots_of a b) → a.at (a.round b (scopes_of a.nest b k)) ≡ scopes_of a.nest b k
      deep b k lt = (let s = scoped b k lt in subst (λ (d : ℕ). a.at (a.round b d) ≡ d) (sym s.shown)
          (round_holds b s.depth s.spot.own.1 s.low).1)

      few : (b k : ℕ) → k < length (spots_of a b)
          → AtLeast t.ways (IsYounger a.code t.sets (λ q. a.within (a.round b (scopes_of a.nest b k)) (a.block_of q))
          (spot_at (spots_of a b) k).point) → ⊥
      few b k lt =
          let s = scoped b k lt in
          subst (λ (d : ℕ). AtLeast t.ways
          (IsYounger a.code t.sets (λ q. a.within (a.round b d) (a.block_of q)) (spot_at (spots_of a b) k).point) → ⊥) (sym s.shown)
          s.few

      whole : (d u : ℕ) → a.within d u ≡ true → AllByRecursion (λ x. a.within d (a.block_of x) ≡ true) (reversed_of a u)
      whole d u i =
          all_turned (λ x. a.within d (a.block_of x) ≡ true) (points_at a u) []
          (all_weaker (IsOf u) (λ x. a.within d (a.block_of x) ≡ true) (points_at a u) (λ x h. ap (a.within d) h.0 ∙ i) (all_of_block u)) tt
