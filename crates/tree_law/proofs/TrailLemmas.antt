-- A trail is cut into the nodes of its levels, and so is a run of the function.
use Rattle.std.proofs.Common.{◌≡◌, ◌≢◌, ℕ, zero, suc, ◌+◌, ◌<◌, ◌≤◌, ◌⊎◌, inl, inr, Bool, true, false, if◌then◌else◌, nat_eq, Option, Some}
use Rattle.std.proofs.Common.{None, List, [], ◌∷◌, ◌++◌, refl, sym, ap, subst, ◌∙◌, arith}
use Rattle.std.proofs.lemmas.Bool.Decides.{nat_tests}
use Rattle.wsym_terms.specs.Extents.{Extent, IsWithin}
use Rattle.interval_loops.specs.Trails.{Visit, Leaves, Follows}
use Rattle.tree_law.specs.Pieces.{over, differs}
use Rattle.tree_law.specs.Ways.{Tracks, EdgePiece}
use Rattle.tree_law.specs.Levels.{Step, Turns, Goes, pieces, turned, Level, Inside, LoopRun, Nest, run_of, NodeRun, BlockRun, FunctionRun}
use Rattle.interval_loops.specs.Loops.{LoopFlow}
use Rattle.tree_law.specs.Trails.{Paid, Stays, IsCut, IsTrail}
use Rattle.tree_law.proofs.LevelLemmas.{Straight, Turned, in_front, cut as cut_level}

abbrev pub last_of : Visit → List Visit → Visit
last_of v [] = v
last_of v (u ∷ w) = last_of u w

module _ (miss : ℕ) (bounds : ℕ → Extent) (n : Nest) (f : LoopFlow) (at height : ℕ → ℕ) (c : ℕ) where
  -- all of a stay has one entry at each depth of the loop
  pub steady : (d e : ℕ) → d ≤ at c → (w : List Visit) (v : Visit) → v.entry d ≡ e → Stays miss bounds n f at c v w → over (differs d e)
      (v ∷ w) ≡ 0
  steady d e low [] v same h = one_same d e v same
    where
      one_same : (d e : ℕ) (v : Visit) → v.entry d ≡ e → differs d e v + 0 ≡ 0
      one_same d e v same = grind (arith, nat_tests)
  steady d e low (u ∷ w) v same h =
      let kept : u.entry d ≡ v.entry d = h.2.keeps c h.0 (first_in w u h.3) d low in
      let rest : over (differs d e) (u ∷ w) ≡ 0 = steady d e low w u (kept ∙ same) h.3 in
      omega (arith, none d e v same, rest)
    where
      none : (d e : ℕ) (v : Visit) → v.entry d ≡ e → differs d e v ≡ 0
      none d e v same = grind (arith, nat_tests)

      first_in : (w : List Visit) (u : Visit) → Stays miss bounds n f at c u w → f.within c u.block ≡ true
      first_in [] u h = h.0
      first_in (x ∷ w) u h = h.0

  pub stays_in : (w : List Visit) (u : Visit) → Stays miss bounds n f at c u w → f.within c u.block ≡ true
  stays_in [] u h = h.0
  stays_in (x ∷ w) u h = h.0

  pub stays_paid : (w : List Visit) (u : Visit) → Stays miss bounds n f at c u w → Paid miss bounds n f at u
  stays_paid [] u h = h.1
  stays_paid (x ∷ w) u h = h.1

  pub last_few : (w : List Visit) (v : Visit) → Stays miss bounds n f at c v w → IsWithin ((last_of v w).turns (at c)) (bounds c)
  last_few [] v h = h.1.few c h.0
  last_few (u ∷ w) v h = last_few w u h.3

module _ (miss : ℕ) (bounds : ℕ → Extent) (n : Nest) (f : LoopFlow) (at height : ℕ → ℕ) (cut : IsCut n f at height) where
  abbrev pub Runs : ℕ → ℕ → ℕ → List Visit → Type 0
  Runs k c = NodeRun n (BlockRun miss n) bounds k (at c) c

  -- a stay in a loop from its header on is a run of the loop
  abbrev pub LoopRuns : ℕ → ℕ → Type 0
  LoopRuns k d = (depth : ℕ) → at d ≡ depth + 1 → (v : Visit) (w : List Visit) → v.block ≡ (n.level d).header → v.turns (at d) ≡ 0
      → Stays miss bounds n f at d v w → LoopRun (Runs k d) (n.level d) (bounds d) depth (v ∷ w)

  -- what stays in the first node: nothing more in a block of its own, else a stay in the loop of the node
  abbrev pub Rest : Option ℕ → Visit → List Visit → Type 0
  Rest None v first = first ≡ []
  Rest (Some d) v first = Stays miss bounds n f at d v first

  pub record Split (k c : ℕ) (v : Visit) (w : List Visit) : Type 0 where
    pub first : List Visit
    pub steps : List Step
    pub parts : w ≡ first ++ pieces steps
    pub rest : Rest (n.child c (f.node_at c v.block)) v first
    pub inside : Inside (Runs (suc k) c) (n.level c) (f.node_at c v.block) steps
    pub count : turned steps + v.turns (at c) ≡ (last_of v w).turns (at c)

  -- the first node's piece, where a loop is entered by its header
  here : (k c : ℕ) (v : Visit) (first : List Visit) → ((d : ℕ) → height d < height c → LoopRuns k d) → f.within c v.block ≡ true
      → Paid miss bounds n f at v
      → ((d : ℕ) → n.child c (f.node_at c v.block) ≡ Some d → (v.block ≡ (n.level d).header) × (v.turns (at d) ≡ 0))
      → Rest (n.child c (f.node_at c v.block)) v first → Runs (suc k) c (f.node_at c v.block) (v ∷ first)
  here k c v first loops i paid entered rest = by_child (n.child c (f.node_at c v.block)) refl rest
    where
      by_child : (o : Option ℕ) → n.child c (f.node_at c v.block) ≡ o → Rest o v first → run_of (BlockRun miss n) bounds (at c) o
          (f.node_at c v.block) (NodeRun n (BlockRun miss n) bounds k (at c + 1)) n.level (v ∷ first)
      by_child None e r =
          let own : f.node_at c v.block ≡ v.block = cut.own c v.block i e in
          subst (λ (b : ℕ). BlockRun miss n b (v ∷ first)) (sym own) (v, ap (λ (l : List Visit). v ∷ l) r, refl, paid.costs)
      by_child (Some d) e r =
          let deep : at d ≡ at c + 1 = cut.deep c (f.node_at c v.block) d e in
          let h = entered d e in
          subst (λ (j : ℕ). LoopRun (NodeRun n (BlockRun miss n) bounds k j d) (n.level d) (bounds d) (at c) (v ∷ first)) deep
          (loops d (cut.lower c (f.node_at c v.block) d e) (at c) deep v first h.0 h.1 r)

  -- where the first node ends at once
  ends_here : (c : ℕ) (v : Visit) → f.within c v.block ≡ true → Paid miss bounds n f at v →
      ((d : ℕ) → n.child c (f.node_at c v.block) ≡ Some d → Leaves f d v.block) → Rest (n.child c (f.node_at c v.block)) v []
  ends_here c v i paid out = by_child (n.child c (f.node_at c v.block)) refl
    where
      by_child : (o : Option ℕ) → n.child c (f.node_at c v.block) ≡ o → Rest o v []
      by_child None e = refl
      by_child (Some d) e = (cut.inner c v.block d i e, paid, out d e)

  module _ (k c : ℕ) (loops : (d : ℕ) → height d < height c → LoopRuns k d) where
    abbrev In : Visit → List Visit → Type 0
    In v w = Stays miss bounds n f at c v w

    abbrev header : ℕ
    header = (n.level c).header

    abbrev node : Visit → ℕ
    node v = f.node_at c v.block

    -- where a node is left for another
    left_for : (v u : Visit) → f.within c v.block ≡ true → f.within c u.block ≡ true → f.next v.block u.block ≡ true → node v ≢ node u →
        (d : ℕ) → n.child c (node v) ≡ Some d → Leaves f d v.block
    left_for v u i j e apart d is = inr (u.block, e, cut.outer c u.block v.block d j i is (λ (p : node u ≡ node v). apart (sym p)))

    -- the header's node is its own
    at_header : (u : Visit) → f.within c u.block ≡ true → u.block ≡ header → (node u ≡ header) × (n.child c (node u) ≡ None)
    at_header u j eq =
        let in_loop : f.within c header ≡ true = subst (λ (b : ℕ). f.within c b ≡ true) eq j in
        let h = cut.head c in_loop in
        let same : node u ≡ header = ap (f.node_at c) eq ∙ h.0 in
        (same, ap (n.child c) same ∙ h.1)

    counts_turn : (v u : Visit) → Follows f at v u → f.within c v.block ≡ true → f.within c u.block ≡ true → u.block ≡ header → u.turns
        (at c) ≡ v.turns (at c) + 1
    counts_turn v u go i j eq = by_test (nat_eq u.block (f.header c)) refl (go.counts c i j)
      where
        by_test : (t : Bool) → nat_eq u.block (f.header c) ≡ t → u.turns (at c) ≡ v.turns (at c) + (if t then 1 else 0) → u.turns (at c)
            ≡ v.turns (at c) + 1
        by_test true e h = h
        by_test false e h = let s : u.block ≡ f.header c = eq ∙ sym (cut.headers c) in absurd (grind (arith, nat_tests))

    counts_none : (v u : Visit) → Follows f at v u → f.within c v.block ≡ true → f.within c u.block ≡ true → u.block ≢ header → u.turns
        (at c) ≡ v.turns (at c) + 0
    counts_none v u go i j ne = by_test (nat_eq u.block (f.header c)) refl (go.counts c i j)
      where
        by_test : (t : Bool) → nat_eq u.block (f.header c) ≡ t → u.turns (at c) ≡ v.turns (at c) + (if t then 1 else 0) → u.turns (at c)
            ≡ v.turns (at c) + 0
        by_test true e h = let s : f.header c ≡ header = cut.headers c in absurd (grind (arith, nat_tests))
        by_test false e h = h

    -- a turn: the next visit is the header's
    turn : (v u : Visit) (w : List Visit) → f.within c v.block ≡ true → Paid miss bounds n f at v → Follows f at v u → In u w → u.block
        ≡ header → Split k c u w → Split k c v (u ∷ w)
    turn v u w i paid go stay eq r = record {
      first = [];
      steps = Turns (u ∷ r.first) ∷ r.steps;
      parts = ap (λ (l : List Visit). u ∷ l) r.parts;
      rest = ends_here c v i paid (λ d e. left_for v u i j go.edge (apart d e) d e);
      inside = (cut.turns c v.block u.block i j go.edge eq, piece, later);
      count = (let a : u.turns (at c) ≡ v.turns (at c) + 1 = counts_turn v u go i j eq in let b : turned r.steps + u.turns (at c) ≡
          (last_of u w).turns (at c) = r.count in omega (arith, a, b));
    }
      where
        j : f.within c u.block ≡ true
        j = stays_in miss bounds n f at height c w u stay

        top : (node u ≡ header) × (n.child c (node u) ≡ None)
        top = at_header u j eq

        apart : (d : ℕ) → n.child c (node v) ≡ Some d → node v ≢ node u
        apart d e same = (let a : n.child c (node v) ≡ None = ap (n.child c) same ∙ top.1 in cc)

        piece : Runs (suc k) c header (u ∷ r.first)
        piece = subst (λ (b : ℕ). Runs (suc k) c b (u ∷ r.first)) top.0
            (here k c u r.first loops j (stays_paid miss bounds n f at height c w u stay) (λ d e. (let a = top.1 in absurd (cc))) r.rest)

        later : Inside (Runs (suc k) c) (n.level c) header r.steps
        later = subst (λ (b : ℕ). Inside (Runs (suc k) c) (n.level c) b r.steps) top.0 r.inside

    -- a step to another node
    step : (v u : Visit) (w : List Visit) → f.within c v.block ≡ true → Paid miss bounds n f at v → Follows f at v u → In u w
        → u.block ≢ header → node v ≢ node u → Split k c u w → Split k c v (u ∷ w)
    step v u w i paid go stay ne apart r = record {
      first = [];
      steps = Goes (node u) (u ∷ r.first) ∷ r.steps;
      parts = ap (λ (l : List Visit). u ∷ l) r.parts;
      rest = ends_here c v i paid (left_for v u i j go.edge apart);
      inside = (cut.goes c v.block u.block i j go.edge ne apart, piece, r.inside);
      count = (let a : u.turns (at c) ≡ v.turns (at c) + 0 = counts_none v u go i j ne in let b : turned r.steps + u.turns (at c) ≡
          (last_of u w).turns (at c) = r.count in omega (arith, a, b));
    }
      where
        j : f.within c u.block ≡ true
        j = stays_in miss bounds n f at height c w u stay

        entered : (d : ℕ) → n.child c (node u) ≡ Some d → (u.block ≡ (n.level d).header) × (u.turns (at d) ≡ 0)
        entered d e = (
          cut.by_header c v.block u.block d i j go.edge apart e,
          go.fresh d (cut.outer c v.block u.block d i j e apart)
              (cut.inner c u.block d j e),
        )

        piece : Runs (suc k) c (node u) (u ∷ r.first)
        piece = here k c u r.first loops j (stays_paid miss bounds n f at height c w u stay) entered r.rest

    -- a step within a node
    stay_on : (v u : Visit) (w : List Visit) → f.within c v.block ≡ true → Paid miss bounds n f at v → Follows f at v u → In u w
        → u.block ≢ header → node v ≡ node u → Split k c u w → Split k c v (u ∷ w)
    stay_on v u w i paid go stay ne same r = record {
      first = u ∷ r.first;
      steps = r.steps;
      parts = ap (λ (l : List Visit). u ∷ l) r.parts;
      rest = by_child (n.child c (node v)) refl (subst (λ (b : ℕ). Rest (n.child c b) u r.first) (sym same) r.rest);
      inside = subst (λ (b : ℕ). Inside (Runs (suc k) c) (n.level c) b r.steps) (sym same) r.inside;
      count = (let a : u.turns (at c) ≡ v.turns (at c) + 0 = counts_none v u go i j ne in let b : turned r.steps + u.turns (at c) ≡
          (last_of u w).turns (at c) = r.count in omega (arith, a, b));
    }
      where
        j : f.within c u.block ≡ true
        j = stays_in miss bounds n f at height c w u stay

        by_child : (o : Option ℕ) → n.child c (node v) ≡ o → Rest o u r.first → Rest o v (u ∷ r.first)
        by_child None e h = absurd (cut.no_self c v.block u.block i j go.edge ne same (ap (n.child c) (sym same) ∙ e))
        by_child (Some d) e h = (cut.inner c v.block d i e, paid, go, h)

    pub split : (w : List Visit) (v : Visit) → In v w → Split k c v w
    split [] v h = record {
      first = [];
      steps = [];
      parts = refl;
      rest = ends_here c v h.0 h.1 (λ d e. deeper d e h.2);
      inside = cut.leaves c v.block h.0 h.2;
      count = omega arith;
    }
      where
        deeper : (d : ℕ) → n.child c (node v) ≡ Some d → Leaves f c v.block → Leaves f d v.block
        deeper d e (inl ends) = inl ends
        deeper d e (inr out) = inr (out.0, out.1, cut.nested c (node v) d out.0 e out.2)
    split (u ∷ w) v h = by_test (split w u h.3) (nat_eq u.block header) refl (nat_eq (node v) (node u)) refl
      where
        by_test : Split k c u w → (s : Bool) → nat_eq u.block header ≡ s → (t : Bool) → nat_eq (node v) (node u) ≡ t → Split k c v (u ∷ w)
        by_test r true e t g = turn v u w h.0 h.1 h.2 h.3 (grind (arith, nat_tests)) r
        by_test r false e true g = stay_on v u w h.0 h.1 h.2 h.3 (grind (arith, nat_tests)) (grind (arith, nat_tests)) r
        by_test r false e false g = step v u w h.0 h.1 h.2 h.3 (grind (arith, nat_tests)) (grind (arith, nat_tests)) r

  -- loops of less height than the number of levels run
  pub loops : (k d : ℕ) → height d < k → LoopRuns k d
  loops zero d low = absurd (omega arith)
  loops (suc k) d low = run (λ e less. loops k e (omega arith))
    where
      run : ((e : ℕ) → height e < height d → LoopRuns k e) → LoopRuns (suc k) d
      run ih depth deep v w eq new h = by_split (split k d ih w v h)
        where
          i : f.within d v.block ≡ true
          i = stays_in miss bounds n f at height d w v h

          top : (f.node_at d v.block ≡ (n.level d).header) × (n.child d (f.node_at d v.block) ≡ None)
          top = at_header k d ih v i eq

          alone : (o : Option ℕ) → n.child d (f.node_at d v.block) ≡ o → o ≡ None → (first : List Visit) → Rest o v first → first ≡ []
          alone None e p first r = r
          alone (Some c) e p first r = absurd (cc)

          by_split : Split k d v w → LoopRun (Runs (suc k) d) (n.level d) (bounds d) depth (v ∷ w)
          by_split r =
              let none : r.first ≡ [] = alone (n.child d (f.node_at d v.block)) refl top.1 r.first r.rest in
              let piece : Runs (suc k) d (f.node_at d v.block) (v ∷ r.first) = here k d v r.first ih i
              (stays_paid miss bounds n f at height d w v h) (λ e is. (let a = top.1 in absurd (cc))) r.rest in
              let turns : turned r.steps ≡ (last_of v w).turns (at d) = omega (arith, r.count, new) in (
                v ∷ r.first,
                r.steps,
                subst (λ (b : ℕ). Runs (suc k) d b (v ∷ r.first)) top.0 piece,
                subst (λ (b : ℕ). Inside (Runs (suc k) d) (n.level d) b r.steps) top.0 r.inside,
                subst (λ (m : ℕ). IsWithin m (bounds d)) (sym turns) (last_few miss bounds n f at height d w v h),
                ap (λ (l : List Visit). v ∷ l) r.parts,
                λ j le. (
                  v.entry j,
                  (let s = steady miss bounds n f at height d j (v.entry j) (omega arith) w v refl h in omega
                      (arith, s)),
                ),
              )

  -- the function has no header to turn at
  no_turns : (w : List Visit) (v : Visit) → Stays miss bounds n f at 0 v w → (last_of v w).turns (at 0) ≡ v.turns (at 0)
  no_turns [] v h = refl
  no_turns (u ∷ w) v h =
      let j : f.within 0 u.block ≡ true = stays_in miss bounds n f at height 0 w u h.3 in
      let ne : u.block ≢ (n.level 0).header = (λ (e : u.block ≡ (n.level 0).header).
      (let a : f.within 0 u.block ≡ false = ap (f.within 0) e ∙ cut.start in cc)) in
      let one : u.turns (at 0) ≡ v.turns (at 0) + 0 = counts_none (height 0) 0 (loops (height 0)) v u h.2 h.0 j ne in
      let rest : (last_of u w).turns (at 0) ≡ u.turns (at 0) = no_turns w u h.3 in
      omega (arith, one, rest)

  -- A trail of the function is a run of it.
  pub trail_runs : (k : ℕ) (v : Visit) (w : List Visit) → height 0 ≤ k → IsTrail miss bounds n f at v w → FunctionRun n
      (BlockRun miss n) bounds (suc k) (v ∷ w)
  trail_runs k v w tall trail = by_split (split k 0 below w v stays)
    where
      stays : Stays miss bounds n f at 0 v w
      stays = trail.stays

      below : (d : ℕ) → height d < height 0 → LoopRuns k d
      below d less = loops k d (omega arith)

      i : f.within 0 v.block ≡ true
      i = stays_in miss bounds n f at height 0 w v stays

      l : Level
      l = n.level 0

      node : ℕ
      node = f.node_at 0 v.block

      R : ℕ → List Visit → Type 0
      R = Runs (suc k) 0

      first_edge : l.edge l.header node ≡ true
      first_edge = subst (λ (b : ℕ). l.edge l.header (f.node_at 0 b) ≡ true) (sym trail.begins) cut.first

      entered : (d : ℕ) → n.child 0 node ≡ Some d → (v.block ≡ (n.level d).header) × (v.turns (at d) ≡ 0)
      entered d e = (
        trail.begins ∙ cut.first_header d (subst (λ (b : ℕ). n.child 0 (f.node_at 0 b) ≡ Some d) trail.begins e),
        trail.new
            (at d),
      )

      by_split : Split k 0 v w → FunctionRun n (BlockRun miss n) bounds (suc k) (v ∷ w)
      by_split r = by_cut (cut_level R l node r.steps r.inside)
        where
          piece : R node (v ∷ r.first)
          piece = here k 0 v r.first below i (stays_paid miss bounds n f at height 0 w v stays) entered r.rest

          by_cut : Straight R l node r.steps ⊎ Turned R l node r.steps → FunctionRun n (BlockRun miss n) bounds (suc k) (v ∷ w)
          by_cut (inl s) =
              subst (λ (x : List Visit). FunctionRun n (BlockRun miss n) bounds (suc k) (v ∷ x)) (sym r.parts)
              (subst (λ (j : ℕ). Tracks (NodeRun n (BlockRun miss n) bounds (suc k) j 0) (EdgePiece l.edge) l.header l.leave
              ((v ∷ r.first) ++ pieces r.steps)) cut.top
              (in_front R l l.leave l.header node (v ∷ r.first) (pieces r.steps) first_edge piece s.out))
          by_cut (inr s) = absurd (omega (arith, r.count, s.count, no_turns w v stays))
