-- Loops cut trails as the levels say.
use Rattle.std.proofs.Common.{◌≡◌, ◌≢◌, ℕ, zero, suc, ◌+◌, ◌≤◌, ◌<◌, ◌⊎◌, inl, inr, Bool, true, false, if◌then◌else◌, nat_eq, List, [], ◌∷◌}
use Rattle.std.proofs.Common.{Option, Some, None, refl, sym, ap, subst, ◌∙◌, arith}
use Rattle.std.proofs.lemmas.Bool.Decides.{nat_tests}
use Rattle.interval_loops.specs.Loops.{Loops, node_in, child_in, flow_with, AreEnds, AreLoops, IsOrder}
use Rattle.tree_law.specs.LevelEdges.{AreLevels, EdgesOf, IsLevelEdge, Reaches, level_rank}
use Rattle.tree_law.specs.Nests.{IsNest}
use Rattle.tree_law.specs.Ways.{IsIn, Path}
use Rattle.tree_law.proofs.PathLemmas.{path_between}
use Rattle.tree_law.proofs.NestLemmas.{all_in}
use Rattle.wsym_terms.specs.Trees.{greatest_scope}
use Rattle.std.specs.List.{AllByRecursion}
use Rattle.tree_law.specs.Levels.{IsEnd, Nest}
use Rattle.tree_law.specs.Trails.{IsCut}

module _ (l : Loops) (next : ℕ → ℕ → Bool) (within : ℕ → ℕ → Bool) (entry : ℕ) (at height : ℕ → ℕ)
    (are : AreLoops l next within entry at height) where
  -- what a child is
  pub record Child (c v d : ℕ) : Type 0 where
    pub inner : l.inner v ≡ d
    pub parent : l.parent d ≡ c
    pub header : l.header d ≡ v
    pub real : d ≢ 0

  pub child_gives : (c v d : ℕ) → child_in l c v ≡ Some d → Child c v d
  child_gives c v d e = by_tests (nat_eq (l.inner v) 0) refl (nat_eq (l.parent (l.inner v)) c) refl (nat_eq (l.header (l.inner v)) v) refl e
    where
      by_tests : (r : Bool) → nat_eq (l.inner v) 0 ≡ r → (s : Bool) → nat_eq (l.parent (l.inner v)) c ≡ s → (t : Bool) → nat_eq
          (l.header (l.inner v)) v ≡ t → (if r then None else (if s then (if t then Some (l.inner v) else None) else None)) ≡ Some d
          → Child c v d
      by_tests true p s q t r e = absurd (cc)
      by_tests false p false q t r e = absurd (cc)
      by_tests false p true q false r e = absurd (cc)
      by_tests false p true q true r e =
          let same : l.inner v ≡ d = cc in
          record {
            inner = same;
            parent = ap l.parent (sym same) ∙ equal (l.parent (l.inner v)) c q;
            header = ap l.header (sym same) ∙ equal (l.header (l.inner v)) v r;
            real = λ z. apart (l.inner v) p (same ∙ z);
          }
        where
          equal : (a b : ℕ) → nat_eq a b ≡ true → a ≡ b
          equal a b h = grind (arith, nat_tests)

          apart : (a : ℕ) → nat_eq a 0 ≡ false → a ≡ 0 → ⊥
          apart a h k = grind (arith, nat_tests)

  test_same : (a b : ℕ) → a ≡ b → nat_eq a b ≡ true
  test_same a b h = grind (arith, nat_tests)

  test_apart : (a b : ℕ) → a ≢ b → nat_eq a b ≡ false
  test_apart a b h = grind (arith, nat_tests)

  -- no loop is its own parent
  no_own_parent : (d : ℕ) → d ≢ 0 → l.parent d ≢ d
  no_own_parent d real e = (let a : at d ≡ at (l.parent d) + 1 = are.deeper d real in let b : at (l.parent d) ≡ at d = ap at e in omega
      (arith, a, b))

  -- the header of a loop stands for it at the level above
  child_of_header : (d b : ℕ) → d ≢ 0 → within d b ≡ true → child_in l (l.parent d) (l.header d) ≡ Some d
  child_of_header d b real i =
      let same : l.inner (l.header d) ≡ d = are.own d b real i in
      ap (λ (k : ℕ). if nat_eq k 0 then None else (if nat_eq (l.parent k) (l.parent d) then
      (if nat_eq (l.header k) (l.header d) then Some k else None) else None)) same
      ∙ ap (λ (t : Bool). if t then None else (if nat_eq (l.parent d) (l.parent d) then
      (if nat_eq (l.header d) (l.header d) then Some d else None) else None)) (test_apart d 0 real)
      ∙ ap (λ (t : Bool). if t then (if nat_eq (l.header d) (l.header d) then Some d else None) else None)
      (test_same (l.parent d) (l.parent d) refl)
      ∙ ap (λ (t : Bool). if t then Some d else None) (test_same (l.header d) (l.header d) refl)

  -- a block of a loop is its own node, or lies in the loop of its node
  pub record Held (c b : ℕ) : Type 0 where
    pub node : node_in l c b ≡ l.header (l.hold c b)
    pub child : child_in l c (node_in l c b) ≡ Some (l.hold c b)
    pub lies : within (l.hold c b) b ≡ true

  own_or_held : (c b : ℕ) → within c b ≡ true → ((l.inner b ≡ c) × (node_in l c b ≡ b)) ⊎ Held c b
  own_or_held c b i = by_test (nat_eq (l.inner b) c) refl
    where
      by_test : (t : Bool) → nat_eq (l.inner b) c ≡ t → ((l.inner b ≡ c) × (node_in l c b ≡ b)) ⊎ Held c b
      by_test true e = inl (grind (arith, nat_tests), ap (λ (t : Bool). if t then b else l.header (l.hold c b)) e)
      by_test false e =
          let apart : l.inner b ≢ c = grind (arith, nat_tests) in
          let h = are.holds c b i apart in
          let node : node_in l c b ≡ l.header (l.hold c b) = ap (λ (t : Bool). if t then b else l.header (l.hold c b)) e in
          inr (record {
            node = node;
            child = ap (child_in l c) node ∙ ap (λ (k : ℕ). child_in l k (l.header (l.hold c b))) (sym h.0) ∙ child_of_header
                (l.hold c b) b h.2 h.1;
            lies = h.1;
          })

  none_some : (o : Option ℕ) (d : ℕ) → o ≡ None → o ≡ Some d → ⊥
  none_some o d a b = absurd (cc)

  some_equal : (o : Option ℕ) (d e : ℕ) → o ≡ Some d → o ≡ Some e → d ≡ e
  some_equal o d e a b = both d e (sym a ∙ b)
    where
      both : (d e : ℕ) → Some d ≡ Some e → d ≡ e
      both d e h = cc

  own : (c b : ℕ) → within c b ≡ true → child_in l c (node_in l c b) ≡ None → node_in l c b ≡ b
  own c b i none = either (own_or_held c b i)
    where
      either : ((l.inner b ≡ c) × (node_in l c b ≡ b)) ⊎ Held c b → node_in l c b ≡ b
      either (inl h) = h.1
      either (inr h) = absurd (none_some (child_in l c (node_in l c b)) (l.hold c b) none h.child)

  inner : (c b d : ℕ) → within c b ≡ true → child_in l c (node_in l c b) ≡ Some d → within d b ≡ true
  inner c b d i is = either (own_or_held c b i)
    where
      either : ((l.inner b ≡ c) × (node_in l c b ≡ b)) ⊎ Held c b → within d b ≡ true
      either (inl h) =
          let k : Child c (node_in l c b) d = child_gives c (node_in l c b) d is in
          let e : l.inner b ≡ d = ap l.inner (sym h.1) ∙ k.inner in
          absurd (no_own_parent d k.real (k.parent ∙ sym h.0 ∙ e))
      either (inr h) = subst (λ (k : ℕ). within k b ≡ true) (some_equal (child_in l c (node_in l c b)) (l.hold c b) d h.child is) h.lies

  outer : (c b u d : ℕ) → within c b ≡ true → within c u ≡ true → child_in l c (node_in l c u) ≡ Some d → node_in l c b ≢ node_in l c u
      → within d b ≡ false
  outer c b u d i j is apart = by_test (within d b) refl
    where
      by_test : (t : Bool) → within d b ≡ t → within d b ≡ false
      by_test false e = e
      by_test true e =
          let k : Child c (node_in l c u) d = child_gives c (node_in l c u) d is in
          let h = are.held d b k.real e in
          let other : l.inner b ≢ c = (λ (p : l.inner b ≡ c). h.1 (p ∙ sym k.parent)) in
          let hold : l.hold c b ≡ d = ap (λ (x : ℕ). l.hold x b) (sym k.parent) ∙ h.2 in
          let node : node_in l c b ≡ l.header (l.hold c b) = ap (λ (t : Bool). if t then b else l.header (l.hold c b))
          (test_apart (l.inner b) c other) in
          absurd (apart (node ∙ ap l.header hold ∙ k.header))

  head : (c : ℕ) → within c (l.header c) ≡ true → (node_in l c (l.header c) ≡ l.header c) × (child_in l c (l.header c) ≡ None)
  head c i = (node, by_child (child_in l c (l.header c)) refl)
    where
      real : c ≢ 0
      real e = (let a : within c (l.header c) ≡ false = ap (λ (k : ℕ). within k (l.header k)) e ∙ are.start in let b : within c (l.header c)
          ≡ true = i in absurd (cc))

      inside : l.inner (l.header c) ≡ c
      inside = are.own c (l.header c) real i

      node : node_in l c (l.header c) ≡ l.header c
      node = ap (λ (t : Bool). if t then l.header c else l.header (l.hold c (l.header c))) (test_same (l.inner (l.header c)) c inside)

      by_child : (o : Option ℕ) → child_in l c (l.header c) ≡ o → child_in l c (l.header c) ≡ None
      by_child None e = e
      by_child (Some d) e =
          let k : Child c (l.header c) d = child_gives c (l.header c) d e in
          absurd (no_own_parent d k.real (k.parent ∙ sym inside ∙ k.inner))

  no_self : (c u v : ℕ) → within c u ≡ true → within c v ≡ true → next u v ≡ true → v ≢ l.header c → node_in l c u ≡ node_in l c v
      → child_in l c (node_in l c v) ≢ None
  no_self c u v i j e ne same none = either (own_or_held c v j)
    where
      left : node_in l c u ≡ u
      left = own c u i (ap (child_in l c) same ∙ none)

      right : node_in l c v ≡ v
      right = own c v j none

      equal : u ≡ v
      equal = sym left ∙ same ∙ right

      either : ((l.inner v ≡ c) × (node_in l c v ≡ v)) ⊎ Held c v → ⊥
      either (inl h) = ne (sym (ap l.header (sym h.0) ∙ are.self v (subst (λ (k : ℕ). next k v ≡ true) equal e)))
      either (inr h) = none_some (child_in l c (node_in l c v)) (l.hold c v) none h.child

  by_header : (c u v d : ℕ) → within c u ≡ true → within c v ≡ true → next u v ≡ true → node_in l c u ≢ node_in l c v → child_in l c
      (node_in l c v) ≡ Some d → v ≡ l.header d
  by_header c u v d i j e apart is = are.single d u v (child_gives c (node_in l c v) d is).real e (outer c u v d i j is apart)
      (inner c v d j is)

  nested : (c v d b : ℕ) → child_in l c v ≡ Some d → within c b ≡ false → within d b ≡ false
  nested c v d b is out = by_test (within d b) refl
    where
      by_test : (t : Bool) → within d b ≡ t → within d b ≡ false
      by_test false e = e
      by_test true e =
          let k : Child c v d = child_gives c v d is in
          let a : within c b ≡ true = ap (λ (x : ℕ). within x b) (sym k.parent) ∙ (are.held d b k.real e).0 in
          absurd (cc)

  first_header : (d : ℕ) → within 0 entry ≡ true → child_in l 0 (node_in l 0 entry) ≡ Some d → entry ≡ l.header d
  first_header d i is = are.entered d (child_gives 0 (node_in l 0 entry) d is).real (inner 0 entry d i is)

  -- With levels that have these headers and each edge of the flow, the loops cut every trail.
  pub loops_cut : (n : Nest) (ends : ℕ → Bool) → ((c : ℕ) → (n.level c).header ≡ l.header c) → within 0 entry ≡ true
      → EdgesOf l next within entry ends n
      → ((c v : ℕ) → n.child c v ≡ child_in l c v) → IsCut n (flow_with l next within ends entry) at height
  loops_cut n ends headers i edges children = record {
    headers = λ c. sym (headers c);
    lower = λ c v d e. (let k = child_gives c v d (sym (children c v) ∙ e) in subst (λ (x : ℕ). height d < height x) k.parent
        (are.lower d k.real));
    deep = λ c v d e. (let k = child_gives c v d (sym (children c v) ∙ e) in are.deeper d k.real ∙ ap (λ (x : ℕ). at x + 1) k.parent);
    own = λ c b h e. own c b h (sym (children c (node_in l c b)) ∙ e);
    inner = λ c b d h e. inner c b d h (sym (children c (node_in l c b)) ∙ e);
    outer = λ c b u d h j e ne. outer c b u d h j (sym (children c (node_in l c u)) ∙ e) ne;
    head = λ c h. subst (λ (x : ℕ). (node_in l c x ≡ x) × (n.child c x ≡ None)) (sym (headers c))
        ((head c (ap (within c) (sym (headers c)) ∙ h)).0, children c (l.header c) ∙ (head c (ap (within c) (sym (headers c)) ∙ h)).1);
    turns = λ c u v h j e eq. edges.turns c u v h j e (eq ∙ headers c);
    goes = λ c u v h j e ne apart. edges.goes c u v h j e (λ p. ne (p ∙ sym (headers c))) apart;
    no_self = λ c u v h j e ne same none. no_self c u v h j e (λ p. ne (p ∙ sym (headers c))) same
        (sym (children c (node_in l c v)) ∙ none);
    by_header = λ c u v d h j e ne is. by_header c u v d h j e ne (sym (children c (node_in l c v)) ∙ is) ∙ sym (headers d);
    leaves = edges.leaves;
    nested = λ c v d b is out. nested c v d b (sym (children c v) ∙ is) out;
    top = are.top;
    start = ap (within 0) (headers 0) ∙ are.start;
    first = edges.first;
    first_header = λ d is. first_header d i (sym (children 0 (node_in l 0 entry)) ∙ is) ∙ sym (headers d);
  }

  module _ (rank : ℕ → ℕ) (order : IsOrder l next within entry rank) where
    -- a loop's header comes before its other blocks
    header_before : (fuel d b : ℕ) → rank b < fuel → d ≢ 0 → within d b ≡ true → rank (l.header d) ≤ rank b
    header_before zero d b low real i = absurd (omega arith)
    header_before (suc k) d b low real i = by_entry (λ a. header_before k d a) (nat_eq b entry) refl (nat_eq b (l.header d)) refl
      where
        by_entry : ((a : ℕ) → rank a < k → d ≢ 0 → within d a ≡ true → rank (l.header d) ≤ rank a) → (s : Bool) → nat_eq b entry ≡ s →
            (t : Bool) → nat_eq b (l.header d) ≡ t → rank (l.header d) ≤ rank b
        by_entry ih true e t g =
            let at_entry : b ≡ entry = grind (arith, nat_tests) in
            let same : b ≡ l.header d = at_entry ∙ are.entered d real (ap (within d) (sym at_entry) ∙ i) in
            let equal : rank b ≡ rank (l.header d) = ap rank same in
            omega (arith, equal)
        by_entry ih false e true g =
            let same : b ≡ l.header d = grind (arith, nat_tests) in
            let equal : rank b ≡ rank (l.header d) = ap rank same in
            omega (arith, equal)
        by_entry ih false e false g =
            let apart : b ≢ entry = grind (arith, nat_tests) in
            let other : b ≢ l.header d = grind (arith, nat_tests) in
            before (order.preceded b (order.whole d b i) apart) other
          where
            before : ((a : ℕ) × (within 0 a ≡ true) × (next a b ≡ true) × (rank a < rank b)) → b ≢ l.header d → rank (l.header d) ≤ rank b
            before h other = by_test (within d h.0) refl
              where
                by_test : (t : Bool) → within d h.0 ≡ t → rank (l.header d) ≤ rank b
                by_test false e = absurd (other (are.single d h.0 b real h.2 e i))
                by_test true e = (let less : rank h.0 < rank b = h.3 in let rest : rank (l.header d) ≤ rank h.0 = ih h.0
                    (omega arith) real e in omega (arith, less, rest))

    node_before : (c b : ℕ) → within c b ≡ true → rank (node_in l c b) ≤ rank b
    node_before c b i = either (own_or_held c b i)
      where
        either : ((l.inner b ≡ c) × (node_in l c b ≡ b)) ⊎ Held c b → rank (node_in l c b) ≤ rank b
        either (inl h) = (let e : rank (node_in l c b) ≡ rank b = ap rank h.1 in omega (arith, e))
        either (inr h) =
            let k = child_gives c (node_in l c b) (l.hold c b) h.child in
            let e : rank (node_in l c b) ≡ rank (l.header (l.hold c b)) = ap rank h.node in
            let low : rank (l.header (l.hold c b)) ≤ rank b = header_before (suc (rank b)) (l.hold c b) b (omega arith) k.real h.lies in
            omega (arith, e, low)

    -- where another node is entered, it is at its own block
    node_at_entry : (c u v : ℕ) → within c u ≡ true → within c v ≡ true → next u v ≡ true → node_in l c u ≢ node_in l c v → node_in l c v
        ≡ v
    node_at_entry c u v i j e apart = either (own_or_held c v j)
      where
        either : ((l.inner v ≡ c) × (node_in l c v ≡ v)) ⊎ Held c v → node_in l c v ≡ v
        either (inl h) = h.1
        either (inr h) = h.node ∙ sym (by_header c u v (l.hold c v) i j e apart h.child)

    -- the edges of a level rise
    pub level_rises : (c u v : ℕ) → within c u ≡ true → within c v ≡ true → next u v ≡ true → v ≢ l.header c → node_in l c u ≢ node_in l c v
        → rank (node_in l c u) < rank (node_in l c v)
    level_rises c u v i j e ne apart =
        let low : rank (node_in l c u) ≤ rank u = node_before c u i in
        let up : rank u < rank v = order.rises u v e open_edge in
        let same : rank (node_in l c v) ≡ rank v = ap rank (node_at_entry c u v i j e apart) in
        omega (arith, low, up, same)
      where
        open_edge : (d : ℕ) → d ≢ 0 → within d u ≡ true → v ≢ l.header d
        open_edge d real in_d is_header = either (own_or_held c v j)
          where
            inside : l.inner v ≡ d
            inside = ap l.inner is_header ∙ are.own d u real in_d

            either : ((l.inner v ≡ c) × (node_in l c v ≡ v)) ⊎ Held c v → ⊥
            either (inl h) = ne (is_header ∙ ap l.header (sym inside ∙ h.0))
            either (inr h) =
                let head : v ≡ l.header (l.hold c v) = by_header c u v (l.hold c v) i j e apart h.child in
                let k = child_gives c (node_in l c v) (l.hold c v) h.child in
                let same : l.hold c v ≡ d = sym (are.own (l.hold c v) v k.real h.lies) ∙ ap l.inner (sym head) ∙ inside in
                let out : within (l.hold c v) u ≡ false = outer c u v (l.hold c v) i j h.child apart in
                let away : within d u ≡ false = ap (λ (x : ℕ). within x u) (sym same) ∙ out in
                let here : within d u ≡ true = in_d in
                absurd (cc)

    module _ (close leave top : ℕ) (ends : AreEnds l within rank close leave top) where
      abbrev level_of : ℕ → ℕ
      level_of = level_rank l rank close leave top

      -- a node is a block
      node_block : (c b : ℕ) → within c b ≡ true → within 0 (node_in l c b) ≡ true
      node_block c b i = either (own_or_held c b i)
        where
          either : ((l.inner b ≡ c) × (node_in l c b ≡ b)) ⊎ Held c b → within 0 (node_in l c b) ≡ true
          either (inl h) = ap (within 0) h.1 ∙ order.whole c b i
          either (inr h) =
              let k = child_gives c (node_in l c b) (l.hold c b) h.child in
              ap (within 0) h.node ∙ order.whole (l.hold c b) (l.header (l.hold c b)) (ends.has_header (l.hold c b) b k.real h.lies)

      no_block : (p e : ℕ) → within 0 p ≡ true → within 0 e ≡ false → p ≢ e
      no_block p e i out same = (let a : within 0 p ≡ within 0 e = ap (within 0) same in absurd (cc))

      pub rank_of_block : (p : ℕ) → within 0 p ≡ true → level_of p ≡ rank p + 1
      rank_of_block p i =
          ap (λ (t : Bool). if t then top else (if nat_eq p leave then top else (if nat_eq p (l.header 0) then 0 else rank p + 1)))
          (test_apart p close (no_block p close i ends.no_close))
          ∙ ap (λ (t : Bool). if t then top else (if nat_eq p (l.header 0) then 0 else rank p + 1))
          (test_apart p leave (no_block p leave i ends.no_leave))
          ∙ ap (λ (t : Bool). if t then 0 else rank p + 1) (test_apart p (l.header 0) (no_block p (l.header 0) i are.start))

      pub rank_of_end : (q : ℕ) → (q ≡ close) ⊎ (q ≡ leave) → level_of q ≡ top
      rank_of_end q (inl e) = ap (λ (t : Bool). if t then top else (if nat_eq q leave then top else
          (if nat_eq q (l.header 0) then 0 else rank q + 1))) (test_same q close e)
      rank_of_end q (inr e) = by_test (nat_eq q close) (test_same q leave e)
        where
          by_test : (t : Bool) → nat_eq q leave ≡ true → (if t then top else
              (if nat_eq q leave then top else (if nat_eq q (l.header 0) then 0 else rank q + 1))) ≡ top
          by_test true f = refl
          by_test false f = ap (λ (t : Bool). if t then top else (if nat_eq q (l.header 0) then 0 else rank q + 1)) f

      pub rank_of_start : level_of (l.header 0) ≡ 0
      rank_of_start =
          ap (λ (t : Bool). if t then top else (if nat_eq (l.header 0) leave then top else
          (if nat_eq (l.header 0) (l.header 0) then 0 else rank (l.header 0) + 1))) (test_apart (l.header 0) close ends.start_close)
          ∙ ap (λ (t : Bool). if t then top else (if nat_eq (l.header 0) (l.header 0) then 0 else rank (l.header 0) + 1))
          (test_apart (l.header 0) leave ends.start_leave)
          ∙ ap (λ (t : Bool). if t then 0 else rank (l.header 0) + 1) (test_same (l.header 0) (l.header 0) refl)

      -- Every edge of a level rises.
      pub level_up : (c p q : ℕ) → within 0 entry ≡ true → IsLevelEdge l next within entry close leave c p q → level_of p < level_of q
      level_up c p q begins (inl h) =
          let rise : rank (node_in l c h.u) < rank (node_in l c h.v) = level_rises c h.u h.v h.in_u h.in_v h.edge h.no_turn h.apart in
          let a : level_of (node_in l c h.u) ≡ rank (node_in l c h.u) + 1 = rank_of_block (node_in l c h.u) (node_block c h.u h.in_u) in
          let b : level_of (node_in l c h.v) ≡ rank (node_in l c h.v) + 1 = rank_of_block (node_in l c h.v) (node_block c h.v h.in_v) in
          let both : level_of (node_in l c h.u) < level_of (node_in l c h.v) = omega (arith, rise, a, b) in
          subst (λ (x : ℕ). level_of x < level_of q) h.from (subst (λ (x : ℕ). level_of (node_in l c h.u) < level_of x) h.to both)
      level_up c p q begins (inr (inl h)) =
          let i : within 0 (node_in l c h.0) ≡ true = node_block c h.0 h.1 in
          let a : level_of (node_in l c h.0) ≡ rank (node_in l c h.0) + 1 = rank_of_block (node_in l c h.0) i in
          let b : level_of q ≡ top = rank_of_end q h.3 in
          let few : rank (node_in l c h.0) + 2 ≤ top = ends.bounded (node_in l c h.0) i in
          subst (λ (x : ℕ). level_of x < level_of q) h.2 (omega (arith, a, b, few))
      level_up c p q begins (inr (inr h)) =
          let a : level_of p ≡ 0 = ap level_of h.1 ∙ rank_of_start in
          let b : level_of (node_in l 0 entry) ≡ rank (node_in l 0 entry) + 1 = rank_of_block (node_in l 0 entry)
          (node_block 0 entry begins) in
          subst (λ (x : ℕ). level_of p < level_of x) h.2 (omega (arith, a, b))

      module _ (n : Nest) (levels : AreLevels l next within entry at close leave n) (begins : within 0 entry ≡ true) where
        edge_up : (c p q : ℕ) → (n.level c).edge p q ≡ true → level_of p < level_of q
        edge_up c p q e = level_up c p q begins (levels.real c p q e)

        path_up : (c : ℕ) (us : List ℕ) (p q : ℕ) → Path (n.level c).edge p us q → level_of p < level_of q
        path_up c [] p q h = edge_up c p q h
        path_up c (u ∷ us) p q h = (let a : level_of p < level_of u = edge_up c p u h.0
            in let b : level_of u < level_of q = path_up c us u q h.1 in omega (arith, a, b))

        rising_apart : (p q : ℕ) → level_of p < level_of q → p ≢ q
        rising_apart p q h e = (let a : level_of p ≡ level_of q = ap level_of e in omega (arith, a, h))

        last_edge : (c : ℕ) (us : List ℕ) (p q : ℕ) → Path (n.level c).edge p us q → (o : ℕ) × ((n.level c).edge o q ≡ true)
        last_edge c [] p q h = (p, h)
        last_edge c (u ∷ us) p q h = last_edge c us u q h.1

        first_of : (c : ℕ) (us : List ℕ) (p q : ℕ) → Path (n.level c).edge p us q → (o : ℕ) × ((n.level c).edge p o ≡ true)
        first_of c [] p q h = (q, h)
        first_of c (u ∷ us) p q h = (u, h.0)

        -- no edge leads out of an end
        end_stops : (c v o : ℕ) → (v ≡ close) ⊎ (v ≡ leave) → IsLevelEdge l next within entry close leave c v o → ⊥
        end_stops c v o end e = by_edge e
          where
            no_node : (b : ℕ) → within c b ≡ true → node_in l c b ≡ v → (v ≡ close) ⊎ (v ≡ leave) → ⊥
            no_node b i same (inl k) = no_block (node_in l c b) close (node_block c b i) ends.no_close (same ∙ k)
            no_node b i same (inr k) = no_block (node_in l c b) leave (node_block c b i) ends.no_leave (same ∙ k)

            no_start : v ≡ l.header 0 → (v ≡ close) ⊎ (v ≡ leave) → ⊥
            no_start h (inl k) = ends.start_close (sym h ∙ k)
            no_start h (inr k) = ends.start_leave (sym h ∙ k)

            by_edge : IsLevelEdge l next within entry close leave c v o → ⊥
            by_edge (inl h) = no_node h.u h.in_u h.from end
            by_edge (inr (inl h)) = no_node h.0 h.1 h.2 end
            by_edge (inr (inr h)) = no_start h.1 end

        node_scoped : (c b v : ℕ) → within c b ≡ true → node_in l c b ≡ v → n.child c v ≡ None → greatest_scope (n.uses v) ≤ at c
        node_scoped c b v i same none = either (own_or_held c b i)
          where
            alone : child_in l c (node_in l c b) ≡ None
            alone = ap (child_in l c) same ∙ sym (levels.children c v) ∙ none

            either : ((l.inner b ≡ c) × (node_in l c b ≡ b)) ⊎ Held c b → greatest_scope (n.uses v) ≤ at c
            either (inl h) =
                let few : greatest_scope (n.uses b) ≤ at (l.inner b) = levels.block_uses b (order.whole c b i) in
                let block : b ≡ v = sym h.1 ∙ same in
                let depth : at (l.inner b) ≡ at c = ap at h.0 in
                subst (λ (x : ℕ). greatest_scope (n.uses x) ≤ at c) block (omega (arith, few, depth))
            either (inr h) = absurd (none_some (child_in l c (node_in l c b)) (l.hold c b) alone h.child)

        own_scoped : (c t v : ℕ) → IsEnd (n.level c) t → n.child c v ≡ None → IsIn v ((n.level c).header ∷ (n.level c).nodes t)
            → greatest_scope (n.uses v) ≤ at c
        own_scoped c t v end none (inl e) = subst (λ (x : ℕ). greatest_scope (n.uses x) ≤ at c) (sym (e ∙ levels.headers c))
            (levels.header_uses c)
        own_scoped c t v end none (inr i) = by_edge (levels.real c before.0 v before.1)
          where
            reached : Reaches (n.level c).edge (n.level c).header v × Reaches (n.level c).edge v t
            reached = levels.only c t v end i

            before : (o : ℕ) × ((n.level c).edge o v ≡ true)
            before = last_edge c reached.0.0 (n.level c).header v reached.0.1

            later : (o : ℕ) × ((n.level c).edge v o ≡ true)
            later = first_of c reached.1.0 v t reached.1.1

            by_edge : IsLevelEdge l next within entry close leave c before.0 v → greatest_scope (n.uses v) ≤ at c
            by_edge (inl h) = node_scoped c h.v v h.in_v h.to none
            by_edge (inr (inl h)) = absurd (end_stops c v later.0 h.3 (levels.real c v later.0 later.1))
            by_edge (inr (inr h)) = node_scoped c entry v (ap (λ (x : ℕ). within x entry) h.0 ∙ begins)
                (ap (λ (x : ℕ). node_in l x entry) h.0 ∙ h.2) none

        -- Loops, an order and levels make a nest.
        pub levels_nest : IsNest n at (λ c. level_of)
        levels_nest = record {
          top = are.top;
          up = λ c t p q end e. edge_up c p q (levels.used c t p q end e);
          start_apart = λ c t end. each (λ v. (n.level c).header ≢ v) ((n.level c).nodes t)
              (λ v i. (let r = (levels.only c t v end i).0 in rising_apart (n.level c).header v (path_up c r.0 (n.level c).header v r.1)));
          end_apart = λ c t end. each (λ v. t ≢ v) ((n.level c).nodes t)
              (λ v i. (let r = (levels.only c t v end i).1 in λ e. rising_apart v t (path_up c r.0 v t r.1) (sym e)));
          on_path = λ c t us end. path_between (n.level c).edge (n.level c).header t ((n.level c).nodes t) ((n.level c).useful t)
              (λ u. levels.between c t u end) (λ p q. levels.kept c t p q end) us;
          deeper = λ c v d e. (let k = child_gives c v d (sym (levels.children c v) ∙ e) in are.deeper d k.real ∙ ap
              (λ (x : ℕ). at x + 1) k.parent);
          scoped = own_scoped;
        }
          where
            each : (P : ℕ → Type 0) (vs : List ℕ) → ((v : ℕ) → IsIn v vs → P v) → AllByRecursion P vs
            each P vs h = all_in P vs h
