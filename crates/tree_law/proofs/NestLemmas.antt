-- The tree of a loop bounds its runs, and so the tree of each node of a nest.
use Rattle.std.proofs.Common.{◌≡◌, ◌≢◌, ℕ, zero, suc, ◌+◌, ◌*◌, ◌≤◌, inl, inr, Bool, true, false, if◌then◌else◌, ◌||◌, nat_eq, max, Option}
use Rattle.std.proofs.Common.{Some, None, List, [], ◌∷◌, ◌++◌, map, length, refl, sym, ap, subst, ◌∙◌, arith}
use Rattle.std.proofs.lemmas.Bool.Decides.{nat_tests}
use Rattle.std.specs.List.{AllByRecursion}
use Rattle.wsym_terms.specs.Extents.{Extent, Finite, IsWithin}
use Rattle.wsym_terms.specs.declared.trees.Use.{Use}
use Rattle.wsym_terms.proofs.ExtentLaws.{at_most_self}
use Rattle.wsym_terms.specs.Trees.{Meaning, greatest_scope, tree_value, scope_of_all, level_meaning, outside, loop_value}
use Rattle.wsym_terms.specs.declared.trees.Tree.{Tree, fold-roll-Tree}
use Rattle.wsym_terms.specs.declared.trees.Tree.TheOpen.{Tree-F}
use Rattle.wsym_terms.specs.declared.trees.Tree.TheVariants.{Leaf, Seq, Alt, Loop}
use Rattle.wsym_terms.specs.declared.trees.Tree.TheVariants as t
use Rattle.wsym_terms.proofs.TreeLaws.{tree_grows}
use Rattle.interval_loops.specs.Trails.{Visit}
use Rattle.tree_law.specs.Pieces.{total, AtMostOnce, Same, IsBoundOf, Then, Entry, Once, scope_at}
use Rattle.tree_law.specs.Ways.{members, through, taken_out, all_taken_out, IsIn, Path, edge_ways}
use Rattle.tree_law.specs.Levels.{Level, IsEnd, LoopRun, taking, between, loop_tree, Nest, node_of, node_tree, run_of, NodeRun, leaf_of}
use Rattle.tree_law.specs.Levels.{function_tree, FunctionRun, BlockRun, scopes_of}
use Rattle.tree_law.specs.Nests.{IsNest}
use Rattle.tree_law.proofs.LoopBoundLemmas.{if_any_bound, leaf_bound}
use Rattle.tree_law.proofs.EntryLemmas.{loop_bound}
use Rattle.tree_law.proofs.WayLemmas.{weaker_bound, means, seq_opens, alt_opens, TreeBound, ListBound, one_member, more_members, seq_bound}
use Rattle.tree_law.proofs.WayLemmas.{map_append, scope_append}
use Rattle.tree_law.proofs.TrackLemmas.{tracks_bound}
use Rattle.tree_law.proofs.NodeOrderLemmas.{all_of_order, order_has_all}
use Rattle.tree_law.proofs.LevelLemmas.{To, Turn, Out, run_is_entry}

module _ (scopes : ℕ → ℕ → ℕ) (miss : ℕ) (bounds : ℕ → Extent) where
  -- the scopes of a tree lie within the loops round it
  abbrev pub Scoped : ℕ → Tree → Type 0
  Scoped depth tree = (means scopes miss bounds tree).scope depth ≤ depth

  abbrev pub AllScoped : ℕ → List Tree → Type 0
  AllScoped depth ts = scope_of_all (map (means scopes miss bounds) ts) depth ≤ depth

  module _ (depth : ℕ) where
    seq_scoped : (ts : List Tree) → AllScoped depth ts → Scoped depth (Seq ts)
    seq_scoped ts h = subst (λ (m : Meaning). m.scope depth ≤ depth) (sym (seq_opens scopes miss bounds ts)) h

    alt_scoped : (ts : List Tree) → AllScoped depth ts → Scoped depth (Alt ts)
    alt_scoped ts h = subst (λ (m : Meaning). m.scope depth ≤ depth) (sym (alt_opens scopes miss bounds ts)) h

    more_scoped : (ts us : List Tree) → AllScoped depth ts → AllScoped depth us → AllScoped depth (ts ++ us)
    more_scoped ts us a b =
        subst (λ (l : List Meaning). scope_of_all l depth ≤ depth) (sym (map_append (means scopes miss bounds) ts us))
        (omega (arith, scope_append (map (means scopes miss bounds) ts) (map (means scopes miss bounds) us) depth))

    ways_scoped : (ws : List (List Tree)) → AllByRecursion (AllScoped depth) ws → AllScoped depth (map Seq ws)
    ways_scoped [] all = omega arith
    ways_scoped (w ∷ ws) all = (let one : Scoped depth (Seq w) = seq_scoped w all.0 in let rest : AllScoped depth
        (map Seq ws) = ways_scoped ws all.1 in omega (arith, one, rest))

    members_scoped : (ws : List (List Tree)) → AllByRecursion (AllScoped depth) ws → AllScoped depth (members ws)
    members_scoped [] all = omega arith
    members_scoped (w ∷ []) all = all.0
    members_scoped (w ∷ u ∷ ws) all = (let one : Scoped depth (Alt (map Seq (w ∷ u ∷ ws))) = alt_scoped (map Seq (w ∷ u ∷ ws))
        (ways_scoped (w ∷ u ∷ ws) all) in omega (arith, one))

    all_more : (ws us : List (List Tree)) → AllByRecursion (AllScoped depth) ws → AllByRecursion (AllScoped depth) us → AllByRecursion
        (AllScoped depth) (ws ++ us)
    all_more [] us a b = b
    all_more (w ∷ ws) us a b = (a.0, all_more ws us a.1 b)

    through_scoped : (into out : List (List Tree)) (tree : Tree) → AllByRecursion (AllScoped depth) into → Scoped depth tree
        → AllByRecursion (AllScoped depth) out → AllByRecursion (AllScoped depth) (through into tree out)
    through_scoped [] out tree a n b = tt
    through_scoped (x ∷ into) [] tree a n b = tt
    through_scoped (x ∷ into) (y ∷ out) tree a n b = (
      let later : AllScoped depth (members (y ∷ out)) = members_scoped (y ∷ out) b in
          more_scoped (members (x ∷ into)) (tree ∷ members (y ∷ out)) (members_scoped (x ∷ into) a) (omega (arith, n, later)),
      tt,
    )

    taken_out_scoped : (tree : ℕ → Tree) (vs : List ℕ) (ways : ℕ → ℕ → List (List Tree)) → AllByRecursion (λ v. Scoped depth (tree v)) vs →
        ((p q : ℕ) → AllByRecursion (AllScoped depth) (ways p q)) → (p q : ℕ) → AllByRecursion (AllScoped depth)
        (all_taken_out tree vs ways p q)
    taken_out_scoped tree [] ways n b = b
    taken_out_scoped tree (v ∷ vs) ways n b = taken_out_scoped tree vs (taken_out tree v ways) n.1
        (λ p q. by_test p q (nat_eq p v || nat_eq q v))
      where
        by_test : (p q : ℕ) (c : Bool) → AllByRecursion (AllScoped depth)
            (if c then [] else ways p q ++ through (ways p v) (tree v) (ways v q))
        by_test p q true = tt
        by_test p q false = all_more (ways p q) (through (ways p v) (tree v) (ways v q)) (b p q)
            (through_scoped (ways p v) (ways v q) (tree v) (b p v) n.0 (b v q))

    edges_scoped : (edge : ℕ → ℕ → Bool) (p q : ℕ) → AllByRecursion (AllScoped depth) (edge_ways edge p q)
    edges_scoped edge p q = by_edge (edge p q)
      where
        by_edge : (c : Bool) → AllByRecursion (AllScoped depth) (if c then [] ∷ [] else [])
        by_edge true = (let h : 0 ≤ depth = omega arith in h, tt)
        by_edge false = tt

  pub loop_opens : (id : ℕ) (body exit : Tree) → means scopes miss bounds (Loop id body exit) ≡ level_meaning miss bounds
      (Tree-F.Loop id (means scopes miss bounds body) (means scopes miss bounds exit))
  loop_opens id body exit = ap (means scopes miss bounds) (sym (t.rolls-Loop id body exit)) ∙ fold-roll-Tree Meaning
      (level_meaning miss bounds) (Tree-F.Loop id body exit)

  pub loop_scoped : (id depth : ℕ) (body exit : Tree) → Scoped depth (Loop id body exit)
  loop_scoped id depth body exit = subst (λ (m : Meaning). m.scope depth ≤ depth) (sym (loop_opens id body exit))
      (omega (arith, low (means scopes miss bounds body), low (means scopes miss bounds exit)))
    where
      low : (m : Meaning) → outside m depth ≤ depth
      low m = grind (arith, nat_tests)

  -- a loop, of what bounds its turns and its way out
  pub loop_tree_bound : (id depth : ℕ) (body exit : Tree) (B E : List Visit → Type 0) → TreeBound scopes miss bounds (depth + 1) body B
      → TreeBound scopes miss bounds (depth + 1) exit E → Scoped (depth + 1) body → Scoped (depth + 1) exit
      → TreeBound scopes miss bounds depth (Loop id body exit) (Entry (bounds id) depth B E)
  loop_tree_bound id depth body exit B E b e sb se =
      let m : Meaning = means scopes miss bounds body in
      let k : Meaning = means scopes miss bounds exit in
      subst (λ (o : Meaning). IsBoundOf scopes (o.scope depth) (o.value depth) (Entry (bounds id) depth B E))
      (sym (loop_opens id body exit))
      (if_any_bound scopes (max (outside m depth) (outside k depth)) (loop_value (bounds id) m k depth) (Entry (bounds id) depth B E)
      (loop_bound scopes B E (bounds id) m k depth b e ((tree_grows miss bounds body (depth + 1)).more)
      ((tree_grows miss bounds exit (depth + 1)).more) sb se))

-- a path over the nodes is one over those of the order
path_in_order : (tree : ℕ → Tree) (l : Level) (t : ℕ) (us : List ℕ) → AllByRecursion (λ u. IsIn u (l.nodes t)) us × Path
    (l.useful t) l.header us t
    → AllByRecursion (λ u. IsIn u (taking tree l l.header t)) us × Path (l.useful t) l.header us t
path_in_order tree l t us h = (each us h.0, h.1)
  where
    each : (us : List ℕ) → AllByRecursion (λ u. IsIn u (l.nodes t)) us → AllByRecursion (λ u. IsIn u (taking tree l l.header t)) us
    each [] all = tt
    each (u ∷ us) all = (order_has_all tree l.header t (edge_ways (l.useful t)) (l.nodes t) u all.0, each us all.1)

pub all_in : (P : ℕ → Type 0) (vs : List ℕ) → ((v : ℕ) → IsIn v vs → P v) → AllByRecursion P vs
all_in P [] each = tt
all_in P (v ∷ vs) each = (each v (inl refl), all_in P vs (λ u i. each u (inr i)))

pub leaf_opens : (scopes : ℕ → ℕ → ℕ) (miss : ℕ) (bounds : ℕ → Extent) (block base : ℕ) (uses : List Use) → means scopes miss bounds
    (Leaf block base uses) ≡ level_meaning miss bounds (Tree-F.Leaf block base uses)
leaf_opens scopes miss bounds block base uses = ap (means scopes miss bounds) (sym (t.rolls-Leaf block base uses)) ∙ fold-roll-Tree Meaning
    (level_meaning miss bounds) (Tree-F.Leaf block base uses)

scope_in : (uses : List Use) (k : ℕ) → scope_at uses k ≤ greatest_scope uses
scope_in [] k = omega arith
scope_in (u ∷ uses) zero = omega arith
scope_in (u ∷ uses) (suc k) = omega (arith, scope_in uses k)

pub leaf_tree_bound : (scopes : ℕ → ℕ → ℕ) (miss : ℕ) (bounds : ℕ → Extent) (depth block base : ℕ) (uses : List Use) →
    ((k : ℕ) → scopes block k ≡ scope_at uses k) → TreeBound scopes miss bounds depth (Leaf block base uses)
    (Once miss block base (length uses))
leaf_tree_bound scopes miss bounds depth block base uses same =
    subst (λ (m : Meaning). IsBoundOf scopes (m.scope depth) (m.value depth) (Once miss block base (length uses)))
    (sym (leaf_opens scopes miss bounds block base uses))
    (if_any_bound scopes (greatest_scope uses) (λ n. Finite (n * base + miss * length uses)) (Once miss block base (length uses))
    (leaf_bound scopes miss block base (length uses) (greatest_scope uses) (λ k h. omega (arith, same k, scope_in uses k))))

leaf_scoped : (scopes : ℕ → ℕ → ℕ) (miss : ℕ) (bounds : ℕ → Extent) (depth block base : ℕ) (uses : List Use) → greatest_scope uses ≤ depth
    → Scoped scopes miss bounds depth (Leaf block base uses)
leaf_scoped scopes miss bounds depth block base uses h = subst (λ (m : Meaning). m.scope depth ≤ depth)
    (sym (leaf_opens scopes miss bounds block base uses)) h

module _ (miss : ℕ) (bounds : ℕ → Extent) (n : Nest) (at : ℕ → ℕ) (rank : ℕ → ℕ → ℕ) (nest : IsNest n at rank) where
  abbrev N : ℕ → List Visit → Type 0
  N = BlockRun miss n

  abbrev scopes : ℕ → ℕ → ℕ
  scopes = scopes_of n

  abbrev Good : ℕ → ℕ → ℕ → Type 0
  Good k c v = TreeBound scopes miss bounds (at c) (node_tree n k c v) (NodeRun n N bounds k (at c) c v) × Scoped scopes miss bounds (at c)
      (node_tree n k c v)

  -- one loop, where its nodes are good
  loop_good : (k c d : ℕ) → at d ≡ at c + 1 → ((t v : ℕ) → IsEnd (n.level d) t → IsIn v ((n.level d).header ∷ (n.level d).nodes t)
      → Good k d v)
      → TreeBound scopes miss bounds (at c) (loop_tree d (node_tree n k d) (n.level d))
      (LoopRun (NodeRun n N bounds k (at c + 1) d) (n.level d) (bounds d) (at c)) × Scoped scopes miss bounds (at c)
      (loop_tree d (node_tree n k d) (n.level d))
  loop_good k c d deep good = (bound, loop_scoped scopes miss bounds d (at c) body exit)
    where
      l : Level
      l = n.level d

      tree : ℕ → Tree
      tree = node_tree n k d

      R : ℕ → List Visit → Type 0
      R = NodeRun n N bounds k (at c + 1) d

      body : Tree
      body = Seq (tree l.header ∷ between tree l l.header l.close)

      exit : Tree
      exit = Seq (tree l.header ∷ between tree l l.header l.leave)

      here : (t v : ℕ) → IsEnd l t → IsIn v (l.header ∷ l.nodes t) → TreeBound scopes miss bounds (at c + 1) (tree v) (R v)
          × Scoped scopes miss bounds (at c + 1) (tree v)
      here t v end i = subst (λ (e : ℕ). TreeBound scopes miss bounds e (tree v) (NodeRun n N bounds k e d v) × Scoped scopes miss bounds e
          (tree v)) deep (good t v end i)

      ordered : (t : ℕ) (P : ℕ → Type 0) → AllByRecursion P (l.nodes t) → AllByRecursion P (taking tree l l.header t)
      ordered t P = all_of_order tree l.header t P (edge_ways (l.useful t)) (l.nodes t)

      tracks : (t : ℕ) → IsEnd l t → ListBound scopes miss bounds (at c + 1) (between tree l l.header t) (To R l t l.header)
      tracks t end = tracks_bound scopes miss bounds (at c + 1) l.edge (l.useful t) (rank d) tree R (taking tree l l.header t) l.header t
          (λ p q. nest.up d t p q end)
          (ordered t (λ v. TreeBound scopes miss bounds (at c + 1) (tree v) (R v))
          (all_in (λ v. TreeBound scopes miss bounds (at c + 1) (tree v) (R v)) (l.nodes t) (λ v i. (here t v end (inr i)).0)))
          (ordered t (λ v. l.header ≢ v) (nest.start_apart d t end)) (ordered t (λ v. t ≢ v) (nest.end_apart d t end))
          (λ us p. path_in_order tree l t us (nest.on_path d t us end p))

      whole : (t : ℕ) → IsEnd l t → TreeBound scopes miss bounds (at c + 1) (Seq (tree l.header ∷ between tree l l.header t))
          (Then (R l.header) (To R l t l.header))
      whole t end = seq_bound scopes miss bounds (at c + 1) (tree l.header ∷ between tree l l.header t)
          (Then (R l.header) (To R l t l.header))
          (more_members scopes miss bounds (at c + 1) (tree l.header ∷ []) (between tree l l.header t) (R l.header) (To R l t l.header)
          (one_member scopes miss bounds (at c + 1) (tree l.header) (R l.header) (here t l.header end (inl refl)).0) (tracks t end))

      fits : (t : ℕ) → IsEnd l t → Scoped scopes miss bounds (at c + 1) (Seq (tree l.header ∷ between tree l l.header t))
      fits t end =
          let rest : AllScoped scopes miss bounds (at c + 1) (between tree l l.header t) = members_scoped scopes miss bounds (at c + 1)
          (all_taken_out tree (taking tree l l.header t) (edge_ways (l.useful t)) l.header t)
          (taken_out_scoped scopes miss bounds (at c + 1) tree (taking tree l l.header t) (edge_ways (l.useful t))
          (ordered t (λ v. Scoped scopes miss bounds (at c + 1) (tree v))
          (all_in (λ v. Scoped scopes miss bounds (at c + 1) (tree v)) (l.nodes t) (λ v i. (here t v end (inr i)).1)))
          (edges_scoped scopes miss bounds (at c + 1) (l.useful t)) l.header t) in
          let one : Scoped scopes miss bounds (at c + 1) (tree l.header) = (here t l.header end (inl refl)).1 in
          seq_scoped scopes miss bounds (at c + 1) (tree l.header ∷ between tree l l.header t) (omega (arith, one, rest))

      bound : TreeBound scopes miss bounds (at c) (Loop d body exit) (LoopRun R l (bounds d) (at c))
      bound =
          let m : Meaning = means scopes miss bounds (Loop d body exit) in
          weaker_bound scopes (m.scope (at c)) (m.scope (at c)) (m.value (at c)) (m.value (at c))
          (Entry (bounds d) (at c) (Turn R l) (Out R l)) (LoopRun R l (bounds d) (at c)) (omega arith)
          (λ i. at_most_self (m.value (at c) i))
          (run_is_entry R l (bounds d) (at c))
          (loop_tree_bound scopes miss bounds d (at c) body exit (Turn R l) (Out R l) (whole l.close (inl refl)) (whole l.leave (inr refl))
          (fits l.close (inl refl)) (fits l.leave (inr refl)))

  -- the tree of each node bounds what runs there
  pub nodes_good : (k c t v : ℕ) → IsEnd (n.level c) t → IsIn v ((n.level c).header ∷ (n.level c).nodes t) → Good k c v
  nodes_good zero c t v end i = (nothing, seq_scoped scopes miss bounds (at c) [] (omega arith))
    where
      nothing : TreeBound scopes miss bounds (at c) (Seq []) (λ x. ⊥)
      nothing [] all once same = subst (λ (m : Meaning). IsWithin 0 (m.value (at c) 0)) (sym (seq_opens scopes miss bounds []))
          (omega arith)
      nothing (x ∷ xs) all once same = absurd all.0
  nodes_good (suc k) c t v end i = by_child (λ d. nodes_good k d) (n.child c v) refl
    where
      by_child : ((d t v : ℕ) → IsEnd (n.level d) t → IsIn v ((n.level d).header ∷ (n.level d).nodes t) → Good k d v) → (o : Option ℕ)
          → n.child c v ≡ o
          → TreeBound scopes miss bounds (at c) (node_of (leaf_of n) o v (node_tree n k) n.level)
          (run_of N bounds (at c) o v (NodeRun n N bounds k (at c + 1)) n.level) × Scoped scopes miss bounds (at c)
          (node_of (leaf_of n) o v (node_tree n k) n.level)
      by_child ih None e = (
        leaf_tree_bound scopes miss bounds (at c) v (n.base v) (n.uses v) (λ k. refl),
        leaf_scoped scopes miss bounds
            (at c) v (n.base v) (n.uses v) (nest.scoped c t v end e i),
      )
      by_child ih (Some d) e = loop_good k c d (nest.deeper c v d e) (ih d)

  -- A run of the function costs at most the value of its tree.
  pub function_bound : (k : ℕ) (x : List Visit) → FunctionRun n N bounds k x → AtMostOnce scopes (x ∷ []) → Same 0 (x ∷ []) → IsWithin
      (total (x ∷ [])) (tree_value miss bounds (function_tree n k) 1)
  function_bound k x run once same = whole (x ∷ []) (run, tt) once (λ d h.
      (let e : d ≡ 0 = low d h in subst (λ (j : ℕ). Same j (x ∷ [])) (sym e) same))
    where
      l : Level
      l = n.level 0

      tree : ℕ → Tree
      tree = node_tree n k 0

      R : ℕ → List Visit → Type 0
      R = NodeRun n N bounds k 0 0

      here : (t v : ℕ) → IsEnd l t → IsIn v (l.header ∷ l.nodes t) → TreeBound scopes miss bounds 0 (tree v) (R v)
          × Scoped scopes miss bounds 0 (tree v)
      here t v end i = subst (λ (e : ℕ). TreeBound scopes miss bounds e (tree v) (NodeRun n N bounds k e 0 v) × Scoped scopes miss bounds e
          (tree v)) nest.top (nodes_good k 0 t v end i)

      ordered : (P : ℕ → Type 0) → AllByRecursion P (l.nodes l.leave) → AllByRecursion P (taking tree l l.header l.leave)
      ordered P = all_of_order tree l.header l.leave P (edge_ways (l.useful l.leave)) (l.nodes l.leave)

      whole : TreeBound scopes miss bounds 0 (function_tree n k) (FunctionRun n N bounds k)
      whole = seq_bound scopes miss bounds 0 (between tree l l.header l.leave) (FunctionRun n N bounds k)
          (tracks_bound scopes miss bounds 0 l.edge (l.useful l.leave) (rank 0) tree R (taking tree l l.header l.leave) l.header l.leave
          (λ p q. nest.up 0 l.leave p q (inr refl))
          (ordered (λ v. TreeBound scopes miss bounds 0 (tree v) (R v))
          (all_in (λ v. TreeBound scopes miss bounds 0 (tree v) (R v)) (l.nodes l.leave)
          (λ v i. (here l.leave v (inr refl) (inr i)).0)))
          (ordered (λ v. l.header ≢ v) (nest.start_apart 0 l.leave (inr refl)))
          (ordered (λ v. l.leave ≢ v) (nest.end_apart 0 l.leave (inr refl)))
          (λ us p. path_in_order tree l l.leave us (nest.on_path 0 l.leave us (inr refl) p)))

      fits : Scoped scopes miss bounds 0 (function_tree n k)
      fits = seq_scoped scopes miss bounds 0 (between tree l l.header l.leave)
          (members_scoped scopes miss bounds 0 (all_taken_out tree (taking tree l l.header l.leave)
          (edge_ways (l.useful l.leave)) l.header l.leave)
          (taken_out_scoped scopes miss bounds 0 tree (taking tree l l.header l.leave) (edge_ways (l.useful l.leave))
          (ordered (λ v. Scoped scopes miss bounds 0 (tree v)) (all_in (λ v. Scoped scopes miss bounds 0 (tree v)) (l.nodes l.leave)
          (λ v i. (here l.leave v (inr refl) (inr i)).1))) (edges_scoped scopes miss bounds 0 (l.useful l.leave)) l.header l.leave))

      low : (d : ℕ) → d ≤ (means scopes miss bounds (function_tree n k)).scope 0 → d ≡ 0
      low d h = (let f : (means scopes miss bounds (function_tree n k)).scope 0 ≤ 0 = fits in omega (arith, h, f))
