-- The edges that the code lists are those of the level.
use Rattle.std.proofs.Common.{◌≡◌, ◌≢◌, ℕ, ◌+◌, ◌<◌, ◌⊎◌, inl, inr, Bool, true, false, List, [], ◌∷◌, ◌++◌, nat_eq, refl, sym, ap, subst, ◌∙◌}
use Rattle.std.specs.Prelude.{◌==◌, if◌then◌else◌, nat_lt, Option, Some, None}
use Rattle.std.specs.List.{list_any}
use Rattle.std.proofs.lemmas.Bool.{or_cases, or_left, or_right, and_parts, and_from, eqb-true, eq-eqb, ne_eqb, false≢true, lt-ltb}
use Rattle.graph_search.specs.Flows.{Flow, edge}
use Rattle.graph_search.specs.NodeLists.{holds}
use Rattle.interval_loops.specs.Loops.{node_in}
use Rattle.interval_loops.specs.Nests.{around_of, header_of, loops_of}
use Rattle.interval_loops.specs.Rounds.{within_by}
use Rattle.tree_law.specs.LevelEdges.{IsLevelEdge}
use Rattle.node_elimination.specs.GivenLevels.{edges_of}
use Rattle.flow_tree.specs.FlowTables.{header_by}
use Rattle.level_tables.specs.declared.places.LevelPlaces.{LevelPlaces}
use Rattle.level_tables.specs.LevelPlaces.{and_edge, edges_from, edges_of_block, edges_of_blocks, edges_of_places, node_by, target_by}
use Rattle.level_tables.specs.LevelPlaces.{within_level}
use Rattle.level_tables.specs.ExactEdges.{IsExactEdge}
use Rattle.level_tables.specs.LevelRows.{AreEdgesIn}
use Rattle.level_tables.proofs.BetweenLemmas.{edge_cases, edge_here, edge_later}
use Rattle.level_tables.proofs.PlaceLemmas.{same_header, same_node}

-- ---- joined lists

in_left : (xs ys : List (ℕ × ℕ)) (p q : ℕ) → edges_of xs p q ≡ true → edges_of (xs ++ ys) p q ≡ true
in_left [] ys p q h = absurd (false≢true h)
in_left (x ∷ xs) ys p q h =
    elim (edge_cases p q x xs h) as (λ _. edges_of (x ∷ (xs ++ ys)) p q ≡ true) [
      | inl s ↦ edge_here p q x (xs ++ ys) s.0 s.1
      | inr o ↦ edge_later p q x (xs ++ ys) (in_left xs ys p q o)
    ]

in_right : (xs ys : List (ℕ × ℕ)) (p q : ℕ) → edges_of ys p q ≡ true → edges_of (xs ++ ys) p q ≡ true
in_right [] ys p q h = h
in_right (x ∷ xs) ys p q h = edge_later p q x (xs ++ ys) (in_right xs ys p q h)

in_either : (xs ys : List (ℕ × ℕ)) (p q : ℕ) → edges_of (xs ++ ys) p q ≡ true → (edges_of xs p q ≡ true) ⊎ (edges_of ys p q ≡ true)
in_either [] ys p q h = inr h
in_either (x ∷ xs) ys p q h =
    elim (edge_cases p q x (xs ++ ys) h) as (λ _. (edges_of (x ∷ xs) p q ≡ true) ⊎ (edges_of ys p q ≡ true)) [
      | inl s ↦ inl (edge_here p q x xs s.0 s.1)
      | inr o ↦ elim (in_either xs ys p q o) as (λ _. (edges_of (x ∷ xs) p q ≡ true) ⊎ (edges_of ys p q ≡ true)) [
        | inl a ↦ inl (edge_later p q x xs a)
        | inr b ↦ inr b
      ]
    ]

one_edge : (p q : ℕ) (e : ℕ × ℕ) → edges_of (e ∷ []) p q ≡ true → (p ≡ e.0) × (q ≡ e.1)
one_edge p q e h =
    elim (edge_cases p q e [] h) as (λ _. (p ≡ e.0) × (q ≡ e.1)) [
      | inl s ↦ s
      | inr o ↦ absurd (false≢true o)
    ]

some_same : (a b : ℕ) → Some a ≡ Some b → a ≡ b
some_same a b e = cc

none_some : (a : ℕ) → ◌≡◌ {A = Option ℕ} None (Some a) → ⊥
none_some a e = cc

and_in : (from q p r : ℕ) (o : Option ℕ) (rest : List (ℕ × ℕ)) → edges_of rest p r ≡ true → edges_of (and_edge from o rest) p r ≡ true
and_in from q p r None rest h = h
and_in from q p r (Some t) rest h = edge_later p r (from, t) rest h

and_out : (from p q : ℕ) (o : Option ℕ) (rest : List (ℕ × ℕ)) → edges_of (and_edge from o rest) p q ≡ true
    → ((p ≡ from) × (o ≡ Some q)) ⊎ (edges_of rest p q ≡ true)
and_out from p q None rest h = inr h
and_out from p q (Some t) rest h =
    elim (edge_cases p q (from, t) rest h) as (λ _. ((p ≡ from) × (Some t ≡ Some q)) ⊎ (edges_of rest p q ≡ true)) [
      | inl s ↦ inl (s.0, ap Some (sym s.1))
      | inr o ↦ inr o
    ]

module _ (s : LevelPlaces) where
  abbrev N : ℕ → ℕ
  N = node_by s.count s.nest.now s.level

  abbrev W : ℕ → Bool
  W = within_level s.count s.nest.now s.level

  abbrev H : ℕ
  H = header_by s.count s.nest.now s.level

  abbrev picked : ℕ → ℕ → Bool → Bool → Bool → Option ℕ
  picked from v w h b = if w then (if h then Some s.close else (if b then None else Some (N v))) else Some s.leave

  -- ---- where an edge leads

  abbrev Cases : ℕ → ℕ → ℕ → Type 0
  Cases from v q = ((W v ≡ true) × (v ≡ H) × (q ≡ s.close))
      ⊎ (((W v ≡ true) × (v ≢ H) × (from ≢ N v) × (q ≡ N v)) ⊎ ((W v ≡ false) × (q ≡ s.leave)))

  target_cases : (from v q : ℕ) → target_by s from v ≡ Some q → Cases from v q
  target_cases from v q e = by_tests (W v) refl (nat_eq v H) refl (nat_eq from (N v)) refl e
    where
      by_tests : (w : Bool) → W v ≡ w → (h : Bool) → nat_eq v H ≡ h → (b : Bool) → nat_eq from (N v) ≡ b
          → picked from v w h b ≡ Some q → Cases from v q
      by_tests true a true b x c f = inl (a, eqb-true v H b, sym (some_same s.close q f))
      by_tests true a false b true c f = absurd (none_some q f)
      by_tests true a false b false c f =
          inr (inl (
            a,
            (λ z. false≢true (sym b ∙ eq-eqb v H z)),
            (λ z. false≢true (sym c ∙ eq-eqb from (N v) z)),
            sym (some_same (N v) q f),
          ))
      by_tests false a h b x c f = inr (inr (a, sym (some_same s.leave q f)))

  target_close : (from v : ℕ) → W v ≡ true → v ≡ H → target_by s from v ≡ Some s.close
  target_close from v a b =
      ap (λ w. picked from v w (nat_eq v H) (nat_eq from (N v))) a ∙ ap (λ h. picked from v true h (nat_eq from (N v))) (eq-eqb v H b)

  target_node : (from v : ℕ) → W v ≡ true → v ≢ H → from ≢ N v → target_by s from v ≡ Some (N v)
  target_node from v a b c =
      ap (λ w. picked from v w (nat_eq v H) (nat_eq from (N v))) a ∙ (ap (λ h. picked from v true h (nat_eq from (N v))) (ne_eqb v H b)
      ∙ ap (picked from v true false) (ne_eqb from (N v) c))

  target_leave : (from v : ℕ) → W v ≡ false → target_by s from v ≡ Some s.leave
  target_leave from v a = ap (λ w. picked from v w (nat_eq v H) (nat_eq from (N v))) a

  -- ---- the edges of a block

  from_in : (from v q : ℕ) (vs : List ℕ) → list_any (λ x. x == v) vs ≡ true → target_by s from v ≡ Some q
      → edges_of (edges_from s from vs) from q ≡ true
  from_in from v q [] h t = absurd (false≢true h)
  from_in from v q (w ∷ ws) h t =
      elim (or_cases (w == v) (list_any (λ x. x == v) ws) h) as (λ _. edges_of (edges_from s from (w ∷ ws)) from q ≡ true) [
        | inl e ↦
            ap (λ o. edges_of (and_edge from o (edges_from s from ws)) from q) (ap (target_by s from) (eqb-true w v e) ∙ t)
            ∙ edge_here from q (from, q) (edges_from s from ws) refl refl
        | inr o ↦ and_in from q from q (target_by s from w) (edges_from s from ws) (from_in from v q ws o t)
      ]

  abbrev Led : ℕ → List ℕ → ℕ → Type 0
  Led from vs q = (v : ℕ) × (list_any (λ x. x == v) vs ≡ true) × (target_by s from v ≡ Some q)

  from_out : (from p q : ℕ) (vs : List ℕ) → edges_of (edges_from s from vs) p q ≡ true → (p ≡ from) × Led from vs q
  from_out from p q [] h = absurd (false≢true h)
  from_out from p q (w ∷ ws) h =
      elim (and_out from p q (target_by s from w) (edges_from s from ws) h) as (λ _. (p ≡ from) × Led from (w ∷ ws) q) [
        | inl e ↦ (e.0, (w, or_left (w == w) (list_any (λ x. x == w) ws) (eq-eqb w w refl), e.1))
        | inr o ↦ let r = from_out from p q ws o in (r.0, (r.1.0, or_right (w == r.1.0) (list_any (λ x. x == r.1.0) ws) r.1.1, r.1.2))
      ]

  module _ (flow : Flow) where
    abbrev Given : ℕ → ℕ → ℕ → Type 0
    Given u p q = (p ≡ N u) × (Led (N u) (flow.next u) q ⊎ ((flow.returns u ≡ true) × (q ≡ s.leave)))

    block_out : (u p q : ℕ) → edges_of (edges_of_block s flow u) p q ≡ true → Given u p q
    block_out u p q h =
        elim (in_either (edges_from s (N u) (flow.next u)) (if flow.returns u then (N u, s.leave) ∷ [] else []) p q h) as
        (λ _. Given u p q) [
          | inl a ↦ let r = from_out (N u) p q (flow.next u) a in (r.0, inl r.1)
          | inr b ↦ by_test (flow.returns u) refl b
        ]
      where
        by_test : (r : Bool) → flow.returns u ≡ r → edges_of (if r then (N u, s.leave) ∷ [] else []) p q ≡ true → Given u p q
        by_test true e k = (let o = one_edge p q (N u, s.leave) k in (o.0, inr (e, o.1)))
        by_test false e k = absurd (false≢true k)

    block_led : (u q : ℕ) → Led (N u) (flow.next u) q → edges_of (edges_of_block s flow u) (N u) q ≡ true
    block_led u q l =
        in_left (edges_from s (N u) (flow.next u)) (if flow.returns u then (N u, s.leave) ∷ [] else []) (N u) q
        (from_in (N u) l.0 q (flow.next u) l.1 l.2)

    block_left : (u : ℕ) → flow.returns u ≡ true → edges_of (edges_of_block s flow u) (N u) s.leave ≡ true
    block_left u e =
        in_right (edges_from s (N u) (flow.next u)) (if flow.returns u then (N u, s.leave) ∷ [] else []) (N u) s.leave
        (ap (λ (r : Bool). edges_of (if r then (N u, s.leave) ∷ [] else []) (N u) s.leave) e
        ∙ edge_here (N u) s.leave (N u, s.leave) [] refl refl)

    blocks_in : (us : List ℕ) (u p q : ℕ) → holds nat_eq u us ≡ true → edges_of (edges_of_block s flow u) p q ≡ true
        → edges_of (edges_of_blocks s flow us) p q ≡ true
    blocks_in [] u p q i h = absurd (false≢true i)
    blocks_in (w ∷ us) u p q i h =
        elim (or_cases (nat_eq u w) (holds nat_eq u us) i) as (λ _. edges_of (edges_of_blocks s flow (w ∷ us)) p q ≡ true) [
          | inl e ↦ in_left (edges_of_block s flow w) (edges_of_blocks s flow us) p q
              (subst (λ x. edges_of (edges_of_block s flow x) p q ≡ true) (eqb-true u w e) h)
          | inr o ↦ in_right (edges_of_block s flow w) (edges_of_blocks s flow us) p q (blocks_in us u p q o h)
        ]

    blocks_out : (us : List ℕ) (p q : ℕ) → edges_of (edges_of_blocks s flow us) p q ≡ true
        → (u : ℕ) × (holds nat_eq u us ≡ true) × Given u p q
    blocks_out [] p q h = absurd (false≢true h)
    blocks_out (w ∷ us) p q h =
        elim (in_either (edges_of_block s flow w) (edges_of_blocks s flow us) p q h) as
        (λ _. (u : ℕ) × (holds nat_eq u (w ∷ us) ≡ true) × Given u p q) [
          | inl a ↦ (w, or_left (nat_eq w w) (holds nat_eq w us) (eq-eqb w w refl), block_out w p q a)
          | inr b ↦ let r = blocks_out us p q b in (r.0, or_right (nat_eq r.0 w) (holds nat_eq r.0 us) r.1, r.2)
        ]

    abbrev started : Bool → List (ℕ × ℕ)
    started b = if b then (H, N flow.entry) ∷ [] else []

    module _ (blocks : List ℕ) (count : s.count ≡ flow.count) (close : s.close ≡ flow.count + 1) (leave : s.leave ≡ flow.count + 2)
        (members : (u : ℕ) → holds nat_eq u blocks ≡ within_by flow (around_of s.nest.now) s.level u)
        (below : (u : ℕ) → holds nat_eq u blocks ≡ true → u < flow.count) where
      abbrev es : List (ℕ × ℕ)
      es = edges_of_places s flow blocks

      abbrev inside : ℕ → Bool
      inside = within_by flow (around_of s.nest.now) s.level

      abbrev node : ℕ → ℕ
      node = node_in (loops_of flow s.nest.now) s.level

      node_is : (b : ℕ) → N b ≡ node b
      node_is b = ap (λ k. node_by k s.nest.now s.level b) count ∙ same_node flow s.nest.now s.level b

      head_is : H ≡ header_of flow s.nest.now s.level
      head_is = ap (λ k. header_by k s.nest.now s.level) count ∙ same_header flow s.nest.now s.level

      in_is : (b : ℕ) → W b ≡ inside b
      in_is b = ap (λ k. within_level k s.nest.now s.level b) count

      listed : (u v : ℕ) → edge flow u v ≡ true → list_any (λ x. x == v) (flow.next u) ≡ true
      listed u v e = (and_parts (nat_lt u flow.count) (list_any (λ x. x == v) (flow.next u)) e).1

      edged : (u v : ℕ) → holds nat_eq u blocks ≡ true → list_any (λ x. x == v) (flow.next u) ≡ true → edge flow u v ≡ true
      edged u v i l = and_from (nat_lt u flow.count) (list_any (λ x. x == v) (flow.next u)) (lt-ltb u flow.count (below u i)) l

      led : (u q : ℕ) → inside u ≡ true → Led (N u) (flow.next u) q → edges_of es (node u) q ≡ true
      led u q i l =
          subst (λ x. edges_of es x q ≡ true) (node_is u) (in_right (started (nat_eq s.level 0)) (edges_of_blocks s flow blocks) (N u) q
          (blocks_in blocks u (N u) q (members u ∙ i) (block_led u q l)))

      turns : (u v : ℕ) → inside u ≡ true → inside v ≡ true → edge flow u v ≡ true → v ≡ header_of flow s.nest.now s.level
          → edges_of es (node u) (flow.count + 1) ≡ true
      turns u v i j e h =
          subst (λ x. edges_of es (node u) x ≡ true) close
          (led u s.close i (v, listed u v e, target_close (N u) v (in_is v ∙ j) (h ∙ sym head_is)))

      goes : (u v : ℕ) → inside u ≡ true → inside v ≡ true → edge flow u v ≡ true → v ≢ header_of flow s.nest.now s.level
          → node u ≢ node v → edges_of es (node u) (node v) ≡ true
      goes u v i j e h apart =
          subst (λ x. edges_of es (node u) x ≡ true) (node_is v)
          (led u (N v) i (
            v,
            listed u v e,
            target_node (N u) v (in_is v ∙ j) (λ z. h (z ∙ head_is))
                (λ z. apart (sym (node_is u) ∙ (z ∙ node_is v))),
          ))

      leaves : (u : ℕ) → inside u ≡ true → (flow.returns u ≡ true) ⊎ ((v : ℕ) × (edge flow u v ≡ true) × (inside v ≡ false))
          → edges_of es (node u) (flow.count + 2) ≡ true
      leaves u i (inl r) =
          subst (λ x. edges_of es (node u) x ≡ true) leave
          (subst (λ x. edges_of es x s.leave ≡ true) (node_is u) (in_right (started (nat_eq s.level 0)) (edges_of_blocks s flow blocks) (N u)
          s.leave (blocks_in blocks u (N u) s.leave (members u ∙ i) (block_left u r))))
      leaves u i (inr (v, e, o)) =
          subst (λ x. edges_of es (node u) x ≡ true) leave
          (led u s.leave i (v, listed u v e, target_leave (N u) v (in_is v ∙ o)))

      first : s.level ≡ 0 → edges_of es (header_of flow s.nest.now 0) (node_in (loops_of flow s.nest.now) 0 flow.entry) ≡ true
      first z =
          subst (λ c. edges_of es (header_of flow s.nest.now c) (node_in (loops_of flow s.nest.now) c flow.entry) ≡ true) z
          (subst (λ x. edges_of es x (node flow.entry) ≡ true) head_is
          (subst (λ x. edges_of es H x ≡ true) (node_is flow.entry) (in_left (started (nat_eq s.level 0))
          (edges_of_blocks s flow blocks) H (N flow.entry)
          (ap (λ b. edges_of (started b) H (N flow.entry)) (eq-eqb s.level 0 z)
          ∙ edge_here H (N flow.entry) (H, N flow.entry) [] refl refl))))

      abbrev Real : ℕ → ℕ → Type 0
      Real p q = IsLevelEdge (loops_of flow s.nest.now) (edge flow) (within_by flow (around_of s.nest.now)) flow.entry
          (flow.count + 1) (flow.count + 2) s.level p q

      of_block : (u p q : ℕ) → holds nat_eq u blocks ≡ true → Given u p q → Real p q
      of_block u p q i (e, inr (r, f)) = inr (inl (u, sym (members u) ∙ i, sym (e ∙ node_is u), inr (f ∙ leave)))
      of_block u p q i (e, inl (v, l, t)) = by_case (target_cases (N u) v q t)
        where
          by_case : Cases (N u) v q → Real p q
          by_case (inl (w, h, f)) = inr (inl (u, sym (members u) ∙ i, sym (e ∙ node_is u), inl (f ∙ close)))
          by_case (inr (inr (w, f))) = inr (inl (u, sym (members u) ∙ i, sym (e ∙ node_is u), inr (f ∙ leave)))
          by_case (inr (inl (w, h, a, f))) =
              inl (record {
                u = u;
                v = v;
                in_u = sym (members u) ∙ i;
                in_v = sym (in_is v) ∙ w;
                edge = edged u v i l;
                no_turn = λ z. h (z ∙ sym head_is);
                apart = λ z. a (node_is u ∙ (z ∙ sym (node_is v)));
                from = sym (e ∙ node_is u);
                to = sym (f ∙ node_is v);
              })

      real : (p q : ℕ) → edges_of es p q ≡ true → Real p q
      real p q h =
          elim (in_either (started (nat_eq s.level 0)) (edges_of_blocks s flow blocks) p q h) as (λ _. Real p q) [
            | inl a ↦ by_test (nat_eq s.level 0) refl a
            | inr b ↦ let r = blocks_out blocks p q b in of_block r.0 p q r.1 r.2
          ]
        where
          by_test : (b : Bool) → nat_eq s.level 0 ≡ b → edges_of (started b) p q ≡ true → Real p q
          by_test false z k = absurd (false≢true k)
          by_test true z k =
              let o = one_edge p q (H, N flow.entry) k in
              let zero = eqb-true s.level 0 z in
              inr (inr (
                zero,
                o.0 ∙ (head_is ∙ ap (header_of flow s.nest.now) zero),
                sym (o.1 ∙ (node_is flow.entry ∙ ap (λ c. node_in (loops_of flow s.nest.now) c flow.entry) zero)),
              ))

      abbrev Exact : ℕ → ℕ → Type 0
      Exact p q = IsExactEdge flow s.nest.now s.level p q

      exact_of_block : (u p q : ℕ) → holds nat_eq u blocks ≡ true → Given u p q → Exact p q
      exact_of_block u p q i (e, inr (r, f)) =
          inr (inr (inl (u, sym (members u) ∙ i, inl r, sym (e ∙ node_is u), f ∙ leave)))
      exact_of_block u p q i (e, inl (v, l, t)) = by_case (target_cases (N u) v q t)
        where
          by_case : Cases (N u) v q → Exact p q
          by_case (inl (w, h, f)) =
              inr (inl (u, v, sym (members u) ∙ i, sym (in_is v) ∙ w, edged u v i l, h ∙ head_is, sym (e ∙ node_is u), f ∙ close))
          by_case (inr (inr (w, f))) =
              inr (inr (inl (u, sym (members u) ∙ i, inr (v, edged u v i l, sym (in_is v) ∙ w), sym (e ∙ node_is u), f ∙ leave)))
          by_case (inr (inl (w, h, a, f))) =
              inl (record {
                u = u;
                v = v;
                in_u = sym (members u) ∙ i;
                in_v = sym (in_is v) ∙ w;
                edge = edged u v i l;
                no_turn = λ z. h (z ∙ sym head_is);
                apart = λ z. a (node_is u ∙ (z ∙ sym (node_is v)));
                from = sym (e ∙ node_is u);
                to = sym (f ∙ node_is v);
              })

      exact : (p q : ℕ) → edges_of es p q ≡ true → Exact p q
      exact p q h =
          elim (in_either (started (nat_eq s.level 0)) (edges_of_blocks s flow blocks) p q h) as (λ _. Exact p q) [
            | inl a ↦ by_test (nat_eq s.level 0) refl a
            | inr b ↦ let r = blocks_out blocks p q b in exact_of_block r.0 p q r.1 r.2
          ]
        where
          by_test : (b : Bool) → nat_eq s.level 0 ≡ b → edges_of (started b) p q ≡ true → Exact p q
          by_test false z k = absurd (false≢true k)
          by_test true z k =
              let o = one_edge p q (H, N flow.entry) k in
              let zero = eqb-true s.level 0 z in
              inr (inr (inr (
                zero,
                o.0 ∙ (head_is ∙ ap (header_of flow s.nest.now) zero),
                sym (o.1 ∙ (node_is flow.entry ∙ ap (λ c. node_in (loops_of flow s.nest.now) c flow.entry) zero)),
              )))

      pub are_edges : AreEdgesIn flow s.nest.now s.level es
      are_edges = record { real = real; turns = turns; goes = goes; leaves = leaves; exact = exact; first = first }
