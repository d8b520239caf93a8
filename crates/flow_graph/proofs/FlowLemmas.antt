-- The graph of a function as a flow graph, and routes through its blocks.
use Rattle.std.proofs.Common.{◌≡◌, refl, sym, ap, ◌∙◌, subst, ℕ, zero, suc, ◌<◌, ◌≤◌, ◌⊎◌, inl, inr, Bool, true, false, List, [], ◌∷◌}
use Rattle.std.proofs.Common.{length, map, arith}
use Rattle.std.specs.Prelude.{◌==◌, ◌&&◌, ◌^◌, nat_lt, Contains, Option, Some, None, slice_get}
use Rattle.std.specs.List.{list_any}
use Rattle.std.proofs.lemmas.Bool.{or_cases, or_left, or_right, eqb-true, eq-eqb}
use Rattle.std.proofs.lemmas.Bool.Decides.{nat_tests}
use Rattle.std.proofs.lemmas.Option.{slice_get_within}
use Rattle.elf32_image.specs.Parts.{ImageValue}
use Rattle.graph_search.specs.Flows.{IsBounded, edge, leads}
use Rattle.graph_search.specs.Walks.{Reached, Walk}
use Rattle.control_flow.specs.Points.{Point, entry_point}
use Rattle.control_flow.specs.Routes.{Goes, IsLive, IsRoute, Leaves, Taken, Way, place_of}
use Rattle.control_flow.specs.Routes.Place.{At}
use Rattle.control_flow.specs.Ways.{IsCollected, ways_from}
use Rattle.function_points.proofs.MemberLemmas.{here, there, first_or_rest, in_none}
use Rattle.function_points.proofs.PointLemmas.{both}
use Rattle.basic_blocks.specs.Blocks.{AreVisits, Chain, IsChain, IsOnlyWay, by_first, last_of, points, together}
use Rattle.basic_blocks.specs.PointOrder.{Before}
use Rattle.basic_blocks.proofs.NumberLemmas.{ascending_map, from_map}
use Rattle.basic_blocks.proofs.RouteLemmas.{live_before}
use Rattle.basic_blocks.proofs.VisitLemmas.{route_visits}
use Rattle.point_order.proofs.PlaceLemmas.{at_place, from_mapped, get_mapped, one_some}
use Rattle.point_order.proofs.RankLemmas.{contains_get}
use Rattle.flow_graph.specs.declared.graph.Block.{Block}
use Rattle.flow_graph.specs.declared.graph.BlockGraph.{BlockGraph}
use Rattle.flow_graph.specs.Flow.{flow_in, next_of, returns_of}
use Rattle.flow_graph.specs.Graphs.{IsGraphOf, graph_points, most_points, returns_in}
use Rattle.flow_graph.specs.Visits.{AreBlockVisits, IsVisit}
use Rattle.flow_graph.proofs.AgreementLemmas.{one_first}
use Rattle.flow_graph.proofs.GraphLemmas.{few_points, map_length, some_at}
use Rattle.point_tables.proofs.TableLemmas.{in_one}

both_parts : (x y : Bool) → (x && y) ≡ true → (x ≡ true) × (y ≡ true)
both_parts true y e = (refl, e)
both_parts false y e = absurd (cc)

any_in : (v : ℕ) (xs : List ℕ) → list_any (λ x. x == v) xs ≡ true → Contains xs v
any_in v [] e = absurd (cc)
any_in v (x ∷ xs) e =
    elim (or_cases (x == v) (list_any (λ x. x == v) xs) e) as (λ _. Contains (x ∷ xs) v) [
      | inl t ↦ subst (λ z. Contains (x ∷ xs) z) (eqb-true x v t) (here x xs)
      | inr r ↦ there x v xs (any_in v xs r)
    ]

in_any : (v : ℕ) (xs : List ℕ) → Contains xs v → list_any (λ x. x == v) xs ≡ true
in_any v [] i = absurd (in_none v i)
in_any v (x ∷ xs) i =
    elim (first_or_rest x v xs i) as (λ _. list_any (λ x. x == v) (x ∷ xs) ≡ true) [
      | inl e ↦ or_left (x == v) (list_any (λ x. x == v) xs) (eq-eqb x v e)
      | inr n ↦ or_right (x == v) (list_any (λ x. x == v) xs) (in_any v xs n)
    ]

module _ {A : Type 0} (R : A → A → Type 0) where
  last_or_next : (p : A) (ps : List A) (q : A) → IsChain R p ps → Contains (p ∷ ps) q → (last_of p ps ≡ q) ⊎ ((r : A) × R q r)
  last_or_next p [] q c i = inl (in_one p q i)
  last_or_next p (x ∷ ps) q c i =
      elim (first_or_rest p q (x ∷ ps) i) as (λ _. (last_of x ps ≡ q) ⊎ ((r : A) × R q r)) [
        | inl e ↦ inr (x, subst (λ z. R z x) e c.0)
        | inr n ↦ last_or_next x ps q c.1 n
      ]

  first_or_member : (p : A) (ps : List A) (q : A) → IsChain R p ps → Contains (p ∷ ps) q → (p ≡ q) ⊎ ((r : A) × Contains (p ∷ ps) r × R r q)
  first_or_member p [] q c i = inl (in_one p q i)
  first_or_member p (x ∷ ps) q c i =
      elim (first_or_rest p q (x ∷ ps) i) as (λ _. (p ≡ q) ⊎ ((r : A) × Contains (p ∷ x ∷ ps) r × R r q)) [
        | inl e ↦ inl e
        | inr n ↦
            elim (first_or_member x ps q c.1 n) as (λ _. (p ≡ q) ⊎ ((r : A) × Contains (p ∷ x ∷ ps) r × R r q)) [
              | inl e ↦ inr (p, here p (x ∷ ps), subst (λ z. R p z) e c.0)
              | inr o ↦ inr (o.0, there p o.0 (x ∷ ps) o.1, o.2)
            ]
      ]

module _ (image : ImageValue) (entry : ℕ) (g : BlockGraph) (w : IsGraphOf image entry g) where
  abbrev ways : Point → List (Way Point)
  ways = ways_from image entry

  abbrev start : Point
  start = entry_point entry

  abbrev cs : List (Chain Point)
  cs = w.graph.chains

  abbrev E : ℕ → ℕ → Type 0
  E = leads (edge (flow_in g))

  as_many : length g.blocks ≡ length cs
  as_many =
      sym (map_length (λ (b : Block). graph_points (returns_in g.contexts) b.points) g.blocks) ∙ ap length w.graph.cut
      ∙ map_length points cs

  below_count : (k : ℕ) (c : Chain Point) → slice_get cs k ≡ Some c → k < g.block_count
  below_count k c e = subst (λ n. k < n) (sym (w.graph.count ∙ as_many)) (slice_get_within cs k c e)

  block_at : (k : ℕ) (c : Chain Point) → slice_get cs k ≡ Some c
      → (b : Block) × (slice_get g.blocks k ≡ Some b) × (graph_points (returns_in g.contexts) b.points ≡ points c)
  block_at k c e =
      from_mapped (λ (b : Block). graph_points (returns_in g.contexts) b.points) g.blocks k (points c)
      (ap (λ zs. slice_get zs k) w.graph.cut ∙ get_mapped points cs k c e)

  chain_at : (k : ℕ) (b : Block) → slice_get g.blocks k ≡ Some b → (c : Chain Point) × (slice_get cs k ≡ Some c)
  chain_at k b e =
      let c = from_mapped points cs k (graph_points (returns_in g.contexts) b.points)
      (ap (λ zs. slice_get zs k) (sym w.graph.cut) ∙ get_mapped (λ (b : Block). graph_points (returns_in g.contexts) b.points) g.blocks k b
      e) in
      (c.0, c.1)

  edge_of : (j k : ℕ) (d c : Chain Point) → slice_get cs j ≡ Some d → slice_get cs k ≡ Some c → Goes ways (last_of d.first d.rest) c.first
      → E j k
  edge_of j k d c e f goes =
      let b = block_at j d e in
      let next = ((w.graph.next j d b.0 e b.1).next k).1 (c, f, goes) in
      both (nat_lt j g.block_count) (list_any (λ x. x == k) (next_of (slice_get g.blocks j))) (less j g.block_count (below_count j d e))
      (subst (λ o. list_any (λ x. x == k) (next_of o) ≡ true) (sym b.1) (in_any k b.0.next next))
    where
      less : (j n : ℕ) → j < n → nat_lt j n ≡ true
      less j n l = grind (arith, nat_tests, l)

  reach : (n : ℕ) (p : Point) → Walk (Goes ways) start p n → IsLive ways start p → (k : ℕ) (c : Chain Point) → slice_get cs k ≡ Some c
      → Contains (points c) p → Reached E g.entry_block k
  reach zero p walk live k c e i =
      elim (first_or_member (IsOnlyWay ways start) c.first c.rest p (w.graph.blocks.each c (at_place cs k c e)).1.chain i) as
      (λ _. Reached E g.entry_block k) [
        | inl s ↦
            let first = w.graph.enters in
            (0, sym (one_first cs k g.entry_block c first.0 w.graph.ascending e first.1 (s ∙ sym walk ∙ sym first.2)))
        | inr o ↦ absurd (o.2.inner (sym walk))
      ]
  reach (suc n) p walk live k c e i =
      let r = walk.0 in
      let live_r = live_before Point ways start r p (n, walk.1) walk.2 live in
      elim (first_or_member (IsOnlyWay ways start) c.first c.rest p (w.graph.blocks.each c (at_place cs k c e)).1.chain i) as
      (λ _. Reached E g.entry_block k) [
        | inr o ↦ reach n r walk.1 live_r k c e (subst (λ z. Contains (points c) z) (sym (o.2.alone r live_r walk.2)) o.1)
        | inl s ↦
            let d = w.graph.blocks.cover r live_r in
            let j = contains_get cs d.0 d.1 in
            elim (last_or_next (IsOnlyWay ways start) d.0.first d.0.rest r (w.graph.blocks.each d.0 d.1).1.chain d.2) as
            (λ _. Reached E g.entry_block k) [
              | inl t ↦
                  let goes : Goes ways (last_of d.0.first d.0.rest) c.first =
                  subst (λ z. Goes ways z c.first) (sym t) (subst (λ z. Goes ways r z) (sym s) walk.2) in
                  let before = reach n r walk.1 live_r j.0 d.0 j.1 d.2 in
                  (suc before.0, (j.0, before.1, edge_of j.0 k d.0 c j.1 e goes))
              | inr u ↦
                  let same : p ≡ u.0 = u.1.one p live walk.2 in
                  absurd ((w.graph.blocks.each c (at_place cs k c e)).1.head r
                  (subst (λ z. IsOnlyWay ways start r z) (sym same ∙ sym s) u.1))
            ]
      ]

  pub all_reached : (b : ℕ) → b < g.block_count → Reached E g.entry_block b
  all_reached b l =
      let c = some_at cs b (subst (λ n. b < n) (w.graph.count ∙ as_many) l) in
      let live = (w.graph.blocks.each c.0 (at_place cs b c.0 c.1)).0 in
      reach live.0.0 c.0.first live.0.1 live b c.0 c.1 (here c.0.first c.0.rest)

  few_blocks : length cs ≤ most_points
  few_blocks =
      subst (λ n. n ≤ most_points) (map_length (λ (c : Chain Point). c.first) cs)
      (few_points (IsCollected image entry) most_points (map (λ (c : Chain Point). c.first) cs)
      (ascending_map (λ (c : Chain Point). c.first) (by_first Before) Before (λ c. Unit {0}) (λ x y p q l. l) cs
      (λ x i. tt) w.graph.ascending)
      (λ p i. let c = from_map (λ (c : Chain Point). c.first) cs p i in subst (IsCollected image entry) c.2
      (w.graph.blocks.each c.0 c.1).0.0)
      w.sound.0)

  pub graph_bounded : IsBounded (flow_in g)
  graph_bounded =
      record {
        below = λ u v e.
            let parts = both_parts (nat_lt u g.block_count) (list_any (λ x. x == v) (next_of (slice_get g.blocks u))) e in
            by_block u v (slice_get g.blocks u) refl (any_in v (next_of (slice_get g.blocks u)) parts.1);
        few = below_limit g.block_count (length cs) (w.graph.count ∙ as_many) few_blocks;
        starts = let first = w.graph.enters in below_count g.entry_block first.0 first.1;
      }
    where
      below_limit : (k n : ℕ) → k ≡ n → n ≤ 100000 → k < 2 ^ 32
      below_limit k n e few = omega (arith, e, few)

      by_block : (u v : ℕ) (o : Option Block) → o ≡ slice_get g.blocks u → Contains (next_of o) v → v < g.block_count
      by_block u v None e i = absurd (in_none v i)
      by_block u v (Some b) e i =
          let c = chain_at u b (sym e) in
          let d = ((w.graph.next u c.0 b c.1 (sym e)).next v).0 i in
          below_count v d.0 d.1

  -- routes through blocks
  one_block : (k : ℕ) (c b : Chain Point) → slice_get cs k ≡ Some c → Contains cs b → b.first ≡ c.first → c ≡ b
  one_block k c b e i s =
      let m = contains_get cs b i in
      let same : m.0 ≡ k = one_first cs m.0 k b c w.graph.ascending m.1 e s in
      one_some c b (slice_get cs k) e (subst (λ z. slice_get cs z ≡ Some b) same m.1)

  visit_first : (p : Point) (v : List (Taken Point)) (vs : List (List (Taken Point))) → AreVisits ways cs p (v ∷ vs)
      → (b : Chain Point) × Contains cs b × (b.first ≡ p)
  visit_first p v [] a = (a.0, a.1, a.2)
  visit_first p v (x ∷ vs) a = (a.0, a.1, a.2)

  is_visit : (k : ℕ) (c b : Chain Point) (v : List (Taken Point)) → slice_get cs k ≡ Some c → c ≡ b
      → map (λ (x : Taken Point). x.point) v ≡ points b → IsVisit g k v
  is_visit k c b v e s f = let d = block_at k c e in (d.0, d.1, f ∙ ap points (sym s) ∙ sym d.2)

  block_visits : (p : Point) (vs : List (List (Taken Point))) → AreVisits ways cs p vs → (k : ℕ) (c : Chain Point) → slice_get cs k ≡ Some c
      → c.first ≡ p → AreBlockVisits g k vs
  block_visits p [] a k c e f = a
  block_visits p (v ∷ []) a k c e f =
      let same = one_block k c a.0 e a.1 (a.2 ∙ sym f) in
      let d = block_at k c e in
      let leaves : Leaves ways (last_of c.first c.rest) = subst (λ (z : Chain Point). Leaves ways (last_of z.first z.rest))
      (sym same) a.4 in (
        is_visit k c a.0 v e same a.3,
        subst (λ o. returns_of o ≡ true) (sym d.1) ((w.graph.next k c d.0 e d.1).returns.1 leaves),
      )
  block_visits p (v ∷ x ∷ vs) a k c e f =
      let same = one_block k c a.0 e a.1 (a.2 ∙ sym f) in
      let rest = a.4 in
      let next = visit_first rest.0 x vs rest.2 in
      let j = contains_get cs next.0 next.1 in
      let goes : Goes ways (last_of c.first c.rest) next.0.first =
      subst (λ z. Goes ways (last_of c.first c.rest) z) (sym next.2)
      (subst (λ (z : Chain Point). Goes ways (last_of z.first z.rest) rest.0) (sym same) rest.1) in (
        is_visit k c a.0 v e same a.3,
        (j.0, edge_of k j.0 c next.0 e j.1 goes, block_visits rest.0 (x ∷ vs) rest.2 j.0 next.0 j.1 next.2),
      )

  pub route_blocks : (xs : List (Taken Point)) → IsRoute ways xs → place_of xs ≡ At start
      → (vs : List (List (Taken Point))) × AreBlockVisits g g.entry_block vs × (together vs ≡ xs)
  route_blocks xs r p =
      let vs = route_visits ways start cs w.graph.blocks xs (r, p) in
      let first = w.graph.enters in
      (vs.0, block_visits start vs.0 vs.1 g.entry_block first.0 first.1 first.2, vs.2)
