-- From tables of a graph to the nest of its loops.
use Rattle.std.proofs.Common.{◌≡◌, refl, sym, ap, ◌∙◌, subst, ℕ, zero, suc, ◌+◌, ◌-◌, ◌<◌, ◌≤◌, inl, inr, Bool, true, false, List, [], ◌∷◌}
use Rattle.std.proofs.Common.{◌++◌, length, map, take, get_or, arith}
use Rattle.std.specs.Prelude.{◌≢◌, ◌^◌, ◌&&◌, ◌==◌, not, nat_eq, nat_lt, Option, Some, None, option_map, slice_get, slice_index_or}
use Rattle.std.specs.List.{list_any}
use Rattle.std.specs.BTreeSet.{BTreeSet}
use Rattle.std.proofs.lemmas.Bool.{cases_Bool, and_parts, cond-true, cond-false, eqb-true, eq-eqb, ltb-true, lt-ltb, false≢true}
use Rattle.std.proofs.lemmas.Bool.Decides.{nat_tests}
use Rattle.std.proofs.lemmas.List.{length-append, append_assoc, take_all}
use Rattle.std.proofs.lemmas.Option.{slice_get-map}
use Rattle.std.proofs.Math.Seq.{get_or-append_seam}
use Rattle.graph_search.specs.NodeLists.{holds}
use Rattle.graph_search.proofs.ListLemmas.{nat_equality, holds_right, holds_first}
use Rattle.graph_search.proofs.SearchLemmas.{holds_at}
use Rattle.graph_search.specs.Flows.{Flow, edge, leads, IsBounded}
use Rattle.graph_reduction.specs.Loops.{stays, IsIrreducible}
use Rattle.graph_reduction.specs.ClosingEdges.{AreClosings}
use Rattle.graph_reduction.proofs.RankLemmas.{ranked_ends}
use Rattle.graph_reduction.specs.Nodes.{number_in, state_of, AreHeld, AreReady}
use Rattle.graph_reduction.specs.Reduction.{State, IsReduced}
use Rattle.graph_reduction.specs.Sets.{in_set}
use Rattle.interval_loops.specs.declared.nest.LoopInfo.{LoopInfo}
use Rattle.interval_loops.specs.declared.nest.LoopNest.{LoopNest}
use Rattle.interval_loops.specs.Rounds.{last_or, RisesOpen, AreRound}
use Rattle.graph_search.specs.Orders.{Rising}
use Rattle.interval_loops.specs.BlockOrders.{place, IsListing}
use Rattle.interval_loops.specs.Nests.{before_last, info_of, infos_of, nest_by, header_or, parent_or, depth_or, header_of, parent_of}
use Rattle.interval_loops.specs.Nests.{depth_of, inner_of, around_of, AreLoopsOf, IsNestIn}
use Rattle.graph_search.specs.Rows.{row_in}
use Rattle.interval_loops.specs.Tables.{closed_of, AreSources, AreAll, IsDeeper, AreNumbered, header_in, AreSoFar}
use Rattle.interval_loops.proofs.LastLemmas.{ended}
use Rattle.interval_loops.proofs.LoopRowLemmas.{all_round, header_number, some_held}
use Rattle.interval_loops.proofs.BlockOrderLemmas.{every_listed, rises_open, open_cycle}
use Rattle.interval_loops.proofs.PlaceLemmas.{at_place, place_before}
use Rattle.graph_search.proofs.BelowLemmas.{few_below}

-- ---- the number before the last

short : (n : ℕ) → n < 2 → nat_lt n 2 ≡ true
short n l = lt-ltb n 2 l

long : (n : ℕ) → 2 ≤ n → nat_lt n 2 ≡ false
long n l = grind (arith, nat_tests)

pub before_end : (xs : List ℕ) (d : ℕ) → before_last (xs ++ d ∷ []) ≡ last_or 0 xs
before_end xs d =
    let ys = xs ++ d ∷ [] in
    let size = length-append xs (d ∷ []) in
    elim (ended 0 xs) as (λ _. before_last ys ≡ last_or 0 xs) [
      | inl e ↦
          let z : length xs ≡ 0 = ap length e in
          cond-true (nat_lt (length ys) 2) 0 (slice_index_or ys (length ys - 2) 0) (short (length ys) (omega (arith, size, z))) ∙ sym
          (ap (last_or 0) e)
      | inr r ↦
          let z : length xs ≡ length r.0 + 1 = ap length r.1 ∙ length-append r.0 (last_or 0 xs ∷ []) in
          let whole : ys ≡ r.0 ++ last_or 0 xs ∷ d ∷ [] = ap (λ zs. zs ++ d ∷ []) r.1 ∙ append_assoc r.0 (last_or 0 xs ∷ []) (d ∷ []) in
          let at : length ys - 2 ≡ length r.0 = omega (arith, size, z) in
          cond-false (nat_lt (length ys) 2) 0 (slice_index_or ys (length ys - 2) 0) (long (length ys) (omega (arith, size, z)))
          ∙ (ap (λ k. slice_index_or ys k 0) at ∙ (ap (λ zs. slice_index_or zs (length r.0) 0) whole ∙ get_or-append_seam r.0 (last_or 0 xs)
          (d ∷ []) 0))
    ]

-- ---- rows

last_in_row : (rows : List (List ℕ)) (b : ℕ) → slice_index_or (map (last_or 0) rows) b 0 ≡ last_or 0 (row_in rows b)
last_in_row [] zero = refl
last_in_row [] (suc b) = refl
last_in_row (r ∷ rows) zero = refl
last_in_row (r ∷ rows) (suc b) = last_in_row rows b

mapped_length : (rows : List (List ℕ)) → length (map (last_or 0) rows) ≡ length rows
mapped_length [] = refl
mapped_length (r ∷ rows) = ap suc (mapped_length rows)

held_within : (rows : List (List ℕ)) (d b : ℕ) → holds nat_eq d (row_in rows b) ≡ true → b < length rows
held_within [] d zero h = absurd (false≢true h)
held_within [] d (suc b) h = absurd (false≢true h)
held_within (r ∷ rows) d zero h = omega arith
held_within (r ∷ rows) d (suc b) h = let l = held_within rows d b h in omega (arith, l)

-- ---- the loops of a list of headers

module _ (flow : Flow) (headers : List ℕ) (closers around : List (List ℕ)) where
  abbrev info : ℕ → LoopInfo
  info h = info_of h (row_in closers h) (row_in around h)

  info_at : (e h : ℕ) → slice_get headers e ≡ Some h → slice_get (infos_of headers closers around) e ≡ Some (info h)
  info_at e h g = slice_get-map info headers e ∙ ap (option_map info) g

  header_or_at : (hs : List ℕ) (d : ℕ) → header_or flow.count (slice_get (map info hs) d) ≡ slice_index_or hs d flow.count
  header_or_at [] zero = refl
  header_or_at [] (suc d) = refl
  header_or_at (h ∷ hs) zero = refl
  header_or_at (h ∷ hs) (suc d) = header_or_at hs d

  header_is : (d : ℕ) → header_of flow (nest_by headers closers around) d ≡ header_in headers flow.count d
  header_is zero = refl
  header_is (suc d) = header_or_at headers d

  headers_of : (hs : List ℕ) → map (λ (i : LoopInfo). i.header) (map info hs) ≡ hs
  headers_of [] = refl
  headers_of (h ∷ hs) = ap (λ xs. h ∷ xs) (headers_of hs)

  info_from : (hs : List ℕ) (d : ℕ) (i : LoopInfo) → slice_get (map info hs) d ≡ Some i → (h : ℕ) × (slice_get hs d ≡ Some h) × (info h ≡ i)
  info_from [] d i g = absurd (cc)
  info_from (h ∷ hs) zero i g = let e : info h ≡ i = same_some g in (h, refl, e)
    where
      same_some : {A : Type 0} {x y : A} → Some x ≡ Some y → x ≡ y
      same_some e = cc
  info_from (h ∷ hs) (suc d) i g = info_from hs d i g

  module _ (before : List (List ℕ)) (s : AreSources flow closers before) (order numbers : List ℕ) (o : AreAll flow order)
      (n : AreNumbered closers flow.count headers numbers)
      (a : AreSoFar flow (closed_of closers) order headers (length order) around) where
    abbrev closed : ℕ → ℕ → Bool
    closed = closed_of closers

    abbrev header : ℕ → ℕ
    header = header_in headers flow.count

    -- a number that its header's row has is that of a loop
    real : (d : ℕ) → holds nat_eq d (row_in around (header d)) ≡ true → (e : ℕ) × (d ≡ suc e) × (slice_get headers e ≡ Some (header d))
    real d h = let r = a.inside d (header d) h in (r.0, r.1, r.2)

    real_parent : (d : ℕ) → holds nat_eq d (row_in around (header d)) ≡ true → parent_of (nest_by headers closers around) d ≡ before_last
        (row_in around (header d))
    real_parent d h =
        let r = real d h in
        ap (parent_of (nest_by headers closers around)) r.1 ∙ ap parent_or (info_at r.0 (header d) r.2)

    real_depth : (d : ℕ) → holds nat_eq d (row_in around (header d)) ≡ true → depth_of (nest_by headers closers around) d ≡ length
        (row_in around (header d))
    real_depth d h =
        let r = real d h in
        ap (depth_of (nest_by headers closers around)) r.1 ∙ ap depth_or (info_at r.0 (header d) r.2)

    header_at : (hs : List ℕ) (e h : ℕ) → slice_get hs e ≡ Some h → slice_index_or hs e flow.count ≡ h
    header_at [] e h g = absurd (cc)
    header_at (x ∷ hs) zero h g = cc
    header_at (x ∷ hs) (suc e) h g = header_at hs e h g

    -- a number that isn't has no place
    no_place : (e : ℕ) → holds nat_eq (suc e) (row_in around (header (suc e))) ≡ false → slice_get headers e ≡ None
    no_place e f = by_place (slice_get headers e) refl
      where
        by_place : (p : Option ℕ) → slice_get headers e ≡ p → slice_get headers e ≡ None
        by_place None g = g
        by_place (Some h) g =
            let back = n.back e h g in
            let u = some_held (row_in closers h) back.1 in
            let r = all_round flow closers before s order headers numbers o n around a u.0 h h u.1 (inl refl) in
            let name = header_at headers e h g in
            let i = a.inside r.0 h r.1 in
            -- the number that stands there is this one
            let v = n.back i.0 (header r.0) i.2 in
            let same : suc i.0 ≡ suc e = sym v.0 ∙ (ap (λ x. slice_index_or numbers x 0) r.2 ∙ back.0) in
            absurd (false≢true (sym f ∙ subst (λ x. holds nat_eq (suc e) (row_in around x) ≡ true) (sym name)
            (subst (λ x. holds nat_eq x (row_in around h) ≡ true) (i.1 ∙ same) r.1)))

    info_none : (e : ℕ) → slice_get headers e ≡ None → slice_get (infos_of headers closers around) e ≡ None
    info_none e g = slice_get-map info headers e ∙ ap (option_map info) g

    other_parent : (d : ℕ) → holds nat_eq d (row_in around (header d)) ≡ false → parent_of (nest_by headers closers around) d ≡ 0
    other_parent zero f = refl
    other_parent (suc e) f = ap parent_or (info_none e (no_place e f))

    other_depth : (d : ℕ) → d ≢ 0 → holds nat_eq d (row_in around (header d)) ≡ false → depth_of (nest_by headers closers around) d ≡ 1
    other_depth zero ne f = absurd (ne refl)
    other_depth (suc e) ne f = ap depth_or (info_none e (no_place e f))

    shallow : (d : ℕ) → depth_of (nest_by headers closers around) d ≤ 16
    shallow zero = omega arith
    shallow (suc e) =
        elim (cases_Bool (holds nat_eq (suc e) (row_in around (header (suc e))))) as
        (λ _. depth_of (nest_by headers closers around) (suc e) ≤ 16) [
          | inl y ↦ let r = real_depth (suc e) y in let f = a.few (header (suc e)) in subst (λ k. k ≤ 16) (sym r) f
          | inr f ↦ let r = other_depth (suc e) (λ z. not_zero e z) f in subst (λ k. k ≤ 16) (sym r) (omega arith)
        ]
      where
        not_zero : (e : ℕ) → suc e ≢ 0
        not_zero e z = omega (arith, z)

    not_itself : (k : ℕ) → nat_lt k k ≡ false
    not_itself k = grind (arith, nat_tests)

    not_zero : (d e : ℕ) → d ≡ suc e → d ≢ 0
    not_zero d e p z = omega (arith, p, z)

    round_by : AreRound flow closed (λ x. place x order) header (parent_of (nest_by headers closers around))
        (inner_of (nest_by headers closers around)) (depth_of (nest_by headers closers around))
        (around_of (nest_by headers closers around)) 16
    round_by =
        record {
          inside = λ d b k. let r = a.inside d b k in (not_zero d r.0 r.1, r.4);
          all = λ d x b k i.
              let r = a.inside d x k in
              subst (λ y. holds nat_eq y (row_in around b) ≡ true) (sym r.1) (a.all r.0 (header d) b r.2 r.3 i);
          numbered = λ u h k. all_round flow closers before s order headers numbers o n around a u h h k (inl refl);
          rising = a.rising;
          blocks = λ d b k. let l = held_within around d b k in let e = a.size in omega (arith, l, e);
          innermost = λ b. last_in_row around b;
          up = λ d xs e.
              real_parent d (subst (λ zs. holds nat_eq d zs ≡ true) (sym e)
              (holds_right ℕ nat_equality d xs (d ∷ []) (holds_first ℕ nat_equality d [])))
              ∙ (ap before_last e ∙ before_end xs d);
          level = real_depth;
          other_up = other_parent;
          other_level = other_depth;
          top = refl;
          low = shallow;
          start = not_itself flow.count;
        }

    round_nest : AreRound flow closed (λ x. place x order) (header_of flow (nest_by headers closers around))
        (parent_of (nest_by headers closers around)) (inner_of (nest_by headers closers around)) (depth_of (nest_by headers closers around))
        (around_of (nest_by headers closers around)) 16
    round_nest =
        let path : header ≡ header_of flow (nest_by headers closers around) = (λ i d. sym (header_is d) i) in
        subst (λ (h : ℕ → ℕ). AreRound flow closed (λ x. place x order) h (parent_of (nest_by headers closers around))
        (inner_of (nest_by headers closers around)) (depth_of (nest_by headers closers around))
        (around_of (nest_by headers closers around)) 16) path round_by

    loops_nest : ((h : ℕ) → Rising (λ u. u) (row_in closers h)) → AreLoopsOf closed (nest_by headers closers around)
    loops_nest rising =
        record {
          headers = λ h. (
            (λ k.
                let k' : holds nat_eq h headers ≡ true = subst (λ (xs : List ℕ). holds nat_eq h xs ≡ true) (headers_of headers) k in
                some_held (row_in closers h) (n.back (place h headers) h (at_place h headers k')).1),
            (λ u.
                let e = header_number flow closers before s order headers numbers o n u.0 h u.1 in
                subst (λ (xs : List ℕ). holds nat_eq h xs ≡ true) (sym (headers_of headers)) (holds_at ℕ nat_equality headers e.0 h e.1)),
          );
          ascending = subst (λ (xs : List ℕ). Rising (λ h. h) xs) (sym (headers_of headers)) n.rising;
          closing = λ d i g.
              let r = info_from headers d i g in
              subst (λ (j : LoopInfo). ((u : ℕ) → holds nat_eq u j.closing ≡ closed u j.header) × Rising (λ u. u) j.closing) r.2
              ((λ u. refl), rising r.0);
        }

    ranked : (b : ℕ) → b < flow.count → place b order < flow.count
    ranked b l =
        let p = place_before b (length order) order (subst (λ (xs : List ℕ). holds nat_eq b xs ≡ true)
        (sym (take_all (length order) order (omega arith))) (o.all b l)) in
        let few = few_below flow.count order o.distinct o.below in
        omega (arith, p, few)

    pub nest_is : (t : State) → IsReduced flow t → ((u h : ℕ) → closed_of closers u h ≡ t.closed u h) →
        ((h : ℕ) → Rising (λ u. u) (row_in closers h)) → RisesOpen flow t.closed (λ x. place x order) → IsNestIn flow t (λ x. place x order)
        (nest_by headers closers around)
    nest_is t is same rising up =
        let path : closed ≡ t.closed = (λ i u h. same u h i) in
        record {
          reduced = is;
          rises = up;
          ranks = ranked;
          sizes = (mapped_length around ∙ a.size, a.size);
          loops = subst (λ (c : ℕ → ℕ → Bool). AreLoopsOf c (nest_by headers closers around)) path (loops_nest rising);
          round = subst (λ (c : ℕ → ℕ → Bool). AreRound flow c (λ x. place x order) (header_of flow (nest_by headers closers around))
              (parent_of (nest_by headers closers around)) (inner_of (nest_by headers closers around))
              (depth_of (nest_by headers closers around)) (around_of (nest_by headers closers around)) 16) path round_nest;
        }

-- ---- the tables are those of the graph

sure : (b : Bool) (z : ℕ) → z ≡ 0 → (b && (z == 0)) ≡ b
sure true z e = eq-eqb z 0 e
sure false z e = refl

pub are_sources : (flow : Flow) → IsBounded flow → (t : State) → ((u h : ℕ) → t.closed u h ≡ true → edge flow u h ≡ true) →
    (closers before : List (List ℕ)) → length closers ≡ flow.count → length before ≡ flow.count
    → ((u h : ℕ) → closed_of closers u h ≡ t.closed u h) → ((q u : ℕ) → holds nat_eq u (row_in before q) ≡ edge flow u q)
    → AreSources flow closers before
are_sources flow b t edges closers before cs bs same all =
    record {
      closers_size = cs;
      before_size = bs;
      edges = λ u h k. edges u h (sym (same u h) ∙ k);
      all = all;
      below = λ u h e. (ltb-true u flow.count (and_parts (nat_lt u flow.count) (list_any (λ x. x == h) (flow.next u)) e).0, b.below u h e);
    }

pub are_all : (flow : Flow) (label : ℕ → ℕ) (first into : BTreeSet (ℕ × ℕ × ℕ)) (b : IsBounded flow) (h : AreHeld flow label first)
    (small : (u : ℕ) → u < flow.count → label u < flow.count) (order : List ℕ)
    → IsListing (λ t. nat_lt t flow.count) flow label first into (length order) (length order) order → flow.count ≤ length order
    → AreAll flow order
are_all flow label first into b h small order l many =
    record {
      distinct = l.distinct;
      all = every_listed flow label first b h small into order l many;
      below = λ t k. ltb-true t flow.count (l.below t k);
    }

-- ---- lists that are made one after another

pub last_taken : (row : List ℕ) (k p : ℕ) → k < length row → get_or row k 0 ≡ last_or p (take (k + 1) row)
last_taken [] k p l = absurd (omega (arith, l))
last_taken (x ∷ row) zero p l = refl
last_taken (x ∷ row) (suc k) p l = last_taken row k x (omega (arith, l)) ∙ sym (ap (λ n. last_or p (take n (x ∷ row))) (more k))
  where
    more : (k : ℕ) → suc k + 1 ≡ suc (k + 1)
    more k = omega arith

pub map_taken : {A : Type 0} (f : ℕ → A) (xs : List ℕ) (k : ℕ) → k < length xs → map f (take (k + 1) xs) ≡ map f (take k xs) ++ f
    (get_or xs k 0) ∷ []
map_taken f [] k l = absurd (omega (arith, l))
map_taken f (x ∷ xs) zero l = refl
map_taken f (x ∷ xs) (suc k) l = ap (λ n. map f (take n (x ∷ xs))) (more k) ∙ ap (λ ys. f x ∷ ys) (map_taken f xs k (omega (arith, l)))
  where
    more : (k : ℕ) → suc k + 1 ≡ suc (k + 1)
    more k = omega arith

pub infos_next : (hs : List ℕ) (closers around : List (List ℕ)) (k : ℕ) → k < length hs → (infos new : List LoopInfo) → infos ≡ infos_of
    (take k hs) closers around
    → new ≡ infos ++ info_of (get_or hs k 0) (row_in closers (get_or hs k 0)) (row_in around (get_or hs k 0)) ∷ [] → new ≡ infos_of
    (take (k + 1) hs) closers around
infos_next hs closers around k l infos new before is =
    is ∙ (ap (λ (xs : List LoopInfo). xs ++ info_of (get_or hs k 0) (row_in closers (get_or hs k 0))
    (row_in around (get_or hs k 0)) ∷ []) before
    ∙ sym (map_taken (λ h. info_of h (row_in closers h) (row_in around h)) hs k l))

-- ---- what calls want of headers

pub headers_within : (flow : Flow) (closers before around : List (List ℕ)) (order headers numbers : List ℕ) → AreSources flow closers before
    → AreNumbered closers flow.count headers numbers → AreSoFar flow (closed_of closers) order headers (length order) around
    → (h : ℕ) → holds nat_eq h headers ≡ true → (h < length closers) × (h < length around)
headers_within flow closers before around order headers numbers s n a h k =
    let l = (n.back (place h headers) h (at_place h headers k)).2 in
    let cs = s.closers_size in
    let rs = a.size in
    (omega (arith, l, cs), omega (arith, l, rs))

pub numbered_all : (flow : Flow) (closers before : List (List ℕ)) (headers numbers : List ℕ) → AreSources flow closers before
    → AreNumbered closers (length closers) headers numbers → AreNumbered closers flow.count headers numbers
numbered_all flow closers before headers numbers s n = subst (λ k. AreNumbered closers k headers numbers) s.closers_size n

-- the whole nest by what the calls give
pub nest_whole : (flow : Flow) (closers before around : List (List ℕ)) (order headers numbers : List ℕ) (n : LoopNest)
    → AreSources flow closers before → AreAll flow order → AreNumbered closers (length closers) headers numbers → AreSoFar flow
    (closed_of closers) order headers (length order) around
    → ((h : ℕ) → Rising (λ u. u) (row_in closers h)) → n ≡ nest_by headers closers around
    → (t : State) → IsReduced flow t → ((u h : ℕ) → closed_of closers u h ≡ t.closed u h) → RisesOpen flow t.closed (λ x. place x order)
    → IsNestIn flow t (λ x. place x order) n
nest_whole flow closers before around order headers numbers n s o m a rising is t red same up =
    subst (λ (k : LoopNest). IsNestIn flow t (λ x. place x order) k) (sym is)
    (nest_is flow headers closers around before s order numbers o
    (numbered_all flow closers before headers numbers s m) a t red same rising up)

-- closed edges of a state of the nodes are edges
pub closed_edge : (flow : Flow) (label owner : ℕ → ℕ) (into : BTreeSet (ℕ × ℕ × ℕ)) (u h : ℕ) → (state_of flow label owner into).closed u h
    ≡ true → edge flow u h ≡ true
closed_edge flow label owner into u h e = (and_parts (edge flow u h) (not (in_set into h (label u) u)) e).0

pub told_closed : (t : State) (closings : BTreeSet (ℕ × ℕ × ℕ)) (closers : List (List ℕ)) → AreClosings t closings →
    ((h u : ℕ) → holds nat_eq u (row_in closers h) ≡ in_set closings h u 0) → (u h : ℕ) → closed_of closers u h ≡ t.closed u h
told_closed t closings closers are exact u h = exact h u ∙ (are h u 0 ∙ sure (t.closed u h) 0 refl)

pub closings_below : (flow : Flow) (b : IsBounded flow) (t : State) → ((u h : ℕ) → t.closed u h ≡ true → edge flow u h ≡ true) →
    (closings : BTreeSet (ℕ × ℕ × ℕ)) → AreClosings t closings → (count : ℕ) → count ≡ flow.count → (h u z : ℕ) → in_set closings h u z
    ≡ true → (h < count) × (z ≡ 0)
closings_below flow b t edges closings are count same h u z k =
    let p = and_parts (t.closed u h) (z == 0) (sym (are h u z) ∙ k) in
    (subst (λ m. h < m) (sym same) (b.below u h (edges u h p.0)), eqb-true z 0 p.1)

-- the same on deep loops
pub deep_in : (flow : Flow) (t : State) (closers : List (List ℕ)) (rank : ℕ → ℕ) → ((u h : ℕ) → closed_of closers u h ≡ t.closed u h)
    → IsReduced flow t → RisesOpen flow t.closed rank → IsDeeper flow (closed_of closers) 16
    → (s : State) × IsReduced flow s × (IsIrreducible flow s.closed → ⊥) × IsDeeper flow s.closed 16
deep_in flow t closers rank same red up deep =
    let path : closed_of closers ≡ t.closed = (λ i u h. same u h i) in (
      t,
      red,
      (λ x. ranked_ends (stays (leads (edge flow)) t.closed) rank up x.0 x.1 x.2),
      subst
          (λ (c : ℕ → ℕ → Bool). IsDeeper flow c 16) path deep,
    )

-- ---- the order

module _ (flow : Flow) (owner : ℕ → ℕ) (slice label : List ℕ) (e : slice ≡ label) (into new : BTreeSet (ℕ × ℕ × ℕ))
    (r : AreReady flow (number_in label) owner into) (order : List ℕ)
    (l : IsListing (λ t. nat_lt t flow.count) flow (number_in slice) into new (length order) (length order) order) where
  listing : IsListing (λ t. nat_lt t flow.count) flow (number_in label) into new (length order) (length order) order
  listing = subst (λ (xs : List ℕ). IsListing (λ t. nat_lt t flow.count) flow (number_in xs) into new (length order)
      (length order) order) e l

  pub order_all : flow.count ≤ length order → AreAll flow order
  order_all many = are_all flow (number_in label) into new r.bounded r.held r.numbers.labels order listing many

  pub order_rises : flow.count ≤ length order → RisesOpen flow (state_of flow (number_in label) owner into).closed (λ x. place x order)
  order_rises many = rises_open flow (number_in label) into r.bounded r.held r.numbers.labels new order listing many

  pub order_stuck : length order < flow.count → IsIrreducible flow (state_of flow (number_in label) owner into).closed
  order_stuck less = open_cycle flow (number_in label) into r.bounded r.held r.numbers.labels new order listing less

pub count_few : (flow : Flow) → IsBounded flow → (closers : List (List ℕ)) → length closers ≡ flow.count → length closers < 2 ^ 32
count_few flow b closers e = let f = b.few in omega (arith, f, e)

pub numbered_slices : (flow : Flow) (closers before : List (List ℕ)) (headers numbers hs ns : List ℕ) → AreSources flow closers before → hs
    ≡ headers → ns ≡ numbers → AreNumbered closers (length closers) headers numbers → AreNumbered closers flow.count hs ns
numbered_slices flow closers before headers numbers hs ns s e f n =
    subst (λ (xs : List ℕ). AreNumbered closers flow.count xs ns) (sym e)
    (subst (λ (xs : List ℕ). AreNumbered closers flow.count headers xs) (sym f) (numbered_all flow closers before headers numbers s n))
