-- Blocks are listed in an order in which open edges lead onward, or some are left that make an open cycle.
use Rattle.std.proofs.Common.{◌≡◌, refl, sym, ap, ◌∙◌, subst, ℕ, zero, suc, ◌+◌, ◌-◌, ◌<◌, ◌≤◌, inl, inr, Bool, true, false, List, [], ◌∷◌}
use Rattle.std.proofs.Common.{◌++◌, length, take, get_or, arith}
use Rattle.std.specs.Prelude.{◌≢◌, ◌||◌, ◌&&◌, ◌^◌, not, ◌==◌, nat_eq, nat_lt, if◌then◌else◌, cond, Some, slice_get}
use Rattle.std.specs.List.{list_any}
use Rattle.std.specs.BTreeMap.{is_at}
use Rattle.std.specs.BTreeSet as tree
use Rattle.std.specs.BTreeSet.{BTreeSet}
use Rattle.std.proofs.lemmas.Bool.{cases_eq, cases_Bool, or_cases, or_left, and_parts, and_from, cond-true, cond-false, eqb-true, eq-eqb}
use Rattle.std.proofs.lemmas.Bool.{ne_eqb, ltb-true, lt-ltb, false≢true}
use Rattle.std.proofs.lemmas.List.{length-append, take-append-le, take_all}
use Rattle.std.proofs.lemmas.List.Folds.{list_any_more}
use Rattle.std.proofs.lemmas.Bool.Decides.{nat_tests}
use Rattle.std.proofs.Math.Numerals.{add-one}
use Rattle.graph_search.specs.NodeLists.{holds, Distinct}
use Rattle.graph_search.proofs.ListLemmas.{nat_equality, holds_left, holds_right, holds_parts, holds_one, holds_first, distinct_end}
use Rattle.graph_search.proofs.ListLemmas.{no_more}
use Rattle.graph_search.proofs.SearchLemmas.{take_next, get_within, holds_at, back_steps_make_a_cycle}
use Rattle.graph_search.specs.Flows.{Flow, edge, leads, IsBounded}
use Rattle.graph_reduction.specs.Loops.{stays, IsIrreducible}
use Rattle.graph_reduction.specs.Nodes.{AreHeld}
use Rattle.graph_reduction.specs.Sets.{edge_cmp, in_set}
use Rattle.graph_reduction.proofs.MoveLemmas.{edge_at}
use Rattle.interval_loops.specs.Rounds.{RisesOpen}
use Rattle.interval_loops.specs.BlockOrders.{place, ListsFree, Follows, IsListing, IsPartly}
use Rattle.interval_loops.proofs.PlaceLemmas.{get_longer, take_longer, take_more, get_end, place_before, at_place}
use Rattle.graph_search.proofs.BelowLemmas.{numbers, numbers_length, numbers_below, few_below, passing, passing_all, passing_are}
use Rattle.graph_search.proofs.BelowLemmas.{all_or_one}

-- a set without one triple
pub without_one : (old new : BTreeSet (ℕ × ℕ × ℕ)) (t n u : ℕ) → ((q : ℕ × ℕ × ℕ) → tree.contains edge_cmp new q ≡ cond
    (is_at (edge_cmp (t, n, u)) q) false (tree.contains edge_cmp old q))
    → (x k w : ℕ) → in_set new x k w ≡ (if (x == t) && (k == n) && (w == u) then false else in_set old x k w)
without_one old new t n u up x k w = up (x, k, w) ∙ ap (λ b. cond b false (in_set old x k w)) (edge_at t n u x k w)

module _ (flow : Flow) (label : ℕ → ℕ) (first : BTreeSet (ℕ × ℕ × ℕ)) (b : IsBounded flow) (h : AreHeld flow label first)
    (small : (u : ℕ) → u < flow.count → label u < flow.count) where
  -- the edges have numbers below the bound of the ranges
  source_small : (t k u : ℕ) → in_set first t k u ≡ true → (k < 2 ^ 32) × (u < 2 ^ 32) × (k ≡ label u)
  source_small t k u e =
      let block : u < flow.count = ltb-true u flow.count (and_parts (nat_lt u flow.count) (list_any (λ x. x == t) (flow.next u))
      (h.edges t k u e)).0 in
      let same : label u ≡ k = eqb-true (label u) k (and_parts (in_set first t (label u) u) (label u == k) (sym (h.exact t k u) ∙ e)).1 in
      let l = small u block in
      let f = b.few in
      (omega (arith, l, f, same), omega (arith, block, f), sym same)

  -- so where no edge with such numbers leads to a block, none does
  none_leads : (into : BTreeSet (ℕ × ℕ × ℕ)) (t : ℕ) → ((t k u : ℕ) → in_set into t k u ≡ true → in_set first t k u ≡ true) →
      ((n u : ℕ) → n < 2 ^ 32 → u < 2 ^ 32 → in_set into t n u ≡ false) → (k u : ℕ) → in_set into t k u ≡ false
  none_leads into t less none k u =
      elim (cases_Bool (in_set into t k u)) as (λ _. in_set into t k u ≡ false) [
        | inl y ↦ let s = source_small t k u (less t k u y) in none k u s.0 s.1
        | inr f ↦ f
      ]

  -- ---- one block more

  pushed : (due due' : ℕ → Bool) (into : BTreeSet (ℕ × ℕ × ℕ)) (n m : ℕ) (order : List ℕ) (p : ℕ)
      → IsListing due flow label first into n m order → holds nat_eq p order ≡ false
      → ((k u : ℕ) → in_set into p k u ≡ false) → due' p ≡ true → ((t : ℕ) → due t ≡ true → due' t ≡ true) →
      ((t : ℕ) → due' t ≡ true → t ≢ p → due t ≡ true) → IsListing due' flow label first into n m (order ++ p ∷ [])
  pushed due due' into n m order p l new none mine more other =
      let long = l.long in
      let few = l.few in
      let size = length-append order (p ∷ []) in
      record {
        few = l.few;
        long = omega (arith, long, size);
        less = l.less;
        gone = λ t u e f. take_longer u m order (p ∷ []) (l.gone t u e f);
        clear = λ t u k. l.clear t u (subst (λ xs. holds nat_eq u xs ≡ true)
            (take-append-le n order (p ∷ []) (omega (arith, long, few))) k);
        free = λ t k u i.
            elim (holds_parts ℕ nat_equality t order (p ∷ []) i) as (λ _. in_set into t k u ≡ false) [
              | inl a ↦ l.free t k u a
              | inr o ↦ subst (λ x. in_set into x k u ≡ false) (sym (holds_one ℕ nat_equality t p o)) (none k u)
            ];
        listed = λ t d f.
            elim (cases_eq t p) as (λ _. holds nat_eq t (order ++ p ∷ []) ≡ true) [
              | inl e ↦ holds_right ℕ nat_equality t order (p ∷ []) (or_left (nat_eq t p) false (eq-eqb t p e))
              | inr ne ↦ holds_left ℕ nat_equality t order (p ∷ []) (l.listed t (other t d ne) f)
            ];
        rises = λ i t u g e.
            elim (get_end order p i t g) as (λ _. holds nat_eq u (take i (order ++ p ∷ [])) ≡ true) [
              | inl a ↦ take_longer u i order (p ∷ []) (l.rises i t u a e)
              | inr o ↦
                  let out : in_set into t (label u) u ≡ false = subst (λ x. in_set into x (label u) u ≡ false) (sym o.1)
                  (none (label u) u) in
                  let at = o.0 in
                  take_longer u i order (p ∷ []) (take_more u m i order (omega (arith, long, at)) (l.gone t u e out))
            ];
        distinct = distinct_end ℕ nat_equality p order l.distinct new;
        below = λ t i.
            elim (holds_parts ℕ nat_equality t order (p ∷ []) i) as (λ _. due' t ≡ true) [
              | inl a ↦ more t (l.below t a)
              | inr o ↦ subst (λ x. due' x ≡ true) (sym (holds_one ℕ nat_equality t p o)) mine
            ];
      }

  -- a block that is due now is listed where it is free
  lists : (due due' : ℕ → Bool) (into : BTreeSet (ℕ × ℕ × ℕ)) (n m : ℕ) (order new : List ℕ) (p : ℕ)
      → IsListing due flow label first into n m order → ListsFree into p order new
      → due p ≡ false → due' p ≡ true → ((t : ℕ) → due t ≡ true → due' t ≡ true) → ((t : ℕ) → due' t ≡ true → t ≢ p → due t ≡ true)
      → IsListing due' flow label first into n m new
  lists due due' into n m order new p l (inl r) was mine more other =
      subst (λ xs. IsListing due' flow label first into n m xs) (sym r.0) (record {
        few = l.few;
        long = l.long;
        less = l.less;
        gone = l.gone;
        clear = l.clear;
        free = l.free;
        listed = λ t d f.
            elim (cases_eq t p) as (λ _. holds nat_eq t order ≡ true) [
              | inl e ↦ absurd (false≢true (sym (f r.1.0 r.1.1) ∙ subst (λ x. in_set into x r.1.0 r.1.1 ≡ true) (sym e) r.1.2))
              | inr ne ↦ l.listed t (other t d ne) f
            ];
        rises = l.rises;
        distinct = l.distinct;
        below = λ t k. more t (l.below t k);
      })
  lists due due' into n m order new p l (inr r) was mine more other =
      subst (λ xs. IsListing due' flow label first into n m xs) (sym r.0)
      (pushed due due' into n m order p l (elim (cases_Bool (holds nat_eq p order)) as (λ _. holds nat_eq p order ≡ false) [
        | inl t ↦ absurd (false≢true (sym was ∙ l.below p t))
        | inr f ↦ f
      ]) (none_leads into p l.less r.1) mine more other)

  -- ---- the first blocks, one after another

  no_place : (i t : ℕ) → slice_get [] i ≡ Some t → ⊥
  no_place i t e = absurd (cc)

  below_zero : (t : ℕ) → nat_lt t 0 ≡ true → ⊥
  below_zero t e = let l = ltb-true t 0 e in omega (arith, l)

  pub nothing_listed : IsListing (λ t. nat_lt t 0) flow label first first 0 0 []
  nothing_listed =
      record {
        few = omega arith;
        long = omega arith;
        less = λ t k u e. e;
        gone = λ t u e f. absurd (false≢true (sym f ∙ e));
        clear = λ t u k. absurd (false≢true k);
        free = λ t k u i. absurd (false≢true i);
        listed = λ t l f. absurd (below_zero t l);
        rises = λ i t u g e. absurd (no_place i t g);
        distinct = tt;
        below = λ t i. absurd (false≢true i);
      }

  lt_next : (t i : ℕ) → nat_lt t i ≡ true → nat_lt t (i + 1) ≡ true
  lt_next t i e = grind (arith, nat_tests)

  lt_other : (t i : ℕ) → nat_lt t (i + 1) ≡ true → t ≢ i → nat_lt t i ≡ true
  lt_other t i e ne = grind (arith, nat_tests)

  lt_not : (i : ℕ) → nat_lt i i ≡ false
  lt_not i = grind (arith, nat_tests)

  lt_one : (i : ℕ) → nat_lt i (i + 1) ≡ true
  lt_one i = grind (arith, nat_tests)

  pub one_more_free : (i : ℕ) (order new : List ℕ) → IsListing (λ t. nat_lt t i) flow label first first 0 0 order
      → ListsFree first i order new → IsListing (λ t. nat_lt t (i + 1)) flow label first first 0 0 new
  one_more_free i order new l f = lists (λ t. nat_lt t i) (λ t. nat_lt t (i + 1)) first 0 0 order new i l f (lt_not i) (lt_one i)
      (λ t. lt_next t i) (λ t. lt_other t i)

  -- ---- an edge taken out

  module _ (at block node : ℕ) (own : node ≡ label block) (into out : BTreeSet (ℕ × ℕ × ℕ)) (t : ℕ)
      (now : (x n w : ℕ) → in_set out x n w ≡ (if (x == t) && (n == node) && (w == block) then false else in_set into x n w)) where
    is_less : (x n w : ℕ) → in_set out x n w ≡ true → in_set into x n w ≡ true
    is_less x n w e =
        elim (cases_Bool ((x == t) && (n == node) && (w == block))) as (λ _. in_set into x n w ≡ true) [
          | inl y ↦ absurd (false≢true (sym (now x n w ∙ cond-true ((x == t) && (n == node) && (w == block)) false (in_set into x n w) y)
              ∙ e))
          | inr f ↦ sym (now x n w ∙ cond-false ((x == t) && (n == node) && (w == block)) false (in_set into x n w) f) ∙ e
        ]

    is_out : (x n w : ℕ) → in_set into x n w ≡ false → in_set out x n w ≡ false
    is_out x n w e =
        elim (cases_Bool (in_set out x n w)) as (λ _. in_set out x n w ≡ false) [
          | inl y ↦ absurd (false≢true (sym e ∙ is_less x n w y))
          | inr f ↦ f
        ]

    -- what is taken out comes from the block
    was_block : (x n w : ℕ) → in_set into x n w ≡ true → in_set out x n w ≡ false → (x ≡ t) × (n ≡ node) × (w ≡ block)
    was_block x n w e f =
        elim (cases_Bool ((x == t) && (n == node) && (w == block))) as (λ _. (x ≡ t) × (n ≡ node) × (w ≡ block)) [
          | inl y ↦
              let a = and_parts ((x == t) && (n == node)) (w == block) y in
              let d = and_parts (x == t) (n == node) a.0 in
              (eqb-true x t d.0, eqb-true n node d.1, eqb-true w block a.1)
          | inr g ↦ absurd (false≢true (sym f ∙ (now x n w ∙ cond-false ((x == t) && (n == node) && (w == block)) false
              (in_set into x n w) g ∙ e)))
        ]

    elsewhere : (x n w : ℕ) → x ≢ t → in_set out x n w ≡ false → in_set into x n w ≡ false
    elsewhere x n w ne f =
        elim (cases_Bool (in_set into x n w)) as (λ _. in_set into x n w ≡ false) [
          | inl y ↦ absurd (ne (was_block x n w y f).0)
          | inr g ↦ g
        ]

    gone_now : in_set out t (label block) block ≡ false
    gone_now =
        ap (λ n. in_set out t n block) (sym own) ∙ (now t node block ∙ cond-true ((t == t) && (node == node) && (block == block)) false
        (in_set into t node block)
        (and_from ((t == t) && (node == node)) (block == block) (and_from (t == t) (node == node) (eq-eqb t t refl) (eq-eqb node node refl))
        (eq-eqb block block refl)))

    block_taken : (order : List ℕ) → slice_get order at ≡ Some block → holds nat_eq block (take (at + 1) order) ≡ true
    block_taken order g =
        subst (λ xs. holds nat_eq block xs ≡ true) (sym (ap (λ k. take k order) (add-one at) ∙ take_next order at block g))
        (holds_right ℕ nat_equality block (take at order) (block ∷ []) (holds_first ℕ nat_equality block []))

    smaller_set : (due due' : ℕ → Bool) (order : List ℕ) → slice_get order at ≡ Some block → IsListing due flow label first into at
        (at + 1) order
        → ((x : ℕ) → due' x ≡ true → ((k u : ℕ) → in_set out x k u ≡ false) → (due x ≡ true) × ((k u : ℕ) → in_set into x k u ≡ false)) →
        ((x : ℕ) → holds nat_eq x order ≡ true → due' x ≡ true)
        → IsListing due' flow label first out at (at + 1) order
    smaller_set due due' order g l back stays_due =
        record {
          few = l.few;
          long = l.long;
          less = λ x k u e. l.less x k u (is_less x k u e);
          gone = λ x u e f.
              elim (cases_Bool (in_set into x (label u) u)) as (λ _. holds nat_eq u (take (at + 1) order) ≡ true) [
                | inl y ↦ subst (λ w. holds nat_eq w (take (at + 1) order) ≡ true) (sym (was_block x (label u) u y f).2)
                    (block_taken order g)
                | inr n ↦ l.gone x u e n
              ];
          clear = λ x u k. is_out x (label u) u (l.clear x u k);
          free = λ x k u i. is_out x k u (l.free x k u i);
          listed = λ x d f. let b = back x d f in l.listed x b.0 b.1;
          rises = l.rises;
          distinct = l.distinct;
          below = λ x i. stays_due x i;
        }

    abbrev all : ℕ → Bool
    all x = nat_lt x flow.count

    abbrev others : ℕ → Bool
    others x = nat_lt x flow.count && not (x == t)

    not_itself : (p q : Bool) → q ≡ true → (p && not q) ≡ false
    not_itself true q e = ap not e
    not_itself false q e = refl

    other_due : (x : ℕ) → all x ≡ true → x ≢ t → others x ≡ true
    other_due x d ne = and_from (nat_lt x flow.count) (not (x == t)) d (ap not (ne_eqb x t ne))

    differs_from : (q : Bool) → not q ≡ true → q ≡ false
    differs_from true e = absurd (false≢true e)
    differs_from false e = refl

    not_target : (x : ℕ) → others x ≡ true → x ≢ t
    not_target x d e = false≢true (sym (differs_from (x == t) (and_parts (nat_lt x flow.count) (not (x == t)) d).1) ∙ eq-eqb x t e)

    own_edge : (x n w : ℕ) → in_set into x n w ≡ true → (x ≡ t) × (n ≡ node) × (w ≡ block) → in_set into t node block ≡ true
    own_edge x n w e s =
        subst (λ a. in_set into t node a ≡ true) s.2 (subst (λ a. in_set into t a w ≡ true) s.1
        (subst (λ a. in_set into a n w ≡ true) s.0 e))

    done_next : (over : ℕ → Bool) → ((x : ℕ) → over x ≡ true → in_set into x (label block) block ≡ false) → (x : ℕ) → (over x || (t == x))
        ≡ true → in_set out x (label block) block ≡ false
    done_next over d x o =
        elim (or_cases (over x) (t == x) o) as (λ _. in_set out x (label block) block ≡ false) [
          | inl a ↦ is_out x (label block) block (d x a)
          | inr e ↦ subst (λ y. in_set out y (label block) block ≡ false) (eqb-true t x e) gone_now
        ]

    get_left : (order new : List ℕ) → ListsFree out t order new → slice_get order at ≡ Some block → slice_get new at ≡ Some block
    get_left order new (inl r) g = subst (λ xs. slice_get xs at ≡ Some block) (sym r.0) g
    get_left order new (inr r) g = subst (λ xs. slice_get xs at ≡ Some block) (sym r.0) (get_longer order (t ∷ []) at block g)

    follows : (over : ℕ → Bool) (order new : List ℕ) (f : Bool) → in_set into t node block ≡ f → Follows f out t order new
        → IsPartly flow label first into at block over order → IsPartly flow label first out at block (λ x. over x || (t == x)) new
    follows over order new false e same p =
        record {
          listing = subst (λ xs. IsListing all flow label first out at (at + 1) xs) (sym same)
              (smaller_set all all order p.here p.listing (λ x d f. (
                d,
                (λ k u.
                    elim (cases_Bool (in_set into x k u)) as (λ _. in_set into x k u ≡ false) [
                      | inl y ↦ absurd (false≢true (sym e ∙ own_edge x k u y (was_block x k u y (f k u))))
                      | inr n ↦ n
                    ]),
              )) p.listing.below);
          done = done_next over p.done;
          here = subst (λ xs. slice_get xs at ≡ Some block) (sym same) p.here;
        }
    follows over order new true e next p =
        let l = p.listing in
        let mid = smaller_set all others order p.here l
        (λ x d f. ((and_parts (nat_lt x flow.count) (not (x == t)) d).0, (λ k u. elsewhere x k u (not_target x d) (f k u))))
        (λ x i. other_due x (l.below x i) (λ s. false≢true (sym (l.free x node block i) ∙ subst (λ a. in_set into a node block ≡ true)
        (sym s) e))) in
        let block_of : t < flow.count = b.below block t (h.edges t node block (l.less t node block e)) in
        record {
          listing = lists others all out at (at + 1) order new t mid next (not_itself (nat_lt t flow.count) (t == t) (eq-eqb t t refl))
              (lt-ltb t flow.count block_of)
              (λ x d. (and_parts (nat_lt x flow.count) (not (x == t)) d).0) (λ x d ne. other_due x d ne);
          done = done_next over p.done;
          here = get_left order new next p.here;
        }

  -- ---- a row

  pub row_begun : (at block : ℕ) (into : BTreeSet (ℕ × ℕ × ℕ)) (order : List ℕ) → slice_get order at ≡ Some block → IsListing
      (λ t. nat_lt t flow.count) flow label first into at at order → IsPartly flow label first into at block (λ x. false) order
  row_begun at block into order g l =
      let within = get_within order at block g in
      record {
        listing = record {
          few = omega arith;
          long = omega (arith, within);
          less = l.less;
          gone = λ t u e f. take_more u at (at + 1) order (omega arith) (l.gone t u e f);
          clear = l.clear;
          free = l.free;
          listed = l.listed;
          rises = l.rises;
          distinct = l.distinct;
          below = l.below;
        };
        done = λ t e. absurd (false≢true e);
        here = g;
      }

  -- one target more
  pub row_goes_on : (at block node : ℕ) → node ≡ label block → (into out : BTreeSet (ℕ × ℕ × ℕ)) (row : List ℕ) (k : ℕ) → k < length row
      → ((x n w : ℕ) → in_set out x n w ≡ (if (x == get_or row k 0) && (n == node) && (w == block) then false else in_set into x n w)) →
      (order new : List ℕ)
      → Follows (in_set into (get_or row k 0) node block) out (get_or row k 0) order new
      → IsPartly flow label first into at block (λ x. list_any (λ y. y == x) (take k row)) order → IsPartly flow label first out at block
      (λ x. list_any (λ y. y == x) (take (k + 1) row)) new
  row_goes_on at block node own into out row k lt now order new next p =
      let r = follows at block node own into out (get_or row k 0) now (λ x. list_any (λ y. y == x) (take k row)) order new
      (in_set into (get_or row k 0) node block) refl next p in
      record {
        listing = r.listing;
        done = λ x e. r.done x (sym (list_any_more (λ y. y == x) row k 0 lt) ∙ e);
        here = r.here;
      }

  pub row_ended : (at block : ℕ) (into : BTreeSet (ℕ × ℕ × ℕ)) (row order : List ℕ) → row ≡ flow.next block
      → IsPartly flow label first into at block (λ x. list_any (λ y. y == x) row) order
      → IsListing (λ t. nat_lt t flow.count) flow label first into (at + 1) (at + 1) order
  row_ended at block into row order is p =
      let l = p.listing in
      record {
        few = omega arith;
        long = l.long;
        less = l.less;
        gone = l.gone;
        clear = λ t u k.
            elim (holds_parts ℕ nat_equality u (take at order) (block ∷ [])
            (subst (λ xs. holds nat_eq u xs ≡ true) (ap (λ n. take n order) (add-one at) ∙ take_next order at block p.here) k)) as
            (λ _. in_set into t (label u) u ≡ false) [
              | inl a ↦ l.clear t u a
              | inr o ↦ subst (λ w. in_set into t (label w) w ≡ false) (sym (holds_one ℕ nat_equality u block o)) (cleared t)
            ];
        free = l.free;
        listed = l.listed;
        rises = l.rises;
        distinct = l.distinct;
        below = l.below;
      }
    where
      cleared : (t : ℕ) → in_set into t (label block) block ≡ false
      cleared t =
          elim (cases_Bool (in_set into t (label block) block)) as (λ _. in_set into t (label block) block ≡ false) [
            | inr f ↦ f
            | inl y ↦
                let e = and_parts (nat_lt block flow.count) (list_any (λ x. x == t) (flow.next block))
                (h.edges t (label block) block (p.listing.less t (label block) block y)) in
                p.done t (subst (λ xs. list_any (λ x. x == t) xs ≡ true) (sym is) e.1)
          ]

  -- ---- the end

  pub few_of : (into : BTreeSet (ℕ × ℕ × ℕ)) (n m : ℕ) (order : List ℕ) → IsListing
      (λ t. nat_lt t flow.count) flow label first into n m order → length order ≤ flow.count
  few_of into n m order l = few_below flow.count order l.distinct (λ t k. ltb-true t flow.count (l.below t k))

  pub listed_below : (into : BTreeSet (ℕ × ℕ × ℕ)) (n m : ℕ) (order : List ℕ) → IsListing
      (λ t. nat_lt t flow.count) flow label first into n m order → (at t : ℕ) → slice_get order at ≡ Some t → t < flow.count
  listed_below into n m order l at t g = ltb-true t flow.count (l.below t (holds_at ℕ nat_equality order at t g))

  pub nearer : (into : BTreeSet (ℕ × ℕ × ℕ)) (n m : ℕ) (order : List ℕ) → IsListing
      (λ t. nat_lt t flow.count) flow label first into n m order → (at : ℕ) → at < length order → flow.count - (at + 1) < flow.count - at
  nearer into n m order l at lt = let few = few_of into n m order l in omega (arith, lt, few)

  pub all_over : (into : BTreeSet (ℕ × ℕ × ℕ)) (at : ℕ) (order : List ℕ) → IsListing
      (λ t. nat_lt t flow.count) flow label first into at at order → length order ≤ at → IsListing
      (λ t. nat_lt t flow.count) flow label first into (length order) (length order) order
  all_over into at order l le =
      let long = l.long in
      let e : at ≡ length order = omega (arith, long, le) in
      subst (λ k. IsListing (λ t. nat_lt t flow.count) flow label first into k k order) e l

  module _ (into : BTreeSet (ℕ × ℕ × ℕ)) (order : List ℕ) (l : IsListing (λ t. nat_lt t flow.count) flow label first into (length order)
      (length order) order) where
    abbrev closed : ℕ → ℕ → Bool
    closed u x = edge flow u x && not (in_set first x (label u) u)

    pub every_listed : flow.count ≤ length order → (t : ℕ) → t < flow.count → holds nat_eq t order ≡ true
    every_listed many t lt =
        elim (cases_Bool (holds nat_eq t order)) as (λ _. holds nat_eq t order ≡ true) [
          | inl y ↦ y
          | inr f ↦
              let le : suc (length order) ≤ flow.count =
              few_below flow.count (t ∷ order) (f, l.distinct) (λ x k.
              elim (or_cases (nat_eq x t) (holds nat_eq x order) k) as (λ _. x < flow.count) [
                | inl a ↦ subst (λ y. y < flow.count) (sym (eqb-true x t a)) lt
                | inr o ↦ ltb-true x flow.count (l.below x o)
              ]) in
              absurd (omega (arith, le, many))
        ]

    still_open : (e i : Bool) → e ≡ true → (e && not i) ≡ false → i ≡ true
    still_open true true p q = refl
    still_open true false p q = sym q
    still_open false i p q = absurd (false≢true p)

    pub rises_open : flow.count ≤ length order → RisesOpen flow closed (λ x. place x order)
    rises_open many u v s =
        let block = b.below u v s.0 in
        let here = every_listed many v block in
        let known = still_open (edge flow u v) (in_set first v (label u) u) s.0 s.1 in
        place_before u (place v order) order (l.rises (place v order) v u (at_place v order here) known)

    numbers_distinct : (n : ℕ) → Distinct nat_eq (numbers n)
    numbers_distinct zero = tt
    numbers_distinct (suc n) = (
      elim (cases_Bool (holds nat_eq n (numbers n))) as (λ _. holds nat_eq n (numbers n) ≡ false) [
        | inl y ↦ let r = numbers_below n n y in absurd (omega (arith, r))
        | inr f ↦ f
      ],
      numbers_distinct n,
    )

    is_not : (q : Bool) → not q ≡ false → q ≡ true
    is_not true e = refl
    is_not false e = absurd (false≢true (sym e))

    isnt : (q : Bool) → not q ≡ true → q ≡ false
    isnt true e = absurd (false≢true e)
    isnt false e = refl

    no_longer : (e i : Bool) → i ≡ true → (e && not i) ≡ false
    no_longer true i p = ap not p
    no_longer false i p = refl

    -- what isn't listed has an open edge from what isn't listed
    back : (x : ℕ) → holds nat_eq x (passing (λ t. not (holds nat_eq t order)) flow.count) ≡ true
        → (y : ℕ) × (holds nat_eq y (passing (λ t. not (holds nat_eq t order)) flow.count) ≡ true) × stays (leads (edge flow)) closed y x
    back x k =
        let a = passing_are (λ t. not (holds nat_eq t order)) x flow.count k in
        elim (all_or_one (λ u. not (in_set into x (label u) u)) flow.count) as
        (λ _. (y : ℕ) × (holds nat_eq y (passing (λ t. not (holds nat_eq t order)) flow.count) ≡ true) × stays
        (leads (edge flow)) closed y x) [
          | inl none ↦
              let free : (n u : ℕ) → in_set into x n u ≡ false = (λ n u.
              elim (cases_Bool (in_set into x n u)) as (λ _. in_set into x n u ≡ false) [
                | inr f ↦ f
                | inl y ↦
                    let old = l.less x n u y in
                    let s = source_small x n u old in
                    let block = (and_parts (nat_lt u flow.count) (list_any (λ z. z == x) (flow.next u)) (h.edges x n u old)).0 in
                    absurd (false≢true (sym (isnt (in_set into x (label u) u) (none u (ltb-true u flow.count block))) ∙ subst
                    (λ z. in_set into x z u ≡ true) s.2 y))
              ]) in
              absurd (false≢true (sym (isnt (holds nat_eq x order) a.1) ∙ l.listed x (lt-ltb x flow.count a.0) free))
          | inr u ↦
              let held = is_not (in_set into x (label u.0) u.0) u.2 in
              let old = l.less x (label u.0) u.0 held in
              let out : holds nat_eq u.0 order ≡ false =
              elim (cases_Bool (holds nat_eq u.0 order)) as (λ _. holds nat_eq u.0 order ≡ false) [
                | inr f ↦ f
                | inl y ↦ absurd (false≢true (sym (l.clear x u.0 (subst (λ xs. holds nat_eq u.0 xs ≡ true)
                    (sym (take_all (length order) order (omega arith))) y)) ∙ held))
              ] in (
                u.0,
                passing_all (λ t. not (holds nat_eq t order)) u.0 flow.count u.1 (ap not out),
                (h.edges x (label u.0) u.0 old, no_longer (edge flow u.0 x) (in_set first x (label u.0) u.0) old),
              )
        ]

    pub open_cycle : length order < flow.count → IsIrreducible flow closed
    open_cycle less =
        elim (all_or_one (λ t. holds nat_eq t order) flow.count) as (λ _. IsIrreducible flow closed) [
          | inl all ↦
              let le = no_more ℕ nat_equality (numbers flow.count) order (numbers_distinct flow.count)
              (λ t k. all t (numbers_below t flow.count k)) in
              let n = numbers_length flow.count in
              absurd (omega (arith, le, n, less))
          | inr t ↦
              back_steps_make_a_cycle ℕ nat_equality (stays (leads (edge flow)) closed) t.0
              (passing (λ t. not (holds nat_eq t order)) flow.count)
              (passing_all (λ t. not (holds nat_eq t order)) t.0 flow.count t.1 (ap not t.2)) back
        ]
