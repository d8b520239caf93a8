-- Nodes of one block each.
use Rattle.std.proofs.Common.{◌≡◌, refl, sym, ap, ◌∙◌, subst, ℕ, ◌+◌, ◌<◌, ◌≤◌, ◌⊎◌, inl, inr, Bool, true, false, List, [], ◌∷◌, ◌++◌}
use Rattle.std.proofs.Common.{length, take, get_or, arith}
use Rattle.std.specs.Prelude.{◌≢◌, ◌&&◌, ◌||◌, not, ◌==◌, nat_lt, if◌then◌else◌, cond}
use Rattle.std.specs.List.{list_any}
use Rattle.std.specs.BTreeMap.{is_at}
use Rattle.std.specs.Ordering.{nat_cmp}
use Rattle.std.specs.BTreeSet as tree
use Rattle.std.specs.BTreeSet.{BTreeSet}
use Rattle.std.proofs.lemmas.Bool.{cases_eq, cases_Bool, and_parts, eq-eqb, ne_eqb, cond-true, cond-false, false_from_ne_true}
use Rattle.std.proofs.lemmas.Bool.Decides.{nat_tests}
use Rattle.std.proofs.lemmas.List.{get_or_append_left}
use Rattle.std.proofs.lemmas.List.Folds.{list_any_more}
use Rattle.std.proofs.lemmas.Option.{unwrap_or-slice_get}
use Rattle.std.proofs.Math.Seq.{get_or-append_seam}
use Rattle.graph_search.specs.Flows.{Flow, edge, IsBounded}
use Rattle.graph_reduction.specs.Nodes.{number_in, state_of, AreReady, AreNodes, Refreshes}
use Rattle.graph_reduction.specs.Reduction.{State, start, fits_one, fits_two}
use Rattle.graph_reduction.specs.Sets.{edge_cmp, in_set}
use Rattle.graph_reduction.specs.FirstNodes.{AreOwn, FirstEdges, FirstMembers, row_added}
use Rattle.graph_reduction.proofs.AdvanceLemmas.{one_under, two_under}
use Rattle.graph_reduction.proofs.MemberLemmas.{past_end}
use Rattle.graph_reduction.proofs.MoveLemmas.{edge_at}

apart_or_at : (w n : ℕ) → (w < n) ⊎ ((w ≡ n) ⊎ (n + 1 ≤ w))
apart_or_at w n = grind arith

length_more : (xs : List ℕ) (x : ℕ) → length (xs ++ x ∷ []) ≡ length xs + 1
length_more [] x = omega arith
length_more (y ∷ xs) x = let r = length_more xs x in omega (arith, r)

-- one place more
pub own_more : (n : ℕ) (xs ys : List ℕ) → AreOwn n xs → ys ≡ xs ++ n ∷ [] → AreOwn (n + 1) ys
own_more n xs ys h e =
    record {
      size = ap (λ (zs : List ℕ). length zs) e ∙ (length_more xs n ∙ ap (λ m. m + 1) h.size);
      at = λ w.
          elim (apart_or_at w n) as (λ _. number_in ys w ≡ w) [
            | inl l ↦
                let size = h.size in
                ap (λ (zs : List ℕ). number_in zs w) e ∙ (unwrap_or-slice_get (xs ++ n ∷ []) w w
                ∙ (get_or_append_left xs (n ∷ []) w w (omega (arith, l, size)) ∙ (sym (unwrap_or-slice_get xs w w) ∙ h.at w)))
            | inr rest ↦
                elim rest as (λ _. number_in ys w ≡ w) [
                  | inl is ↦
                      ap (λ (zs : List ℕ). number_in zs w) e ∙ (unwrap_or-slice_get (xs ++ n ∷ []) w w
                      ∙ (ap (λ i. get_or (xs ++ n ∷ []) i w) (is ∙ sym h.size) ∙ (get_or-append_seam xs n [] w ∙ sym is)))
                  | inr p ↦
                      let size = h.size in
                      let more = length_more xs n in
                      ap (λ (zs : List ℕ). number_in zs w) e ∙ past_end (xs ++ n ∷ []) w (omega (arith, p, size, more))
                ]
          ];
    }

pub own_none : (xs : List ℕ) → xs ≡ [] → AreOwn 0 xs
own_none xs e = record {
  size = ap (λ (zs : List ℕ). length zs) e;
  at = λ w. ap (λ (zs : List ℕ). number_in zs w) e ∙ past_end [] w
      (omega arith);
}

-- ---- edges of a row

eq_turned : (n b : ℕ) → (n == b) ≡ (b == n)
eq_turned n b = grind (arith, nat_tests)

one_or : (a b c d e : Bool) → cond (a && b && c) true ((d && b && c) || e) ≡ (((d || a) && b && c) || e)
one_or true true true true e = refl
one_or true true true false e = refl
one_or true true false d e = both_none d (d || true) e
  where
    both_none : (d f e : Bool) → ((d && true && false) || e) ≡ ((f && true && false) || e)
    both_none true true e = refl
    both_none true false e = refl
    both_none false true e = refl
    both_none false false e = refl
one_or true false c d e = both_none d (d || true) c e
  where
    both_none : (d f c e : Bool) → ((d && false && c) || e) ≡ ((f && false && c) || e)
    both_none true true c e = refl
    both_none true false c e = refl
    both_none false true c e = refl
    both_none false false c e = refl
one_or false b c true e = refl
one_or false b c false e = refl

pub row_more : (old l m : BTreeSet (ℕ × ℕ × ℕ)) (row : List ℕ) (k i : ℕ) → k < length row
    → ((t n u : ℕ) → in_set l t n u ≡ row_added (take k row) i (in_set old) t n u)
    → ((q : ℕ × ℕ × ℕ) → tree.contains edge_cmp m q ≡ cond (is_at (edge_cmp (get_or row k 0, i, i)) q) true (tree.contains edge_cmp l q))
    → (t n u : ℕ) → in_set m t n u ≡ row_added (take (k + 1) row) i (in_set old) t n u
row_more old l m row k i lt before into t n u =
    into (t, n, u) ∙ (ap (λ b. cond b true (in_set l t n u)) (edge_at (get_or row k 0) i i t n u)
    ∙ (ap (λ b. cond ((t == get_or row k 0) && (n == i) && (u == i)) true b) (before t n u)
    ∙ (one_or (t == get_or row k 0) (n == i) (u == i) (list_any (λ y. y == t) (take k row)) (in_set old t n u)
    ∙ ap (λ b. (b && (n == i) && (u == i)) || in_set old t n u) (ap (λ b. list_any (λ y. y == t) (take k row) || b)
    (eq_turned t (get_or row k 0)) ∙ sym (list_any_more (λ y. y == t) row k 0 lt)))))

below_more : (u i : ℕ) → u ≢ i → nat_lt u (i + 1) ≡ nat_lt u i
below_more u i ne = grind (arith, nat_tests)

not_below : (i : ℕ) → nat_lt i i ≡ false
not_below i = grind (arith, nat_tests)

is_below : (i : ℕ) → nat_lt i (i + 1) ≡ true
is_below i = grind (arith, nat_tests)

or_first : (a b c d e : Bool) → ((a && b && true) || (false && d && e)) ≡ (true && a && b)
or_first true true c d e = refl
or_first true false c d e = refl
or_first false true c d e = refl
or_first false false c d e = refl

no_third : (a b e : Bool) → ((a && b && false) || e) ≡ e
no_third true true e = refl
no_third true false e = refl
no_third false true e = refl
no_third false false e = refl

pub edges_more : (flow : Flow) (i : ℕ) (old new : BTreeSet (ℕ × ℕ × ℕ)) (row : List ℕ) → row ≡ flow.next i → FirstEdges flow i old
    → ((t n u : ℕ) → in_set new t n u ≡ row_added row i (in_set old) t n u) → FirstEdges flow (i + 1) new
edges_more flow i old new row is h now t n u =
    elim (cases_eq u i) as (λ _. in_set new t n u ≡ (nat_lt u (i + 1) && list_any (λ y. y == t) (flow.next u) && (u == n))) [
      | inl e ↦
          subst (λ (y : ℕ). in_set new t n y ≡ (nat_lt y (i + 1) && list_any (λ z. z == t) (flow.next y) && (y == n))) (sym e)
          (now t n i
          ∙ (ap (λ b. (list_any (λ y. y == t) row && (n == i) && (i == i)) || b) (h t n i)
          ∙ (ap (λ b. (list_any (λ y. y == t) row && (n == i) && b) || (nat_lt i i && list_any (λ y. y == t) (flow.next i) && (i == n)))
          (eq-eqb i i refl)
          ∙ (ap (λ b. (list_any (λ y. y == t) row && (n == i) && true) || (b && list_any (λ y. y == t) (flow.next i) && (i == n)))
          (not_below i)
          ∙ (or_first (list_any (λ y. y == t) row) (n == i) true (list_any (λ y. y == t) (flow.next i)) (i == n)
          ∙ (ap (λ b. b && list_any (λ y. y == t) row && (n == i)) (sym (is_below i))
          ∙ (ap (λ (xs : List ℕ). nat_lt i (i + 1) && list_any (λ y. y == t) xs && (n == i)) is
          ∙ ap (λ b. nat_lt i (i + 1) && list_any (λ y. y == t) (flow.next i) && b) (eq_turned n i))))))))
      | inr ne ↦
          now t n u
          ∙ (ap (λ b. (list_any (λ y. y == t) row && (n == i) && b) || in_set old t n u) (ne_eqb u i ne)
          ∙ (no_third (list_any (λ y. y == t) row) (n == i) (in_set old t n u)
          ∙ (h t n u ∙ ap (λ b. b && list_any (λ y. y == t) (flow.next u) && (u == n)) (sym (below_more u i ne)))))
    ]

member_bits : (a b : Bool) → cond (a && true && b) true (false && a && b) ≡ (true && a && b)
member_bits true true = refl
member_bits true false = refl
member_bits false true = refl
member_bits false false = refl

pub members_more : (i : ℕ) (old new : BTreeSet (ℕ × ℕ × ℕ)) → FirstMembers i old
    → ((q : ℕ × ℕ × ℕ) → tree.contains edge_cmp new q ≡ cond (is_at (edge_cmp (i, i, 0)) q) true (tree.contains edge_cmp old q))
    → FirstMembers (i + 1) new
members_more i old new h into n u w =
    let both : in_set new n u w ≡ cond ((n == i) && (u == i) && (w == 0)) true (nat_lt u i && (u == n) && (w == 0)) =
    into (n, u, w) ∙ (ap (λ b. cond b true (in_set old n u w)) (edge_at i i 0 n u w) ∙ ap
    (λ b. cond ((n == i) && (u == i) && (w == 0)) true b) (h n u w)) in
    both ∙ elim (cases_eq u i) as (λ _. cond ((n == i) && (u == i) && (w == 0)) true (nat_lt u i && (u == n) && (w == 0)) ≡
    (nat_lt u (i + 1) && (u == n) && (w == 0))) [
      | inl e ↦
          subst (λ (y : ℕ). cond ((n == i) && (y == i) && (w == 0)) true (nat_lt y i && (y == n) && (w == 0)) ≡
          (nat_lt y (i + 1) && (y == n) && (w == 0))) (sym e)
          (ap (λ b. cond ((n == i) && b && (w == 0)) true (nat_lt i i && (i == n) && (w == 0))) (eq-eqb i i refl)
          ∙ (ap (λ b. cond ((n == i) && true && (w == 0)) true (b && (i == n) && (w == 0))) (not_below i)
          ∙ (ap (λ b. cond ((n == i) && true && (w == 0)) true (false && b && (w == 0))) (eq_turned i n)
          ∙ (member_bits (n == i) (w == 0)
          ∙ (ap (λ b. b && (n == i) && (w == 0)) (sym (is_below i)) ∙ ap (λ b. nat_lt i (i + 1) && b && (w == 0)) (eq_turned n i))))))
      | inr ne ↦
          ap (λ b. cond ((n == i) && b && (w == 0)) true (nat_lt u i && (u == n) && (w == 0))) (ne_eqb u i ne)
          ∙ (none_of (n == i) (w == 0) (nat_lt u i && (u == n) && (w == 0)) ∙ ap (λ b. b && (u == n) && (w == 0)) (sym (below_more u i ne)))
    ]
  where
    none_of : (a b c : Bool) → cond (a && false && b) true c ≡ c
    none_of true b c = refl
    none_of false b c = refl

-- ---- the nodes at the start

same_twice : (e : Bool) → (e && not e) ≡ false
same_twice true = refl
same_twice false = refl

and_one : (b : Bool) → (b && true) ≡ b
and_one true = refl
and_one false = refl

module _ (flow : Flow) (b : IsBounded flow) (L O : List ℕ) (M I : BTreeSet (ℕ × ℕ × ℕ)) (l : AreOwn flow.count L) (o : AreOwn flow.count O)
    (m : FirstMembers flow.count M) (h : FirstEdges flow flow.count I) where
  abbrev s : State
  s = state_of flow (number_in L) (number_in O) I

  own_edge : (t u : ℕ) → in_set I t (number_in L u) u ≡ edge flow u t
  own_edge t u = ap (λ n. in_set I t n u) (l.at u) ∙ (h t u u ∙ (ap (λ c. edge flow u t && c) (eq-eqb u u refl) ∙ and_one (edge flow u t)))

  pub ready_start : AreReady flow (number_in L) (number_in O) I
  ready_start =
      record {
        bounded = b;
        held =
            record {
              edges = λ t n u i. (and_parts (edge flow u t) (u == n) (sym (h t n u) ∙ i)).0;
              exact = λ t n u. h t n u ∙ (ap (λ c. c && (u == n)) (sym (own_edge t u)) ∙ ap (λ y. in_set I t (number_in L u) u && (y == n))
                  (sym (l.at u)));
            };
        numbers =
            record {
              labels = λ u lt. subst (λ n. n < flow.count) (sym (l.at u)) lt;
              owners = λ n lt. subst (λ m. m < flow.count) (sym (o.at n)) lt;
              back = λ w. ap (number_in L) (o.at (number_in L w)) ∙ l.at (number_in L w);
            };
      }

  pub state_start : s ≡ start
  state_start =
      λ i. record {
        head = λ x. (o.at (number_in L x) ∙ l.at x) i;
        closed = λ u x.
            (ap (λ c. edge flow u x && not c) (own_edge x u) ∙ same_twice (edge flow u x)) i;
      }

  pub nodes_start : (ones ones' twos twos' : BTreeSet ℕ) → ((q : ℕ) → tree.contains nat_cmp ones q ≡ false) →
      ((q : ℕ) → tree.contains nat_cmp twos q ≡ false)
      → Refreshes flow s (λ q. nat_lt q flow.count) ones ones' twos twos' → AreNodes flow L O M I ones' twos'
  nodes_start ones ones' twos twos' no_one no_two f =
      record {
        label_size = l.size;
        owner_size = o.size;
        ready = ready_start;
        here = λ n u w. m n u w ∙ ap (λ y. nat_lt u flow.count && (y == n) && (w == 0)) (sym (l.at u));
        tested =
            record {
              one = λ q. f.one q ∙ outside q (fits_one flow s q) (tree.contains nat_cmp ones q) (no_one q) (one_under flow s b q);
              two = λ q. f.two q ∙ outside q (fits_two flow s q) (tree.contains nat_cmp twos q) (no_two q) (two_under flow s b q);
            };
      }
    where
      below : (q n : ℕ) → nat_lt q n ≡ false → q < n → ⊥
      below q n e lt = grind (arith, nat_tests)

      outside : (q : ℕ) (t c : Bool) → c ≡ false → (t ≡ true → q < flow.count) → (if nat_lt q flow.count then t else c) ≡ t
      outside q t c none under =
          elim (cases_Bool (nat_lt q flow.count)) as (λ _. (if nat_lt q flow.count then t else c) ≡ t) [
            | inl y ↦ cond-true (nat_lt q flow.count) t c y
            | inr n ↦ cond-false (nat_lt q flow.count) t c n ∙ (none ∙ sym (false_from_ne_true t (λ p. below q flow.count n (under p))))
          ]

none_below_zero : (q : ℕ) → nat_lt q 0 ≡ false
none_below_zero q = grind (arith, nat_tests)

pub tests_begin : (flow : Flow) (s : State) (o o' : BTreeSet ℕ) → Refreshes flow s (λ q. nat_lt q 0) o o o' o'
tests_begin flow s o o' =
    record {
      one = λ q. sym (cond-false (nat_lt q 0) (fits_one flow s q) (tree.contains nat_cmp o q) (none_below_zero q));
      two = λ q. sym (cond-false (nat_lt q 0) (fits_two flow s q) (tree.contains nat_cmp o' q) (none_below_zero q));
    }

pub below_or_at : (q i : ℕ) → nat_lt q (i + 1) ≡ (nat_lt q i || (q == i))
below_or_at q i = grind (arith, nat_tests)

pub none_in : (s : BTreeSet ℕ) → s.keys ≡ [] → (q : ℕ) → tree.contains nat_cmp s q ≡ false
none_in s e q = ap (λ (ks : List ℕ). list_any (is_at (nat_cmp q)) ks) e
