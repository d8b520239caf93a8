-- FoundPoints of points are added as the points are.
use Rattle.std.proofs.Common.{Result, Ok, Err, ◌≡◌, refl, sym, ap, ◌∙◌, subst, ℕ, suc, ◌+◌, ◌<◌, inl, inr, Bool, true, false, List, [], ◌∷◌}
use Rattle.std.proofs.Common.{◌++◌, length, get_or, arith}
use Rattle.std.specs.Prelude.{OnOk, Contains, Some, slice_get, cond, ◌&&◌, ◌||◌, ◌==◌}
use Rattle.std.specs.Str.{bytes_eq}
use Rattle.std.specs.BTreeMap.{is_at}
use Rattle.std.specs.BTreeSet as tree
use Rattle.std.specs.BTreeSet.{BTreeSet}
use Rattle.std.proofs.lemmas.Bool.{cases_Bool, or_left, or_right, cond-true, cond-false, false≢true, eqb-true, eq-eqb}
use Rattle.std.proofs.lemmas.List.{map-append, length-append, get_or_append_left}
use Rattle.std.proofs.lemmas.Option.{slice_get-get_or, get_or_from_slice_get}
use Rattle.graph_search.specs.NodeLists.{Equality, holds, Distinct, added, added_all}
use Rattle.graph_search.proofs.ListLemmas.{holds_one, holds_parts, distinct_all, all_go_on, kept_by_all, holds_all}
use Rattle.std.proofs.lemmas.List.Elements.{Contains-push_cases}
use Rattle.graph_search.proofs.SearchLemmas.{holds_at}
use Rattle.function_points.specs.Steps.{point_if}
use Rattle.control_flow.specs.Points.{last_return, without_last}
use Rattle.control_flow.specs.Points.{Point}
use Rattle.function_points.specs.Contexts.{pair_cmp}
use Rattle.function_points.specs.PointLists.{pair_eq, point_eq, point_at, points_at, AreHeld, AreUsed}
use Rattle.function_points.proofs.ContextLemmas.{list_equality, one_place, pair_at, and_both}

pub both : (x y : Bool) → x ≡ true → y ≡ true → (x && y) ≡ true
both x y e f = cc

abbrev pub pair_equality : Equality (ℕ × ℕ)
pair_equality = record {
  same = pair_eq;
  exact = λ a b e. let p = and_both (a.0 == b.0) (a.1 == b.1) e in ap (λ z. (z, a.1)) (eqb-true a.0 b.0 p.0) ∙ ap (λ z. (b.0, z))
      (eqb-true a.1 b.1 p.1);
  itself = λ a. both (a.0 == a.0) (a.1 == a.1) (eq-eqb a.0 a.0 refl) (eq-eqb a.1 a.1 refl);
}

abbrev pub point_equality : Equality Point
point_equality = record {
  same = point_eq;
  exact = λ p q e. let t = and_both (bytes_eq p.returns q.returns) (p.address == q.address) e in
      ap (λ z. record { returns = z; address = p.address }) (list_equality.exact p.returns q.returns t.0) ∙ ap
      (λ z. record { returns = q.returns; address = z }) (eqb-true p.address q.address t.1);
  itself = λ p. both (bytes_eq p.returns p.returns) (p.address == p.address) (list_equality.itself p.returns)
      (eq-eqb p.address p.address refl);
}

-- ---- a set of pairs

same_key : (p x : ℕ × ℕ) → is_at (pair_cmp p) x ≡ pair_eq x p
same_key p x = pair_at p.0 p.1 x.0 x.1

one_last : (a : Bool) → (a || false) ≡ cond a true false
one_last true = refl
one_last false = refl

one_before : (a b c : Bool) → (a || cond b true c) ≡ cond b true (a || c)
one_before true true c = refl
one_before true false c = refl
one_before false true c = refl
one_before false false c = refl

holds_push : (x p : ℕ × ℕ) (xs : List (ℕ × ℕ)) → holds pair_eq x (xs ++ p ∷ []) ≡ cond (pair_eq x p) true (holds pair_eq x xs)
holds_push x p [] = one_last (pair_eq x p)
holds_push x p (y ∷ xs) = ap (λ b. pair_eq x y || b) (holds_push x p xs) ∙ one_before (pair_eq x y) (pair_eq x p) (holds pair_eq x xs)

pub pushed_pairs : (s n : BTreeSet (ℕ × ℕ)) (xs ys : List (ℕ × ℕ)) (p : ℕ × ℕ) → ys ≡ xs ++ p ∷ [] →
    ((q : ℕ × ℕ) → tree.contains pair_cmp s q ≡ holds pair_eq q xs)
    → ((q : ℕ × ℕ) → tree.contains pair_cmp n q ≡ cond (is_at (pair_cmp p) q) true (tree.contains pair_cmp s q)) → (q : ℕ × ℕ)
    → tree.contains pair_cmp n q ≡ holds pair_eq q ys
pushed_pairs s n xs ys p e h u q =
    u q ∙ (ap (λ b. cond b true (tree.contains pair_cmp s q)) (same_key p q) ∙ (ap (λ b. cond (pair_eq q p) true b) (h q)
    ∙ (sym (holds_push q p xs) ∙ ap (holds pair_eq q) (sym e))))

-- ---- pairs and their points

module _ (ls : List (List ℕ)) (distinct : Distinct bytes_eq ls) where
  one_context : (a b : ℕ) → a < length ls → b < length ls → get_or ls a [] ≡ get_or ls b [] → a ≡ b
  one_context a b l m e = one_place list_equality ls a b (get_or ls b []) distinct (slice_get-get_or ls a [] l ∙ ap Some e)
      (slice_get-get_or ls b [] m)

  same_point : (x y : ℕ × ℕ) → x.0 < length ls → y.0 < length ls → point_eq (point_at ls x) (point_at ls y) ≡ true → pair_eq x y ≡ true
  same_point x y l m e =
      let t = and_both (bytes_eq (get_or ls x.0 []) (get_or ls y.0 [])) (x.1 == y.1) e in
      both (x.0 == y.0) (x.1 == y.1) (eq-eqb x.0 y.0 (one_context x.0 y.0 l m
      (list_equality.exact (get_or ls x.0 []) (get_or ls y.0 []) t.0))) t.1

  tests_agree : (x y : ℕ × ℕ) → x.0 < length ls → y.0 < length ls → point_eq (point_at ls x) (point_at ls y) ≡ pair_eq x y
  tests_agree x y l m =
      elim (cases_Bool (pair_eq x y)) as (λ _. point_eq (point_at ls x) (point_at ls y) ≡ pair_eq x y) [
        | inl t ↦ subst (λ z. point_eq (point_at ls x) (point_at ls z) ≡ true) (pair_equality.exact x y t)
            (point_equality.itself (point_at ls x)) ∙ sym t
        | inr f ↦
            elim (cases_Bool (point_eq (point_at ls x) (point_at ls y))) as (λ _. point_eq (point_at ls x) (point_at ls y) ≡ pair_eq x y) [
              | inl t ↦ absurd (false≢true (sym f ∙ same_point x y l m t))
              | inr g ↦ g ∙ sym f
            ]
      ]

  pub holds_agree : (x : ℕ × ℕ) (ns : List (ℕ × ℕ)) → x.0 < length ls → ((n : ℕ × ℕ) → holds pair_eq n ns ≡ true → n.0 < length ls)
      → holds point_eq (point_at ls x) (points_at ls ns) ≡ holds pair_eq x ns
  holds_agree x [] l u = refl
  holds_agree x (n ∷ ns) l u =
      ap (λ b. b || holds point_eq (point_at ls x) (points_at ls ns)) (tests_agree x n l
      (u n (or_left (pair_eq n n) (holds pair_eq n ns) (pair_equality.itself n))))
      ∙ ap (λ b. pair_eq x n || b) (holds_agree x ns l (λ m h. u m (or_right (pair_eq m n) (holds pair_eq m ns) h)))

  pub points_added : (x : ℕ × ℕ) (ns : List (ℕ × ℕ)) → x.0 < length ls → ((n : ℕ × ℕ) → holds pair_eq n ns ≡ true → n.0 < length ls)
      → points_at ls (added pair_eq ns x) ≡ added point_eq (points_at ls ns) (point_at ls x)
  points_added x ns l u =
      let agree = holds_agree x ns l u in
      elim (cases_Bool (holds pair_eq x ns)) as (λ _. points_at ls (added pair_eq ns x) ≡ added point_eq (points_at ls ns)
      (point_at ls x)) [
        | inl t ↦
            ap (points_at ls) (cond-true (holds pair_eq x ns) ns (ns ++ x ∷ []) t)
            ∙ sym (cond-true (holds point_eq (point_at ls x) (points_at ls ns)) (points_at ls ns) (points_at ls ns ++ point_at ls x ∷ [])
            (agree ∙ t))
        | inr f ↦
            ap (points_at ls) (cond-false (holds pair_eq x ns) ns (ns ++ x ∷ []) f) ∙ map-append (point_at ls) ns (x ∷ [])
            ∙ sym (cond-false (holds point_eq (point_at ls x) (points_at ls ns)) (points_at ls ns) (points_at ls ns ++ point_at ls x ∷ [])
            (agree ∙ f))
      ]

under_added : (k : ℕ) (x : ℕ × ℕ) (ns : List (ℕ × ℕ)) → x.0 < k → ((n : ℕ × ℕ) → holds pair_eq n ns ≡ true → n.0 < k) → (n : ℕ × ℕ)
    → holds pair_eq n (added pair_eq ns x) ≡ true → n.0 < k
under_added k x ns l u n h =
    elim (cases_Bool (holds pair_eq x ns)) as (λ _. n.0 < k) [
      | inl t ↦ u n (subst (λ ys. holds pair_eq n ys ≡ true) (cond-true (holds pair_eq x ns) ns (ns ++ x ∷ []) t) h)
      | inr f ↦
          elim (holds_parts (ℕ × ℕ) pair_equality n ns (x ∷ []) (subst (λ ys. holds pair_eq n ys ≡ true)
          (cond-false (holds pair_eq x ns) ns (ns ++ x ∷ []) f) h)) as (λ _. n.0 < k) [
            | inl a ↦ u n a
            | inr b ↦ subst (λ z. z.0 < k) (sym (holds_one (ℕ × ℕ) pair_equality n x b)) l
          ]
    ]

pub held_added : (ls : List (List ℕ)) (ns ms : List (ℕ × ℕ)) (x : ℕ × ℕ) → AreHeld ls ns → x.0 < length ls → ms ≡ added pair_eq ns x
    → AreHeld ls ms
held_added ls ns ms x a l e = record {
  distinct = a.distinct;
  under = subst
      (λ ys. (n : ℕ × ℕ) → holds pair_eq n ys ≡ true → n.0 < length ls) (sym e) (under_added (length ls) x ns l a.under);
}

pub points_with : (ls : List (List ℕ)) (ns ms : List (ℕ × ℕ)) (x : ℕ × ℕ) → AreHeld ls ns → x.0 < length ls → ms ≡ added pair_eq ns x
    → points_at ls ms ≡ added point_eq (points_at ls ns) (point_at ls x)
points_with ls ns ms x a l e = ap (points_at ls) e ∙ points_added ls a.distinct x ns l a.under

-- ---- a list of open calls more moves no point

points_stay : (ls more : List (List ℕ)) (ns : List (ℕ × ℕ)) → ((n : ℕ × ℕ) → holds pair_eq n ns ≡ true → n.0 < length ls) → points_at
    (ls ++ more) ns ≡ points_at ls ns
points_stay ls more [] u = refl
points_stay ls more (n ∷ ns) u =
    ap (λ z. record { returns = z; address = n.1 } ∷ points_at (ls ++ more) ns)
    (get_or_append_left ls more [] n.0 (u n (or_left (pair_eq n n) (holds pair_eq n ns) (pair_equality.itself n))))
    ∙ ap (λ zs. point_at ls n ∷ zs) (points_stay ls more ns (λ m h. u m (or_right (pair_eq m n) (holds pair_eq m ns) h)))

pub held_more : (ls new : List (List ℕ)) (x : List ℕ) (ns : List (ℕ × ℕ)) → AreHeld ls ns → new ≡ added bytes_eq ls x → AreHeld new ns ×
    (points_at new ns ≡ points_at ls ns)
held_more ls new x ns a e =
    let go = all_go_on (List ℕ) list_equality ls (x ∷ []) in
    let whole : new ≡ ls ++ go.0 = e ∙ go.1 in
    let long : length new ≡ length ls + length go.0 = ap length whole ∙ length-append ls go.0 in (
      record {
        distinct = subst (Distinct bytes_eq) (sym e) (distinct_all (List ℕ) list_equality ls (x ∷ []) a.distinct);
        under = λ n h. let l = a.under n h in omega (arith, l, long);
      },
      ap (λ zs. points_at zs ns) whole ∙ points_stay ls go.0 ns a.under,
    )

pub points_entered : (ls new : List (List ℕ)) (ns : List (ℕ × ℕ)) (x : List ℕ) (k a : ℕ) → AreHeld ls ns → new ≡ added bytes_eq ls x
    → slice_get new k ≡ Some x → added point_eq (points_at new ns) (point_at new (k, a)) ≡ added point_eq (points_at ls ns)
    (record { returns = x; address = a })
points_entered ls new ns x k a h e at =
    ap (λ zs. added point_eq zs (point_at new (k, a))) (held_more ls new x ns h e).1 ∙ ap
    (λ z. added point_eq (points_at ls ns) (record { returns = z; address = a })) (get_or_from_slice_get new k x [] at)

pub points_length : (ls : List (List ℕ)) (ns : List (ℕ × ℕ)) → length (points_at ls ns) ≡ length ns
points_length ls [] = refl
points_length ls (n ∷ ns) = ap suc (points_length ls ns)

pub many_points : (ls : List (List ℕ)) (ns ms : List (ℕ × ℕ)) (x : ℕ × ℕ) (most : ℕ) → AreHeld ls ns → x.0 < length ls → ms
    ≡ added pair_eq ns x → most < length ms → most < length (added point_eq (points_at ls ns) (point_at ls x))
many_points ls ns ms x most a l e m = subst (λ k. most < k) (sym (points_length ls ms) ∙ ap length (points_with ls ns ms x a l e)) m

pub kept_list : (ls new : List (List ℕ)) (x : List ℕ) (k : ℕ) → new ≡ added bytes_eq ls x → k < length ls → (k < length new) ×
    (get_or new k [] ≡ get_or ls k [])
kept_list ls new x k e l =
    let go = all_go_on (List ℕ) list_equality ls (x ∷ []) in
    let whole : new ≡ ls ++ go.0 = e ∙ go.1 in
    let long : length new ≡ length ls + length go.0 = ap length whole ∙ length-append ls go.0 in
    (omega (arith, l, long), ap (λ zs. get_or zs k []) whole ∙ get_or_append_left ls go.0 [] k l)

pub held_under : (ls : List (List ℕ)) (ns : List (ℕ × ℕ)) (at : ℕ) (n : ℕ × ℕ) → AreHeld ls ns → slice_get ns at ≡ Some n → n.0 < length ls
held_under ls ns at n a e = a.under n (holds_at (ℕ × ℕ) pair_equality ns at n e)

pub last_back : (xs : List ℕ) (r : ℕ) → (last_return (xs ++ r ∷ []) ≡ Some r) × (without_last (xs ++ r ∷ []) ≡ xs)
last_back [] r = (refl, refl)
last_back (x ∷ []) r = (refl, refl)
last_back (x ∷ y ∷ xs) r = let b = last_back (y ∷ xs) r in (b.0, ap (λ zs. x ∷ zs) b.1)

pub back_point : (l xs : List ℕ) (r : ℕ) → l ≡ xs ++ r ∷ [] → point_if (without_last l) (last_return l)
    ≡ record { returns = xs; address = r } ∷ []
back_point l xs r e =
    let b = last_back xs r in
    ap (λ zs. point_if (without_last zs) (last_return zs)) e ∙ ap (λ zs. point_if zs (last_return (xs ++ r ∷ []))) b.1 ∙ ap
    (λ o. point_if xs o) b.0

pub back_none : (l : List ℕ) → l ≡ [] → point_if (without_last l) (last_return l) ≡ []
back_none l e = ap (λ zs. point_if (without_last zs) (last_return zs)) e

pub more_all : (ps qs : List Point) (most : ℕ) → most < length ps → most < length (added_all point_eq ps qs)
more_all ps qs most l = let go = all_go_on Point point_equality ps qs in let long = ap length go.1 ∙ length-append ps go.0 in omega
    (arith, l, long)

-- ---- each list is that of a point

pub used_more : (ls : List (List ℕ)) (ps qs more : List Point) → qs ≡ added_all point_eq ps more → AreUsed ls ps → AreUsed ls qs
used_more ls ps qs more e u =
    record {
      by = λ l i. let p = u.by l i in (
        p.0,
        subst (λ zs. holds point_eq p.0 zs ≡ true) (sym e)
            (kept_by_all Point point_equality p.0 ps more p.1),
        p.2,
      );
    }

pub used_entered : (ls new : List (List ℕ)) (ps qs : List Point) (x : List ℕ) (a : ℕ) → new ≡ added bytes_eq ls x → qs ≡ added point_eq ps
    (record { returns = x; address = a }) → AreUsed ls ps → AreUsed new qs
used_entered ls new ps qs x a e f u =
    let one : Point = record { returns = x; address = a } in
    let kept : (p : Point) → holds point_eq p ps ≡ true → holds point_eq p qs ≡ true = λ p h. subst (λ zs. holds point_eq p zs ≡ true)
    (sym f) (kept_by_all Point point_equality p ps (one ∷ []) h) in
    elim (cases_Bool (holds bytes_eq x ls)) as (λ _. AreUsed new qs) [
      | inl t ↦
          let same : new ≡ ls = e ∙ cond-true (holds bytes_eq x ls) ls (ls ++ x ∷ []) t in
          record { by = λ l i. let p = u.by l (subst (λ zs. Contains zs l) same i) in (p.0, kept p.0 p.1, p.2) }
      | inr g ↦
          let same : new ≡ ls ++ x ∷ [] = e ∙ cond-false (holds bytes_eq x ls) ls (ls ++ x ∷ []) g in
          record {
            by = λ l i.
                elim (Contains-push_cases ls x l (subst (λ zs. Contains zs l) same i)) as
                (λ _. (p : Point) × (holds point_eq p qs ≡ true) × (p.returns ≡ l)) [
                  | inl old ↦ let p = u.by l old in (p.0, kept p.0 p.1, p.2)
                  | inr s ↦ (
                    one,
                    subst (λ zs. holds point_eq one zs ≡ true) (sym f)
                        (holds_all Point point_equality one ps (one ∷ [])
                        (or_left (point_eq one one) false (point_equality.itself one))),
                    s,
                  )
                ];
          }
    ]

pub used_first : (ls : List (List ℕ)) (ps qs : List Point) (a : ℕ) → ls ≡ [] ∷ [] → qs ≡ added point_eq ps (point_at ls (0, a))
    → AreUsed ls qs
used_first ls ps qs a e f =
    let one : Point = point_at ls (0, a) in
    let empty : one.returns ≡ [] = ap (λ zs. get_or zs 0 []) e in
    record {
      by = λ l i.
          elim (Contains-push_cases [] [] l (subst (λ zs. Contains zs l) e i)) as
          (λ _. (p : Point) × (holds point_eq p qs ≡ true) × (p.returns ≡ l)) [
            | inl old ↦ let k = old.1 in absurd (omega (arith, k))
            | inr s ↦ (
              one,
              subst (λ zs. holds point_eq one zs ≡ true) (sym f)
                  (holds_all Point point_equality one ps (one ∷ []) (or_left (point_eq one one) false (point_equality.itself one))),
              empty
                  ∙ s,
            )
          ];
    }

pub on_ok : {T E : Type 0} (r : Result T E) (P Q : Type 0) → (P → Q) → OnOk r P → OnOk r Q
on_ok (Ok t) P Q f p = f p
on_ok (Err e) P Q f p = p
