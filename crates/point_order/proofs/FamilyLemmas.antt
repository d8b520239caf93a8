-- Lists of open calls are put under their parents.
use Rattle.std.proofs.Common.{◌≡◌, refl, sym, ap, ◌∙◌, subst, ℕ, zero, suc, ◌+◌, ◌<◌, ◌≤◌, ◌⊎◌, inl, inr, Bool, true, false, List, [], ◌∷◌}
use Rattle.std.proofs.Common.{◌++◌, length, get_or, slice_set, arith}
use Rattle.std.specs.Prelude.{◌↔◌, Contains, Some, slice_get, cond}
use Rattle.std.specs.Str.{bytes_eq}
use Rattle.std.specs.List.{list_any}
use Rattle.std.specs.BTreeSet as tree
use Rattle.std.specs.BTreeSet.{BTreeSet}
use Rattle.std.specs.BTreeMap.{is_at}
use Rattle.std.specs.Ordering.{nat_cmp, ordering_then, is_lt}
use Rattle.std.proofs.lemmas.Bool.{cases_Bool, cases_eq, cond-true, cond-false, false≢true}
use Rattle.std.proofs.lemmas.Option.{slice_get-get_or, slice_get_within, get_or_from_slice_get}
use Rattle.std.proofs.lemmas.List.{append-nil, append_assoc, get_or-set_same, get_or-set_other, length-set, get_or_default, length-append}
use Rattle.std.proofs.lemmas.List.Elements.{Contains-append_left, Contains-push, Contains-push_cases}
use Rattle.graph_search.specs.NodeLists.{Distinct}
use Rattle.function_points.specs.Contexts.{pair_cmp}
use Rattle.point_order.specs.Families.{Begun, list_at, IsChild, AreFamilies}
use Rattle.basic_blocks.specs.Blocks.{Ascending}
use Rattle.function_points.proofs.MemberLemmas.{in_none}
use Rattle.function_points.proofs.ContextLemmas.{list_equality, one_place, last_same, same_pair, pair_itself}
use Rattle.point_order.proofs.OrderLemmas.{same_cmp, less_cmp}
use Rattle.basic_blocks.proofs.SplitLemmas.{ascending_end}
use Rattle.point_order.specs.Ranks.{PairBefore, IsRow, AreReturns}

-- ---- pairs

pub three : (a b : ℕ) → (a < b) ⊎ ((a ≡ b) ⊎ (b < a))
three a b = grind arith

lt_first : (a k b e : ℕ) → a < b → is_lt (pair_cmp (a, k) (b, e)) ≡ true
lt_first a k b e l = ap (λ o. is_lt (ordering_then o (nat_cmp k e))) (less_cmp a b l)

lt_second : (a k b e : ℕ) → a ≡ b → k < e → is_lt (pair_cmp (a, k) (b, e)) ≡ true
lt_second a k b e s l = subst (λ z. is_lt (ordering_then (nat_cmp a z) (nat_cmp k e)) ≡ true) s
    (ap (λ o. is_lt (ordering_then o (nat_cmp k e))) (same_cmp a) ∙ ap is_lt (less_cmp k e l))

-- what isn't above and isn't equal is below
pub pair_below : (a k b e : ℕ) → is_lt (pair_cmp (a, k) (b, e)) ≡ false → is_at (pair_cmp (a, k)) (b, e) ≡ false → PairBefore (b, e) (a, k)
pair_below a k b e f g =
    elim (three a b) as (λ _. PairBefore (b, e) (a, k)) [
      | inl l ↦ absurd (false≢true (sym f ∙ lt_first a k b e l))
      | inr m ↦
          elim m as (λ _. PairBefore (b, e) (a, k)) [
            | inr l ↦ inl l
            | inl s ↦
                elim (three k e) as (λ _. PairBefore (b, e) (a, k)) [
                  | inl l ↦ absurd (false≢true (sym f ∙ lt_second a k b e s l))
                  | inr n ↦
                      elim n as (λ _. PairBefore (b, e) (a, k)) [
                        | inr l ↦ inr (sym s, l)
                        | inl t ↦ absurd (false≢true (sym g ∙ subst (λ z. is_at (pair_cmp (a, k)) (z, e) ≡ true) s
                            (subst (λ z. is_at (pair_cmp (a, k)) (a, z) ≡ true) t (pair_itself a k))))
                      ]
                ]
          ]
    ]

-- ---- rows of lists

pub no_list : (xs : List ℕ) (a : ℕ) → [] ≡ xs ++ a ∷ [] → ⊥
no_list [] a e = cc
no_list (x ∷ xs) a e = cc

-- ---- the children so far

pub record Adopted (ls : List (List ℕ)) (there : ℕ × ℕ → Bool) (children : List (List ℕ)) : Type 0 where
  pub long : length children ≡ length ls
  pub only : (a c : ℕ) → there (a, c) ≡ true → (p : ℕ) × IsRow ls c p a
  pub child : (k c : ℕ) → Contains (get_or children k []) c → (a : ℕ) × IsRow ls c k a
  pub all : (a c p : ℕ) → IsRow ls c p a → (there (a, c) ≡ true) ⊎ Contains (get_or children p []) c
  pub below : (k c a b e : ℕ) → Contains (get_or children k []) c → IsRow ls c k a → there (b, e) ≡ true → PairBefore (b, e) (a, c)
  pub falling : (k : ℕ) → Ascending (λ c d. (r q : ℕ) → IsChild ls k c r → IsChild ls k d q → q < r) (get_or children k [])

module _ (ls : List (List ℕ)) (distinct : Distinct bytes_eq ls) where
  pub no_row : (k p a : ℕ) → list_at ls k ≡ [] → IsRow ls k p a → ⊥
  no_row k p a e r = no_list (list_at ls p) a (sym e ∙ r.2)

  pub one_number : (k c : ℕ) → k < length ls → c < length ls → list_at ls k ≡ list_at ls c → k ≡ c
  one_number k c l m e = one_place list_equality ls k c (list_at ls c) distinct (slice_get-get_or ls k [] l ∙ ap Some e)
      (slice_get-get_or ls c [] m)

  pub one_row : (k p a q b : ℕ) → IsRow ls k p a → IsRow ls k q b → (p ≡ q) × (a ≡ b)
  one_row k p a q b r s =
      let e = last_same (list_at ls p) (list_at ls q) a b (sym r.2 ∙ s.2) in
      let k-p = r.1 in
      let k-q = s.1 in
      let l = r.0 in
      (one_number p q (omega (arith, k-p, l)) (omega (arith, k-q, l)) e.0, e.1)

  -- ---- the set of those that wait

  pub none_wait : (there : ℕ × ℕ → Bool) → ((q : ℕ × ℕ) → there q ≡ false) → AreReturns ls 0 there
  none_wait there none = record {
    only = λ a k h. absurd (false≢true (sym (none (a, k)) ∙ h));
    all = λ a k p l r. absurd
        (omega (arith, l));
  }

  at_or_under : (p at : ℕ) → p < at + 1 → (p ≡ at) ⊎ (p < at)
  at_or_under p at l = grind arith

  pub one_waits : (n p a : ℕ) (there now : ℕ × ℕ → Bool) → IsRow ls n p a →
      ((q : ℕ × ℕ) → now q ≡ cond (is_at (pair_cmp (a, n)) q) true (there q)) → AreReturns ls n there → AreReturns ls (n + 1) now
  one_waits n p a there now row up w =
      record {
        only = λ b k h.
            elim (cases_Bool (is_at (pair_cmp (a, n)) (b, k))) as (λ _. (q : ℕ) × IsRow ls k q b) [
              | inl t ↦
                  let e = same_pair a n (b, k) t in
                  subst (λ (z : ℕ × ℕ). (q : ℕ) × IsRow ls z.1 q z.0) (sym e) (p, row)
              | inr f ↦ w.only b k (sym (cond-false (is_at (pair_cmp (a, n)) (b, k)) true (there (b, k)) f) ∙ sym (up (b, k)) ∙ h)
            ];
        all = λ b k q l r.
            elim (cases_Bool (is_at (pair_cmp (a, n)) (b, k))) as (λ _. now (b, k) ≡ true) [
              | inl t ↦ up (b, k) ∙ cond-true (is_at (pair_cmp (a, n)) (b, k)) true (there (b, k)) t
              | inr f ↦
                  up (b, k) ∙ cond-false (is_at (pair_cmp (a, n)) (b, k)) true (there (b, k)) f
                  ∙ elim (at_or_under k n l) as (λ _. there (b, k) ≡ true) [
                    | inr m ↦ w.all b k q m r
                    | inl s ↦
                        let u = one_row n p a q b row (subst (λ z. IsRow ls z q b) s r) in
                        absurd (false≢true (sym f ∙ subst (λ z. is_at (pair_cmp (a, n)) (b, z) ≡ true) (sym s)
                        (subst (λ z. is_at (pair_cmp (a, n)) (z, n) ≡ true) u.1 (pair_itself a n))))
                  ]
            ];
      }

  pub none_waits : (n : ℕ) (there now : ℕ × ℕ → Bool) → list_at ls n ≡ [] → ((q : ℕ × ℕ) → now q ≡ there q) → AreReturns ls n there
      → AreReturns ls (n + 1) now
  none_waits n there now e same w =
      record {
        only = λ b k h. w.only b k (sym (same (b, k)) ∙ h);
        all = λ b k q l r.
            elim (at_or_under k n l) as (λ _. now (b, k) ≡ true) [
              | inr m ↦ same (b, k) ∙ w.all b k q m r
              | inl s ↦ absurd (no_row n q b e (subst (λ z. IsRow ls z q b) s r))
            ];
      }

  -- ---- children

  pub none_adopted : (there : ℕ × ℕ → Bool) (children : List (List ℕ)) → AreReturns ls (length ls) there → length children ≡ length ls →
      ((k : ℕ) → get_or children k [] ≡ []) → Adopted ls there children
  none_adopted there children w long empty =
      record {
        long = long;
        only = w.only;
        child = λ k c i. absurd (in_none c (subst (λ zs. Contains zs c) (empty k) i));
        all = λ a c p r. inl (w.all a c p r.0 r);
        below = λ k c a b e i r h. absurd (in_none c (subst (λ zs. Contains zs c) (empty k) i));
        falling = λ k. subst (Ascending (λ c d. (r q : ℕ) → IsChild ls k c r → IsChild ls k d q → q < r)) (sym (empty k)) tt;
      }

  module _ (there now : ℕ × ℕ → Bool) (children : List (List ℕ)) (w : Adopted ls there children) (a c p : ℕ) (row : IsRow ls c p a)
      (waited : there (a, c) ≡ true)
      (top : (q : ℕ × ℕ) → there q ≡ true → is_lt (pair_cmp (a, c) q) ≡ false)
      (up : (q : ℕ × ℕ) → now q ≡ cond (is_at (pair_cmp (a, c)) q) false (there q)) where
    abbrev new : List (List ℕ)
    new = slice_set children p (get_or children p [] ++ c ∷ [])

    still : (q : ℕ × ℕ) → now q ≡ true → (is_at (pair_cmp (a, c)) q ≡ false) × (there q ≡ true)
    still q h =
        elim (cases_Bool (is_at (pair_cmp (a, c)) q)) as (λ _. (is_at (pair_cmp (a, c)) q ≡ false) × (there q ≡ true)) [
          | inl t ↦ absurd (false≢true (sym (up q ∙ cond-true (is_at (pair_cmp (a, c)) q) false (there q) t) ∙ h))
          | inr f ↦ (f, sym (cond-false (is_at (pair_cmp (a, c)) q) false (there q) f) ∙ sym (up q) ∙ h)
        ]

    p-under : p < length children
    p-under = let l = row.0 in let m = row.1 in let e = w.long in omega (arith, l, m, e)

    row_p : get_or new p [] ≡ get_or children p [] ++ c ∷ []
    row_p = get_or-set_same children p (get_or children p [] ++ c ∷ []) [] p-under

    row_cases : (k : ℕ) → (get_or new k [] ≡ get_or children k []) ⊎ ((k ≡ p) × (get_or new k [] ≡ get_or children k [] ++ c ∷ []))
    row_cases k =
        elim (cases_eq k p) as (λ _. (get_or new k [] ≡ get_or children k []) ⊎
        ((k ≡ p) × (get_or new k [] ≡ get_or children k [] ++ c ∷ []))) [
          | inl s ↦ inr (s, subst (λ z. get_or new z [] ≡ get_or children z [] ++ c ∷ []) (sym s) row_p)
          | inr ne ↦ inl (get_or-set_other children p k (get_or children p [] ++ c ∷ []) [] ne)
        ]

    in_new : (k d : ℕ) → Contains (get_or new k []) d → Contains (get_or children k []) d ⊎ ((k ≡ p) × (c ≡ d))
    in_new k d i =
        elim (row_cases k) as (λ _. Contains (get_or children k []) d ⊎ ((k ≡ p) × (c ≡ d))) [
          | inl s ↦ inl (subst (λ zs. Contains zs d) s i)
          | inr s ↦
              elim (Contains-push_cases (get_or children k []) c d (subst (λ zs. Contains zs d) s.1 i)) as
              (λ _. Contains (get_or children k []) d ⊎ ((k ≡ p) × (c ≡ d))) [
                | inl m ↦ inl m
                | inr e ↦ inr (s.0, e)
              ]
        ]

    old_in : (k d : ℕ) → Contains (get_or children k []) d → Contains (get_or new k []) d
    old_in k d i =
        elim (row_cases k) as (λ _. Contains (get_or new k []) d) [
          | inl s ↦ subst (λ zs. Contains zs d) (sym s) i
          | inr s ↦ subst (λ zs. Contains zs d) (sym s.1) (Contains-append_left (get_or children k []) (c ∷ []) d i)
        ]

    earlier : (d r q : ℕ) → Contains (get_or children p []) d → IsChild ls p d r → IsChild ls p c q → q < r
    earlier d r q i x y =
        let o = w.child p d i in
        let er : o.0 ≡ r = (last_same (list_at ls p) (list_at ls p) o.0 r (sym o.1.2 ∙ x)).1 in
        let eq : a ≡ q = (last_same (list_at ls p) (list_at ls p) a q (sym row.2 ∙ y)).1 in
        let b = w.below p d o.0 a c i o.1 waited in
        elim b as (λ _. q < r) [
          | inl l ↦ subst (λ z. z < r) eq (subst (λ z. a < z) er l)
          | inr l ↦
              let same : list_at ls c ≡ list_at ls d = row.2 ∙ ap (λ z. list_at ls p ++ z ∷ []) l.0 ∙ sym o.1.2 in
              let e = one_number c d row.0 o.1.0 same in
              let m = l.1 in
              absurd (omega (arith, e, m))
        ]

    pub one_adopted : (more : List (List ℕ)) → more ≡ new → Adopted ls now more
    one_adopted more is =
        subst (Adopted ls now) (sym is) (record {
          long = length-set children p (get_or children p [] ++ c ∷ []) ∙ w.long;
          only = λ b e h. w.only b e (still (b, e) h).1;
          child = λ k d i.
              elim (in_new k d i) as (λ _. (b : ℕ) × IsRow ls d k b) [
                | inl m ↦ w.child k d m
                | inr s ↦ subst (λ z. (b : ℕ) × IsRow ls d z b) (sym s.0) (subst (λ z. (b : ℕ) × IsRow ls z p b) s.1 (a, row))
              ];
          all = λ b d k r.
              elim (w.all b d k r) as (λ _. (now (b, d) ≡ true) ⊎ Contains (get_or new k []) d) [
                | inr i ↦ inr (old_in k d i)
                | inl h ↦
                    elim (cases_Bool (is_at (pair_cmp (a, c)) (b, d))) as (λ _. (now (b, d) ≡ true) ⊎ Contains (get_or new k []) d) [
                      | inr f ↦ inl (up (b, d) ∙ cond-false (is_at (pair_cmp (a, c)) (b, d)) false (there (b, d)) f ∙ h)
                      | inl t ↦
                          let e = same_pair a c (b, d) t in
                          let ed : d ≡ c = ap (λ (z : ℕ × ℕ). z.1) e in
                          let u = one_row c p a k b row (subst (λ z. IsRow ls z k b) ed r) in
                          inr (subst (λ z. Contains (get_or new z []) d) u.0
                          (subst (λ zs. Contains zs d) (sym row_p)
                          (subst (λ z. Contains (get_or children p [] ++ c ∷ []) z) (sym ed) (Contains-push (get_or children p []) c))))
                    ]
              ];
          below = λ k d b f e i r h.
              let s = still (f, e) h in
              elim (in_new k d i) as (λ _. PairBefore (f, e) (b, d)) [
                | inl m ↦ w.below k d b f e m r s.1
                | inr o ↦
                    let u = one_row c p a k b row (subst (λ z. IsRow ls z k b) (sym o.1) r) in
                    subst (λ z. PairBefore (f, e) (z, d)) u.1 (subst (λ z. PairBefore (f, e) (a, z)) o.1
                    (pair_below a c f e (top (f, e) s.1) s.0))
              ];
          falling = λ k.
              elim (row_cases k) as (λ _. Ascending (λ x y. (r q : ℕ) → IsChild ls k x r → IsChild ls k y q → q < r) (get_or new k [])) [
                | inl s ↦ subst (Ascending (λ x y. (r q : ℕ) → IsChild ls k x r → IsChild ls k y q → q < r)) (sym s) (w.falling k)
                | inr s ↦
                    subst (Ascending (λ x y. (r q : ℕ) → IsChild ls k x r → IsChild ls k y q → q < r)) (sym s.1)
                    (ascending_end (λ x y. (r q : ℕ) → IsChild ls k x r → IsChild ls k y q → q < r) (get_or children k []) c (w.falling k)
                    (λ d i r q x y. earlier d r q (subst (λ z. Contains (get_or children z []) d) s.0 i)
                    (subst (λ z. IsChild ls z d r) s.0 x) (subst (λ z. IsChild ls z c q) s.0 y)))
              ];
        })

  -- ---- all are adopted

  module _ (root : list_at ls 0 ≡ []) (some : 0 < length ls) (rows : (k : ℕ) → k < length ls → (list_at ls k ≡ []) ⊎
      ((p a : ℕ) × (p < k) × (list_at ls k ≡ list_at ls p ++ a ∷ []))) where
    parent : (k : ℕ) → k < length ls → (list_at ls k ≡ []) ⊎ ((p a : ℕ) × IsRow ls k p a)
    parent k l =
        elim (rows k l) as (λ _. (list_at ls k ≡ []) ⊎ ((p a : ℕ) × IsRow ls k p a)) [
          | inl e ↦ inl e
          | inr w ↦ inr (w.0, w.1, (l, w.2, w.3))
        ]

    -- what begins with a list's child is begun by one that is known
    list_end : (xs : List ℕ) → (xs ≡ []) ⊎ ((ys : List ℕ) × (y : ℕ) × (xs ≡ ys ++ y ∷ []))
    list_end [] = inl refl
    list_end (x ∷ xs) =
        elim (list_end xs) as (λ _. ((x ∷ xs) ≡ []) ⊎ ((ys : List ℕ) × (y : ℕ) × ((x ∷ xs) ≡ ys ++ y ∷ []))) [
          | inl e ↦ inr ([], x, ap (λ zs. x ∷ zs) e)
          | inr (ys, y, e) ↦ inr (x ∷ ys, y, ap (λ zs. x ∷ zs) e)
        ]

    begun_known : (n m k r : ℕ) → m < n → m < length ls → Begun (list_at ls k ++ r ∷ []) (list_at ls m) → (c : ℕ) × (c < length ls)
        × IsChild ls k c r
    begun_known zero m k r l lm b = absurd (omega (arith, l))
    begun_known (suc n) m k r l lm b =
        let xs = b.0 in
        let e : (list_at ls k ++ r ∷ []) ++ xs ≡ list_at ls m = b.1 in
        elim (list_end xs) as (λ _. (c : ℕ) × (c < length ls) × IsChild ls k c r) [
          | inl none ↦ (
            m,
            lm,
            sym (subst (λ zs. (list_at ls k ++ r ∷ []) ++ zs ≡ list_at ls m) none e) ∙ append-nil
                (list_at ls k ++ r ∷ []),
          )
          | inr (ys, y, is) ↦
              elim (parent m lm) as (λ _. (c : ℕ) × (c < length ls) × IsChild ls k c r) [
                | inl empty ↦ absurd (no_list ((list_at ls k ++ r ∷ []) ++ ys) y
                    (sym empty ∙ sym (subst (λ zs. (list_at ls k ++ r ∷ []) ++ zs ≡ list_at ls m) is e) ∙ sym
                    (append_assoc (list_at ls k ++ r ∷ []) ys (y ∷ []))))
                | inr (p, a, row) ↦
                    let both : ((list_at ls k ++ r ∷ []) ++ ys) ++ y ∷ [] ≡ list_at ls p ++ a ∷ [] =
                    append_assoc (list_at ls k ++ r ∷ []) ys (y ∷ []) ∙ subst (λ zs. (list_at ls k ++ r ∷ []) ++ zs ≡ list_at ls m) is e
                    ∙ row.2 in
                    let s = last_same ((list_at ls k ++ r ∷ []) ++ ys) (list_at ls p) y a both in
                    let lp = row.1 in
                    begun_known n p k r (omega (arith, lp, l)) (omega (arith, lp, lm)) (ys, s.0)
              ]
        ]

    pub all_adopted : (there : ℕ × ℕ → Bool) (children : List (List ℕ)) → Adopted ls there children → ((q : ℕ × ℕ) → there q ≡ false)
        → AreFamilies ls children
    all_adopted there children w none =
        record {
          long = w.long;
          some = some;
          root = root;
          child = λ k c i. let o = w.child k c i in (o.1.0, (o.0, o.1.2));
          whole = λ k r l lk m b.
              let known : list_at ls m.0 ≡ l = get_or_default ls m.0 [] l m.1 ∙ m.2 in
              let c = begun_known (suc m.0) m.0 k r (omega arith) m.1 (b.0, b.1 ∙ sym known) in
              elim (parent c.0 c.1) as (λ _. (d : ℕ) × Contains (get_or children k []) d × IsChild ls k d r) [
                | inl empty ↦ absurd (no_list (list_at ls k) r (sym empty ∙ c.2))
                | inr (p, a, row) ↦
                    let s = last_same (list_at ls p) (list_at ls k) a r (sym row.2 ∙ c.2) in
                    elim (w.all a c.0 p row) as (λ _. (d : ℕ) × Contains (get_or children k []) d × IsChild ls k d r) [
                      | inl h ↦ absurd (false≢true (sym (none (a, c.0)) ∙ h))
                      | inr i ↦
                          let lp = row.1 in
                          let lc = row.0 in
                          let e = one_number p k (omega (arith, lp, lc)) lk s.0 in
                          (c.0, subst (λ z. Contains (get_or children z []) c.0) e i, c.2)
                    ]
              ];
          falling = w.falling;
        }

pub empty_push : (xs : List (List ℕ)) → ((k : ℕ) → get_or xs k [] ≡ []) → (k : ℕ) → get_or (xs ++ [] ∷ []) k [] ≡ []
empty_push [] h zero = refl
empty_push [] h (suc k) = refl
empty_push (x ∷ xs) h zero = h 0
empty_push (x ∷ xs) h (suc k) = empty_push xs (λ j. h (suc j)) k

pub no_rows : (xs : List (List ℕ)) → xs ≡ [] → (k : ℕ) → get_or xs k [] ≡ []
no_rows xs e k = subst (λ zs. get_or zs k [] ≡ []) (sym e) refl

pub none_there : (s : BTreeSet (ℕ × ℕ)) → s.keys ≡ [] → (q : ℕ × ℕ) → tree.contains pair_cmp s q ≡ false
none_there s e q = ap (λ ks. list_any (is_at (pair_cmp q)) ks) e

pub no_keys : (ks : List (ℕ × ℕ)) → length ks ≡ 0 → ks ≡ []
no_keys [] e = refl
no_keys (x ∷ ks) e = absurd (omega (arith, e))

pub shorter : (xs ys : List (ℕ × ℕ)) (k : ℕ × ℕ) → xs ≡ ys ++ k ∷ [] → length ys < length xs
shorter xs ys k e = let long = ap length e ∙ length-append ys (k ∷ []) in omega (arith, long)

pub first_list : (ls : List (List ℕ)) → slice_get ls 0 ≡ Some [] → (list_at ls 0 ≡ []) × (0 < length ls)
first_list ls e = (get_or_from_slice_get ls 0 [] [] e, slice_get_within ls 0 [] e)

pub empty_keys : (ks : List (ℕ × ℕ)) → (false ≡ true) ↔ (0 < length ks) → ks ≡ []
empty_keys [] v = refl
empty_keys (x ∷ ks) v = absurd (false≢true (v.1 (omega arith)))
