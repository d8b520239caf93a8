-- Lists of open calls in their order, and points with them.
use Rattle.std.proofs.Common.{◌≡◌, refl, sym, ap, ◌∙◌, subst, ℕ, zero, suc, ◌+◌, ◌<◌, ◌≤◌, ◌⊎◌, inl, inr, Bool, true, false, List, [], ◌∷◌}
use Rattle.std.proofs.Common.{◌++◌, length, get_or, slice_set, map, take, arith}
use Rattle.std.specs.Prelude.{◌↔◌, ◌≢◌, Contains, Option, Some, slice_get, cond, ◌||◌}
use Rattle.std.specs.Str.{bytes_eq}
use Rattle.std.specs.List.{list_any, All}
use Rattle.std.specs.BTreeSet as tree
use Rattle.std.specs.BTreeSet.{BTreeSet}
use Rattle.std.specs.BTreeMap.{is_at}
use Rattle.std.specs.Ordering.{nat_cmp, is_lt, ordering_then}
use Rattle.std.specs.declared.cmp.Ordering.{Ordering}
use Rattle.std.specs.declared.cmp.Ordering.TheVariants.{Less, Equal, Greater}
use Rattle.std.specs.Cmp.Lexicographic.{slice_cmp}
use Rattle.std.proofs.lemmas.Bool.{cases_Bool, cases_eq, cond-true, cond-false, false≢true, or_cases, or_left, or_right}
use Rattle.std.proofs.lemmas.Bool.Decides.{nat_tests}
use Rattle.std.proofs.lemmas.List.{append-nil, append_assoc, get_or-set_same, get_or-set_other, length-set, map-append, take_all}
use Rattle.std.proofs.lemmas.List.{get_or_default}
use Rattle.std.proofs.lemmas.List.Elements.{Contains-append_left, Contains-append_right, Contains-append_cases, Contains-push}
use Rattle.std.proofs.lemmas.List.Elements.{Contains-push_cases}
use Rattle.std.proofs.lemmas.Option.{slice_get-get_or, slice_get_within, get_or_from_slice_get}
use Rattle.std.proofs.Math.Numerals.{add-one}
use Rattle.graph_search.specs.NodeLists.{holds, Distinct, added}
use Rattle.graph_search.proofs.SearchLemmas.{take_next}
use Rattle.function_points.specs.Contexts.{pair_cmp}
use Rattle.basic_blocks.specs.Blocks.{Ascending}
use Rattle.point_order.specs.Families.{Lower, list_at, IsOrder}
use Rattle.function_points.proofs.MemberLemmas.{here, there, first_or_rest, in_none}
use Rattle.function_points.proofs.ContextLemmas.{list_equality, held_at, same_pair, pair_itself}
use Rattle.basic_blocks.proofs.NumberLemmas.{map_in, from_map, ascending_at}
use Rattle.point_order.proofs.OrderLemmas.{child_under}
use Rattle.basic_blocks.proofs.SplitLemmas.{ascending_end}
use Rattle.point_order.proofs.PreorderLemmas.{in_lists}
use Rattle.point_order.specs.Ranks.{PairBefore, AreRanked, Ranking, renamed, AreRenamed, AreOrdered, AreHalved}
use Rattle.point_order.proofs.FamilyLemmas.{three, one_number}
use Rattle.point_order.proofs.PlaceLemmas.{get_mapped, from_mapped, at_place, lower_apart, one_some}

-- ---- places in lists

pub get_take : {A : Type 0} (xs : List A) (n i : ℕ) (x : A) → slice_get xs i ≡ Some x → i < n → slice_get (take n xs) i ≡ Some x
get_take [] n i x e l = absurd (cc)
get_take (y ∷ xs) zero i x e l = absurd (omega (arith, l))
get_take (y ∷ xs) (suc n) zero x e l = e
get_take (y ∷ xs) (suc n) (suc i) x e l = get_take xs n i x e (omega (arith, l))

pub take_get : {A : Type 0} (xs : List A) (n i : ℕ) (x : A) → slice_get (take n xs) i ≡ Some x → (slice_get xs i ≡ Some x) × (i < n)
take_get [] zero i x e = absurd (cc)
take_get [] (suc n) i x e = absurd (cc)
take_get (y ∷ xs) zero i x e = absurd (cc)
take_get (y ∷ xs) (suc n) zero x e = (e, omega arith)
take_get (y ∷ xs) (suc n) (suc i) x e = let r = take_get xs n i x e in let l = r.1 in (r.0, omega (arith, l))

pub contains_get : {A : Type 0} (xs : List A) (x : A) → Contains xs x → (i : ℕ) × (slice_get xs i ≡ Some x)
contains_get xs x i = (i.0, slice_get-get_or xs i.0 x i.1 ∙ ap Some i.2)

pub take_long : {A : Type 0} (xs : List A) (n : ℕ) → n ≤ length xs → length (take n xs) ≡ n
take_long [] zero l = refl
take_long [] (suc n) l = absurd (omega (arith, l))
take_long (x ∷ xs) zero l = refl
take_long (x ∷ xs) (suc n) l = ap suc (take_long xs n (omega (arith, l)))

map_long : {A B : Type 0} (f : A → B) (xs : List A) → length (map f xs) ≡ length xs
map_long f [] = refl
map_long f (x ∷ xs) = ap suc (map_long f xs)

first_taken : (xs : List ℕ) (k : ℕ) → slice_get xs 0 ≡ Some k → take 1 xs ≡ k ∷ []
first_taken [] k e = absurd (cc)
first_taken (x ∷ xs) k e = let same : x ≡ k = cc in ap (λ z. z ∷ []) same

none_lower : (xs : List ℕ) → Lower xs [] → ⊥
none_lower [] l = cc
none_lower (x ∷ xs) l = cc

empty_push : (xs : List ℕ) (a : ℕ) → [] ≡ xs ++ a ∷ [] → ⊥
empty_push [] a e = cc
empty_push (x ∷ xs) a e = cc

zero_or_more : (i : ℕ) → (i ≡ 0) ⊎ (0 < i)
zero_or_more i = grind arith

at_or_under : (p at : ℕ) → p < at + 1 → (p ≡ at) ⊎ (p < at)
at_or_under p at l = grind arith

module _ (ls : List (List ℕ)) (distinct : Distinct bytes_eq ls) (order : List ℕ) (o : IsOrder ls order) where
  abbrev ordered : List (List ℕ)
  ordered = map (list_at ls) order

  pub number_under : (i k : ℕ) → slice_get order i ≡ Some k → k < length ls
  number_under i k e = o.below k (at_place order i k e)

  earlier : (i j k c : ℕ) → slice_get order i ≡ Some k → slice_get order j ≡ Some c → i < j → Lower (list_at ls k) (list_at ls c)
  earlier i j k c e f l =
      let x = get_mapped (list_at ls) order i k e in
      let y = get_mapped (list_at ls) order j c f in
      subst (λ z. Lower z (list_at ls c)) (get_or_from_slice_get ordered i (list_at ls k) [] x)
      (subst (λ z. Lower (get_or ordered i []) z) (get_or_from_slice_get ordered j (list_at ls c) [] y)
      (ascending_at Lower ordered [] i j o.ascending l (slice_get_within ordered j (list_at ls c) y)))

  pub order_place : (k : ℕ) → k < length ls → (i : ℕ) × (slice_get order i ≡ Some k)
  order_place k l =
      let m = from_map (list_at ls) order (list_at ls k) (o.all (list_at ls k) (in_lists ls k l)) in
      let e = one_number ls distinct m.0 k (o.below m.0 m.1) l m.2 in
      contains_get order k (subst (Contains order) e m.1)

  earlier_apart : (i j k c : ℕ) → slice_get order i ≡ Some k → slice_get order j ≡ Some c → i < j → list_at ls k ≡ list_at ls c → ⊥
  earlier_apart i j k c e f l same =
      let w = subst (λ z. Lower z (list_at ls c)) same (earlier i j k c e f l) in
      lower_apart (list_at ls c) (list_at ls c) w w

  order_before : (i j k c : ℕ) → slice_get order i ≡ Some k → slice_get order j ≡ Some c → Lower (list_at ls k) (list_at ls c) → i < j
  order_before i j k c e f low =
      elim (three i j) as (λ _. i < j) [
        | inl l ↦ l
        | inr n ↦
            elim n as (λ _. i < j) [
              | inl s ↦
                  let same = one_some k c (slice_get order j) (subst (λ z. slice_get order z ≡ Some k) s e) f in
                  let w = subst (λ z. Lower (list_at ls z) (list_at ls c)) same low in
                  absurd (lower_apart (list_at ls c) (list_at ls c) w w)
              | inr l ↦ absurd (lower_apart (list_at ls k) (list_at ls c) low (earlier j i c k f e l))
            ]
      ]

  -- ---- the first list

  root_first : list_at ls 0 ≡ [] → 0 < length ls → slice_get order 0 ≡ Some 0
  root_first root some =
      let p = order_place 0 some in
      elim (zero_or_more p.0) as (λ _. slice_get order 0 ≡ Some 0) [
        | inl z ↦ subst (λ i. slice_get order i ≡ Some 0) z p.1
        | inr l ↦
            let within = slice_get_within order p.0 0 p.1 in
            let first = get_or order 0 0 in
            let e : slice_get order 0 ≡ Some first = slice_get-get_or order 0 0 (omega (arith, l, within)) in
            absurd (none_lower (list_at ls first) (subst (λ z. Lower (list_at ls first) z) root (earlier 0 p.0 first 0 e p.1 l)))
      ]

  pub first_ranked : list_at ls 0 ≡ [] → 0 < length ls → (ranks : List ℕ) → length ranks ≡ length ls → ((k : ℕ) → get_or ranks k 0 ≡ 0) →
      (new : List (List ℕ)) → new ≡ [] ∷ [] → Ranking ls order 1 new ranks
  first_ranked root some ranks long none new is =
      record {
        made = is ∙ sym (ap (map (list_at ls)) (first_taken order 0 (root_first root some)) ∙ ap (λ z. z ∷ []) root);
        long = long;
        rank = λ i k l e. none k ∙ omega (arith, l);
      }

  pub some_order : list_at ls 0 ≡ [] → 0 < length ls → 1 ≤ length order
  some_order root some = slice_get_within order 0 0 (root_first root some)

  -- ---- the next list

  module _ (at : ℕ) (new : List (List ℕ)) (ranks : List ℕ) (w : Ranking ls order at new ranks) (c : ℕ)
      (is : slice_get order at ≡ Some c) where
    pub ranks_under : c < length ranks
    ranks_under = subst (λ n. c < n) (sym w.long) (number_under at c is)

    pub no_second_root : 0 < at → list_at ls c ≡ [] → ⊥
    no_second_root l e =
        let within = slice_get_within order at c is in
        let first = get_or order 0 0 in
        let f : slice_get order 0 ≡ Some first = slice_get-get_or order 0 0 (omega (arith, l, within)) in
        none_lower (list_at ls first) (subst (λ z. Lower (list_at ls first) z) e (earlier 0 at first c f is l))

    pub few_ranked : length new ≡ at
    few_ranked = let within = slice_get_within order at c is in ap length w.made ∙ map_long (list_at ls) (take at order)
        ∙ take_long order at (omega (arith, within))

    new_at : (i k : ℕ) → i < at → slice_get order i ≡ Some k → get_or new i [] ≡ list_at ls k
    new_at i k l e =
        ap (λ zs. get_or zs i []) w.made ∙ get_or_from_slice_get (map (list_at ls) (take at order)) i (list_at ls k) []
        (get_mapped (list_at ls) (take at order) i k (get_take order at i k e l))

    fresh : holds bytes_eq (list_at ls c) new ≡ false
    fresh =
        elim (cases_Bool (holds bytes_eq (list_at ls c) new)) as (λ _. holds bytes_eq (list_at ls c) new ≡ false) [
          | inr f ↦ f
          | inl t ↦
              let h = held_at list_equality (list_at ls c) new t in
              let m = from_mapped (list_at ls) (take at order) h.0 (list_at ls c) (ap (λ zs. slice_get zs h.0) (sym w.made) ∙ h.1) in
              let g = take_get order at h.0 m.0 m.1 in
              absurd (earlier_apart h.0 at m.0 c g.0 is g.1 m.2)
        ]

    module _ (p a : ℕ) (row : list_at ls c ≡ list_at ls p ++ a ∷ []) (known : p < c) (more : List ℕ)
        (set : more ≡ slice_set ranks c at) where
      pub parent_before : (i : ℕ) × (slice_get order i ≡ Some p) × (i < at)
      parent_before =
          let l = number_under at c is in
          let q = order_place p (omega (arith, l, known)) in
          let low = (child_under (list_at ls p) (list_at ls c) a ([], append-nil (list_at ls p ++ a ∷ []) ∙ sym row)).1 in
          (q.0, q.1, order_before q.0 at p c q.1 is low)

      pub parent_under : p < length more
      parent_under = let l = number_under at c is in let e = w.long in let f = ap length set ∙ length-set ranks c at in omega
          (arith, l, known, e, f)

      p_apart : p ≢ c
      p_apart e = omega (arith, known, e)

      pub parent_rank : get_or more p 0 ≡ parent_before.0
      parent_rank = ap (λ zs. get_or zs p 0) set ∙ get_or-set_other ranks c p at 0 p_apart
          ∙ w.rank parent_before.0 p parent_before.2 parent_before.1

      pub rank_known : get_or more p 0 < length new
      rank_known = let e = parent_rank in let l = parent_before.2 in let f = few_ranked in omega (arith, e, l, f)

      pub one_enlisted : (newer : List (List ℕ)) → newer ≡ added bytes_eq new (get_or new (get_or more p 0) [] ++ a ∷ []) → Ranking ls order
          (at + 1) newer more
      one_enlisted newer e =
          let list : get_or new (get_or more p 0) [] ++ a ∷ [] ≡ list_at ls c = ap (λ k. get_or new k [] ++ a ∷ []) parent_rank ∙ ap
          (λ zs. zs ++ a ∷ []) (new_at parent_before.0 p parent_before.2 parent_before.1) ∙ sym row in
          record {
            made =
                e ∙ ap (added bytes_eq new) list ∙ cond-false (holds bytes_eq (list_at ls c) new) new (new ++ list_at ls c ∷ []) fresh ∙ ap
                (λ zs. zs ++ list_at ls c ∷ []) w.made
                ∙ sym (ap (λ n. map (list_at ls) (take n order)) (add-one at) ∙ ap (map (list_at ls)) (take_next order at c is) ∙ map-append
                (list_at ls) (take at order) (c ∷ []));
            long = ap length set ∙ length-set ranks c at ∙ w.long;
            rank = λ i k l f.
                ap (λ zs. get_or zs k 0) set
                ∙ elim (at_or_under i at l) as (λ _. get_or (slice_set ranks c at) k 0 ≡ i) [
                  | inl s ↦
                      let same = one_some k c (slice_get order at) (subst (λ z. slice_get order z ≡ Some k) s f) is in
                      ap (λ z. get_or (slice_set ranks c at) z 0) same ∙ get_or-set_same ranks c at 0 ranks_under ∙ sym s
                  | inr m ↦ get_or-set_other ranks c k at 0 (λ same. earlier_apart i at k c f is m (ap (list_at ls) same)) ∙ w.rank i k m f
                ];
          }

  -- ---- all lists

  pub all_ranked : (at : ℕ) (new : List (List ℕ)) (ranks : List ℕ) → Ranking ls order at new ranks → length order ≤ at
      → AreRanked ls new ranks
  all_ranked at new ranks w le =
      let made : new ≡ ordered = w.made ∙ ap (map (list_at ls)) (whole order at le) in
      record {
        rising = subst (Ascending Lower) (sym made) o.ascending;
        same = λ l. (
          (λ i.
              let m = from_map (list_at ls) order l (subst (λ zs. Contains zs l) made i) in
              subst (Contains ls) m.2 (in_lists ls m.0 (o.below m.0 m.1))),
          (λ i. subst (λ zs. Contains zs l) (sym made) (o.all l i)),
        );
        long = w.long;
        rank = λ k l.
            let p = order_place k l in
            let within = slice_get_within order p.0 k p.1 in
            let e = w.rank p.0 k (omega (arith, within, le)) p.1 in
            let long = ap length made ∙ map_long (list_at ls) order in (
              omega (arith, e, within, long),
              ap (λ z. get_or new z []) e ∙ ap (λ zs. get_or zs p.0 []) made ∙ get_or_from_slice_get ordered p.0 (list_at ls k) []
                  (get_mapped (list_at ls) order p.0 k p.1),
            );
      }
    where
      whole : {A : Type 0} (xs : List A) (n : ℕ) → length xs ≤ n → take n xs ≡ xs
      whole [] zero l = refl
      whole [] (suc n) l = refl
      whole (x ∷ xs) zero l = absurd (omega (arith, l))
      whole (x ∷ xs) (suc n) l = ap (λ zs. x ∷ zs) (whole xs n (omega (arith, l)))

-- ---- points

pub none_renamed : (ranks : List ℕ) (s : BTreeSet (ℕ × ℕ)) → ((q : ℕ × ℕ) → tree.contains pair_cmp s q ≡ false) → AreRenamed ranks []
    (tree.contains pair_cmp s)
none_renamed ranks s none = record { all = λ n i. absurd (in_none n i); only = λ m h. absurd (false≢true (sym (none m) ∙ h)) }

pub one_renamed : (ranks : List ℕ) (ns : List (ℕ × ℕ)) (at : ℕ) (n : ℕ × ℕ) (there now : ℕ × ℕ → Bool) → slice_get ns at ≡ Some n →
    ((q : ℕ × ℕ) → now q ≡ cond (is_at (pair_cmp (renamed ranks n)) q) true (there q))
    → AreRenamed ranks (take at ns) there → AreRenamed ranks (take (at + 1) ns) now
one_renamed ranks ns at n there now e up w =
    let more : take (at + 1) ns ≡ take at ns ++ n ∷ [] = ap (λ k. take k ns) (add-one at) ∙ take_next ns at n e in
    let r = renamed ranks n in
    record {
      all = λ m i.
          elim (Contains-push_cases (take at ns) n m (subst (λ zs. Contains zs m) more i)) as (λ _. now (renamed ranks m) ≡ true) [
            | inl old ↦ up (renamed ranks m) ∙ either (is_at (pair_cmp r) (renamed ranks m)) (there (renamed ranks m)) (w.all m old)
            | inr s ↦ subst (λ z. now (renamed ranks z) ≡ true) s (up r ∙ cond-true (is_at (pair_cmp r) r) true (there r)
                (pair_itself r.0 r.1))
          ];
      only = λ m h.
          elim (cases_Bool (is_at (pair_cmp r) m)) as (λ _. (k : ℕ × ℕ) × Contains (take (at + 1) ns) k × (m ≡ renamed ranks k)) [
            | inl t ↦ (n, subst (λ zs. Contains zs n) (sym more) (Contains-push (take at ns) n), same_pair r.0 r.1 m t)
            | inr f ↦
                let k = w.only m (sym (cond-false (is_at (pair_cmp r) m) true (there m) f) ∙ sym (up m) ∙ h) in
                (k.0, subst (λ zs. Contains zs k.0) (sym more) (Contains-append_left (take at ns) (n ∷ []) k.0 k.1), k.2)
          ];
    }
  where
    either : (a b : Bool) → b ≡ true → cond a true b ≡ true
    either true b e = refl
    either false b e = e

pub whole_renamed : (ranks : List ℕ) (ns : List (ℕ × ℕ)) (at : ℕ) (there : ℕ × ℕ → Bool) → length ns ≤ at → AreRenamed ranks
    (take at ns) there → AreRenamed ranks ns there
whole_renamed ranks ns at there le w = subst (λ zs. AreRenamed ranks zs there) (whole ns at le) w
  where
    whole : {A : Type 0} (xs : List A) (n : ℕ) → length xs ≤ n → take n xs ≡ xs
    whole [] zero l = refl
    whole [] (suc n) l = refl
    whole (x ∷ xs) zero l = absurd (omega (arith, l))
    whole (x ∷ xs) (suc n) l = ap (λ zs. x ∷ zs) (whole xs n (omega (arith, l)))

any_in : (q : ℕ × ℕ) (ks : List (ℕ × ℕ)) → list_any (is_at (pair_cmp q)) ks ≡ true → Contains ks q
any_in q [] h = absurd (false≢true h)
any_in q (k ∷ ks) h =
    elim (or_cases (is_at (pair_cmp q) k) (list_any (is_at (pair_cmp q)) ks) h) as (λ _. Contains (k ∷ ks) q) [
      | inl e ↦ subst (Contains (k ∷ ks)) (same_pair q.0 q.1 k e) (here k ks)
      | inr i ↦ there k q ks (any_in q ks i)
    ]

in_any : (q : ℕ × ℕ) (ks : List (ℕ × ℕ)) → Contains ks q → list_any (is_at (pair_cmp q)) ks ≡ true
in_any q [] i = absurd (in_none q i)
in_any q (k ∷ ks) i =
    elim (first_or_rest k q ks i) as (λ _. list_any (is_at (pair_cmp q)) (k ∷ ks) ≡ true) [
      | inl e ↦ or_left (is_at (pair_cmp q) k) (list_any (is_at (pair_cmp q)) ks)
          (subst (λ z. is_at (pair_cmp q) z ≡ true) (sym e) (pair_itself q.0 q.1))
      | inr n ↦ or_right (is_at (pair_cmp q) k) (list_any (is_at (pair_cmp q)) ks) (in_any q ks n)
    ]

pub all_wait : (ranks : List ℕ) (ns ms : List (ℕ × ℕ)) (s : BTreeSet (ℕ × ℕ)) → ms ≡ [] → AreRenamed ranks ns (tree.contains pair_cmp s)
    → AreHalved ranks ns ms s.keys
all_wait ranks ns ms s e w =
    subst (λ zs. AreHalved ranks ns zs s.keys) (sym e) (record {
      sorted = tt;
      before = λ x y i j. absurd (in_none x i);
      all = λ n i. any_in (renamed ranks n) s.keys (w.all n i);
      only = λ m i. w.only m (in_any m s.keys i);
    })

less_pair : (x y : ℕ × ℕ) → pair_cmp x y ≡ Less → PairBefore x y
less_pair x y less =
    let e : is_lt (pair_cmp x y) ≡ true = ap is_lt less in
    elim (three x.0 y.0) as (λ _. PairBefore x y) [
      | inl l ↦ inl l
      | inr n ↦
          elim n as (λ _. PairBefore x y) [
            | inr l ↦ absurd (false≢true (sym (ap (λ o. is_lt (ordering_then o (nat_cmp x.1 y.1))) (greater x.0 y.0 l)) ∙ e))
            | inl s ↦
                elim (three x.1 y.1) as (λ _. PairBefore x y) [
                  | inl l ↦ inr (s, l)
                  | inr m ↦
                      let second : is_lt (nat_cmp x.1 y.1) ≡ true = sym
                      (ap (λ o. is_lt (ordering_then o (nat_cmp x.1 y.1))) (equal x.0 y.0 s)) ∙ e in
                      elim m as (λ _. PairBefore x y) [
                        | inl t ↦ absurd (false≢true (sym (ap is_lt (equal x.1 y.1 t)) ∙ second))
                        | inr l ↦ absurd (false≢true (sym (ap is_lt (greater x.1 y.1 l)) ∙ second))
                      ]
                ]
          ]
    ]
  where
    greater : (a b : ℕ) → b < a → nat_cmp a b ≡ Greater
    greater a b l = grind (arith, nat_tests)

    equal : (a b : ℕ) → a ≡ b → nat_cmp a b ≡ Equal
    equal a b e = grind (arith, nat_tests)

pub one_taken : (ranks : List ℕ) (ns ms more keys rest : List (ℕ × ℕ)) (k : ℕ × ℕ) → AreHalved ranks ns ms keys → keys ≡ k ∷ rest → All
    (λ q. pair_cmp k q ≡ Less) rest → more ≡ ms ++ k ∷ [] → AreHalved ranks ns more rest
one_taken ranks ns ms more keys rest k w e above f =
    let same : more ++ rest ≡ ms ++ keys = ap (λ zs. zs ++ rest) f ∙ append_assoc ms (k ∷ []) rest ∙ ap (λ zs. ms ++ zs) (sym e) in
    let in_keys : Contains keys k = subst (λ zs. Contains zs k) (sym e) (here k rest) in
    record {
      sorted = subst (Ascending PairBefore) (sym f) (ascending_end PairBefore ms k w.sorted (λ b i. w.before b k i in_keys));
      before = λ x y i j.
          elim (Contains-push_cases ms k x (subst (λ zs. Contains zs x) f i)) as (λ _. PairBefore x y) [
            | inl old ↦ w.before x y old (subst (λ zs. Contains zs y) (sym e) (there k y rest j))
            | inr s ↦ subst (λ z. PairBefore z y) s (less_pair k y (subst (λ z. pair_cmp k z ≡ Less) j.2 (above j.0 y j.1)))
          ];
      all = λ n i. subst (λ zs. Contains zs (renamed ranks n)) (sym same) (w.all n i);
      only = λ m i. w.only m (subst (λ zs. Contains zs m) same i);
    }

pub all_taken : (ranks : List ℕ) (ns ms keys : List (ℕ × ℕ)) → AreHalved ranks ns ms keys → keys ≡ [] → AreOrdered ranks ns ms
all_taken ranks ns ms keys w e =
    let whole : ms ++ keys ≡ ms = ap (λ zs. ms ++ zs) e ∙ append-nil ms in
    record {
      sorted = w.sorted;
      all = λ n i. subst (λ zs. Contains zs (renamed ranks n)) whole (w.all n i);
      only = λ m i. w.only m (subst (λ zs. Contains zs m) (sym whole) i);
    }

pub fewer : (xs ys : List (ℕ × ℕ)) (k : ℕ × ℕ) → xs ≡ k ∷ ys → length ys < length xs
fewer xs ys k e = let long = ap length e in omega (arith, long)
