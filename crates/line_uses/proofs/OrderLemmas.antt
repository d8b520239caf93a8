-- The points in an order, the points of each set, and the flags of uses.
use Rattle.std.proofs.Common.{◌≡◌, ◌≢◌, ℕ, zero, suc, ◌+◌, ◌%◌, ◌<◌, ◌≤◌, ◌⊎◌, inl, inr, Bool, true, false, List, [], ◌∷◌, ◌++◌}
use Rattle.std.proofs.Common.{length, drop, get_or, refl, sym, ap, ◌∙◌, subst, arith}
use Rattle.std.specs.Prelude.{nat_eq, if◌then◌else◌, Option, Some, None, slice_set, ◌||◌}
use Rattle.std.specs.List.{list_any}
use Rattle.std.specs.List.Sorted.{IsPermutation}
use Rattle.std.proofs.lemmas.Bool.{cases_Bool, or_cases, eqb-true, cond-true, cond-false, false≢true}
use Rattle.std.proofs.lemmas.Bool.Decides.{eqb_tells}
use Rattle.std.proofs.lemmas.List.{drop_more, length-set}
use Rattle.std.proofs.Math.Nat.{mod-lt}
use Rattle.std.proofs.lemmas.List.Sorted.{list_any-IsPermutation}
use Rattle.graph_search.specs.NodeLists.{holds}
use Rattle.graph_search.specs.Rows.{RowMore, row_in}
use Rattle.graph_search.proofs.ListLemmas.{holds_first, holds_left, holds_parts, holds_right, nat_equality}
use Rattle.persistence.specs.BlockMisses.{is_use}
use Rattle.persistence.specs.PointRows.{line_at}
use Rattle.persistence.specs.Younger.{Code}
use Rattle.line_uses.specs.PointMaps.{HasSet, HasSets, PointMaps}
use Rattle.line_uses.specs.Scopes.{all_uses, flag_in, use_points}

-- ---- all points, in another order

-- one point more is there
pub one_more_point : (n : ℕ) (xs ys : List ℕ) → ys ≡ xs ++ n ∷ [] → ((q : ℕ) → q < n → holds nat_eq q xs ≡ true) → (q : ℕ) → q < n + 1
    → holds nat_eq q ys ≡ true
one_more_point n xs ys is all q lt =
    subst (λ (zs : List ℕ). holds nat_eq q zs ≡ true) (sym is)
    (elim (eqb_tells q n) as (λ _. holds nat_eq q (xs ++ n ∷ []) ≡ true) [
      | inl t ↦ subst (λ (y : ℕ). holds nat_eq y (xs ++ n ∷ []) ≡ true) (sym t.1)
          (holds_right ℕ nat_equality n xs (n ∷ []) (holds_first ℕ nat_equality n []))
      | inr t ↦ holds_left ℕ nat_equality q xs (n ∷ []) (all q (let ne = t.1 in omega (arith, lt, ne)))
    ])

held_any : (q : ℕ) (xs : List ℕ) → holds nat_eq q xs ≡ list_any (nat_eq q) xs
held_any q [] = refl
held_any q (x ∷ xs) = ap (λ (b : Bool). nat_eq q x || b) (held_any q xs)

pub in_other_order : (xs ys : List ℕ) → IsPermutation xs ys → (q : ℕ) → holds nat_eq q xs ≡ true → holds nat_eq q ys ≡ true
in_other_order xs ys p q h = held_any q ys ∙ sym (list_any-IsPermutation (nat_eq q) xs ys p) ∙ sym (held_any q xs) ∙ h

-- ---- the points of each set

-- the points so far stand in their rows
pub record AreInRows (lines : List ℕ) (sets : ℕ) (whole left : List ℕ) (rows : List (List ℕ)) : Type 0 where
  pub size : length rows ≡ sets
  pub some : (q : ℕ) → holds nat_eq q whole ≡ true → (holds nat_eq q (row_in rows (line_at lines q % sets)) ≡ true)
      ⊎ (holds nat_eq q left ≡ true)

pub none_in_rows : (lines : List ℕ) (sets : ℕ) (whole : List ℕ) (rows : List (List ℕ)) → length rows ≡ sets
    → AreInRows lines sets whole whole rows
none_in_rows lines sets whole rows size = record { size = size; some = λ q h. inr h }

row_kept : (old new : List (List ℕ)) (s p : ℕ) → RowMore old new s p → (r q : ℕ) → holds nat_eq q (row_in old r) ≡ true
    → holds nat_eq q (row_in new r) ≡ true
row_kept old new s p more r q h = by_test (eqb_tells r s)
  where
    by_test : ((nat_eq r s ≡ true) × (r ≡ s)) ⊎ ((nat_eq r s ≡ false) × (r ≢ s)) → holds nat_eq q (row_in new r) ≡ true
    by_test (inl t) = subst (λ (ys : List ℕ). holds nat_eq q ys ≡ true) (sym (more.1 r
        ∙ cond-true (nat_eq r s) (row_in old r ++ p ∷ []) (row_in old r) t.0))
        (holds_left ℕ nat_equality q (row_in old r) (p ∷ []) h)
    by_test (inr t) = subst (λ (ys : List ℕ). holds nat_eq q ys ≡ true) (sym (more.1 r
        ∙ cond-false (nat_eq r s) (row_in old r ++ p ∷ []) (row_in old r) t.0)) h

row_added : (old new : List (List ℕ)) (s p : ℕ) → RowMore old new s p → holds nat_eq p (row_in new s) ≡ true
row_added old new s p more = by_test (eqb_tells s s)
  where
    by_test : ((nat_eq s s ≡ true) × (s ≡ s)) ⊎ ((nat_eq s s ≡ false) × (s ≢ s)) → holds nat_eq p (row_in new s) ≡ true
    by_test (inl t) = subst (λ (ys : List ℕ). holds nat_eq p ys ≡ true) (sym (more.1 s
        ∙ cond-true (nat_eq s s) (row_in old s ++ p ∷ []) (row_in old s) t.0))
        (holds_right ℕ nat_equality p (row_in old s) (p ∷ []) (holds_first ℕ nat_equality p []))
    by_test (inr t) = absurd (t.1 refl)

next_in_rows : (lines : List ℕ) (sets : ℕ) (whole : List ℕ) (x : ℕ) (rest : List ℕ) (old new : List (List ℕ)) (s : ℕ)
    → s ≡ line_at lines x % sets → RowMore old new s x
    → AreInRows lines sets whole (x ∷ rest) old → AreInRows lines sets whole rest new
next_in_rows lines sets whole x rest old new s is more are = record { size = more.0 ∙ are.size; some = some }
  where
    Goal : ℕ → Type 0
    Goal q = (holds nat_eq q (row_in new (line_at lines q % sets)) ≡ true) ⊎ (holds nat_eq q rest ≡ true)

    some : (q : ℕ) → holds nat_eq q whole ≡ true → Goal q
    some q h =
        elim (are.some q h) as (λ _. Goal q) [
          | inl k ↦ inl (row_kept old new s x more (line_at lines q % sets) q k)
          | inr k ↦
              elim (or_cases (nat_eq q x) (holds nat_eq q rest) k) as (λ _. Goal q) [
                | inl e ↦
                    inl (subst (λ (y : ℕ). holds nat_eq y (row_in new (line_at lines y % sets)) ≡ true) (sym (eqb-true q x e))
                    (subst (λ (r : ℕ). holds nat_eq x (row_in new r) ≡ true) is (row_added old new s x more)))
                | inr e ↦ inr e
              ]
        ]

pub point_in_rows : (lines : List ℕ) (sets : ℕ) (whole : List ℕ) (i : ℕ) (old new : List (List ℕ)) (s : ℕ) → i < length whole
    → s ≡ line_at lines (get_or whole i 0) % sets
    → RowMore old new s (get_or whole i 0) → AreInRows lines sets whole (drop i whole) old
    → AreInRows lines sets whole (drop (i + 1) whole) new
point_in_rows lines sets whole i old new s lt is more are =
    next_in_rows lines sets whole (get_or whole i 0) (drop (i + 1) whole) old new s is more
    (subst (λ (ys : List ℕ). AreInRows lines sets whole ys old) (drop_more whole i 0 lt) are)

drop_past : {A : Type 0} (ys : List A) (j : ℕ) → length ys ≤ j → drop j ys ≡ []
drop_past [] zero l = refl
drop_past [] (suc j) l = refl
drop_past (y ∷ ys) zero l = absurd (omega (arith, l))
drop_past (y ∷ ys) (suc j) l = drop_past ys j (omega (arith, l))

pub all_in_rows : (lines : List ℕ) (sets : ℕ) (whole : List ℕ) (i : ℕ) (rows : List (List ℕ)) → length whole ≤ i
    → AreInRows lines sets whole (drop i whole) rows
    → (q : ℕ) → holds nat_eq q whole ≡ true → holds nat_eq q (row_in rows (line_at lines q % sets)) ≡ true
all_in_rows lines sets whole i rows le are q h =
    elim (are.some q h) as (λ _. holds nat_eq q (row_in rows (line_at lines q % sets)) ≡ true) [
      | inl k ↦ k
      | inr k ↦ absurd (false≢true (subst (λ (ys : List ℕ). holds nat_eq q ys ≡ true) (drop_past whole i le) k))
    ]

pub set_inside : (lines sets : ℕ) → 0 < sets → lines % sets < sets
set_inside lines sets lt = mod-lt lines lt

-- ---- flags

pub set_past : (flags : List Bool) (p : ℕ) (b : Bool) → length flags ≤ p → slice_set flags p b ≡ flags
set_past [] zero b le = refl
set_past [] (suc p) b le = refl
set_past (f ∷ flags) zero b le = absurd (omega (arith, le))
set_past (f ∷ flags) (suc p) b le = ap (λ (fs : List Bool). f ∷ fs) (set_past flags p b (omega (arith, le)))

flag_kept : (flags : List Bool) (p q : ℕ) → flag_in flags q ≡ true → flag_in (slice_set flags p true) q ≡ true
flag_kept [] zero q h = h
flag_kept [] (suc p) q h = h
flag_kept (f ∷ flags) zero zero h = refl
flag_kept (f ∷ flags) zero (suc q) h = h
flag_kept (f ∷ flags) (suc p) zero h = h
flag_kept (f ∷ flags) (suc p) (suc q) h = flag_kept flags p q h

flag_here : (flags : List Bool) (p : ℕ) → p < length flags → flag_in (slice_set flags p true) p ≡ true
flag_here [] p lt = absurd (omega (arith, lt))
flag_here (f ∷ flags) zero lt = refl
flag_here (f ∷ flags) (suc p) lt = flag_here flags p (omega (arith, lt))

flags_size : (flags : List Bool) (p : ℕ) → length (slice_set flags p true) ≡ length flags
flags_size flags p = length-set flags p true

-- a flag that is set is one of the flags
pub flag_inside : (flags : List Bool) (q : ℕ) → flag_in flags q ≡ true → q < length flags
flag_inside [] zero h = absurd (false≢true h)
flag_inside [] (suc q) h = absurd (false≢true h)
flag_inside (b ∷ flags) zero h = omega arith
flag_inside (b ∷ flags) (suc q) h = let r = flag_inside flags q h in omega (arith, r)

-- the uses of a block so far are flagged
pub record AreFlagged (c : Code) (whole left : List ℕ) (old flags : List Bool) : Type 0 where
  pub size : length flags ≡ length old
  pub kept : (q : ℕ) → flag_in old q ≡ true → flag_in flags q ≡ true
  pub some : (q : ℕ) → holds nat_eq q whole ≡ true → (flag_in flags q ≡ true) ⊎ (holds nat_eq q left ≡ true)

pub none_flagged : (c : Code) (whole : List ℕ) (flags : List Bool) → AreFlagged c whole whole flags flags
none_flagged c whole flags = record { size = refl; kept = λ q h. h; some = λ q h. inr h }

next_flag : (c : Code) (prev : Option ℕ) (x : ℕ) (rest whole : List ℕ) (old flags new : List Bool) → x < length old
    → new ≡ (if is_use c prev x then slice_set flags x true else flags) → AreFlagged c whole (use_points c prev (x ∷ rest)) old flags
    → AreFlagged c whole (use_points c (Some x) rest) old new
next_flag c prev x rest whole old flags new lt is are = by_test (cases_Bool (is_use c prev x))
  where
    by_test : (is_use c prev x ≡ true) ⊎ (is_use c prev x ≡ false) → AreFlagged c whole (use_points c (Some x) rest) old new
    by_test (inl t) =
        let set : new ≡ slice_set flags x true = is ∙ cond-true (is_use c prev x) (slice_set flags x true) flags t in
        record {
          size = ap length set ∙ flags_size flags x ∙ are.size;
          kept = λ q h. subst (λ (fs : List Bool). flag_in fs q ≡ true) (sym set) (flag_kept flags x q (are.kept q h));
          some = λ q h.
              elim (are.some q h) as (λ _. (flag_in new q ≡ true) ⊎ (holds nat_eq q (use_points c (Some x) rest) ≡ true)) [
                | inl k ↦ inl (subst (λ (fs : List Bool). flag_in fs q ≡ true) (sym set) (flag_kept flags x q k))
                | inr k ↦
                    elim (or_cases (nat_eq q x) (holds nat_eq q (use_points c (Some x) rest))
                    (subst (λ (ys : List ℕ). holds nat_eq q ys ≡ true)
                    (cond-true (is_use c prev x) (x ∷ use_points c (Some x) rest) (use_points c (Some x) rest) t) k)) as
                    (λ _. (flag_in new q ≡ true) ⊎ (holds nat_eq q (use_points c (Some x) rest) ≡ true)) [
                      | inl e ↦
                          inl (subst (λ (fs : List Bool). flag_in fs q ≡ true) (sym set)
                          (subst (λ (y : ℕ). flag_in (slice_set flags x true) y ≡ true) (sym (eqb-true q x e))
                          (flag_here flags x (let s : length flags ≡ length old = are.size in omega (arith, lt, s)))))
                      | inr e ↦ inr e
                    ]
              ];
        }
    by_test (inr t) =
        let same : new ≡ flags = is ∙ cond-false (is_use c prev x) (slice_set flags x true) flags t in
        record {
          size = ap length same ∙ are.size;
          kept = λ q h. subst (λ (fs : List Bool). flag_in fs q ≡ true) (sym same) (are.kept q h);
          some = λ q h.
              elim (are.some q h) as (λ _. (flag_in new q ≡ true) ⊎ (holds nat_eq q (use_points c (Some x) rest) ≡ true)) [
                | inl k ↦ inl (subst (λ (fs : List Bool). flag_in fs q ≡ true) (sym same) k)
                | inr k ↦ inr (subst (λ (ys : List ℕ). holds nat_eq q ys ≡ true)
                    (cond-false (is_use c prev x) (x ∷ use_points c (Some x) rest) (use_points c (Some x) rest) t) k)
              ];
        }

pub point_flag : (c : Code) (prev : Option ℕ) (i : ℕ) (xs whole : List ℕ) (old flags new : List Bool) → i < length xs
    → get_or xs i 0 < length old
    → new ≡ (if is_use c prev (get_or xs i 0) then slice_set flags (get_or xs i 0) true else flags)
    → AreFlagged c whole (use_points c prev (drop i xs)) old flags
    → AreFlagged c whole (use_points c (Some (get_or xs i 0)) (drop (i + 1) xs)) old new
point_flag c prev i xs whole old flags new lt below is are =
    next_flag c prev (get_or xs i 0) (drop (i + 1) xs) whole old flags new below is
    (subst (λ (ys : List ℕ). AreFlagged c whole (use_points c prev ys) old flags) (drop_more xs i 0 lt) are)

pub all_flagged : (c : Code) (prev : Option ℕ) (i : ℕ) (xs whole : List ℕ) (old flags : List Bool) → length xs ≤ i
    → AreFlagged c whole (use_points c prev (drop i xs)) old flags
    → (q : ℕ) → holds nat_eq q whole ≡ true → flag_in flags q ≡ true
all_flagged c prev i xs whole old flags le are q h =
    elim (are.some q h) as (λ _. flag_in flags q ≡ true) [
      | inl k ↦ k
      | inr k ↦ absurd (false≢true (subst (λ (ys : List ℕ). holds nat_eq q (use_points c prev ys) ≡ true) (drop_past xs i le) k))
    ]

-- block after block
pub block_flags : (c : Code) (i : ℕ) (bs : List (List ℕ)) (whole ps : List ℕ) (old flags new : List Bool) → i < length bs → ps ≡ row_in bs i
    → length new ≡ length flags → ((q : ℕ) → flag_in flags q ≡ true → flag_in new q ≡ true)
    → ((q : ℕ) → holds nat_eq q (use_points c None ps) ≡ true → flag_in new q ≡ true)
    → AreFlagged c whole (all_uses c (drop i bs)) old flags → AreFlagged c whole (all_uses c (drop (i + 1) bs)) old new
block_flags c i bs whole ps old flags new lt is size kept all are =
    record {
      size = size ∙ are.size;
      kept = λ q h. kept q (are.kept q h);
      some = λ q h.
          elim (are.some q h) as (λ _. (flag_in new q ≡ true) ⊎ (holds nat_eq q (all_uses c (drop (i + 1) bs)) ≡ true)) [
            | inl k ↦ inl (kept q k)
            | inr k ↦
                elim (holds_parts ℕ nat_equality q (use_points c None ps) (all_uses c (drop (i + 1) bs))
                (subst (λ (ys : List ℕ). holds nat_eq q ys ≡ true) split k)) as
                (λ _. (flag_in new q ≡ true) ⊎ (holds nat_eq q (all_uses c (drop (i + 1) bs)) ≡ true)) [
                  | inl e ↦ inl (all q e)
                  | inr e ↦ inr e
                ]
          ];
    }
  where
    split : all_uses c (drop i bs) ≡ use_points c None ps ++ all_uses c (drop (i + 1) bs)
    split = ap (all_uses c) (drop_more bs i [] lt) ∙ ap (λ (xs : List ℕ). use_points c None xs ++ all_uses c (drop (i + 1) bs)) (sym is)

pub blocks_flagged : (c : Code) (i : ℕ) (bs : List (List ℕ)) (whole : List ℕ) (old flags : List Bool) → length bs ≤ i
    → AreFlagged c whole (all_uses c (drop i bs)) old flags
    → (q : ℕ) → holds nat_eq q whole ≡ true → flag_in flags q ≡ true
blocks_flagged c i bs whole old flags le are q h =
    elim (are.some q h) as (λ _. flag_in flags q ≡ true) [
      | inl k ↦ k
      | inr k ↦ absurd (false≢true (subst (λ (ys : List (List ℕ)). holds nat_eq q (all_uses c ys) ≡ true) (drop_past bs i le) k))
    ]

-- the row of a line's set has the points of the set
pub peers_of : (sets : ℕ) (m : PointMaps) (rows : List (List ℕ)) (p line : ℕ) (peers : List ℕ) → line ≡ line_at m.lines p
    → peers ≡ row_in rows (line % sets)
    → HasSets sets m rows → HasSet sets m (line_at m.lines p) peers
peers_of sets m rows p line peers is row all q lt e =
    subst (λ (ys : List ℕ). holds nat_eq q ys ≡ true) (sym row)
    (subst (λ (r : ℕ). holds nat_eq q (row_in rows r) ≡ true) (e ∙ ap (λ (x : ℕ). x % sets) (sym is)) (all q lt))

pub flag_size : (c : Code) (prev : Option ℕ) (x : ℕ) (flags new : List Bool)
    → new ≡ (if is_use c prev x then slice_set flags x true else flags)
    → length new ≡ length flags
flag_size c prev x flags new is = ap length is ∙ by_test (is_use c prev x)
  where
    by_test : (b : Bool) → length (if b then slice_set flags x true else flags) ≡ length flags
    by_test true = flags_size flags x
    by_test false = refl
