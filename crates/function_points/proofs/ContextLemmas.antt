-- Each list of open calls has one number.
use Rattle.std.proofs.Common.{◌≡◌, refl, sym, ap, ◌∙◌, subst, ℕ, zero, suc, ◌+◌, ◌-◌, ◌<◌, ◌^◌, ◌⊎◌, inl, inr, Bool, true, false, List, []}
use Rattle.std.proofs.Common.{◌∷◌, ◌++◌, length, get_or, arith}
use Rattle.std.specs.Prelude.{Option, Some, None, slice_get, cond, ◌&&◌, ◌==◌}
use Rattle.std.specs.Str.{bytes_eq}
use Rattle.std.specs.List.{list_any}
use Rattle.std.proofs.lemmas.List.Folds.{list_any-append}
use Rattle.control_flow.specs.Points.{is_open}
use Rattle.std.specs.BTreeMap.{is_at}
use Rattle.std.proofs.lemmas.Bool.{cases_Bool, or_cases, or_left, or_right, cond-true, cond-false, false≢true, eqb-true, eq-eqb}
use Rattle.std.proofs.lemmas.Bool.Decides.{nat_tests}
use Rattle.std.proofs.lemmas.List.{length-append, get_or_append_left, same_lists}
use Rattle.std.proofs.lemmas.Option.{slice_get_within, slice_get-get_or, get_or_from_slice_get}
use Rattle.std.proofs.lemmas.Slice.Eq.{bytes_eq-Decides}
use Rattle.graph_search.specs.NodeLists.{Equality, holds, Distinct, added}
use Rattle.graph_search.proofs.ListLemmas.{distinct_end}
use Rattle.graph_search.proofs.SearchLemmas.{holds_at}
use Rattle.function_points.specs.Contexts.{pair_cmp, row_list, lists_from, lists_of, AreContexts}

abbrev pub list_equality : Equality (List ℕ)
list_equality = record { same = bytes_eq; exact = λ a b. (bytes_eq-Decides a b).0; itself = λ a. (bytes_eq-Decides a a).1 refl }

-- ---- lists that grow at their end

pub get_left : {A : Type 0} (xs ys : List A) (k : ℕ) (x : A) → slice_get xs k ≡ Some x → slice_get (xs ++ ys) k ≡ Some x
get_left [] ys k x e = absurd (cc)
get_left (y ∷ xs) ys zero x e = e
get_left (y ∷ xs) ys (suc k) x e = get_left xs ys k x e

pub get_last : {A : Type 0} (xs : List A) (y : A) → slice_get (xs ++ y ∷ []) (length xs) ≡ Some y
get_last [] y = refl
get_last (x ∷ xs) y = get_last xs y

pub get_cases : {A : Type 0} (xs : List A) (y : A) (k : ℕ) (x : A) → slice_get (xs ++ y ∷ []) k ≡ Some x → (slice_get xs k ≡ Some x) ⊎
    ((k ≡ length xs) × (y ≡ x))
get_cases [] y zero x e = let same : y ≡ x = cc in inr (refl, same)
get_cases [] y (suc k) x e = absurd (cc)
get_cases (z ∷ xs) y zero x e = inl e
get_cases (z ∷ xs) y (suc k) x e =
    elim (get_cases xs y k x e) as (λ _. (slice_get (z ∷ xs) (suc k) ≡ Some x) ⊎ ((suc k ≡ length (z ∷ xs)) × (y ≡ x))) [
      | inl a ↦ inl a
      | inr b ↦ inr (ap suc b.0, b.1)
    ]

pub held_at : {A : Type 0} (q : Equality A) (x : A) (xs : List A) → holds q.same x xs ≡ true → (k : ℕ) × (slice_get xs k ≡ Some x)
held_at q x [] h = absurd (false≢true h)
held_at q x (y ∷ xs) h =
    elim (or_cases (q.same x y) (holds q.same x xs) h) as (λ _. (k : ℕ) × (slice_get (y ∷ xs) k ≡ Some x)) [
      | inl e ↦ (0, ap Some (sym (q.exact x y e)))
      | inr i ↦ let r = held_at q x xs i in (suc r.0, r.1)
    ]

-- distinct lists have different found
pub one_place : {A : Type 0} (q : Equality A) (xs : List A) (i j : ℕ) (x : A) → Distinct q.same xs → slice_get xs i ≡ Some x
    → slice_get xs j ≡ Some x → i ≡ j
one_place q [] i j x d e f = absurd (cc)
one_place q (y ∷ xs) zero zero x d e f = refl
one_place {A} q (y ∷ xs) zero (suc j) x d e f = let same : y ≡ x = cc in absurd
    (false≢true (sym d.0 ∙ subst (λ z. holds q.same z xs ≡ true) (sym same) (holds_at A q xs j x f)))
one_place {A} q (y ∷ xs) (suc i) zero x d e f = let same : y ≡ x = cc in absurd
    (false≢true (sym d.0 ∙ subst (λ z. holds q.same z xs ≡ true) (sym same) (holds_at A q xs i x e)))
one_place q (y ∷ xs) (suc i) (suc j) x d e f = ap suc (one_place q xs i j x d.1 e f)

pub last_same : (xs ys : List ℕ) (a b : ℕ) → xs ++ a ∷ [] ≡ ys ++ b ∷ [] → (xs ≡ ys) × (a ≡ b)
last_same [] [] a b e = let same : a ≡ b = cc in (refl, same)
last_same [] (y ∷ []) a b e = absurd (cc)
last_same [] (y ∷ z ∷ ys) a b e = absurd (cc)
last_same (x ∷ []) [] a b e = absurd (cc)
last_same (x ∷ z ∷ xs) [] a b e = absurd (cc)
last_same (x ∷ xs) (y ∷ ys) a b e =
    let first : x ≡ y = cc in
    let rest : xs ++ a ∷ [] ≡ ys ++ b ∷ [] = cc in
    let r = last_same xs ys a b rest in
    (ap (λ z. z ∷ xs) first ∙ ap (λ zs. y ∷ zs) r.0, r.1)

lists_push : (ls : List (List ℕ)) (rows : List (ℕ × ℕ)) (row : ℕ × ℕ) → lists_from ls (rows ++ row ∷ []) ≡ lists_from ls rows ++ row_list
    (lists_from ls rows) row ∷ []
lists_push ls [] row = refl
lists_push ls (r ∷ rows) row = lists_push (ls ++ row_list ls r ∷ []) rows row

-- ---- the table

module _ (rows : List (ℕ × ℕ)) (look : ℕ × ℕ → Option ℕ) (are : AreContexts rows look) (p r : ℕ) where
  known_list : (p < length (lists_of rows)) → slice_get (lists_of rows) p ≡ Some (get_or (lists_of rows) p [])
  known_list l = slice_get-get_or (lists_of rows) p [] l

  pub child_known : (k : ℕ) → look (p, r) ≡ Some k → slice_get (lists_of rows) k ≡ Some (row_list (lists_of rows) (p, r))
  child_known k e = let f = are.found (p, r) k e in subst (λ n. slice_get (lists_of rows) n ≡ Some (row_list (lists_of rows) (p, r)))
      (sym f.1) (are.list f.0 (p, r) f.2)

  pub known_added : (k : ℕ) → look (p, r) ≡ Some k → lists_of rows ≡ added bytes_eq (lists_of rows) (row_list (lists_of rows) (p, r))
  known_added k e =
      let x = row_list (lists_of rows) (p, r) in
      sym (cond-true (holds bytes_eq x (lists_of rows)) (lists_of rows) (lists_of rows ++ x ∷ [])
      (holds_at (List ℕ) list_equality (lists_of rows) k x (child_known k e)))

  pub none_at : p < length (lists_of rows) → look (p, r) ≡ None → (k : ℕ) → slice_get (lists_of rows) k ≡ Some
      (row_list (lists_of rows) (p, r)) → ⊥
  none_at l none zero e = no_list (get_or (lists_of rows) p []) r (slice_get (lists_of rows) 0) are.root e
    where
      no_list : (xs : List ℕ) (a : ℕ) (o : Option (List ℕ)) → o ≡ Some [] → o ≡ Some (xs ++ a ∷ []) → ⊥
      no_list [] a o e f = cc
      no_list (x ∷ xs) a o e f = cc
  none_at l none (suc j) e =
      let lt = slice_get_within (lists_of rows) (suc j) (row_list (lists_of rows) (p, r)) e in
      let long = are.long in
      let row = get_or rows j (0, 0) in
      let at : slice_get rows j ≡ Some row = slice_get-get_or rows j (0, 0) (omega (arith, lt, long)) in
      let same = one_some (row_list (lists_of rows) row) (row_list (lists_of rows) (p, r)) (slice_get (lists_of rows) (suc j))
      (are.list j row at) e in
      let parts = last_same (get_or (lists_of rows) row.0 []) (get_or (lists_of rows) p []) row.1 r same in
      let low = are.under j row at in
      let here : slice_get (lists_of rows) row.0 ≡ Some (get_or (lists_of rows) p []) = slice_get-get_or (lists_of rows) row.0 []
      (omega (arith, low, lt)) ∙ ap Some parts.0 in
      let number = one_place list_equality (lists_of rows) row.0 p (get_or (lists_of rows) p []) are.distinct here (known_list l) in
      let is : row ≡ (p, r) = ap (λ n. (n, row.1)) number ∙ ap (λ n. (p, n)) parts.1 in
      not_both (suc j) (look (p, r)) none (are.all j (p, r) (at ∙ ap Some is))
    where
      one_some : (xs ys : List ℕ) (o : Option (List ℕ)) → o ≡ Some xs → o ≡ Some ys → xs ≡ ys
      one_some xs ys o e f = cc

      not_both : (n : ℕ) (o : Option ℕ) → o ≡ None → o ≡ Some n → ⊥
      not_both n o e f = cc

  pub child_new : p < length (lists_of rows) → look (p, r) ≡ None → holds bytes_eq (row_list (lists_of rows) (p, r)) (lists_of rows) ≡ false
  child_new l none =
      let x = row_list (lists_of rows) (p, r) in
      elim (cases_Bool (holds bytes_eq x (lists_of rows))) as (λ _. holds bytes_eq x (lists_of rows) ≡ false) [
        | inl t ↦ let at = held_at list_equality x (lists_of rows) t in absurd (none_at l none at.0 at.1)
        | inr f ↦ f
      ]

pub pair_at : (a b t n : ℕ) → is_at (pair_cmp (a, b)) (t, n) ≡ ((t == a) && (n == b))
pair_at a b t n = grind (arith, nat_tests)

pub and_both : (a b : Bool) → (a && b) ≡ true → (a ≡ true) × (b ≡ true)
and_both true b e = (refl, e)
and_both false b e = absurd (false≢true e)

pub same_pair : (a b : ℕ) (row : ℕ × ℕ) → is_at (pair_cmp (a, b)) row ≡ true → row ≡ (a, b)
same_pair a b (t, n) e =
    let parts = and_both (t == a) (n == b) (sym (pair_at a b t n) ∙ e) in
    ap (λ z. (z, n)) (eqb-true t a parts.0) ∙ ap (λ z. (a, z)) (eqb-true n b parts.1)

pub pair_itself : (a b : ℕ) → is_at (pair_cmp (a, b)) (a, b) ≡ true
pair_itself a b = pair_at a b a b ∙ both (a == a) (b == b) (eq-eqb a a refl) (eq-eqb b b refl)
  where
    both : (x y : Bool) → x ≡ true → y ≡ true → (x && y) ≡ true
    both x y e f = cc

pub none_contexts : (rows : List (ℕ × ℕ)) (look : ℕ × ℕ → Option ℕ) → rows ≡ [] → ((row : ℕ × ℕ) → look row ≡ None) → AreContexts rows look
none_contexts rows look e none =
    subst (λ rs. AreContexts rs look) (sym e) (record {
      long = refl;
      root = refl;
      list = λ k row h. absurd (no_some k row h);
      under = λ k row h. absurd (no_some k row h);
      distinct = (refl, tt);
      found = λ row k h. absurd (not_both k (look row) (none row) h);
      all = λ j row h. absurd (no_some j row h);
    })
  where
    no_some : (k : ℕ) (row : ℕ × ℕ) → slice_get {X = ℕ × ℕ} [] k ≡ Some row → ⊥
    no_some k row h = cc

    not_both : (n : ℕ) (o : Option ℕ) → o ≡ None → o ≡ Some n → ⊥
    not_both n o e f = cc

module _ (rows new : List (ℕ × ℕ)) (look now : ℕ × ℕ → Option ℕ) (are : AreContexts rows look) (p r : ℕ)
    (known : p < length (lists_of rows)) (none : look (p, r) ≡ None)
    (is : new ≡ rows ++ (p, r) ∷ []) (updates : (q : ℕ × ℕ) → now q ≡ cond (is_at (pair_cmp (p, r)) q) (Some (suc (length rows)))
    (look q)) where
  abbrev ls : List (List ℕ)
  ls = lists_of rows

  abbrev x : List ℕ
  x = row_list ls (p, r)

  pub new_lists : lists_of new ≡ ls ++ x ∷ []
  new_lists = ap lists_of is ∙ lists_push ([] ∷ []) rows (p, r)

  pub new_added : lists_of new ≡ added bytes_eq ls x
  new_added = new_lists ∙ sym (cond-false (holds bytes_eq x ls) ls (ls ++ x ∷ []) (child_new rows look are p r known none))

  pub new_number : slice_get (lists_of new) (suc (length rows)) ≡ Some x
  new_number = ap (λ zs. slice_get zs (suc (length rows))) new_lists ∙ subst (λ n. slice_get (ls ++ x ∷ []) n ≡ Some x) are.long
      (get_last ls x)

  row_stays : (row : ℕ × ℕ) → row.0 < length ls → row_list (ls ++ x ∷ []) row ≡ row_list ls row
  row_stays row l = ap (λ zs. zs ++ row.1 ∷ []) (get_or_append_left ls (x ∷ []) [] row.0 l)

  row_cases : (k : ℕ) (row : ℕ × ℕ) → slice_get new k ≡ Some row → (slice_get rows k ≡ Some row) ⊎ ((k ≡ length rows) × ((p, r) ≡ row))
  row_cases k row h = get_cases rows (p, r) k row (ap (λ rs. slice_get rs k) (sym is) ∙ h)

  not_new : (j : ℕ) (row : ℕ × ℕ) → slice_get rows j ≡ Some row → is_at (pair_cmp (p, r)) row ≡ false
  not_new j row h =
      elim (cases_Bool (is_at (pair_cmp (p, r)) row)) as (λ _. is_at (pair_cmp (p, r)) row ≡ false) [
        | inl t ↦ absurd (not_both (suc j) (look (p, r)) none (are.all j (p, r) (h ∙ ap Some (same_pair p r row t))))
        | inr f ↦ f
      ]
    where
      not_both : (n : ℕ) (o : Option ℕ) → o ≡ None → o ≡ Some n → ⊥
      not_both n o e f = cc

  pub new_contexts : AreContexts new now
  new_contexts =
      let long = are.long in
      record {
        long = ap length new_lists ∙ length-append ls (x ∷ []) ∙ sums (length ls) (length rows) (length new) long
            (ap length is ∙ length-append rows ((p, r) ∷ []));
        root = ap (λ zs. slice_get zs 0) new_lists ∙ get_left ls (x ∷ []) 0 [] are.root;
        list = λ k row h.
            ap (λ zs. slice_get zs (suc k)) new_lists
            ∙ elim (row_cases k row h) as (λ _. slice_get (ls ++ x ∷ []) (suc k) ≡ Some (row_list (lists_of new) row)) [
              | inl old ↦
                  let low = are.under k row old in
                  let lt = slice_get_within rows k row old in
                  get_left ls (x ∷ []) (suc k) (row_list ls row) (are.list k row old)
                  ∙ ap Some (sym (ap (λ zs. row_list zs row) new_lists ∙ row_stays row (omega (arith, low, lt, long))))
              | inr last ↦
                  subst (λ n. slice_get (ls ++ x ∷ []) n ≡ Some x) (long ∙ ap suc (sym last.0)) (get_last ls x)
                  ∙ ap Some (sym (ap (λ zs. row_list zs row) new_lists ∙ row_stays row (subst (λ z. z.0 < length ls) last.1 known) ∙ ap
                  (λ z. row_list ls z) (sym last.1)))
            ];
        under = λ k row h.
            elim (row_cases k row h) as (λ _. row.0 < suc k) [
              | inl old ↦ are.under k row old
              | inr last ↦ subst (λ z. z.0 < suc k) last.1 (subst (λ n. p < suc n) (sym last.0) (subst (λ n. p < n) long known))
            ];
        distinct = subst (Distinct bytes_eq) (sym new_lists) (distinct_end (List ℕ) list_equality x ls are.distinct
            (child_new rows look are p r known none));
        found = λ row k h.
            elim (cases_Bool (is_at (pair_cmp (p, r)) row)) as (λ _. (j : ℕ) × (k ≡ suc j) × (slice_get new j ≡ Some row)) [
              | inl t ↦
                  let n = one_number k (suc (length rows)) (now row) h
                  (updates row ∙ cond-true (is_at (pair_cmp (p, r)) row) (Some (suc (length rows))) (look row) t) in
                  (length rows, n, ap (λ rs. slice_get rs (length rows)) is ∙ get_last rows (p, r) ∙ ap Some (sym (same_pair p r row t)))
              | inr f ↦
                  let old = are.found row k (sym (cond-false (is_at (pair_cmp (p, r)) row) (Some (suc (length rows))) (look row) f) ∙ sym
                  (updates row) ∙ h) in
                  (old.0, old.1, ap (λ rs. slice_get rs old.0) is ∙ get_left rows ((p, r) ∷ []) old.0 row old.2)
            ];
        all = λ j row h.
            elim (row_cases j row h) as (λ _. now row ≡ Some (suc j)) [
              | inl old ↦ updates row ∙ cond-false (is_at (pair_cmp (p, r)) row) (Some (suc (length rows))) (look row) (not_new j row old)
                  ∙ are.all j row old
              | inr last ↦
                  updates row ∙ cond-true (is_at (pair_cmp (p, r)) row) (Some (suc (length rows))) (look row)
                  (subst (λ z. is_at (pair_cmp (p, r)) z ≡ true) last.1 (pair_itself p r))
                  ∙ ap (λ n. Some (suc n)) (sym last.0)
            ];
      }
    where
      one_number : (a b : ℕ) (o : Option ℕ) → o ≡ Some a → o ≡ Some b → a ≡ b
      one_number a b o e f = cc

      sums : (a b c : ℕ) → a ≡ suc b → c ≡ b + 1 → a + 1 ≡ suc c
      sums a b c e f = omega (arith, e, f)

pub rows_few : (rows : List (ℕ × ℕ)) (v : List (List ℕ)) (look : ℕ × ℕ → Option ℕ) → AreContexts rows look → lists_of rows ≡ v
    → length v < 2 ^ 31 → length rows < 2 ^ 31
rows_few rows v look are e l = let long = are.long in let same = ap length e in omega (arith, long, same, l)

pub updates_at : (p r n m : ℕ) (look now : ℕ × ℕ → Option ℕ) → ((q : ℕ × ℕ) → now q ≡ cond (is_at (pair_cmp (p, r)) q) (Some n) (look q))
    → n ≡ suc m → (q : ℕ × ℕ) → now q ≡ cond (is_at (pair_cmp (p, r)) q) (Some (suc m)) (look q)
updates_at p r n m look now u e q = u q ∙ ap (λ (k : ℕ). cond (is_at (pair_cmp (p, r)) q) (Some k) (look q)) e

pub view_long : (rows : List (ℕ × ℕ)) (v : List (List ℕ)) (look : ℕ × ℕ → Option ℕ) → AreContexts rows look → lists_of rows ≡ v → length v
    ≡ suc (length rows)
view_long rows v look are e = ap length (sym e) ∙ are.long

pub root_empty : (rows : List (ℕ × ℕ)) (v : List (List ℕ)) (look : ℕ × ℕ → Option ℕ) → AreContexts rows look → lists_of rows ≡ v
    → get_or v 0 [] ≡ []
root_empty rows v look are e = ap (λ zs. get_or zs 0 []) (sym e) ∙ get_or_from_slice_get (lists_of rows) 0 [] [] are.root

pub parent_row : (rows : List (ℕ × ℕ)) (v : List (List ℕ)) (look : ℕ × ℕ → Option ℕ) → AreContexts rows look → lists_of rows ≡ v → (j : ℕ)
    (row d : ℕ × ℕ) → j < length rows → row ≡ get_or rows j d
    → (row.0 < suc j) × (get_or v (suc j) [] ≡ get_or v row.0 [] ++ row.1 ∷ [])
parent_row rows v look are e j row d l is =
    let at : slice_get rows j ≡ Some row = slice_get-get_or rows j d l ∙ ap Some (sym is) in (
      are.under j row at,
      subst (λ zs. get_or zs (suc j) [] ≡ get_or zs row.0 [] ++ row.1 ∷ []) e
          (get_or_from_slice_get (lists_of rows) (suc j) (row_list (lists_of rows) row) [] (are.list j row at)),
    )

pub parent_at : (rows : List (ℕ × ℕ)) (v : List (List ℕ)) (look : ℕ × ℕ → Option ℕ) → AreContexts rows look → lists_of rows ≡ v → (n : ℕ)
    (row d : ℕ × ℕ) → (n == 0) ≡ false → n < length v → row ≡ get_or rows (n - 1) d
    → (row.0 < n) × (get_or v n [] ≡ get_or v row.0 [] ++ row.1 ∷ [])
parent_at rows v look are e n row d some l is =
    let long = view_long rows v look are e in
    let next : suc (n - 1) ≡ n = next_of n some in
    let r = parent_row rows v look are e (n - 1) row d (omega (arith, long, l, next)) is in
    subst (λ k. (row.0 < k) × (get_or v k [] ≡ get_or v row.0 [] ++ row.1 ∷ [])) next r
  where
    next_of : (n : ℕ) → (n == 0) ≡ false → suc (n - 1) ≡ n
    next_of n s = grind (arith, nat_tests, s)

-- ---- the lists determine the rows

one_list : (xs ys : List ℕ) (o : Option (List ℕ)) → o ≡ Some xs → o ≡ Some ys → xs ≡ ys
one_list xs ys o e f = cc

pub same_rows : (rows others : List (ℕ × ℕ)) (look now : ℕ × ℕ → Option ℕ) → AreContexts rows look → AreContexts others now → lists_of rows
    ≡ lists_of others → rows ≡ others
same_rows rows others look now are too e =
    let long = are.long in
    let far = too.long in
    let even = ap length e in
    let same : length rows ≡ length others = omega (arith, long, far, even) in
    same_lists rows others same (λ k d l. row_same k d l (subst (λ n. k < n) same l))
  where
    row_same : (k : ℕ) (d : ℕ × ℕ) → k < length rows → k < length others → get_or rows k d ≡ get_or others k d
    row_same k d l m =
        let x = get_or rows k d in
        let y = get_or others k d in
        let xe : slice_get rows k ≡ Some x = slice_get-get_or rows k d l in
        let ye : slice_get others k ≡ Some y = slice_get-get_or others k d m in
        let both : row_list (lists_of rows) x ≡ row_list (lists_of rows) y =
        one_list (row_list (lists_of rows) x) (row_list (lists_of rows) y) (slice_get (lists_of rows) (suc k)) (are.list k x xe)
        (subst (λ zs. slice_get zs (suc k) ≡ Some (row_list zs y)) (sym e) (too.list k y ye)) in
        let parts = last_same (get_or (lists_of rows) x.0 []) (get_or (lists_of rows) y.0 []) x.1 y.1 both in
        let low = are.under k x xe in
        let low' = too.under k y ye in
        let long = are.long in
        let far = too.long in
        let even = ap length e in
        let a : slice_get (lists_of rows) x.0 ≡ Some (get_or (lists_of rows) y.0 []) = slice_get-get_or (lists_of rows) x.0 []
        (omega (arith, low, long, l)) ∙ ap Some parts.0 in
        let b : slice_get (lists_of rows) y.0 ≡ Some (get_or (lists_of rows) y.0 []) = slice_get-get_or (lists_of rows) y.0 []
        (omega (arith, low', far, even, m)) in
        ap (λ n. (n, x.1)) (one_place list_equality (lists_of rows) x.0 y.0 (get_or (lists_of rows) y.0 []) are.distinct a b) ∙ ap
        (λ n. (y.0, n)) parts.1

pub root_seen : (rows : List (ℕ × ℕ)) (v : List (List ℕ)) (look : ℕ × ℕ → Option ℕ) → AreContexts rows look → lists_of rows ≡ v
    → slice_get v 0 ≡ Some []
root_seen rows v look are e = subst (λ zs. slice_get zs 0 ≡ Some []) e are.root

pub distinct_seen : (rows : List (ℕ × ℕ)) (v : List (List ℕ)) (look : ℕ × ℕ → Option ℕ) → AreContexts rows look → lists_of rows ≡ v
    → Distinct bytes_eq v
distinct_seen rows v look are e = subst (Distinct bytes_eq) e are.distinct

pub rows_seen : (rows : List (ℕ × ℕ)) (v : List (List ℕ)) (look : ℕ × ℕ → Option ℕ) → AreContexts rows look → lists_of rows ≡ v → (k : ℕ)
    → k < length v → (get_or v k [] ≡ []) ⊎ ((p a : ℕ) × (p < k) × (get_or v k [] ≡ get_or v p [] ++ a ∷ []))
rows_seen rows v look are e zero l = inl (root_empty rows v look are e)
rows_seen rows v look are e (suc j) l =
    let long = view_long rows v look are e in
    let row = get_or rows j (0, 0) in
    let r = parent_row rows v look are e j row (0, 0) (omega (arith, l, long)) refl in
    inr (row.0, row.1, r.0, r.1)

-- a call that is open goes to the target
pub found_open : (goes : ℕ → ℕ → Bool) (entry target after : ℕ) (front at all : List ℕ) → at ≡ front ++ after ∷ [] → true
    ≡ goes after target
    → list_any (λ r. goes r target) at ≡ list_any (λ r. goes r target) all → true ≡ is_open goes entry all target
found_open goes entry target after front at all is found same =
    let test : ℕ → Bool = λ r. goes r target in
    let here : list_any test at ≡ true =
    ap (list_any test) is ∙ list_any-append test front (after ∷ []) ∙ or_right (list_any test front) (list_any test (after ∷ []))
    (or_left (test after) false (sym found)) in
    sym (or_right (target == entry) (list_any test all) (sym same ∙ here))
