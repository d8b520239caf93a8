-- The ways through a node come beside those that are there.
use Rattle.std.proofs.Common.{◌≡◌, ℕ, zero, suc, ◌+◌, ◌<◌, Bool, true, false, if◌then◌else◌, ◌||◌, nat_eq, List, [], ◌∷◌, ◌++◌, take}
use Rattle.std.proofs.Common.{get_or, length, refl, sym, ap, subst, ◌∙◌, arith}
use Rattle.std.specs.Prelude.{◌&&◌, Option, Some, None, is_some}
use Rattle.std.specs.List.{AllByRecursion}
use Rattle.std.proofs.lemmas.Bool.Decides.{nat_tests}
use Rattle.elimination_plans.proofs.PlanStepLemmas.{ap2}
use Rattle.std.proofs.lemmas.List.{take_more}
use Rattle.elimination_plans.specs.Weights.{Only}
use Rattle.node_elimination.specs.declared.table.Table.{Table}
use Rattle.node_elimination.specs.Tables.{Keeps}
use Rattle.node_elimination.specs.declared.cells.Cell.{Cell}
use Rattle.node_elimination.specs.Cells.{put, find, cut_into, cut_out, OnceIn, joined, joined_of, passed, pass_of, row_joined, all_joined}
use Rattle.node_elimination.specs.Cells.{cells_step}
use Rattle.node_elimination.proofs.CellChangeLemmas.{self_eq, same_number}
use Rattle.node_elimination.proofs.NodeEdgeLemmas.{or_else, find_last}

-- ---- places of a list

place_apart : (w : ℕ) (xs : List (ℕ × Cell)) (i : ℕ) (d : ℕ × Cell) → find w xs ≡ None → i < length xs → nat_eq (get_or xs i d).0 w ≡ false
place_apart w [] i d e l = absurd (omega (arith, l))
place_apart w (x ∷ xs) i d e l = by_test (λ j f m. place_apart w xs j d f m) (nat_eq w x.0) refl e i l
  where
    turned : (a b : ℕ) → nat_eq a b ≡ false → nat_eq b a ≡ false
    turned a b e = grind (arith, nat_tests)

    by_test : ((j : ℕ) → find w xs ≡ None → j < length xs → nat_eq (get_or xs j d).0 w ≡ false) → (b : Bool) → nat_eq w x.0 ≡ b
        → (if b then Some x.1 else find w xs) ≡ None → (i : ℕ) → i < length (x ∷ xs) → nat_eq (get_or (x ∷ xs) i d).0 w ≡ false
    by_test ih true f e i l = absurd (cc)
    by_test ih false f e zero l = turned w x.0 f
    by_test ih false f e (suc i) l = ih i e (omega (arith, l))

pub place_new : (xs : List (ℕ × Cell)) (i : ℕ) (d : ℕ × Cell) → OnceIn xs → i < length xs → find (get_or xs i d).0 (take i xs) ≡ None
place_new [] i d o l = absurd (omega (arith, l))
place_new (x ∷ xs) zero d o l = refl
place_new (x ∷ xs) (suc i) d o l =
    ap (λ (b : Bool). if b then Some x.1 else find (get_or xs i d).0 (take i xs)) (place_apart x.0 xs i d o.0 (omega (arith, l)))
    ∙ place_new xs i d o.1 (omega (arith, l))

pub place_all : (P : ℕ × Cell → Type 0) (xs : List (ℕ × Cell)) (i : ℕ) (d : ℕ × Cell) → AllByRecursion P xs → i < length xs
    → P (get_or xs i d)
place_all P [] i d all l = absurd (omega (arith, l))
place_all P (x ∷ xs) zero d all l = all.0
place_all P (x ∷ xs) (suc i) d all l = place_all P xs i d all.1 (omega (arith, l))

-- ---- rows

none_right : (o : Option Cell) → or_else o None ≡ o
none_right None = refl
none_right (Some c) = refl

module _ (a n : Cell) (E : ℕ → ℕ → Option Cell) where
  pub row_none : (p : ℕ) → E ≡ row_joined p a n [] E
  row_none p = λ i x y. is (nat_eq x p) x y i
    where
      is : (b : Bool) (x y : ℕ) → E x y ≡ (if b then E x y else E x y)
      is true x y = refl
      is false x y = refl

  pub row_next : (p : ℕ) (done : List (ℕ × Cell)) (z : ℕ × Cell) → find z.0 done ≡ None
      → put p z.0 (Some (joined (row_joined p a n done E p z.0) (passed a n z.1))) (row_joined p a n done E) ≡ row_joined p a n
      (done ++ z ∷ []) E
  row_next p done z new = λ i x y. is x y i
    where
      own : row_joined p a n done E p z.0 ≡ E p z.0
      own = ap2 (λ (b : Bool) (o : Option Cell). if b then joined_of (E p z.0) (pass_of (Some a) n o) else E p z.0) (self_eq p) new

      by_tests : (x y : ℕ) (b c : Bool) → nat_eq x p ≡ b → nat_eq y z.0 ≡ c
          → (if b && c then Some (joined (row_joined p a n done E p z.0) (passed a n z.1)) else
          (if b then joined_of (E x y) (pass_of (Some a) n (find y done)) else E x y))
          ≡ (if b then joined_of (E x y) (pass_of (Some a) n (or_else (find y done) (if c then Some z.1 else None))) else E x y)
      by_tests x y false c e f = refl
      by_tests x y true false e f = ap (λ (o : Option Cell). joined_of (E x y) (pass_of (Some a) n o)) (sym (none_right (find y done)))
      by_tests x y true true e f =
          let at_x : x ≡ p = same_number x p e in
          let at_y : y ≡ z.0 = same_number y z.0 f in
          let none : find y done ≡ None = ap (λ (k : ℕ). find k done) at_y ∙ new in
          ap (λ (o : Option Cell). Some (joined o (passed a n z.1))) (own ∙ ap2 E (sym at_x) (sym at_y))
          ∙ ap (λ (o : Option Cell). joined_of (E x y) (pass_of (Some a) n (or_else o (Some z.1)))) (sym none)

      is : (x y : ℕ) → put p z.0 (Some (joined (row_joined p a n done E p z.0) (passed a n z.1))) (row_joined p a n done E) x y ≡ row_joined
          p a n (done ++ z ∷ []) E x y
      is x y =
          by_tests x y (nat_eq x p) (nat_eq y z.0) refl refl
          ∙ ap (λ (o : Option Cell). if nat_eq x p then joined_of (E x y) (pass_of (Some a) n o) else E x y) (sym (find_last y done z))

pub rows_next : (n : Cell) (outs : List (ℕ × Cell)) (E : ℕ → ℕ → Option Cell) (done : List (ℕ × Cell)) (z : ℕ × Cell) → find z.0 done ≡ None
    → row_joined z.0 z.1 n outs (all_joined done n outs E) ≡ all_joined (done ++ z ∷ []) n outs E
rows_next n outs E done z new = λ i x y. is x y i
  where
    by_test : (x y : ℕ) (b : Bool) → nat_eq x z.0 ≡ b
        → (if b then joined_of (joined_of (E x y) (pass_of (find x done) n (find y outs))) (pass_of (Some z.1) n (find y outs)) else
        joined_of (E x y) (pass_of (find x done) n (find y outs)))
        ≡ joined_of (E x y) (pass_of (or_else (find x done) (if b then Some z.1 else None)) n (find y outs))
    by_test x y false e = ap (λ (o : Option Cell). joined_of (E x y) (pass_of o n (find y outs))) (sym (none_right (find x done)))
    by_test x y true e =
        let none : find x done ≡ None = ap (λ (k : ℕ). find k done) (same_number x z.0 e) ∙ new in
        ap (λ (o : Option Cell). joined_of (joined_of (E x y) (pass_of o n (find y outs))) (pass_of (Some z.1) n (find y outs))) none
        ∙ ap (λ (o : Option Cell). joined_of (E x y) (pass_of (or_else o (Some z.1)) n (find y outs))) (sym none)

    is : (x y : ℕ) → row_joined z.0 z.1 n outs (all_joined done n outs E) x y ≡ all_joined (done ++ z ∷ []) n outs E x y
    is x y = by_test x y (nat_eq x z.0) refl ∙ ap (λ (o : Option Cell). joined_of (E x y) (pass_of o n (find y outs)))
        (sym (find_last x done z))

-- ---- a node is taken out

core : (a b : Bool) (into out here : Option Cell) (n : Cell) → (a ≡ true → into ≡ None) → (a ≡ true → here ≡ out) → (b ≡ true → out ≡ None)
    → (b ≡ true → here ≡ into)
    → joined_of (if a && is_some out then None else (if b && is_some into then None else here)) (pass_of into n out) ≡
    (if a || b then None else joined_of here (pass_of into n out))
core true b into (Some o) here n h k l m = ap (λ (i : Option Cell). joined_of None (pass_of i n (Some o))) (h refl)
core true b into None here n h k l m =
    ap2 (λ (i w : Option Cell). joined_of (if b && is_some i then None else w) (pass_of i n None)) (h refl) (k refl) ∙ none b
  where
    none : (c : Bool) → ◌≡◌ {A = Option Cell} (if c && false then None else None) None
    none true = refl
    none false = refl
core false true (Some i) out here n h k l m = ap (λ (o : Option Cell). joined_of None (pass_of (Some i) n o)) (l refl)
core false true None out here n h k l m = m refl
core false false into out here n h k l m = refl

pub cells_stepped : (v : ℕ) (n : Cell) (E : ℕ → ℕ → Option Cell) (ins outs : List (ℕ × Cell)) → E v v ≡ None
    → ((p : ℕ) → find p ins ≡ E p v) → ((q : ℕ) → find q outs ≡ cut_into v ins E v q)
    → all_joined ins n outs (cut_out v outs (cut_into v ins E)) ≡ cells_step v n E
cells_stepped v n E ins outs own into out = λ i x y. is x y i
  where
    out_is : (q : ℕ) → find q outs ≡ E v q
    out_is q = out q ∙ ap (λ (o : Option Cell). if nat_eq q v && is_some o then None else E v q) (into v ∙ own) ∙ none (nat_eq q v)
      where
        none : (b : Bool) → (if b && false then None else E v q) ≡ E v q
        none true = refl
        none false = refl

    is : (x y : ℕ) → all_joined ins n outs (cut_out v outs (cut_into v ins E)) x y ≡ cells_step v n E x y
    is x y =
        ap2 (λ (i o : Option Cell). joined_of (if nat_eq x v && is_some o then None else (if nat_eq y v && is_some i then None else E x y))
        (pass_of i n o)) (into x) (out_is y)
        ∙ core (nat_eq x v) (nat_eq y v) (E x v) (E v y) (E x y) n
        (λ e. ap (λ (k : ℕ). E k v) (same_number x v e) ∙ own) (λ e. ap (λ (k : ℕ). E k y) (same_number x v e))
        (λ e. ap (E v) (same_number y v e) ∙ own) (λ e. ap (E x) (same_number y v e))

-- ---- loops

pub row_step : (p : ℕ) (a n way : Cell) (outs : List (ℕ × Cell)) (i : ℕ) (d : ℕ × Cell) (old new : Table)
    → way ≡ passed a n (get_or outs i d).1
    → ((all : List ℕ) (E : ℕ → ℕ → Option Cell) → Keeps all E old → Only p all → Only (get_or outs i d).0 all
    → Keeps all (put p (get_or outs i d).0 (Some (joined (E p (get_or outs i d).0) way)) E) new) → i < length outs
    → (all : List ℕ) (E : ℕ → ℕ → Option Cell) → Only p all → AllByRecursion (λ x. Only x.0 all) outs → OnceIn outs
    → Keeps all (row_joined p a n (take i outs) E) old → Keeps all (row_joined p a n (take (i + 1) outs) E) new
row_step p a n way outs i d old new is add l all E op each once k =
    let z : ℕ × Cell = get_or outs i d in
    let new_one : find (get_or outs i d).0 (take i outs) ≡ None = place_new outs i d once l in
    subst (λ (xs : List (ℕ × Cell)). Keeps all (row_joined p a n xs E) new) (sym (take_more outs i d l))
    (subst (λ (F : ℕ → ℕ → Option Cell). Keeps all F new) (row_next a n E p (take i outs) (get_or outs i d) new_one)
    (subst (λ (w : Cell). Keeps all (put p (get_or outs i d).0 (Some (joined (row_joined p a n (take i outs) E p (get_or outs i d).0) w))
    (row_joined p a n (take i outs) E)) new) is
    (add all (row_joined p a n (take i outs) E) k op (place_all (λ x. Only x.0 all) outs i d each l))))

pub rows_step : (n : Cell) (ins outs : List (ℕ × Cell)) (i : ℕ) (d : ℕ × Cell) (old new : Table)
    → ((all : List ℕ) (E : ℕ → ℕ → Option Cell) → Keeps all E old → Only (get_or ins i d).0 all → AllByRecursion (λ x. Only x.0 all) outs
    → OnceIn outs → Keeps all (row_joined (get_or ins i d).0 (get_or ins i d).1 n outs E) new) → i < length ins
    → (all : List ℕ) (E : ℕ → ℕ → Option Cell) → AllByRecursion (λ x. Only x.0 all) ins → OnceIn ins
    → AllByRecursion (λ x. Only x.0 all) outs → OnceIn outs → Keeps all (all_joined (take i ins) n outs E) old
    → Keeps all (all_joined (take (i + 1) ins) n outs E) new
rows_step n ins outs i d old new add l all E each once each_out once_out k =
    subst (λ (xs : List (ℕ × Cell)). Keeps all (all_joined xs n outs E) new) (sym (take_more ins i d l))
    (subst (λ (F : ℕ → ℕ → Option Cell). Keeps all F new) (rows_next n outs E (take i ins) (get_or ins i d) (place_new ins i d once l))
    (add all (all_joined (take i ins) n outs E) k (place_all (λ x. Only x.0 all) ins i d each l) each_out once_out))
