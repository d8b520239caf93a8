-- The edges of a node are taken out one after another.
use Rattle.std.proofs.Common.{◌≡◌, ℕ, ◌<◌, ◌^◌, ◌⊎◌, inl, inr, Bool, true, false, if◌then◌else◌, ◌||◌, nat_eq, List, [], ◌∷◌, ◌++◌, refl}
use Rattle.std.proofs.Common.{sym, ap, subst, ◌∙◌, arith}
use Rattle.std.specs.Prelude.{◌&&◌, Option, Some, None, is_some}
use Rattle.std.specs.List.{AllByRecursion}
use Rattle.std.proofs.lemmas.Bool.Decides.{nat_tests}
use Rattle.elimination_plans.specs.Weights.{Only}
use Rattle.elimination_plans.proofs.PlanStepLemmas.{ap2}
use Rattle.node_elimination.specs.declared.cells.Cell.{Cell}
use Rattle.std.specs.BTreeMap as tree
use Rattle.graph_reduction.specs.Sets.{in_set}
use Rattle.elimination_plans.specs.Plans.{pair_cmp}
use Rattle.node_elimination.specs.declared.table.Table.{Table}
use Rattle.node_elimination.specs.Tables.{Keeps}
use Rattle.node_elimination.specs.Cells.{put, find, cut_into, cut_out, OnceIn, AreIn, Pulled}
use Rattle.node_elimination.proofs.CellChangeLemmas.{self_eq, same_number}

abbrev pub or_else : Option Cell → Option Cell → Option Cell
or_else None o = o
or_else (Some c) o = Some c

pub find_last : (y : ℕ) (xs : List (ℕ × Cell)) (z : ℕ × Cell) → find y (xs ++ z ∷ []) ≡ or_else (find y xs)
    (if nat_eq y z.0 then Some z.1 else None)
find_last y [] z = refl
find_last y (x ∷ xs) z = by_test (nat_eq y x.0) (find_last y xs z)
  where
    by_test : (b : Bool) → find y (xs ++ z ∷ []) ≡ or_else (find y xs) (if nat_eq y z.0 then Some z.1 else None)
        → (if b then Some x.1 else find y (xs ++ z ∷ [])) ≡ or_else (if b then Some x.1 else find y xs)
        (if nat_eq y z.0 then Some z.1 else None)
    by_test true ih = refl
    by_test false ih = ih

some_else : (o : Option Cell) (b : Bool) (c : Cell) → is_some (or_else o (if b then Some c else None)) ≡ (is_some o || b)
some_else None true c = refl
some_else None false c = refl
some_else (Some x) b c = refl

not_same : (y x : ℕ) (c : Cell) (o : Option Cell) → (if nat_eq y x then Some c else o) ≡ None → nat_eq y x ≡ false
not_same y x c o e = by_test (nat_eq y x) refl e
  where
    by_test : (b : Bool) → nat_eq y x ≡ b → (if b then Some c else o) ≡ None → nat_eq y x ≡ false
    by_test true f e = absurd (cc)
    by_test false f e = f

turned : (a b : ℕ) → nat_eq a b ≡ false → nat_eq b a ≡ false
turned a b e = grind (arith, nat_tests)

pub once_more : (xs : List (ℕ × Cell)) (z : ℕ × Cell) → OnceIn xs → find z.0 xs ≡ None → OnceIn (xs ++ z ∷ [])
once_more [] z o e = (refl, tt)
once_more (x ∷ xs) z o e =
    let n : nat_eq z.0 x.0 ≡ false = not_same z.0 x.0 x.1 (find z.0 xs) e in
    let rest : find z.0 xs ≡ None = sym (ap (λ (b : Bool). if b then Some x.1 else find z.0 xs) n) ∙ e in
    (find_last x.0 xs z ∙ ap2 or_else o.0 (ap (λ (b : Bool). if b then Some z.1 else None) (turned z.0 x.0 n)), once_more xs z o.1 rest)

pub all_more : (P : ℕ × Cell → Type 0) (xs : List (ℕ × Cell)) (z : ℕ × Cell) → AllByRecursion P xs → P z → AllByRecursion P (xs ++ z ∷ [])
all_more P [] z all h = (h, tt)
all_more P (x ∷ xs) z all h = (all.0, all_more P xs z all.1 h)

-- what is found is an edge
pub found_is : (r : ℕ → Option Cell) (y : ℕ) (xs : List (ℕ × Cell)) → AllByRecursion (λ x. r x.0 ≡ Some x.1) xs
    → (find y xs ≡ None) ⊎ (find y xs ≡ r y)
found_is r y [] all = inl refl
found_is r y (x ∷ xs) all = by_test (nat_eq y x.0) refl (found_is r y xs all.1)
  where
    by_test : (b : Bool) → nat_eq y x.0 ≡ b → (find y xs ≡ None) ⊎ (find y xs ≡ r y)
        → ((if b then Some x.1 else find y xs) ≡ None) ⊎ ((if b then Some x.1 else find y xs) ≡ r y)
    by_test true e ih = inr (sym all.0 ∙ ap r (sym (same_number y x.0 e)))
    by_test false e ih = ih

cut_cases : (f p c : Bool) (E : Option Cell) → (if p && c then None else (if c && f then None else E)) ≡ (if c && (f || p) then None else E)
cut_cases true true true E = refl
cut_cases true true false E = refl
cut_cases true false true E = refl
cut_cases true false false E = refl
cut_cases false true true E = refl
cut_cases false true false E = refl
cut_cases false false true E = refl
cut_cases false false false E = refl

out_cases : (f p c : Bool) (E : Option Cell) → (if c && p then None else (if c && f then None else E)) ≡ (if c && (f || p) then None else E)
out_cases true true true E = refl
out_cases true true false E = refl
out_cases true false true E = refl
out_cases true false false E = refl
out_cases false true true E = refl
out_cases false true false E = refl
out_cases false false true E = refl
out_cases false false false E = refl

module _ (v : ℕ) (E : ℕ → ℕ → Option Cell) (list : List (ℕ × Cell)) where
  pub cut_more : (p : ℕ) (c : Cell) → put p v None (cut_into v list E) ≡ cut_into v (list ++ (p, c) ∷ []) E
  cut_more p c = λ i x y. is x y i
    where
      is : (x y : ℕ) → put p v None (cut_into v list E) x y ≡ cut_into v (list ++ (p, c) ∷ []) E x y
      is x y = cut_cases (is_some (find x list)) (nat_eq x p) (nat_eq y v) (E x y)
          ∙ ap (λ (b : Bool). if nat_eq y v && b then None else E x y)
          (sym (ap is_some (find_last x list (p, c)) ∙ some_else (find x list) (nat_eq x p) c))

  pub cut_out_more : (p : ℕ) (c : Cell) → put v p None (cut_out v list E) ≡ cut_out v (list ++ (p, c) ∷ []) E
  cut_out_more p c = λ i x y. is x y i
    where
      is : (x y : ℕ) → put v p None (cut_out v list E) x y ≡ cut_out v (list ++ (p, c) ∷ []) E x y
      is x y = out_cases (is_some (find y list)) (nat_eq y p) (nat_eq x v) (E x y)
          ∙ ap (λ (b : Bool). if nat_eq x v && b then None else E x y)
          (sym (ap is_some (find_last y list (p, c)) ∙ some_else (find y list) (nat_eq y p) c))

  abbrev pub row_left : (ℕ → Option Cell) → ℕ → Option Cell
  row_left r p = if is_some (find p list) then None else r p

  pub into_row : (p : ℕ) → cut_into v list E p v ≡ row_left (λ x. E x v) p
  into_row p = ap (λ (b : Bool). if b && is_some (find p list) then None else E p v) (self_eq v)

  pub out_row : (p : ℕ) → cut_out v list E v p ≡ row_left (λ x. E v x) p
  out_row p = ap (λ (b : Bool). if b && is_some (find p list) then None else E v p) (self_eq v)

  -- an edge that is still there isn't in the list
  pub not_yet : (r : ℕ → Option Cell) (p : ℕ) → is_some (row_left r p) ≡ true → (find p list ≡ None) × (is_some (r p) ≡ true)
  not_yet r p e = by_found (find p list) e
    where
      by_found : (o : Option Cell) → is_some (if is_some o then None else r p) ≡ true → (o ≡ None) × (is_some (r p) ≡ true)
      by_found None e = (refl, e)
      by_found (Some c) e = absurd (cc)

  pub is_there : (r : ℕ → Option Cell) (p : ℕ) (c : Cell) → row_left r p ≡ Some c → (find p list ≡ None) × (r p ≡ Some c)
  is_there r p c e = by_found (find p list) e
    where
      by_found : (o : Option Cell) → (if is_some o then None else r p) ≡ Some c → (o ≡ None) × (r p ≡ Some c)
      by_found None e = (refl, e)
      by_found (Some d) e = absurd (cc)

  -- where none is left all are in the list
  pub all_found : (r : ℕ → Option Cell) → AllByRecursion (λ x. r x.0 ≡ Some x.1) list → ((p : ℕ) → is_some (r p) ≡ true → p < 2 ^ 32)
      → ((p : ℕ) → p < 2 ^ 32 → is_some (row_left r p) ≡ false) → (p : ℕ) → find p list ≡ r p
  all_found r all low none p = by_case (found_is r p list all)
    where
      by_row : find p list ≡ None → (o : Option Cell) → r p ≡ o → find p list ≡ o
      by_row e None f = e
      by_row e (Some c) f =
          let l : p < 2 ^ 32 = low p (ap is_some f) in
          let n = none p l in
          let m : is_some (row_left r p) ≡ true = ap (λ (o : Option Cell). is_some (if is_some o then None else r p)) e ∙ ap is_some f in
          absurd (cc)

      by_case : (find p list ≡ None) ⊎ (find p list ≡ r p) → find p list ≡ r p
      by_case (inl e) = by_row e (r p) refl
      by_case (inr e) = e

-- ---- the table

abbrev pub InSoFar : List ℕ → (ℕ → ℕ → Option Cell) → ℕ → List (ℕ × Cell) → Table → Type 0
InSoFar all E v list t = Keeps all (cut_into v list E) t × AllByRecursion (λ x. E x.0 v ≡ Some x.1) list × OnceIn list

abbrev pub OutSoFar : List ℕ → (ℕ → ℕ → Option Cell) → ℕ → List (ℕ × Cell) → Table → Type 0
OutSoFar all E v list t = Keeps all (cut_out v list E) t × AllByRecursion (λ x. E v x.0 ≡ Some x.1) list × OnceIn list

abbrev pub Changes : Table → Table → ℕ → ℕ → Option Cell → Option Cell → Type 0
Changes old new p q before after = (all : List ℕ) (E : ℕ → ℕ → Option Cell) → Keeps all E old → E p q ≡ before → Only p all → Only q all
    → Keeps all (put p q after E) new

pub in_start : (v : ℕ) (t : Table) (list : List (ℕ × Cell)) → list ≡ [] → (all : List ℕ) (E : ℕ → ℕ → Option Cell) → Keeps all E t
    → AreIn all E → InSoFar all E v list t
in_start v t list e all E k a = subst (λ (l : List (ℕ × Cell)). InSoFar all E v l t) (sym e)
    (subst (λ (F : ℕ → ℕ → Option Cell). Keeps all F t) (λ i x y. none (nat_eq y v) (E x y) i) k, tt, tt)
  where
    none : (b : Bool) (o : Option Cell) → o ≡ (if b && false then None else o)
    none true o = refl
    none false o = refl

pub out_start : (v : ℕ) (t : Table) (list : List (ℕ × Cell)) → list ≡ [] → (all : List ℕ) (E : ℕ → ℕ → Option Cell) → Keeps all E t
    → AreIn all E → OutSoFar all E v list t
out_start v t list e all E k a = subst (λ (l : List (ℕ × Cell)). OutSoFar all E v l t) (sym e)
    (subst (λ (F : ℕ → ℕ → Option Cell). Keeps all F t) (λ i x y. none (nat_eq x v) (E x y) i) k, tt, tt)
  where
    none : (b : Bool) (o : Option Cell) → o ≡ (if b && false then None else o)
    none true o = refl
    none false o = refl

pub in_step : (v p : ℕ) (c : Cell) (list more : List (ℕ × Cell)) (old new : Table) (o : Option Cell)
    → o ≡ tree.get pair_cmp old.cells (p, v) → o ≡ Some c → Changes old new p v (Some c) None → more ≡ list ++ (p, c) ∷ []
    → (all : List ℕ) (E : ℕ → ℕ → Option Cell) → AreIn all E → InSoFar all E v list old → InSoFar all E v more new
in_step v p c list more old new o got is change last all E a k =
    let here : cut_into v list E p v ≡ Some c = sym (k.0.cells p v) ∙ sym got ∙ is in
    let f : (find p list ≡ None) × (E p v ≡ Some c) = is_there v E list (λ x. E x v) p c (sym (into_row v E list p) ∙ here) in
    let ends = a p v (ap is_some f.1) in
    subst (λ (l : List (ℕ × Cell)). InSoFar all E v l new) (sym last) (
      subst (λ (F : ℕ → ℕ → Option Cell). Keeps all F new) (cut_more v E list p c) (change all (cut_into v list E) k.0 here ends.0 ends.1),
      all_more (λ x. E x.0 v ≡ Some x.1) list (p, c) k.1 f.1,
      once_more list (p, c) k.2 f.0,
    )

pub out_step : (v p : ℕ) (c : Cell) (list more : List (ℕ × Cell)) (old new : Table) (o : Option Cell)
    → o ≡ tree.get pair_cmp old.cells (v, p) → o ≡ Some c → Changes old new v p (Some c) None → more ≡ list ++ (p, c) ∷ []
    → (all : List ℕ) (E : ℕ → ℕ → Option Cell) → AreIn all E → OutSoFar all E v list old → OutSoFar all E v more new
out_step v p c list more old new o got is change last all E a k =
    let here : cut_out v list E v p ≡ Some c = sym (k.0.cells v p) ∙ sym got ∙ is in
    let f : (find p list ≡ None) × (E v p ≡ Some c) = is_there v E list (E v) p c (sym (out_row v E list p) ∙ here) in
    let ends = a v p (ap is_some f.1) in
    subst (λ (l : List (ℕ × Cell)). OutSoFar all E v l new) (sym last) (
      subst (λ (F : ℕ → ℕ → Option Cell). Keeps all F new) (cut_out_more v E list p c)
          (change all (cut_out v list E) k.0 here ends.0 ends.1),
      all_more (λ x. E v x.0 ≡ Some x.1) list (p, c) k.1 f.1,
      once_more list (p, c) k.2 f.0,
    )

pub in_done : (v : ℕ) (list : List (ℕ × Cell)) (t : Table) → ((u : ℕ) → u < 2 ^ 32 → in_set t.links v 0 u ≡ false)
    → (all : List ℕ) (E : ℕ → ℕ → Option Cell) → AreIn all E → InSoFar all E v list t
    → Keeps all (cut_into v list E) t × Pulled (λ p. E p v) list
in_done v list t none all E a k = (
  k.0,
  record {
    each = k.1;
    once = k.2;
    found = all_found v E list (λ p. E p v) k.1 (λ p e. (a p v e).2)
        (λ p l. ap is_some (sym (into_row v E list p)) ∙ sym (k.0.linked_in v p) ∙ none p l);
  },
)

pub out_done : (v : ℕ) (list : List (ℕ × Cell)) (t : Table) → ((u : ℕ) → u < 2 ^ 32 → in_set t.links v 1 u ≡ false)
    → (all : List ℕ) (E : ℕ → ℕ → Option Cell) → AreIn all E → OutSoFar all E v list t
    → Keeps all (cut_out v list E) t × Pulled (λ q. E v q) list
out_done v list t none all E a k = (
  k.0,
  record {
    each = k.1;
    once = k.2;
    found = all_found v E list (λ q. E v q) k.1 (λ p e. (a v p e).3)
        (λ p l. ap is_some (sym (out_row v E list p)) ∙ sym (k.0.linked_out v p) ∙ none p l);
  },
)
