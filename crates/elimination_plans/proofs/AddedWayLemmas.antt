-- Ways that are added to edges.
use Rattle.std.proofs.Common.{◌≡◌, ℕ, zero, suc, ◌+◌, ◌<◌, Bool, true, false, if◌then◌else◌, ◌||◌, nat_eq, List, [], ◌∷◌, ◌++◌, take}
use Rattle.std.proofs.Common.{get_or, length, refl, sym, ap, subst, ◌∙◌, arith}
use Rattle.std.specs.Prelude.{◌&&◌, cond, Option, Some, None}
use Rattle.std.specs.BTreeMap as tree
use Rattle.std.specs.BTreeMap.{BTreeMap, is_at}
use Rattle.std.proofs.lemmas.Bool.Decides.{nat_tests}
use Rattle.elimination_plans.specs.Plans.{pair_cmp, or_none}
use Rattle.elimination_plans.specs.AddedWays.{listed, has, Once, one_added, row_added, all_added}
use Rattle.elimination_plans.specs.PlanSteps.{some, and_gone, plan_step}
use Rattle.elimination_plans.proofs.PlanStepLemmas.{ap2}

pair_at : (a b x y : ℕ) → is_at (pair_cmp (a, b)) (x, y) ≡ (nat_eq x a && nat_eq y b)
pair_at a b x y = grind (arith, nat_tests)

both : (b c : Bool) → (b && c) ≡ true → (b ≡ true) × (c ≡ true)
both true c e = (refl, e)
both false c e = absurd (cc)

same_pair : (p q x y : ℕ) (P : ℕ → ℕ → List ℕ) → (nat_eq x p && nat_eq y q) ≡ true → P p q ≡ P x y
same_pair p q x y P e =
    let b = both (nat_eq x p) (nat_eq y q) e in
    let e0 = b.0 in
    let e1 = b.1 in
    let f : x ≡ p = grind (arith, nat_tests) in
    let g : y ≡ q = grind (arith, nat_tests) in
    ap2 P (sym f) (sym g)

pub way_added : (p q e : ℕ) (old mid new : BTreeMap (ℕ × ℕ) (List ℕ)) (list more : List ℕ) → list ≡ listed old p q → more ≡ list ++ e ∷ []
    → ((k : ℕ × ℕ) → tree.get pair_cmp mid k ≡ cond (is_at (pair_cmp (p, q)) k) None (tree.get pair_cmp old k))
    → ((k : ℕ × ℕ) → tree.get pair_cmp new k ≡ cond (is_at (pair_cmp (p, q)) k) (Some more) (tree.get pair_cmp mid k))
    → (x y : ℕ) → listed new x y ≡ one_added p q e (listed old) x y
way_added p q e old mid new list more l m out into x y =
    ap or_none (into (x, y) ∙ ap2 (λ (b : Bool) (o : Option (List ℕ)). cond b (Some more) o) (pair_at p q x y)
    (out (x, y) ∙ ap (λ b. cond b None (tree.get pair_cmp old (x, y))) (pair_at p q x y)))
    ∙ by_test (nat_eq x p && nat_eq y q) refl
  where
    by_test : (b : Bool) → (nat_eq x p && nat_eq y q) ≡ b → or_none (cond b (Some more) (cond b None (tree.get pair_cmp old (x, y)))) ≡
        (if b then listed old x y ++ e ∷ [] else listed old x y)
    by_test true t = m ∙ ap (λ z. z ++ e ∷ []) (l ∙ same_pair p q x y (listed old) t)
    by_test false t = refl

-- ---- rows

has_last : (x y : ℕ) (ys : List ℕ) → has x (ys ++ y ∷ []) ≡ (has x ys || nat_eq x y)
has_last x y [] = grind (arith, nat_tests)
has_last x y (z ∷ ys) = ap (λ b. nat_eq x z || b) (has_last x y ys) ∙ group (nat_eq x z) (has x ys) (nat_eq x y)
  where
    group : (a b c : Bool) → (a || (b || c)) ≡ ((a || b) || c)
    group true b c = refl
    group false b c = refl

-- what stands next in a list without repetitions isn't among what came before
has_in : (x : ℕ) (xs : List ℕ) (i : ℕ) → i < length xs → x ≡ get_or xs i 0 → has x xs ≡ true
has_in x [] i h e = absurd (omega (arith, h))
has_in x (y ∷ ys) zero h e = (let t : nat_eq x y ≡ true = grind (arith, nat_tests) in ap (λ b. b || has x ys) t)
has_in x (y ∷ ys) (suc i) h e = onward (nat_eq x y) (has_in x ys i (omega (arith, h)) e)
  where
    onward : (b : Bool) → has x ys ≡ true → (b || has x ys) ≡ true
    onward true t = refl
    onward false t = t

apart : (x y : ℕ) (ys : List ℕ) → has y ys ≡ false → has x ys ≡ true → nat_eq x y ≡ false
apart x y ys a b = by_test (nat_eq x y) refl
  where
    by_test : (c : Bool) → nat_eq x y ≡ c → nat_eq x y ≡ false
    by_test false e = e
    by_test true e = (let s : x ≡ y = grind (arith, nat_tests) in let t : has y ys ≡ true = subst (λ z. has z ys ≡ true) s b in absurd (cc))

pub next_new : (xs : List ℕ) (i : ℕ) → Once xs → i < length xs → has (get_or xs i 0) (take i xs) ≡ false
next_new [] i o h = absurd (omega (arith, h))
next_new (x ∷ xs) zero o h = refl
next_new (x ∷ xs) (suc i) o h = ap2 (λ (b c : Bool). b || c) (apart (get_or xs i 0) x xs o.0
    (has_in (get_or xs i 0) xs i (omega (arith, h)) refl)) (next_new xs i o.1 (omega (arith, h)))

-- one more of a row
row_more : (a b c : Bool) (l : List ℕ) (e : ℕ) → (c ≡ true → b ≡ false)
    → (if a && c then (if a && b then l ++ e ∷ [] else l) ++ e ∷ [] else (if a && b then l ++ e ∷ [] else l)) ≡
    (if a && (b || c) then l ++ e ∷ [] else l)
row_more false b c l e h = refl
row_more true true true l e h = absurd (let f = h refl in cc)
row_more true true false l e h = refl
row_more true false true l e h = refl
row_more true false false l e h = refl

not_before : (y z : ℕ) (ys : List ℕ) → has z ys ≡ false → nat_eq y z ≡ true → has y ys ≡ false
not_before y z ys h e = (let s : y ≡ z = grind (arith, nat_tests) in subst (λ w. has w ys ≡ false) (sym s) h)

pub next_row : (p : ℕ) (qs : List ℕ) (i e : ℕ) (P Q R : ℕ → ℕ → List ℕ) → Once qs → i < length qs
    → take (i + 1) qs ≡ take i qs ++ get_or qs i 0 ∷ []
    → ((x y : ℕ) → Q x y ≡ row_added p (take i qs) e P x y) → ((x y : ℕ) → R x y ≡ one_added p (get_or qs i 0) e Q x y) → (x y : ℕ)
    → R x y ≡ row_added p (take (i + 1) qs) e P x y
next_row p qs i e P Q R o h next old new x y =
    new x y
    ∙ ap (λ l. if nat_eq x p && nat_eq y (get_or qs i 0) then l ++ e ∷ [] else l) (old x y)
    ∙ row_more (nat_eq x p) (has y (take i qs)) (nat_eq y (get_or qs i 0)) (P x y) e
    (not_before y (get_or qs i 0) (take i qs) (next_new qs i o h))
    ∙ sym (ap (λ b. if nat_eq x p && b then P x y ++ e ∷ [] else P x y) (ap (has y) next ∙ has_last y (get_or qs i 0) (take i qs)))

rows_more : (a b c : Bool) (l : List ℕ) (e : ℕ) → (b ≡ true → a ≡ false)
    → (if b && c then (if a && c then l ++ e ∷ [] else l) ++ e ∷ [] else (if a && c then l ++ e ∷ [] else l)) ≡
    (if (a || b) && c then l ++ e ∷ [] else l)
rows_more true true c l e h = absurd (let f = h refl in cc)
rows_more true false c l e h = refl
rows_more false true c l e h = refl
rows_more false false c l e h = refl

pub next_rows : (ps qs : List ℕ) (i e : ℕ) (P Q R : ℕ → ℕ → List ℕ) → Once ps → i < length ps
    → take (i + 1) ps ≡ take i ps ++ get_or ps i 0 ∷ []
    → ((x y : ℕ) → Q x y ≡ all_added (take i ps) qs e P x y) → ((x y : ℕ) → R x y ≡ row_added (get_or ps i 0) qs e Q x y) → (x y : ℕ)
    → R x y ≡ all_added (take (i + 1) ps) qs e P x y
next_rows ps qs i e P Q R o h next old new x y =
    new x y
    ∙ ap (λ l. if nat_eq x (get_or ps i 0) && has y qs then l ++ e ∷ [] else l) (old x y)
    ∙ rows_more (has x (take i ps)) (nat_eq x (get_or ps i 0)) (has y qs) (P x y) e
    (not_before x (get_or ps i 0) (take i ps) (next_new ps i o h))
    ∙ sym (ap (λ b. if b && has y qs then P x y ++ e ∷ [] else P x y) (ap (has x) next ∙ has_last x (get_or ps i 0) (take i ps)))

no_row : (a : Bool) (l : List ℕ) (e : ℕ) → l ≡ (if a && false then l ++ e ∷ [] else l)
no_row true l e = refl
no_row false l e = refl

pub row_start : (p e : ℕ) (P : ℕ → ℕ → List ℕ) (x y : ℕ) → P x y ≡ row_added p [] e P x y
row_start p e P x y = no_row (nat_eq x p) (P x y) e

-- ---- a step of a plan

pub not_and : (a b c d : Bool) (x y : List ℕ) → (if (if a then false else c) && (if b then false else d) then x else y) ≡
    (if a || b then y else (if c && d then x else y))
not_and true b c d x y = refl
not_and false true true d x y = refl
not_and false true false d x y = refl
not_and false false c d x y = refl

pub put_end : (b : Bool) (l : List ℕ) (e : ℕ) → (if b then l ++ e ∷ [] else l) ≡ l ++ (if b then e ∷ [] else [])
put_end true l e = refl
put_end false l e = sym (append_none l)
  where
    append_none : (zs : List ℕ) → zs ++ [] ≡ zs
    append_none [] = refl
    append_none (z ∷ zs) = ap (λ m. z ∷ m) (append_none zs)

-- the ways between the nodes before and after a node are its step of the plan
pub added_is_step : (gone : ℕ → Bool) (i v : ℕ) (P : ℕ → ℕ → List ℕ) (ps qs : List ℕ)
    → ((x : ℕ) → has x ps ≡ (if and_gone v gone x then false else some (P x v)))
    → ((y : ℕ) → has y qs ≡ (if and_gone v gone y then false else some (P v y)))
    → (x y : ℕ) → all_added ps qs (suc i) P x y ≡ plan_step gone i v P x y
added_is_step gone i v P ps qs h k x y =
    ap2 (λ (b c : Bool). if b && c then P x y ++ suc i ∷ [] else P x y) (h x) (k y)
    ∙ not_and (and_gone v gone x) (and_gone v gone y) (some (P x v)) (some (P v y)) (P x y ++ suc i ∷ []) (P x y)
    ∙ ap (λ l. if and_gone v gone x || and_gone v gone y then P x y else l) (put_end (some (P x v) && some (P v y)) (P x y) (suc i))
