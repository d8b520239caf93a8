-- A node is taken out of the table and of the plan.
use Rattle.std.proofs.Common.{◌≡◌, ℕ, suc, ◌+◌, ◌<◌, Bool, true, false, if◌then◌else◌, ◌||◌, nat_eq, List, [], ◌∷◌, ◌++◌, take, get_or}
use Rattle.std.proofs.Common.{length, refl, sym, ap, subst, ◌∙◌}
use Rattle.std.specs.Prelude.{◌&&◌, Option, Some, None, is_some}
use Rattle.std.specs.List.{AllByRecursion}
use Rattle.std.proofs.lemmas.List.{take_more}
use Rattle.elimination_plans.specs.AddedWays.{has, Once, all_added}
use Rattle.elimination_plans.specs.Weights.{Only}
use Rattle.elimination_plans.proofs.PlanStepLemmas.{ap2}
use Rattle.node_elimination.specs.declared.cells.Cell.{Cell}
use Rattle.node_elimination.specs.declared.table.Table.{Table}
use Rattle.node_elimination.specs.Cells.{find, firsts, cut_into, cut_out, AreIn, OnceIn, Pulled, all_joined, cells_step}
use Rattle.node_elimination.specs.Tables.{Keeps}
use Rattle.node_elimination.proofs.JoinedWayLemmas.{cells_stepped}

still_some : (b : Bool) (o : Option Cell) → is_some (if b then None else o) ≡ true → is_some o ≡ true
still_some true o e = absurd (cc)
still_some false o e = e

cut_in : (all : List ℕ) (v : ℕ) (ins : List (ℕ × Cell)) (E : ℕ → ℕ → Option Cell) → AreIn all E → AreIn all (cut_into v ins E)
cut_in all v ins E a p q e = a p q (still_some (nat_eq q v && is_some (find p ins)) (E p q) e)

only_in : (all : List ℕ) (r : ℕ → Option Cell) (list : List (ℕ × Cell)) → ((p : ℕ) → is_some (r p) ≡ true → Only p all)
    → AllByRecursion (λ x. r x.0 ≡ Some x.1) list → AllByRecursion (λ x. Only x.0 all) list
only_in all r [] h each = tt
only_in all r (x ∷ xs) h each = (h x.0 (ap is_some each.0), only_in all r xs h each.1)

abbrev pub PullsIn : Table → Table → ℕ → List (ℕ × Cell) → Type 0
PullsIn old new v list = (all : List ℕ) (E : ℕ → ℕ → Option Cell) → Keeps all E old → AreIn all E → Keeps all (cut_into v list E) new
    × Pulled (λ p. E p v) list

abbrev pub PullsOut : Table → Table → ℕ → List (ℕ × Cell) → Type 0
PullsOut old new v list = (all : List ℕ) (E : ℕ → ℕ → Option Cell) → Keeps all E old → AreIn all E → Keeps all (cut_out v list E) new
    × Pulled (λ q. E v q) list

abbrev pub AddsAll : Table → Table → List (ℕ × Cell) → Cell → List (ℕ × Cell) → Type 0
AddsAll old new ins n outs = (all : List ℕ) (E : ℕ → ℕ → Option Cell) → Keeps all E old → AllByRecursion (λ x. Only x.0 all) ins
    → OnceIn ins → AllByRecursion (λ x. Only x.0 all) outs → OnceIn outs → Keeps all (all_joined ins n outs E) new

pub table_step : (v : ℕ) (n m : Cell) → n ≡ m → (ins outs : List (ℕ × Cell)) (old mid cut new : Table) → PullsIn old mid v ins
    → PullsOut mid cut v outs → AddsAll cut new ins n outs
    → (all : List ℕ) (E : ℕ → ℕ → Option Cell) → Keeps all E old → AreIn all E → E v v ≡ None → Keeps all (cells_step v m E) new
table_step v n m same ins outs old mid cut new first second third all E k a own =
    let f = first all E k a in
    let b : AreIn all (cut_into v ins E) = cut_in all v ins E a in
    let g = second all (cut_into v ins E) f.0 b in
    subst (λ (x : Cell). Keeps all (cells_step v x E) new) same
    (subst (λ (F : ℕ → ℕ → Option Cell). Keeps all F new) (cells_stepped v n E ins outs own f.1.found g.1.found)
    (third all (cut_out v outs (cut_into v ins E)) g.0 (only_in all (λ p. E p v) ins (λ p e. (a p v e).0) f.1.each) f.1.once
    (only_in all (λ q. cut_into v ins E v q) outs (λ q e. (b v q e).1) g.1.each) g.1.once))

-- ---- the plan

has_firsts : (x : ℕ) (list : List (ℕ × Cell)) → has x (firsts list) ≡ is_some (find x list)
has_firsts x [] = refl
has_firsts x (y ∷ ys) = by_test (nat_eq x y.0) (has_firsts x ys)
  where
    by_test : (b : Bool) → has x (firsts ys) ≡ is_some (find x ys) → (b || has x (firsts ys)) ≡ is_some (if b then Some y.1 else find x ys)
    by_test true e = refl
    by_test false e = e

once_firsts : (list : List (ℕ × Cell)) → OnceIn list → Once (firsts list)
once_firsts [] o = tt
once_firsts (x ∷ xs) o = (has_firsts x.0 xs ∙ ap is_some o.0, once_firsts xs o.1)

pub firsts_last : (xs : List (ℕ × Cell)) (z : ℕ × Cell) → firsts (xs ++ z ∷ []) ≡ firsts xs ++ z.0 ∷ []
firsts_last [] z = refl
firsts_last (x ∷ xs) z = ap (λ (l : List ℕ). x.0 ∷ l) (firsts_last xs z)

pub plan_added : (v entry places : ℕ) → entry ≡ suc places → (ins outs : List (ℕ × Cell)) (old mid cut : Table) → PullsIn old mid v ins
    → PullsOut mid cut v outs
    → (sources targets : List ℕ) → sources ≡ firsts ins → targets ≡ firsts outs → (P Q : ℕ → ℕ → List ℕ)
    → (Once sources → Once targets → (x y : ℕ) → Q x y ≡ all_added sources targets entry P x y)
    → (all : List ℕ) (E : ℕ → ℕ → Option Cell) → Keeps all E old → AreIn all E → E v v ≡ None → (x y : ℕ)
    → Q x y ≡ (if is_some (E x v) && is_some (E v y) then P x y ++ suc places ∷ [] else P x y)
plan_added v entry places number ins outs old mid cut first second sources targets se te P Q added all E k a own x y =
    let f = first all E k a in
    let g = second all (cut_into v ins E) f.0 (cut_in all v ins E a) in
    let so : Once sources = subst Once (sym se) (once_firsts ins f.1.once) in
    let to : Once targets = subst Once (sym te) (once_firsts outs g.1.once) in
    let hx : has x sources ≡ is_some (E x v) = ap (has x) se ∙ has_firsts x ins ∙ ap is_some (f.1.found x) in
    let hy : has y targets ≡ is_some (E v y) = ap (has y) te ∙ has_firsts y outs
    ∙ ap is_some (g.1.found y ∙ ap (λ (o : Option Cell). if nat_eq y v && is_some o then None else E v y) (f.1.found v ∙ own)
    ∙ none (nat_eq y v)) in
    added so to x y ∙ ap2 (λ (b c : Bool). if b && c then P x y ++ entry ∷ [] else P x y) hx hy
    ∙ ap (λ (e : ℕ). if is_some (E x v) && is_some (E v y) then P x y ++ e ∷ [] else P x y) number
  where
    none : (b : Bool) → (if b && false then None else E v y) ≡ E v y
    none true = refl
    none false = refl

pub firsts_step : (xs : List (ℕ × Cell)) (i : ℕ) (d : ℕ × Cell) (old new : List ℕ) → new ≡ old ++ (get_or xs i d).0 ∷ []
    → old ≡ firsts (take i xs) → i < length xs → new ≡ firsts (take (i + 1) xs)
firsts_step xs i d old new more so l = more ∙ ap (λ (ys : List ℕ). ys ++ (get_or xs i d).0 ∷ []) so
    ∙ sym (firsts_last (take i xs) (get_or xs i d)) ∙ ap firsts (sym (take_more xs i d l))
