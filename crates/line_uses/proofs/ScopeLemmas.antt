-- Scopes that are set one after another.
use Rattle.std.proofs.Common.{◌≡◌, ◌≢◌, ℕ, zero, suc, ◌+◌, ◌<◌, ◌≤◌, ◌⊎◌, inl, inr, Bool, true, false, List, [], ◌∷◌, ◌++◌}
use Rattle.std.proofs.Common.{length, drop, get_or, refl, sym, ap, ◌∙◌, subst, arith}
use Rattle.std.specs.Prelude.{nat_eq, is_some, Option, Some, None, slice_set}
use Rattle.std.proofs.lemmas.Bool.{cases_Bool, or_cases, or_left, or_right, eqb-true, cond-true, cond-false, false≢true}
use Rattle.std.proofs.lemmas.Bool.Decides.{eqb_tells}
use Rattle.std.proofs.lemmas.List.{drop_more}
use Rattle.graph_search.specs.NodeLists.{holds}
use Rattle.graph_search.specs.Rows.{row_in}
use Rattle.graph_search.proofs.ListLemmas.{holds_parts, nat_equality}
use Rattle.persistence.specs.BlockMisses.{is_use}
use Rattle.persistence.specs.Younger.{Code}
use Rattle.line_uses.specs.PointMaps.{PointMaps, code_of}
use Rattle.line_uses.specs.Scopes.{AreScopesOf, AreSoFar, IsScoped, all_uses, flag_in, scope_in, use_points}
use Rattle.line_uses.proofs.LeafLemmas.{drop_past}

pub none_left : (sets ways : ℕ) (m : PointMaps) (blocks : List (List ℕ)) (scopes : List (Option ℕ))
    → AreSoFar sets ways m (all_uses (code_of m) blocks) [] scopes → AreScopesOf sets ways m blocks scopes
none_left sets ways m blocks scopes are =
    record {
      found = are.found;
      none = λ p h e. elim (are.none p h e) as (λ _. IsScoped sets ways m p None) [
        | inl k ↦ k
        | inr k ↦ absurd (false≢true k)
      ];
    }

set_here : (scopes : List (Option ℕ)) (p : ℕ) (s : Option ℕ) → p < length scopes → scope_in (slice_set scopes p s) p ≡ s
set_here [] p s lt = absurd (omega (arith, lt))
set_here (x ∷ xs) zero s lt = refl
set_here (x ∷ xs) (suc p) s lt = set_here xs p s (omega (arith, lt))

set_other : (scopes : List (Option ℕ)) (p q : ℕ) (s : Option ℕ) → q ≢ p → scope_in (slice_set scopes p s) q ≡ scope_in scopes q
set_other [] zero q s ne = refl
set_other [] (suc p) q s ne = refl
set_other (x ∷ xs) zero zero s ne = absurd (ne refl)
set_other (x ∷ xs) zero (suc q) s ne = refl
set_other (x ∷ xs) (suc p) zero s ne = refl
set_other (x ∷ xs) (suc p) (suc q) s ne = set_other xs p q s (λ e. ne (ap suc e))

pub one_set : (sets ways : ℕ) (m : PointMaps) (due left : List ℕ) (scopes : List (Option ℕ)) (p : ℕ) (s : Option ℕ) → p < length scopes
    → IsScoped sets ways m p s → AreSoFar sets ways m due (p ∷ left) scopes → AreSoFar sets ways m due left (slice_set scopes p s)
one_set sets ways m due left scopes p s lt is are = record { found = found; none = none }
  where
    found : (q d : ℕ) → scope_in (slice_set scopes p s) q ≡ Some d → IsScoped sets ways m q (Some d)
    found q d e =
        elim (eqb_tells q p) as (λ _. IsScoped sets ways m q (Some d)) [
          | inl t ↦
              let here : s ≡ Some d = sym (set_here scopes p s lt) ∙ ap (scope_in (slice_set scopes p s)) (sym t.1) ∙ e in
              subst (λ (x : ℕ). IsScoped sets ways m x (Some d)) (sym t.1) (subst (IsScoped sets ways m p) here is)
          | inr t ↦ are.found q d (sym (set_other scopes p q s t.1) ∙ e)
        ]

    none : (q : ℕ) → holds nat_eq q due ≡ true → scope_in (slice_set scopes p s) q ≡ None
        → IsScoped sets ways m q None ⊎ (holds nat_eq q left ≡ true)
    none q h e =
        elim (eqb_tells q p) as (λ _. IsScoped sets ways m q None ⊎ (holds nat_eq q left ≡ true)) [
          | inl t ↦
              let here : s ≡ None = sym (set_here scopes p s lt) ∙ ap (scope_in (slice_set scopes p s)) (sym t.1) ∙ e in
              inl (subst (λ (x : ℕ). IsScoped sets ways m x None) (sym t.1) (subst (IsScoped sets ways m p) here is))
          | inr t ↦
              elim (are.none q h (sym (set_other scopes p q s t.1) ∙ e)) as (λ _. IsScoped sets ways m q None
              ⊎ (holds nat_eq q left ≡ true)) [
                | inl k ↦ inl k
                | inr k ↦
                    elim (or_cases (nat_eq q p) (holds nat_eq q left) k) as (λ _. IsScoped sets ways m q None
                    ⊎ (holds nat_eq q left ≡ true)) [
                      | inl x ↦ absurd (t.1 (eqb-true q p x))
                      | inr x ↦ inr x
                    ]
              ]
        ]

pub push_none : (scopes : List (Option ℕ)) → ((p : ℕ) → scope_in scopes p ≡ None) → (p : ℕ) → scope_in (scopes ++ None ∷ []) p ≡ None
push_none [] all zero = refl
push_none [] all (suc p) = refl
push_none (x ∷ xs) all zero = all 0
push_none (x ∷ xs) all (suc p) = push_none xs (λ q. all (suc q)) p

pub item_in : (rows : List (List ℕ)) (i : ℕ) (x y : List ℕ) → i < length rows → y ≡ get_or rows i x → y ≡ row_in rows i
item_in [] i x y lt e = absurd (omega (arith, lt))
item_in (r ∷ rows) zero x y lt e = e
item_in (r ∷ rows) (suc i) x y lt e = item_in rows i x y (omega (arith, lt)) e

-- a use of some points is one of the points, and a use of blocks stands in one
use_held : (c : Code) (prev : Option ℕ) (ps : List ℕ) (q : ℕ) → holds nat_eq q (use_points c prev ps) ≡ true → holds nat_eq q ps ≡ true
use_held c prev [] q h = absurd (false≢true h)
use_held c prev (p ∷ ps) q h = by_test (use_held c (Some p) ps q) (cases_Bool (is_use c prev p))
  where
    later : holds nat_eq q ps ≡ true → holds nat_eq q (p ∷ ps) ≡ true
    later k = or_right (nat_eq q p) (holds nat_eq q ps) k

    by_test : (holds nat_eq q (use_points c (Some p) ps) ≡ true → holds nat_eq q ps ≡ true)
        → (is_use c prev p ≡ true) ⊎ (is_use c prev p ≡ false)
        → holds nat_eq q (p ∷ ps) ≡ true
    by_test rest (inl t) =
        elim (or_cases (nat_eq q p) (holds nat_eq q (use_points c (Some p) ps))
        (subst (λ (ys : List ℕ). holds nat_eq q ys ≡ true)
        (cond-true (is_use c prev p) (p ∷ use_points c (Some p) ps) (use_points c (Some p) ps) t) h)) as
        (λ _. holds nat_eq q (p ∷ ps) ≡ true) [
          | inl e ↦ or_left (nat_eq q p) (holds nat_eq q ps) e
          | inr e ↦ later (rest e)
        ]
    by_test rest (inr t) = later (rest (subst (λ (ys : List ℕ). holds nat_eq q ys ≡ true)
        (cond-false (is_use c prev p) (p ∷ use_points c (Some p) ps) (use_points c (Some p) ps) t) h))

pub in_parts : (q : ℕ) (xs ys : List ℕ) → holds nat_eq q (xs ++ ys) ≡ true → (holds nat_eq q xs ≡ true) ⊎ (holds nat_eq q ys ≡ true)
in_parts q xs ys h = holds_parts ℕ nat_equality q xs ys h

pub use_in_block : (c : Code) (blocks : List (List ℕ)) (q : ℕ) → holds nat_eq q (all_uses c blocks) ≡ true
    → (b : ℕ) × (holds nat_eq q (row_in blocks b) ≡ true)
use_in_block c [] q h = absurd (false≢true h)
use_in_block c (ps ∷ blocks) q h = by_parts (use_in_block c blocks q) (in_parts q (use_points c None ps) (all_uses c blocks) h)
  where
    by_parts : (holds nat_eq q (all_uses c blocks) ≡ true → (b : ℕ) × (holds nat_eq q (row_in blocks b) ≡ true))
        → (holds nat_eq q (use_points c None ps) ≡ true) ⊎ (holds nat_eq q (all_uses c blocks) ≡ true)
        → (b : ℕ) × (holds nat_eq q (row_in (ps ∷ blocks) b) ≡ true)
    by_parts rest (inl k) = (0, use_held c None ps q k)
    by_parts rest (inr k) = let r = rest k in (suc r.0, r.1)

-- at the start each use is left to do
pub all_left : (sets ways : ℕ) (m : PointMaps) (due order : List ℕ) (scopes : List (Option ℕ)) → ((p : ℕ) → scope_in scopes p ≡ None)
    → ((p : ℕ) → holds nat_eq p due ≡ true → holds nat_eq p order ≡ true) → AreSoFar sets ways m due order scopes
all_left sets ways m due order scopes none all = record {
  found = λ p d e. absurd (differ d (sym (none p) ∙ e));
  none = λ p h e. inr
      (all p h);
}
  where
    differ : (d : ℕ) → (◌≡◌ {A = Option ℕ} None (Some d)) → ⊥
    differ d e = false≢true (ap is_some e)

-- a point that is no use is done
pub no_use_set : (sets ways : ℕ) (m : PointMaps) (flags : List Bool) (due left : List ℕ) (scopes : List (Option ℕ)) (p : ℕ)
    → flag_in flags p ≡ false
    → ((q : ℕ) → holds nat_eq q due ≡ true → flag_in flags q ≡ true) → AreSoFar sets ways m due (p ∷ left) scopes
    → AreSoFar sets ways m due left scopes
no_use_set sets ways m flags due left scopes p unset all are = record { found = are.found; none = none }
  where
    none : (q : ℕ) → holds nat_eq q due ≡ true → scope_in scopes q ≡ None → IsScoped sets ways m q None ⊎ (holds nat_eq q left ≡ true)
    none q h e =
        elim (are.none q h e) as (λ _. IsScoped sets ways m q None ⊎ (holds nat_eq q left ≡ true)) [
          | inl k ↦ inl k
          | inr k ↦
              elim (or_cases (nat_eq q p) (holds nat_eq q left) k) as (λ _. IsScoped sets ways m q None ⊎ (holds nat_eq q left ≡ true)) [
                | inl x ↦ absurd (false≢true (sym (subst (λ (y : ℕ). flag_in flags y ≡ false) (sym (eqb-true q p x)) unset) ∙ all q h))
                | inr x ↦ inr x
              ]
        ]

pub next_left : (sets ways : ℕ) (m : PointMaps) (due : List ℕ) (i : ℕ) (xs : List ℕ) (old new : List (Option ℕ)) → i < length xs
    → (AreSoFar sets ways m due (get_or xs i 0 ∷ drop (i + 1) xs) old → AreSoFar sets ways m due (drop (i + 1) xs) new)
    → AreSoFar sets ways m due (drop i xs) old → AreSoFar sets ways m due (drop (i + 1) xs) new
next_left sets ways m due i xs old new lt step are = step (subst (λ (ys : List ℕ). AreSoFar sets ways m due ys old) (drop_more xs i 0 lt)
    are)

pub all_done : (sets ways : ℕ) (m : PointMaps) (due : List ℕ) (i : ℕ) (xs : List ℕ) (scopes : List (Option ℕ)) → length xs ≤ i
    → AreSoFar sets ways m due (drop i xs) scopes → AreSoFar sets ways m due [] scopes
all_done sets ways m due i xs scopes le are = subst (λ (ys : List ℕ). AreSoFar sets ways m due ys scopes) (drop_past xs i le) are
