-- Blocks of points have one base and one list of uses.
use Rattle.std.proofs.Common.{◌≡◌, ℕ, ◌+◌, ◌⊎◌, inl, inr, Bool, true, false, List, [], ◌∷◌, refl, sym, ap, ◌∙◌, subst}
use Rattle.std.specs.Prelude.{nat_eq, if◌then◌else◌, not, is_some, map, Option, Some, None}
use Rattle.std.proofs.lemmas.Bool.{cases_Bool, cond-true, cond-false}
use Rattle.graph_search.specs.NodeLists.{holds}
use Rattle.graph_search.proofs.ListLemmas.{holds_first, holds_left, holds_right, nat_equality}
use Rattle.persistence.specs.BlockMisses.{is_use}
use Rattle.persistence.specs.Younger.{Code}
use Rattle.persistence.proofs.ScopeLemmas.{never_both, one_scope}
use Rattle.wsym_terms.specs.declared.trees.Use.{Use}
use Rattle.wsym_terms.specs.declared.trees.BlockUses.{BlockUses}
use Rattle.line_uses.specs.declared.leaves.LineUses.{LineUses}
use Rattle.line_uses.specs.Leaves.{AreUsesOf, leaf_of}
use Rattle.line_uses.specs.PointMaps.{PointMaps, code_of, depth_of, within}
use Rattle.line_uses.specs.Scopes.{AreScopesOf, all_uses, cost_in, paid, paid_here, scope_in, use_here, use_points, use_with}
use Rattle.line_uses.specs.Scopes.{uses_along, with_use}
use Rattle.line_uses.proofs.LeafLemmas.{base_is, uses_are}

module _ (c : Code) (f g : ℕ → Option ℕ) where
  abbrev Agree : List ℕ → Type 0
  Agree ps = (q : ℕ) → holds nat_eq q ps ≡ true → f q ≡ g q

  here : (prev : Option ℕ) (p : ℕ) (ps : List ℕ) → Agree (use_points c prev (p ∷ ps)) → is_use c prev p ≡ true → f p ≡ g p
  here prev p ps all t =
      all p (subst (λ (ys : List ℕ). holds nat_eq p ys ≡ true) (sym (cond-true (is_use c prev p) (p ∷ use_points c (Some p) ps)
      (use_points c (Some p) ps) t))
      (holds_first ℕ nat_equality p (use_points c (Some p) ps)))

  later : (prev : Option ℕ) (p : ℕ) (ps : List ℕ) → Agree (use_points c prev (p ∷ ps)) → Agree (use_points c (Some p) ps)
  later prev p ps all q h = all q (by_test (cases_Bool (is_use c prev p)))
    where
      by_test : (is_use c prev p ≡ true) ⊎ (is_use c prev p ≡ false) → holds nat_eq q (use_points c prev (p ∷ ps)) ≡ true
      by_test (inl t) = subst (λ (ys : List ℕ). holds nat_eq q ys ≡ true) (sym
          (cond-true (is_use c prev p) (p ∷ use_points c (Some p) ps) (use_points c (Some p) ps) t))
          (holds_right ℕ nat_equality q (p ∷ []) (use_points c (Some p) ps) h)
      by_test (inr t) = subst (λ (ys : List ℕ). holds nat_eq q ys ≡ true) (sym
          (cond-false (is_use c prev p) (p ∷ use_points c (Some p) ps) (use_points c (Some p) ps) t)) h

  one_use : (p : ℕ) (b : Bool) → (b ≡ true → f p ≡ g p) → (if b then use_with c p (f p) else None) ≡
      (if b then use_with c p (g p) else None)
  one_use p true h = ap (use_with c p) (h refl)
  one_use p false h = refl

  one_cost : (miss : ℕ) (most : ℕ → ℕ) (p : ℕ) (b : Bool) → (b ≡ true → f p ≡ g p)
      → most p + (if (if b then not (is_some (f p)) else false) then miss else 0) ≡ most p +
      (if (if b then not (is_some (g p)) else false) then miss else 0)
  one_cost miss most p true h = ap (λ (o : Option ℕ). most p + (if not (is_some o) then miss else 0)) (h refl)
  one_cost miss most p false h = refl

  same_uses : (prev : Option ℕ) (ps : List ℕ) → Agree (use_points c prev ps) → uses_along c f prev ps ≡ uses_along c g prev ps
  same_uses prev [] all = refl
  same_uses prev (p ∷ ps) all =
      ap (λ (o : Option Use). with_use o (uses_along c f (Some p) ps)) (one_use p (is_use c prev p) (here prev p ps all))
      ∙ ap (with_use (use_here c g prev p)) (same_uses (Some p) ps (later prev p ps all))

  same_cost : (miss : ℕ) (most : ℕ → ℕ) (prev : Option ℕ) (ps : List ℕ) → Agree (use_points c prev ps)
      → paid miss most c f prev ps ≡ paid miss most c g prev ps
  same_cost miss most prev [] all = refl
  same_cost miss most prev (p ∷ ps) all =
      ap (λ (n : ℕ). n + paid miss most c f (Some p) ps) (one_cost miss most p (is_use c prev p) (here prev p ps all))
      ∙ ap (λ (n : ℕ). paid_here miss most c g prev p + n) (same_cost miss most (Some p) ps (later prev p ps all))

same_leaf : (miss : ℕ) (costs : List ℕ) (m : PointMaps) (s u : List (Option ℕ)) (ps : List ℕ)
    → ((q : ℕ) → holds nat_eq q (use_points (code_of m) None ps) ≡ true → scope_in s q ≡ scope_in u q)
    → leaf_of miss costs m s ps ≡ leaf_of miss costs m u ps
same_leaf miss costs m s u ps all =
    let c = code_of m in
    let f = scope_in s in
    let g = scope_in u in
    let base = sym (base_is miss (cost_in costs) c f ps) ∙ same_cost c f g miss (cost_in costs) None ps all
    ∙ base_is miss (cost_in costs) c g ps in
    let uses = uses_are c f ps ∙ same_uses c f g None ps all ∙ sym (uses_are c g ps) in
    ap (λ (n : ℕ). record { base = n; uses = (leaf_of miss costs m s ps).uses }) base
    ∙ ap (λ (us : List Use). record { base = (leaf_of miss costs m u ps).base; uses = us }) uses

same_leaves : (miss : ℕ) (costs : List ℕ) (m : PointMaps) (s u : List (Option ℕ)) (rows : List (List ℕ))
    → ((q : ℕ) → holds nat_eq q (all_uses (code_of m) rows) ≡ true → scope_in s q ≡ scope_in u q)
    → map (leaf_of miss costs m s) rows ≡ map (leaf_of miss costs m u) rows
same_leaves miss costs m s u [] all = refl
same_leaves miss costs m s u (ps ∷ rows) all =
    let c = code_of m in
    ap (λ (b : BlockUses). b ∷ map (leaf_of miss costs m s) rows)
    (same_leaf miss costs m s u ps (λ q h. all q (holds_left ℕ nat_equality q (use_points c None ps) (all_uses c rows) h)))
    ∙ ap (λ (bs : List BlockUses). leaf_of miss costs m u ps ∷ bs)
    (same_leaves miss costs m s u rows (λ q h. all q (holds_right ℕ nat_equality q (use_points c None ps) (all_uses c rows) h)))

same_scopes : (sets ways : ℕ) (m : PointMaps) (rows : List (List ℕ)) (s u : List (Option ℕ)) → AreScopesOf sets ways m rows s
    → AreScopesOf sets ways m rows u
    → (q : ℕ) → holds nat_eq q (all_uses (code_of m) rows) ≡ true → scope_in s q ≡ scope_in u q
same_scopes sets ways m rows s u a b q h = by_cases (scope_in s q) (scope_in u q) refl refl
  where
    by_cases : (x y : Option ℕ) → scope_in s q ≡ x → scope_in u q ≡ y → scope_in s q ≡ scope_in u q
    by_cases None None e k = e ∙ sym k
    by_cases (Some d) None e k = absurd (never_both (code_of m) sets ways (within m q) (depth_of m q) q d (a.found q d e) (b.none q h k))
    by_cases None (Some d) e k = absurd (never_both (code_of m) sets ways (within m q) (depth_of m q) q d (b.found q d k) (a.none q h e))
    by_cases (Some d) (Some n) e k =
        e ∙ ap Some (one_scope (code_of m) sets ways (within m q) (depth_of m q) q d n (a.found q d e) (b.found q n k)) ∙ sym k

pub agree : (sets ways miss : ℕ) (m : PointMaps) (rows : List (List ℕ)) (costs : List ℕ) (u v : LineUses)
    → AreUsesOf sets ways miss m rows costs u
    → AreUsesOf sets ways miss m rows costs v → u.blocks ≡ v.blocks
agree sets ways miss m rows costs u v a b =
    a.blocks ∙ same_leaves miss costs m u.scopes v.scopes rows (same_scopes sets ways m rows u.scopes v.scopes a.scopes b.scopes)
    ∙ sym b.blocks
