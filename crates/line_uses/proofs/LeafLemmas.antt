-- What stands in a leaf, point by point.
use Rattle.std.proofs.Common.{◌≡◌, ℕ, zero, suc, ◌+◌, ◌*◌, ◌<◌, ◌≤◌, Bool, true, false, List, [], ◌∷◌, ◌++◌, length}
use Rattle.std.proofs.Common.{drop, get_or, refl, sym, ap, ◌∙◌, arith}
use Rattle.std.specs.Prelude.{if◌then◌else◌, not, is_some, map, Option, Some, None, unwrap_or}
use Rattle.std.proofs.Math.Nat.{mul-add}
use Rattle.std.proofs.lemmas.List.{append-nil, append_assoc, drop_more}
use Rattle.persistence.specs.BlockMisses.{always, is_use}
use Rattle.persistence.specs.Younger.{Code}
use Rattle.tree_law.specs.NodeOrders.{sum_over}
use Rattle.wsym_terms.specs.declared.trees.Use.{Use}
use Rattle.persistence.specs.Spots.{Spot, base_of_points, spots, turned, use_of, uses_of_points, with_spot}
use Rattle.line_uses.specs.Scopes.{paid, paid_here, use_here, use_with, uses_along, with_use}

-- ---- uses

with_first : (o : Option Use) (us : List Use) → with_use o us ≡ with_use o [] ++ us
with_first None us = refl
with_first (Some u) us = refl

one_spot : (c : Code) (scope : ℕ → Option ℕ) (b : Bool) (o : Option ℕ) (s : Spot) (ss : List Spot) → scope s.point ≡ o
    → map (use_of c scope) (with_spot b (is_some o) s ss) ≡ with_use (if b then use_with c s.point o else None) (map (use_of c scope) ss)
one_spot c scope true (Some d) s ss e = ap (λ (x : Option ℕ). record { line = c.line s.point; scope = unwrap_or x 0 } ∷ map (use_of c scope)
    ss) e
one_spot c scope true None s ss e = refl
one_spot c scope false (Some d) s ss e = refl
one_spot c scope false None s ss e = refl

spots_are : (c : Code) (scope : ℕ → Option ℕ) (prev : Option ℕ) (done ps : List ℕ)
    → map (use_of c scope) (spots c scope prev done ps) ≡ uses_along c scope prev ps
spots_are c scope prev done [] = refl
spots_are c scope prev done (p ∷ ps) =
    one_spot c scope (is_use c prev p) (scope p) (record { before = done; point = p; later = turned ps [] })
    (spots c scope (Some p) (p ∷ done) ps) refl
    ∙ ap (with_use (use_here c scope prev p)) (spots_are c scope (Some p) (p ∷ done) ps)

pub uses_are : (c : Code) (scope : ℕ → Option ℕ) (ps : List ℕ) → uses_of_points c scope ps ≡ uses_along c scope None ps
uses_are c scope ps = spots_are c scope None [] ps

pub uses_next : (c : Code) (scope : ℕ → Option ℕ) (prev : Option ℕ) (i : ℕ) (xs : List ℕ) (us vs base : List Use) → i < length xs
    → vs ≡ us ++ with_use (use_here c scope prev (get_or xs i 0)) []
    → us ++ uses_along c scope prev (drop i xs) ≡ base → vs ++ uses_along c scope (Some (get_or xs i 0)) (drop (i + 1) xs) ≡ base
uses_next c scope prev i xs us vs base lt is whole =
    let x = get_or xs i 0 in
    let one = with_use (use_here c scope prev x) [] in
    let rest = uses_along c scope (Some x) (drop (i + 1) xs) in
    ap (λ (ws : List Use). ws ++ rest) is ∙ append_assoc us one rest ∙ ap (λ (ws : List Use). us ++ ws)
    (sym (with_first (use_here c scope prev x) rest))
    ∙ ap (λ (ps : List ℕ). us ++ uses_along c scope prev ps) (sym (drop_more xs i 0 lt)) ∙ whole

-- ---- the base

one_paid : (miss a s n : ℕ) (u o : Bool) → (a + (if (if u then not o else false) then miss else 0)) + (s + miss * n) ≡ (a + s) + miss *
    ((if u then (if o then 0 else 1) else 0) + n)
one_paid miss a s n true true = omega arith
one_paid miss a s n true false = (let e = mul-add miss 1 n in omega (arith, e))
one_paid miss a s n false o = omega arith

paid_is : (miss : ℕ) (most : ℕ → ℕ) (c : Code) (scope : ℕ → Option ℕ) (prev : Option ℕ) (ps : List ℕ)
    → paid miss most c scope prev ps ≡ sum_over most ps + miss * always c (λ p. is_some (scope p)) prev ps
paid_is miss most c scope prev [] = omega arith
paid_is miss most c scope prev (p ∷ ps) =
    ap (λ (n : ℕ). paid_here miss most c scope prev p + n) (paid_is miss most c scope (Some p) ps)
    ∙ one_paid miss (most p) (sum_over most ps) (always c (λ q. is_some (scope q)) (Some p) ps) (is_use c prev p) (is_some (scope p))

pub base_is : (miss : ℕ) (most : ℕ → ℕ) (c : Code) (scope : ℕ → Option ℕ) (ps : List ℕ)
    → paid miss most c scope None ps ≡ base_of_points miss most c scope ps
base_is miss most c scope ps = paid_is miss most c scope None ps

pub paid_next : (miss : ℕ) (most : ℕ → ℕ) (c : Code) (scope : ℕ → Option ℕ) (prev : Option ℕ) (i : ℕ) (xs : List ℕ) (a b n base : ℕ)
    → i < length xs → n ≡ paid_here miss most c scope prev (get_or xs i 0) → b ≡ a + n
    → a + paid miss most c scope prev (drop i xs) ≡ base → b + paid miss most c scope (Some (get_or xs i 0)) (drop (i + 1) xs) ≡ base
paid_next miss most c scope prev i xs a b n base lt is sum whole =
    let more = ap (paid miss most c scope prev) (drop_more xs i 0 lt) in
    omega (arith, is, sum, whole, more)

pub drop_past : {A : Type 0} (ys : List A) (j : ℕ) → length ys ≤ j → drop j ys ≡ []
drop_past [] zero l = refl
drop_past [] (suc j) l = refl
drop_past (y ∷ ys) zero l = absurd (omega (arith, l))
drop_past (y ∷ ys) (suc j) l = drop_past ys j (omega (arith, l))

pub uses_end : (c : Code) (scope : ℕ → Option ℕ) (prev : Option ℕ) (i : ℕ) (xs : List ℕ) (us : List Use) → length xs ≤ i
    → us ++ uses_along c scope prev (drop i xs) ≡ uses_along c scope None xs → us ≡ uses_of_points c scope xs
uses_end c scope prev i xs us le whole = sym (append-nil us) ∙ ap (λ (ys : List ℕ). us ++ uses_along c scope prev ys)
    (sym (drop_past xs i le)) ∙ whole ∙ sym (uses_are c scope xs)

pub paid_end : (miss : ℕ) (most : ℕ → ℕ) (c : Code) (scope : ℕ → Option ℕ) (prev : Option ℕ) (i : ℕ) (xs : List ℕ) (a base : ℕ)
    → length xs ≤ i → a + paid miss most c scope prev (drop i xs) ≡ base → a ≡ base
paid_end miss most c scope prev i xs a base le whole =
    let none = ap (paid miss most c scope prev) (drop_past xs i le) in
    omega (arith, none, whole)
