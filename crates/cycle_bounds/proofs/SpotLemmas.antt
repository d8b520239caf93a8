-- The uses of a block with a scope: where they stand, and how many of them miss.
use Rattle.std.proofs.Common.{◌≡◌, ℕ, zero, suc, ◌+◌, ◌<◌, Bool, true, false, not, if◌then◌else◌, Option, Some, None, List, [], ◌∷◌, ◌++◌}
use Rattle.std.proofs.Common.{map, length, refl, sym, ap, ◌∙◌, arith}
use Rattle.std.specs.Prelude.{is_some, unwrap_or}
use Rattle.std.specs.List.{AllByRecursion}
use Rattle.std.proofs.lemmas.Bool.{false≢true}
use Rattle.fetch_timing.specs.declared.timing.Timing.{Timing}
use Rattle.persistence.specs.BlockHistories.{finds}
use Rattle.persistence.specs.BlockMisses.{is_use, missed_uses}
use Rattle.interval_loops.specs.Trails.{Visit}
use Rattle.persistence.specs.Younger.{Code}
use Rattle.tree_law.specs.Pieces.{misses, misses_at, scope_at}
use Rattle.persistence.specs.Spots.{Spot, spots, turned, use_of, with_spot}
use Rattle.cycle_bounds.specs.Analyses.{spot_at}
use Rattle.cycle_bounds.specs.Visits.{missed_in}
use Rattle.cycle_bounds.proofs.VisitNumberLemmas.{turned_end}

-- ---- where they stand

pub record IsSpot (whole : List ℕ) (scope : ℕ → Option ℕ) (P : ℕ → Type 0) (s : Spot) : Type 0 where
  pub parts : whole ≡ s.later ++ s.point ∷ s.before
  pub scoped : is_some (scope s.point) ≡ true
  pub own : P s.point

all_with : (Q : Spot → Type 0) (u k : Bool) (s : Spot) (ss : List Spot) → (k ≡ true → Q s) → AllByRecursion Q ss
    → AllByRecursion Q (with_spot u k s ss)
all_with Q true true s ss h all = (h refl, all)
all_with Q true false s ss h all = all
all_with Q false k s ss h all = all

pub all_spots : (c : Code) (scope : ℕ → Option ℕ) (P : ℕ → Type 0) (prev : Option ℕ) (done ps : List ℕ) → AllByRecursion P ps
    → AllByRecursion (IsSpot (turned ps done) scope P) (spots c scope prev done ps)
all_spots c scope P prev done [] all = tt
all_spots c scope P prev done (p ∷ ps) all =
    all_with (IsSpot (turned (p ∷ ps) done) scope P) (is_use c prev p) (is_some (scope p))
    (record { before = done; point = p; later = turned ps [] }) (spots c scope (Some p) (p ∷ done) ps)
    (λ k. record { parts = turned_end ps (p ∷ done); scoped = k; own = all.0 })
    (all_spots c scope P (Some p) (p ∷ done) ps all.1)

pub at_spot : (Q : Spot → Type 0) (ss : List Spot) (k : ℕ) → k < length ss → AllByRecursion Q ss → Q (spot_at ss k)
at_spot Q [] k lt all = absurd (omega (arith, lt))
at_spot Q (s ∷ ss) zero lt all = all.0
at_spot Q (s ∷ ss) (suc k) lt all = at_spot Q ss k (omega (arith, lt)) all.1

pub scope_of_spot : (c : Code) (scope : ℕ → Option ℕ) (ss : List Spot) (k : ℕ) → k < length ss
    → scope_at (map (use_of c scope) ss) k ≡ unwrap_or (scope (spot_at ss k).point) 0
scope_of_spot c scope [] k lt = absurd (omega (arith, lt))
scope_of_spot c scope (s ∷ ss) zero lt = refl
scope_of_spot c scope (s ∷ ss) (suc k) lt = scope_of_spot c scope ss k (omega (arith, lt))

pub number_of_uses : (c : Code) (scope : ℕ → Option ℕ) (ss : List Spot) → length (map (use_of c scope) ss) ≡ length ss
number_of_uses c scope [] = refl
number_of_uses c scope (s ∷ ss) = ap suc (number_of_uses c scope ss)

-- ---- misses

pub missed_place : (t : Timing) (sets : List (List ℕ)) (c : Code) (h : List ℕ) (ss : List Spot) (k : ℕ) → missed_in t sets c h ss k ≡ true
    → (k < length ss) × (finds t sets c (spot_at ss k).point ((spot_at ss k).before ++ h) ≡ false)
missed_place t sets c h [] k m = absurd (false≢true m)
missed_place t sets c h (s ∷ ss) zero m = (omega arith, not_true (finds t sets c s.point (s.before ++ h)) m)
  where
    not_true : (b : Bool) → not b ≡ true → b ≡ false
    not_true true e = absurd (false≢true e)
    not_true false e = refl
missed_place t sets c h (s ∷ ss) (suc k) m = (let r = missed_place t sets c h ss k m in let lt = r.0 in (omega (arith, lt), r.1))

abbrev one_if : Bool → ℕ
one_if b = if b then 1 else 0

abbrev upto : ℕ → (ℕ → Bool) → ℕ
upto zero f = 0
upto (suc n) f = one_if (f n) + upto n f

upto_front : (n : ℕ) (f : ℕ → Bool) → upto (suc n) f ≡ one_if (f 0) + upto n (λ k. f (suc k))
upto_front zero f = refl
upto_front (suc n) f = (let r = upto_front n f in omega (arith, r))

abbrev count_missed : Timing → List (List ℕ) → Code → List ℕ → List Spot → ℕ
count_missed t sets c h [] = 0
count_missed t sets c h (s ∷ ss) = one_if (not (finds t sets c s.point (s.before ++ h))) + count_missed t sets c h ss

upto_missed : (t : Timing) (sets : List (List ℕ)) (c : Code) (h : List ℕ) (ss : List Spot)
    → upto (length ss) (missed_in t sets c h ss) ≡ count_missed t sets c h ss
upto_missed t sets c h [] = refl
upto_missed t sets c h (s ∷ ss) = upto_front (length ss) (missed_in t sets c h (s ∷ ss))
    ∙ ap (λ (m : ℕ). one_if (not (finds t sets c s.point (s.before ++ h))) + m) (upto_missed t sets c h ss)

misses_upto : (n : ℕ) (v : Visit) → misses n v ≡ upto n v.missed
misses_upto zero v = refl
misses_upto (suc n) v = ap (λ (m : ℕ). misses_at n v + m) (misses_upto n v)

count_with : (t : Timing) (sets : List (List ℕ)) (c : Code) (h : List ℕ) (u k : Bool) (s : Spot) (ss : List Spot)
    → count_missed t sets c h
    (with_spot u k s ss) ≡ (if u then (if k then (if finds t sets c s.point (s.before ++ h) then 0 else 1) else 0) else 0) +
    count_missed t sets c h ss
count_with t sets c h true true s ss = ap (λ (m : ℕ). m + count_missed t sets c h ss) (turned_test (finds t sets c s.point (s.before ++ h)))
  where
    turned_test : (b : Bool) → one_if (not b) ≡ (if b then 0 else 1)
    turned_test true = refl
    turned_test false = refl
count_with t sets c h true false s ss = omega arith
count_with t sets c h false k s ss = omega arith

count_spots : (t : Timing) (sets : List (List ℕ)) (c : Code) (scope : ℕ → Option ℕ) (h : List ℕ) (prev : Option ℕ) (done ps : List ℕ)
    → missed_uses t sets c (λ p. is_some (scope p)) prev ps (done ++ h) ≡ count_missed t sets c h (spots c scope prev done ps)
count_spots t sets c scope h prev done [] = refl
count_spots t sets c scope h prev done (p ∷ ps) =
    ap (λ (m : ℕ). (if is_use c prev p then (if is_some (scope p) then (if finds t sets c p (done ++ h) then 0 else 1) else 0) else 0) + m)
    (count_spots t sets c scope h (Some p) (p ∷ done) ps)
    ∙ sym (count_with t sets c h (is_use c prev p) (is_some (scope p)) (record { before = done; point = p; later = turned ps [] })
    (spots c scope (Some p) (p ∷ done) ps))

-- a visit's misses are those of the block's uses
pub misses_are : (t : Timing) (sets : List (List ℕ)) (c : Code) (scope : ℕ → Option ℕ) (h ps : List ℕ) (v : Visit)
    → v.missed ≡ missed_in t sets c h (spots c scope None [] ps)
    → misses (length (map (use_of c scope) (spots c scope None [] ps))) v ≡ missed_uses t sets c (λ p. is_some (scope p)) None ps h
misses_are t sets c scope h ps v e =
    let ss = spots c scope None [] ps in
    ap (λ (n : ℕ). misses n v) (number_of_uses c scope ss) ∙ misses_upto (length ss) v ∙ ap (upto (length ss)) e ∙ upto_missed t sets c h ss
    ∙ sym (count_spots t sets c scope h None [] ps)
