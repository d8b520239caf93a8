-- A line stays in its set while fewer others of the set than its ways are fetched.
use Rattle.std.proofs.Common.{◌≡◌, ◌≢◌, ◌⊎◌, inl, inr, ℕ, zero, suc, ◌%◌, ◌<◌, ◌≤◌, Bool, true, false, if◌then◌else◌, eqb, List, [], ◌∷◌, ◌++◌, length, take, refl, sym, ap, ◌∙◌, subst, arith}
use Rattle.std.proofs.Math.Nat.{mod-lt}
use Rattle.std.proofs.lemmas.Bool.Decides.{nat_tests, eqb_tells}
use Rattle.std.proofs.lemmas.List.{get_or-set_same, get_or-set_other}
use Rattle.std.specs.List.{AllByRecursion}
use Rattle.fetch_timing.specs.declared.timing.Timing.{Timing}
use Rattle.fetch_timing.specs.Caches.{AreDistinct, IsCache, after_fetch, fetched, holds, lines_at, penalty, without}
use Rattle.fetch_timing.specs.Staying.{AreAmong, Spares, StandsAfter, StandsIn, after_fetches}
use Rattle.fetch_timing.specs.Timings.{IsWithinLimits}
use Rattle.fetch_timing.proofs.Caching.{cache_kept}
use Rattle.fetch_timing.proofs.Fetching.{distinct_without, none_without, without_none}
use Rattle.fetch_timing.proofs.Limits.{some_set}

-- distinct lines among others are no more than these
less_without : (x : ℕ) (ys : List ℕ) → holds x ys ≡ true → length (without x ys) < length ys
less_without x [] h = grind arith
less_without x (y ∷ ys) h = grind (arith, nat_tests, less_without x ys, without_none x ys)

held_without : (l x : ℕ) (ys : List ℕ) → eqb x l ≡ false → holds l ys ≡ true → holds l (without x ys) ≡ true
held_without l x [] ne h = h
held_without l x (y ∷ ys) ne h = grind (arith, nat_tests, held_without l x ys ne)

apart : (x l : ℕ) (xs : List ℕ) → holds x (l ∷ xs) ≡ false → (eqb x l ≡ false) × (holds x xs ≡ false)
apart x l xs h = (grind (arith, nat_tests, h), grind (arith, nat_tests, h))

among_without : (x : ℕ) (ys xs : List ℕ) → holds x xs ≡ false → AreAmong ys xs → AreAmong (without x ys) xs
among_without x ys [] h a = tt
among_without x ys (l ∷ xs) h a = let p = apart x l xs h in (held_without l x ys p.0 a.0, among_without x ys xs p.1 a.1)

few_among : (ys xs : List ℕ) → AreDistinct xs → AreAmong ys xs → length xs ≤ length ys
few_among ys [] d a = omega arith
few_among ys (x ∷ xs) d a =
    let rest = few_among (without x ys) xs d.1 (among_without x ys xs d.0 a.1) in
    let less = less_without x ys a.0 in
    omega (arith, rest, less)

-- what stands before a line is distinct where the list is
absent_before : (x line : ℕ) (xs ys : List ℕ) → holds x (xs ++ line ∷ ys) ≡ false → holds x xs ≡ false
absent_before x line [] ys h = refl
absent_before x line (l ∷ xs) ys h = grind (arith, nat_tests, absent_before x line xs ys)

distinct_before : (line : ℕ) (xs ys : List ℕ) → AreDistinct (xs ++ line ∷ ys) → AreDistinct xs
distinct_before line [] ys d = tt
distinct_before line (x ∷ xs) ys d = (absent_before x line xs ys d.0, distinct_before line xs ys d.1)

-- the list after a fetch of another line
without_parts : (m line : ℕ) (xs ys : List ℕ) → m ≢ line → without m (xs ++ line ∷ ys) ≡ without m xs ++ line ∷ without m ys
without_parts m line [] ys ne = grind (arith, nat_tests)
without_parts m line (x ∷ xs) ys ne = grind (arith, nat_tests, without_parts m line xs ys ne)

front_kept : (n line : ℕ) (xs ys : List ℕ) → length xs < n → (zs : List ℕ) × (take n (xs ++ line ∷ ys) ≡ xs ++ line ∷ zs)
front_kept zero line xs ys lt = absurd (omega (arith, lt))
front_kept (suc n) line [] ys lt = (take n ys, refl)
front_kept (suc n) line (x ∷ xs) ys lt = let r = front_kept n line xs ys (omega (arith, lt)) in (r.0, ap (λ (zs : List ℕ). x ∷ zs) r.1)

among_if : (b : Bool) (ys : List ℕ) (x : ℕ) (xs : List ℕ) → holds x ys ≡ true → AreAmong ys xs → AreAmong ys (if b then xs else x ∷ xs)
among_if true ys x xs h a = a
among_if false ys x xs h a = (h, a)

still_among : (m : ℕ) (ys xs : List ℕ) → AreAmong ys xs → AreAmong ys (without m xs)
still_among m ys [] a = tt
still_among m ys (x ∷ xs) a = among_if (eqb x m) ys x (without m xs) a.0 (still_among m ys xs a.1)

moved_back : (ways m line : ℕ) (others lines : List ℕ) → m ≢ line → holds m others ≡ true → length others < ways → AreDistinct lines
    → StandsAfter others line lines → StandsAfter others line (fetched ways m lines)
moved_back ways m line others lines ne one few d s =
    let distinct = distinct_before line s.newer s.older (subst AreDistinct s.parts d) in
    let among : AreAmong others (m ∷ without m s.newer) = (one, still_among m others s.newer s.among) in
    let size = few_among others (m ∷ without m s.newer) (none_without m s.newer, distinct_without m s.newer distinct) among in
    let front = front_kept ways line (m ∷ without m s.newer) (without m s.older) (omega (arith, size, few)) in
    record {
      newer = m ∷ without m s.newer;
      older = front.0;
      parts = ap (fetched ways m) s.parts ∙ ap (λ (xs : List ℕ). take ways (m ∷ xs)) (without_parts m line s.newer s.older ne) ∙ front.1;
      among = among;
    }

in_front : (ways line : ℕ) (others lines : List ℕ) → 0 < ways → StandsAfter others line (fetched ways line lines)
in_front ways line others lines some =
    let front = front_kept ways line [] (without line lines) some in
    record { newer = []; older = front.0; parts = front.1; among = tt }

held_after : (line : ℕ) (xs ys : List ℕ) → holds line (xs ++ line ∷ ys) ≡ true
held_after line [] ys = grind (arith, nat_tests)
held_after line (x ∷ xs) ys = grind (arith, nat_tests, held_after line xs ys)

pub costs_nothing : (t : Timing) (sets : List (List ℕ)) (others : List ℕ) (line : ℕ) → StandsIn t sets others line → penalty t sets line ≡ 0
costs_nothing t sets others line s =
    let there : holds line (lines_at sets (line % t.sets)) ≡ true =
    subst (λ (xs : List ℕ). holds line xs ≡ true) (sym s.parts) (held_after line s.newer s.older) in
    rw there refl

module _ (t : Timing) (others : List ℕ) (line : ℕ) (w : IsWithinLimits t) where
  here : (sets : List (List ℕ)) (m : ℕ) → IsCache t sets
      → lines_at (after_fetch t sets m) (m % t.sets) ≡ fetched t.ways m (lines_at sets (m % t.sets))
  here sets m c = get_or-set_same sets (m % t.sets) _ [] (subst (λ (n : ℕ). m % t.sets < n) (sym c.all_sets) (mod-lt m (some_set t w)))

  elsewhere : (sets : List (List ℕ)) (m : ℕ) → m % t.sets ≢ line % t.sets
      → lines_at (after_fetch t sets m) (line % t.sets) ≡ lines_at sets (line % t.sets)
  elsewhere sets m ne = get_or-set_other sets (m % t.sets) (line % t.sets) _ [] (λ e. ne (sym e))

  -- a fetched line stands after no other
  pub newest : (sets : List (List ℕ)) → IsCache t sets → StandsIn t (after_fetch t sets line) others line
  newest sets c = subst (StandsAfter others line) (sym (here sets line c)) (in_front t.ways line others (lines_at sets (line % t.sets)) w.some_way)

  unmoved : (sets : List (List ℕ)) (m : ℕ) → m % t.sets ≢ line % t.sets → StandsIn t sets others line
      → StandsIn t (after_fetch t sets m) others line
  unmoved sets m ne s = subst (StandsAfter others line) (sym (elsewhere sets m ne)) s

  beside : (sets : List (List ℕ)) (m : ℕ) → IsCache t sets → m % t.sets ≡ line % t.sets → m ≢ line → holds m others ≡ true
      → length others < t.ways
      → StandsIn t sets others line → StandsIn t (after_fetch t sets m) others line
  beside sets m c same ne one few s =
      let at : lines_at (after_fetch t sets m) (line % t.sets) ≡ fetched t.ways m (lines_at sets (line % t.sets)) =
      subst (λ (k : ℕ). lines_at (after_fetch t sets m) k ≡ fetched t.ways m (lines_at sets k)) same (here sets m c) in
      subst (StandsAfter others line) (sym at) (moved_back t.ways m line others (lines_at sets (line % t.sets)) ne one few (c.each (line % t.sets)).distinct s)

  other : (sets : List (List ℕ)) (m : ℕ) → IsCache t sets → holds m others ≡ true → length others < t.ways → StandsIn t sets others line
      → ((eqb m line ≡ true) × (m ≡ line)) ⊎ ((eqb m line ≡ false) × (m ≢ line))
      → ((eqb (m % t.sets) (line % t.sets) ≡ true) × (m % t.sets ≡ line % t.sets)) ⊎ ((eqb (m % t.sets) (line % t.sets) ≡ false) × (m % t.sets ≢ line % t.sets))
      → StandsIn t (after_fetch t sets m) others line
  other sets m c one few s (inl e) place = subst (λ (k : ℕ). StandsIn t (after_fetch t sets k) others line) (sym e.1) (newest sets c)
  other sets m c one few s (inr ne) (inl e) = beside sets m c e.1 ne.1 one few s
  other sets m c one few s (inr ne) (inr d) = unmoved sets m d.1 s

  pub spared : (sets : List (List ℕ)) (m : ℕ) → IsCache t sets → length others < t.ways → Spares t others line m
      → StandsIn t sets others line
      → StandsIn t (after_fetch t sets m) others line
  spared sets m c few (inl e) s = subst (λ (k : ℕ). StandsIn t (after_fetch t sets k) others line) (sym e) (newest sets c)
  spared sets m c few (inr (inl one)) s = other sets m c one few s (eqb_tells m line) (eqb_tells (m % t.sets) (line % t.sets))
  spared sets m c few (inr (inr ne)) s = unmoved sets m ne s

  pub spared_all : (sets : List (List ℕ)) (ms : List ℕ) → IsCache t sets → length others < t.ways
      → AllByRecursion (Spares t others line) ms → StandsIn t sets others line
      → StandsIn t (after_fetches t sets ms) others line
  spared_all sets [] c few all s = s
  spared_all sets (m ∷ ms) c few all s = spared_all (after_fetch t sets m) ms (cache_kept t sets m w c) few all.1 (spared sets m c few all.0 s)
