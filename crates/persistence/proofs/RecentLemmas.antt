-- A line stays in its set until as many others of the set were fetched as there are ways.
use Rattle.std.proofs.Common.{◌≡◌, ◌≢◌, ℕ, zero, suc, ◌+◌, ◌%◌, ◌<◌, ◌≤◌, ◌⊎◌, inl, inr, Bool, true, false, if◌then◌else◌, eqb, List, []}
use Rattle.std.proofs.Common.{◌∷◌, ◌++◌, length, take, refl, sym, ap, ◌∙◌, subst, arith}
use Rattle.std.proofs.Math.Nat.{mod-lt}
use Rattle.std.proofs.lemmas.Bool.{cond-true, cond-false, false≢true}
use Rattle.std.proofs.lemmas.Bool.Decides.{nat_tests, eqb_tells}
use Rattle.std.proofs.lemmas.List.{get_or-set_same, get_or-set_other, length-set}
use Rattle.fetch_timing.specs.declared.timing.Timing.{Timing}
use Rattle.fetch_timing.specs.Caches.{fetched, holds, lines_at, without}
use Rattle.graph_search.specs.NodeLists.{Distinct}
use Rattle.graph_search.specs.NodeLists as nodes
use Rattle.std.specs.Prelude.{nat_eq}
use Rattle.persistence.specs.Fetches.{after_history, recent}

without_parts : (m line : ℕ) (xs ys : List ℕ) → m ≢ line → without m (xs ++ line ∷ ys) ≡ without m xs ++ line ∷ without m ys
without_parts m line [] ys ne = grind (arith, nat_tests)
without_parts m line (x ∷ xs) ys ne = grind (arith, nat_tests, without_parts m line xs ys ne)

front_kept : (n line : ℕ) (xs ys : List ℕ) → length xs < n → (zs : List ℕ) × (take n (xs ++ line ∷ ys) ≡ xs ++ line ∷ zs)
front_kept zero line xs ys lt = absurd (omega (arith, lt))
front_kept (suc n) line [] ys lt = (take n ys, refl)
front_kept (suc n) line (x ∷ xs) ys lt = let r = front_kept n line xs ys (omega (arith, lt)) in (r.0, ap (λ (zs : List ℕ). x ∷ zs) r.1)

absent_without : (l m : ℕ) (xs : List ℕ) → nodes.holds nat_eq l xs ≡ false → nodes.holds nat_eq l (without m xs) ≡ false
absent_without l m [] h = refl
absent_without l m (x ∷ xs) h = grind (arith, nat_tests, absent_without l m xs)

none_without : (m : ℕ) (xs : List ℕ) → nodes.holds nat_eq m (without m xs) ≡ false
none_without m [] = refl
none_without m (x ∷ xs) = grind (arith, nat_tests, none_without m xs)

distinct_if : (b : Bool) (x : ℕ) (xs : List ℕ) → nodes.holds nat_eq x xs ≡ false → Distinct nat_eq xs
    → Distinct nat_eq (if b then xs else x ∷ xs)
distinct_if true x xs h d = d
distinct_if false x xs h d = (h, d)

distinct_without : (m : ℕ) (xs : List ℕ) → Distinct nat_eq xs → Distinct nat_eq (without m xs)
distinct_without m [] d = tt
distinct_without m (x ∷ xs) d = distinct_if (eqb x m) x (without m xs) (absent_without x m xs d.0) (distinct_without m xs d.1)

all_without : (m : ℕ) (xs : List ℕ) → nodes.holds nat_eq m xs ≡ false → without m xs ≡ xs
all_without m [] h = refl
all_without m (x ∷ xs) h = grind (arith, nat_tests, all_without m xs)

one_less : (m : ℕ) (xs : List ℕ) → Distinct nat_eq xs → length xs ≤ length (without m xs) + 1
one_less m [] d = omega arith
one_less m (x ∷ xs) d = grind (arith, nat_tests, one_less m xs d.1, all_without m xs, d.0)

-- the lines fetched since are distinct
pub recent_distinct : (sets line : ℕ) (h : List ℕ) → Distinct nat_eq (recent sets line h)
recent_distinct sets line [] = tt
recent_distinct sets line (m ∷ h) = by_test (recent_distinct sets line h) (eqb m line) (eqb (m % sets) (line % sets))
  where
    by_test : Distinct nat_eq (recent sets line h) → (b d : Bool)
        → Distinct nat_eq (if b then [] else (if d then m ∷ without m (recent sets line h) else recent sets line h))
    by_test r true d = tt
    by_test r false true = (none_without m (recent sets line h), distinct_without m (recent sets line h) r)
    by_test r false false = r

all_sets : (t : Timing) (sets : List (List ℕ)) (h : List ℕ) → length (after_history t sets h) ≡ length sets
all_sets t sets [] = refl
all_sets t sets (m ∷ h) = length-set (after_history t sets h) _ _ ∙ all_sets t sets h

was_before : (m line : ℕ) (h : List ℕ) → eqb m line ≡ false → holds line (m ∷ h) ≡ true → holds line h ≡ true
was_before m line h e was = grind (arith, nat_tests)

holds_behind : (line : ℕ) (xs ys : List ℕ) → holds line (xs ++ line ∷ ys) ≡ true
holds_behind line [] ys = grind (arith, nat_tests)
holds_behind line (x ∷ xs) ys = grind (arith, nat_tests, holds_behind line xs ys)

abbrev Stays : Timing → List (List ℕ) → ℕ → List ℕ → Type 0
Stays t sets line h = (rest : List ℕ) × (lines_at (after_history t sets h) (line % t.sets) ≡ recent t.sets line h ++ line ∷ rest)

module _ (t : Timing) (sets : List (List ℕ)) (line : ℕ) (some : 0 < t.sets) (is : length sets ≡ t.sets) where
  within : (h : List ℕ) (m : ℕ) → m % t.sets < length (after_history t sets h)
  within h m = subst (λ (n : ℕ). m % t.sets < n) (sym (all_sets t sets h ∙ is)) (mod-lt m some)

  here : (h : List ℕ) (m : ℕ) → lines_at (after_history t sets (m ∷ h)) (m % t.sets) ≡ fetched t.ways m
      (lines_at (after_history t sets h) (m % t.sets))
  here h m = get_or-set_same (after_history t sets h) (m % t.sets) _ [] (within h m)

  elsewhere : (h : List ℕ) (m : ℕ) → line % t.sets ≢ m % t.sets → lines_at (after_history t sets (m ∷ h)) (line % t.sets) ≡ lines_at
      (after_history t sets h) (line % t.sets)
  elsewhere h m ne = get_or-set_other (after_history t sets h) (m % t.sets) (line % t.sets) _ [] ne

  -- the line itself
  fetched_now : (h : List ℕ) → 0 < t.ways → (rest : List ℕ) × (lines_at (after_history t sets (line ∷ h)) (line % t.sets) ≡ line ∷ rest)
  fetched_now h lt = let r = front_kept t.ways line [] (without line (lines_at (after_history t sets h) (line % t.sets))) lt in
      (r.0, here h line ∙ r.1)

  -- another of its set
  pushed_back : (h : List ℕ) (m : ℕ) → m ≢ line → m % t.sets ≡ line % t.sets → length (m ∷ without m (recent t.sets line h)) < t.ways
      → Stays t sets line h
      → (rest : List ℕ) × (lines_at (after_history t sets (m ∷ h)) (line % t.sets) ≡ (m ∷ without m (recent t.sets line h)) ++ line ∷ rest)
  pushed_back h m ne same lt s =
      let r = front_kept t.ways line (m ∷ without m (recent t.sets line h)) (without m s.0) lt in
      let a : lines_at (after_history t sets (m ∷ h)) (line % t.sets) ≡ fetched t.ways m (lines_at (after_history t sets h) (line % t.sets))
      =
      subst (λ (k : ℕ). lines_at (after_history t sets (m ∷ h)) k ≡ fetched t.ways m (lines_at (after_history t sets h) k)) same (here h m)
      in
      let b : fetched t.ways m (lines_at (after_history t sets h) (line % t.sets)) ≡ take t.ways
      ((m ∷ without m (recent t.sets line h)) ++ line ∷ without m s.0) =
      ap (fetched t.ways m) s.1 ∙ ap (λ (xs : List ℕ). take t.ways (m ∷ xs)) (without_parts m line (recent t.sets line h) s.0 ne) in
      (r.0, a ∙ b ∙ r.1)

  few_before : (h : List ℕ) (m : ℕ) → length (m ∷ without m (recent t.sets line h)) < t.ways → length (recent t.sets line h) < t.ways
  few_before h m lt = let r = one_less m (recent t.sets line h) (recent_distinct t.sets line h) in omega (arith, lt, r)

  -- After a history in which the line was fetched, and since then fewer other lines of its set than there are ways,
  -- the line is in its set after these.
  pub stays : (h : List ℕ) → holds line h ≡ true → length (recent t.sets line h) < t.ways → Stays t sets line h
  stays [] was lt = absurd (false≢true was)
  stays (m ∷ h) was lt = by_test (stays h) (eqb_tells m line) (eqb_tells (m % t.sets) (line % t.sets))
    where
      by_test : (holds line h ≡ true → length (recent t.sets line h) < t.ways → Stays t sets line h)
          → ((eqb m line ≡ true) × (m ≡ line)) ⊎ ((eqb m line ≡ false) × (m ≢ line))
          → ((eqb (m % t.sets) (line % t.sets) ≡ true) × (m % t.sets ≡ line % t.sets))
          ⊎ ((eqb (m % t.sets) (line % t.sets) ≡ false) × (m % t.sets ≢ line % t.sets)) → Stays t sets line (m ∷ h)
      by_test rest (inl e) d =
          let none : recent t.sets line (m ∷ h) ≡ [] = cond-true (eqb m line) [] _ e.0 in
          let r = fetched_now h (subst (λ (xs : List ℕ). length xs < t.ways) none lt) in (
            r.0,
            ap (λ (k : ℕ). lines_at (after_history t sets (k ∷ h)) (line % t.sets)) e.1 ∙ r.1
                ∙ ap (λ (xs : List ℕ). xs ++ line ∷ r.0) (sym none),
          )
      by_test rest (inr ne) (inl e) =
          let more : recent t.sets line (m ∷ h) ≡ m ∷ without m (recent t.sets line h) = cond-false (eqb m line) [] _ ne.0
          ∙ cond-true (eqb (m % t.sets) (line % t.sets)) (m ∷ without m (recent t.sets line h)) (recent t.sets line h) e.0 in
          let few = subst (λ (xs : List ℕ). length xs < t.ways) more lt in
          let before = rest (was_before m line h ne.0 was) (few_before h m few) in
          let r = pushed_back h m ne.1 e.1 few before in
          (r.0, r.1 ∙ ap (λ (xs : List ℕ). xs ++ line ∷ r.0) (sym more))
      by_test rest (inr ne) (inr other) =
          let same : recent t.sets line (m ∷ h) ≡ recent t.sets line h = cond-false (eqb m line) [] _ ne.0
          ∙ cond-false (eqb (m % t.sets) (line % t.sets)) (m ∷ without m (recent t.sets line h)) (recent t.sets line h) other.0 in
          let before = rest (was_before m line h ne.0 was) (subst (λ (xs : List ℕ). length xs < t.ways) same lt) in
          (before.0, elsewhere h m (λ e. other.1 (sym e)) ∙ before.1 ∙ ap (λ (xs : List ℕ). xs ++ line ∷ before.0) (sym same))

  -- so it is there
  pub is_there : (h : List ℕ) → holds line h ≡ true → length (recent t.sets line h) < t.ways
      → holds line (lines_at (after_history t sets h) (line % t.sets)) ≡ true
  is_there h was lt = let r = stays h was lt in subst (λ (xs : List ℕ). holds line xs ≡ true) (sym r.1)
      (holds_behind line (recent t.sets line h) r.0)

  -- the line that was fetched last is there
  pub last_is_there : (h : List ℕ) → 0 < t.ways → holds line (lines_at (after_history t sets (line ∷ h)) (line % t.sets)) ≡ true
  last_is_there h lt = let r = fetched_now h lt in subst (λ (xs : List ℕ). holds line xs ≡ true) (sym r.1) (holds_behind line [] r.0)
