-- Where a run comes back to a use within its scope, the use's line is there.
use Rattle.std.proofs.Common.{◌≡◌, ◌≢◌, ℕ, ◌%◌, ◌<◌, ◌⊎◌, inl, inr, Bool, true, false, eqb, List, [], ◌∷◌, ◌++◌, length, refl, sym, ◌∙◌}
use Rattle.std.proofs.Common.{subst, arith}
use Rattle.std.proofs.lemmas.Bool.{cases_Bool, or_cases, or_left, or_right, eqb-true, eq-eqb, cond-true, cond-false, false≢true}
use Rattle.std.proofs.lemmas.Bool.Decides.{nat_tests, eqb_tells}
use Rattle.std.specs.Prelude.{map, nat_eq, nat_lt}
use Rattle.std.specs.List.{AllByRecursion}
use Rattle.fetch_timing.specs.declared.timing.Timing.{Timing}
use Rattle.fetch_timing.specs.Caches as caches
use Rattle.fetch_timing.specs.Caches.{lines_at, without}
use Rattle.graph_search.specs.NodeLists.{holds}
use Rattle.persistence.specs.Fetches.{after_history, recent}
use Rattle.persistence.specs.Younger.{AtLeast, Code, IsYounger, Linked, Path}
use Rattle.persistence.proofs.RecentLemmas.{is_there, recent_distinct}

kept_from : (x m : ℕ) (xs : List ℕ) → holds nat_eq x (without m xs) ≡ true → holds nat_eq x xs ≡ true
kept_from x m [] h = h
kept_from x m (y ∷ xs) h = grind (arith, nat_tests, kept_from x m xs)

module _ (c : Code) (sets : ℕ) (within : ℕ → Bool) (line : ℕ) where
  -- what the stretch since the last point of the line shows
  record Since (e : ℕ) (h : List ℕ) : Type 0 where
    a : ℕ
    us : List ℕ
    from : c.line a ≡ line
    starts : within a ≡ true
    inside : AllByRecursion (λ u. (within u ≡ true) × (c.line u ≢ line)) us
    path : Path c.next a us e
    found : (x : ℕ) → holds nat_eq x (recent sets line (map c.line h)) ≡ true
        → (x ≢ line) × (x % sets ≡ line % sets) × (holds nat_eq x (map c.line us) ≡ true)

  -- the newest point is of the line
  just_now : (e x : ℕ) (h : List ℕ) → c.line x ≡ line → within x ≡ true → c.next x e ≡ true → Since e (x ∷ h)
  just_now e x h is w n =
      let none : recent sets line (map c.line (x ∷ h)) ≡ [] = cond-true (eqb (c.line x) line) [] _ (eq-eqb (c.line x) line is) in
      record {
        a = x;
        us = [];
        from = is;
        starts = w;
        inside = tt;
        path = n;
        found = λ y k. absurd
            (false≢true (subst (λ (ys : List ℕ). holds nat_eq y ys ≡ true) none k));
      }

  -- one more point of another line
  one_more : (e x : ℕ) (h : List ℕ) → c.line x ≢ line → within x ≡ true → c.next x e ≡ true → Since x h → Since e (x ∷ h)
  one_more e x h ne w n s =
      record {
        a = s.a;
        us = x ∷ s.us;
        from = s.from;
        starts = s.starts;
        inside = ((w, ne), s.inside);
        path = (n, s.path);
        found = λ y k. by_test y (eqb_tells (c.line x) line) (eqb_tells (c.line x % sets) (line % sets)) k;
      }
    where
      Goal : ℕ → Type 0
      Goal y = (y ≢ line) × (y % sets ≡ line % sets) × (holds nat_eq y (map c.line (x ∷ s.us)) ≡ true)

      old : (y : ℕ) → holds nat_eq y (recent sets line (map c.line h)) ≡ true → Goal y
      old y k = let f = s.found y k in (f.0, f.1, or_right (nat_eq y (c.line x)) (holds nat_eq y (map c.line s.us)) f.2)

      by_test : (y : ℕ) → ((eqb (c.line x) line ≡ true) × (c.line x ≡ line)) ⊎ ((eqb (c.line x) line ≡ false) × (c.line x ≢ line))
          → ((eqb (c.line x % sets) (line % sets) ≡ true) × (c.line x % sets ≡ line % sets))
          ⊎ ((eqb (c.line x % sets) (line % sets) ≡ false) × (c.line x % sets ≢ line % sets))
          → holds nat_eq y (recent sets line (map c.line (x ∷ h))) ≡ true → Goal y
      by_test y (inl i) d k = absurd (ne i.1)
      by_test y (inr i) (inl d) k =
          let more : recent sets line (map c.line (x ∷ h)) ≡ c.line x ∷ without (c.line x) (recent sets line (map c.line h)) = cond-false
          (eqb (c.line x) line) [] _ i.0 ∙ cond-true (eqb (c.line x % sets) (line % sets))
          (c.line x ∷ without (c.line x) (recent sets line (map c.line h))) (recent sets line (map c.line h)) d.0 in
          elim (or_cases (nat_eq y (c.line x)) (holds nat_eq y (without (c.line x) (recent sets line (map c.line h))))
          (subst (λ (ys : List ℕ). holds nat_eq y ys ≡ true) more k)) as (λ _. Goal y) [
            | inl t ↦ let is : y ≡ c.line x = eqb-true y (c.line x) t in subst Goal (sym is) (
              ne,
              d.1,
              or_left (nat_eq (c.line x) (c.line x)) (holds nat_eq (c.line x) (map c.line s.us))
                  (eq-eqb (c.line x) (c.line x) refl),
            )
            | inr t ↦ old y (kept_from y (c.line x) (recent sets line (map c.line h)) t)
          ]
      by_test y (inr i) (inr d) k =
          let same : recent sets line (map c.line (x ∷ h)) ≡ recent sets line (map c.line h) = cond-false (eqb (c.line x) line) [] _ i.0
          ∙ cond-false (eqb (c.line x % sets) (line % sets)) (c.line x ∷ without (c.line x) (recent sets line (map c.line h)))
          (recent sets line (map c.line h)) d.0 in
          old y (subst (λ (ys : List ℕ). holds nat_eq y ys ≡ true) same k)

  since : (e : ℕ) (m : List ℕ) (p : ℕ) (rest : List ℕ) → c.line p ≡ line → within p ≡ true → AllByRecursion (λ u. within u ≡ true) m
      → Linked c.next e (m ++ p ∷ rest) → Since e (m ++ p ∷ rest)
  since e [] p rest is w all l = just_now e p rest is w l.0
  since e (x ∷ m) p rest is w all l = by_test (λ d. since x m p rest is w all.1 l.1) (eqb_tells (c.line x) line)
    where
      by_test : ((tt' : Unit {0}) → Since x (m ++ p ∷ rest)) → ((eqb (c.line x) line ≡ true) × (c.line x ≡ line))
          ⊎ ((eqb (c.line x) line ≡ false) × (c.line x ≢ line)) → Since e (x ∷ m ++ p ∷ rest)
      by_test r (inl i) = just_now e x (m ++ p ∷ rest) i.1 all.0 l.0
      by_test r (inr i) = one_more e x (m ++ p ∷ rest) i.1 all.0 l.0 (r tt)

line_was : (c : Code) (m : List ℕ) (p : ℕ) (rest : List ℕ) → caches.holds (c.line p) (map c.line (m ++ p ∷ rest)) ≡ true
line_was c [] p rest = grind (arith, nat_tests)
line_was c (x ∷ m) p rest = grind (arith, nat_tests, line_was c m p rest)

-- A point that a run comes back to within a set of points, in which it has fewer younger lines than ways, finds its
-- line there, whatever the cache was.
pub returns_hit : (t : Timing) (sets : List (List ℕ)) (c : Code) (within : ℕ → Bool) (p : ℕ) (m rest : List ℕ) → 0 < t.sets
    → length sets ≡ t.sets
    → (AtLeast t.ways (IsYounger c t.sets within p) → ⊥) → within p ≡ true → AllByRecursion (λ u. within u ≡ true) m
    → Linked c.next p (m ++ p ∷ rest)
    → caches.holds (c.line p) (lines_at (after_history t sets (map c.line (m ++ p ∷ rest))) (c.line p % t.sets)) ≡ true
returns_hit t sets c within p m rest some is few w all l =
    let s = since c t.sets within (c.line p) p m p rest refl w all l in
    let lines = recent t.sets (c.line p) (map c.line (m ++ p ∷ rest)) in
    elim (cases_Bool (nat_lt (length lines) t.ways)) as (λ _. caches.holds (c.line p)
    (lines_at (after_history t sets (map c.line (m ++ p ∷ rest))) (c.line p % t.sets)) ≡ true) [
      | inl lt ↦ is_there t sets (c.line p) some is (map c.line (m ++ p ∷ rest)) (line_was c m p rest) (grind (arith, nat_tests, lt))
      | inr ge ↦
          absurd (few (
            lines,
            recent_distinct t.sets (c.line p) (map c.line (m ++ p ∷ rest)),
            (λ x h.
                let f = s.found x h in
                (f.0, f.1, (s.a, s.us, record { from = s.from; starts = s.starts; ends = w; inside = s.inside; path = s.path }, f.2))),
            grind (arith, nat_tests, ge),
          ))
    ]
