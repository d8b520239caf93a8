-- What the test on lines, and the search back, say of younger lines.
use Rattle.std.proofs.Common.{◌≡◌, ◌≢◌, ℕ, zero, suc, ◌+◌, ◌<◌, ◌≤◌, ◌%◌, ◌⊎◌, inl, inr, Bool, true, false, List, [], ◌∷◌, ◌++◌, length}
use Rattle.std.proofs.Common.{drop, get_or, refl, sym, ap, ◌∙◌, subst, arith}
use Rattle.std.specs.Prelude.{nat_eq, ◌&&◌, if◌then◌else◌}
use Rattle.std.proofs.lemmas.Bool.{cases_Bool, or_cases, or_left, or_right, eqb-true, eq-eqb, cond-true, cond-false, false≢true}
use Rattle.std.proofs.lemmas.Bool.Decides.{eqb_tells}
use Rattle.std.proofs.lemmas.List.{drop_more}
use Rattle.graph_search.specs.NodeLists.{added, holds}
use Rattle.persistence.specs.Collected.{IsMet}
use Rattle.persistence.specs.Searches.{TestsFollowing}
use Rattle.persistence.specs.PointRows.{AreOf, line_at}
use Rattle.graph_search.specs.Rows.{row_in}
use Rattle.persistence.specs.Younger.{AtLeast, IsYounger}
use Rattle.persistence.proofs.FewLineLemmas.{few_lines}
use Rattle.persistence.proofs.RowLemmas.{few_younger, filter_sound, many_younger}
use Rattle.persistence.proofs.StrongLemmas.{all_follow, is_other_complete}
use Rattle.line_uses.specs.PointMaps.{ArePointMaps, HasLine, HasSet, PointMaps, code_of, inside}
use Rattle.line_uses.specs.SearchSteps.{backward_step, noted, other, picks}
use Rattle.line_uses.proofs.DepthLemmas.{inside_below, other_below}

-- the lines of the points so far are noted
pub record AreNoted (m : PointMaps) (d line : ℕ) (left ms all : List ℕ) : Type 0 where
  pub some : (q : ℕ) → holds nat_eq q all ≡ true → other m d line q ≡ true
      → (holds nat_eq (line_at m.lines q) ms ≡ true) ⊎ (holds nat_eq q left ≡ true)

pub none_noted : (m : PointMaps) (d line : ℕ) (all : List ℕ) → AreNoted m d line all [] all
none_noted m d line all = record { some = λ q h o. inr h }

in_added : (x y : ℕ) (ms : List ℕ) → holds nat_eq x ms ≡ true → holds nat_eq x (added nat_eq ms y) ≡ true
in_added x y ms h = by_test (cases_Bool (holds nat_eq y ms))
  where
    front : (xs : List ℕ) → holds nat_eq x xs ≡ true → holds nat_eq x (xs ++ y ∷ []) ≡ true
    front [] k = absurd (false≢true k)
    front (z ∷ zs) k =
        elim (or_cases (nat_eq x z) (holds nat_eq x zs) k) as (λ _. holds nat_eq x (z ∷ zs ++ y ∷ []) ≡ true) [
          | inl a ↦ or_left (nat_eq x z) (holds nat_eq x (zs ++ y ∷ [])) a
          | inr b ↦ or_right (nat_eq x z) (holds nat_eq x (zs ++ y ∷ [])) (front zs b)
        ]

    by_test : (holds nat_eq y ms ≡ true) ⊎ (holds nat_eq y ms ≡ false) → holds nat_eq x (added nat_eq ms y) ≡ true
    by_test (inl t) = subst (λ (ys : List ℕ). holds nat_eq x ys ≡ true) (sym (cond-true (holds nat_eq y ms) ms (ms ++ y ∷ []) t)) h
    by_test (inr t) = subst (λ (ys : List ℕ). holds nat_eq x ys ≡ true) (sym (cond-false (holds nat_eq y ms) ms (ms ++ y ∷ []) t))
        (front ms h)

is_added : (y : ℕ) (ms : List ℕ) → holds nat_eq y (added nat_eq ms y) ≡ true
is_added y ms = by_test (cases_Bool (holds nat_eq y ms))
  where
    last : (xs : List ℕ) → holds nat_eq y (xs ++ y ∷ []) ≡ true
    last [] = or_left (nat_eq y y) false (eq-eqb y y refl)
    last (z ∷ zs) = or_right (nat_eq y z) (holds nat_eq y (zs ++ y ∷ [])) (last zs)

    by_test : (holds nat_eq y ms ≡ true) ⊎ (holds nat_eq y ms ≡ false) → holds nat_eq y (added nat_eq ms y) ≡ true
    by_test (inl t) = subst (λ (ys : List ℕ). holds nat_eq y ys ≡ true) (sym (cond-true (holds nat_eq y ms) ms (ms ++ y ∷ []) t)) t
    by_test (inr t) = subst (λ (ys : List ℕ). holds nat_eq y ys ≡ true) (sym (cond-false (holds nat_eq y ms) ms (ms ++ y ∷ []) t)) (last ms)

pub note_next : (m : PointMaps) (d line x : ℕ) (rest ms ns all : List ℕ) → AreNoted m d line (x ∷ rest) ms all → ns ≡ noted m d line ms x
    → AreNoted m d line rest ns all
note_next m d line x rest ms ns all are is = record { some = some }
  where
    kept : (y : ℕ) → holds nat_eq y ms ≡ true → holds nat_eq y ns ≡ true
    kept y h =
        elim (cases_Bool (other m d line x)) as (λ _. holds nat_eq y ns ≡ true) [
          | inl t ↦ subst (λ (ys : List ℕ). holds nat_eq y ys ≡ true) (sym (is
              ∙ cond-true (other m d line x) (added nat_eq ms (line_at m.lines x)) ms t)) (in_added y (line_at m.lines x) ms h)
          | inr t ↦ subst (λ (ys : List ℕ). holds nat_eq y ys ≡ true) (sym (is
              ∙ cond-false (other m d line x) (added nat_eq ms (line_at m.lines x)) ms t)) h
        ]

    some : (q : ℕ) → holds nat_eq q all ≡ true → other m d line q ≡ true
        → (holds nat_eq (line_at m.lines q) ns ≡ true) ⊎ (holds nat_eq q rest ≡ true)
    some q h o =
        elim (are.some q h o) as (λ _. (holds nat_eq (line_at m.lines q) ns ≡ true) ⊎ (holds nat_eq q rest ≡ true)) [
          | inl k ↦ inl (kept (line_at m.lines q) k)
          | inr k ↦
              elim (or_cases (nat_eq q x) (holds nat_eq q rest) k) as (λ _. (holds nat_eq (line_at m.lines q) ns ≡ true)
              ⊎ (holds nat_eq q rest ≡ true)) [
                | inl e ↦
                    let is_x = eqb-true q x e in
                    let ox : other m d line x ≡ true = subst (λ (y : ℕ). other m d line y ≡ true) is_x o in
                    inl (subst (λ (y : ℕ). holds nat_eq (line_at m.lines y) ns ≡ true) (sym is_x)
                    (subst (λ (ys : List ℕ). holds nat_eq (line_at m.lines x) ys ≡ true)
                    (sym (is ∙ cond-true (other m d line x) (added nat_eq ms (line_at m.lines x)) ms ox))
                    (is_added (line_at m.lines x) ms)))
                | inr e ↦ inr e
              ]
        ]

pub note_at : (m : PointMaps) (d line i : ℕ) (xs ys ms ns : List ℕ) → xs ≡ ys → i < length xs → AreNoted m d line (drop i ys) ms ys
    → ns ≡ noted m d line ms (get_or xs i 0) → AreNoted m d line (drop (i + 1) ys) ns ys
note_at m d line i xs ys ms ns same lt are is =
    let lt2 : i < length ys = subst (λ (zs : List ℕ). i < length zs) same lt in
    note_next m d line (get_or ys i 0) (drop (i + 1) ys) ms ns ys (subst (λ (zs : List ℕ). AreNoted m d line zs ms ys)
    (drop_more ys i 0 lt2) are) (subst (λ (zs : List ℕ). ns ≡ noted m d line ms (get_or zs i 0)) same is)

drop_past : (xs : List ℕ) (i : ℕ) → length xs ≤ i → drop i xs ≡ []
drop_past [] zero le = refl
drop_past [] (suc i) le = refl
drop_past (x ∷ xs) zero le = absurd (omega (arith, le))
drop_past (x ∷ xs) (suc i) le = drop_past xs i (omega (arith, le))

pub all_noted : (m : PointMaps) (d line i : ℕ) (xs ys ms : List ℕ) → xs ≡ ys → length xs ≤ i → AreNoted m d line (drop i ys) ms ys
    → AreNoted m d line [] ms ys
all_noted m d line i xs ys ms same le are = subst (λ (zs : List ℕ). AreNoted m d line zs ms ys)
    (drop_past ys i (subst (λ (zs : List ℕ). length zs ≤ i) same le)) are

-- all points of a set are gone over, and few lines are noted
pub few_noted : (m : PointMaps) (d line ways : ℕ) (peers ms : List ℕ) → AreNoted m d line [] ms peers → length ms < ways
    → (sets p : ℕ) → line_at m.lines p ≡ line → HasSet sets m line peers → AtLeast ways (IsYounger (code_of m) sets (inside m d) p) → ⊥
few_noted m d line ways peers ms are lt sets p is_line there = few_lines (code_of m) sets ways (inside m d) p ms all lt
  where
    all : (q : ℕ) → inside m d q ≡ true → line_at m.lines q ≢ line_at m.lines p → line_at m.lines q % sets ≡ line_at m.lines p % sets
        → holds nat_eq (line_at m.lines q) ms ≡ true
    all q i ne same =
        let o : other m d line q ≡ true = is_other_complete (code_of m) (inside m d) line q i (λ e. ne (e ∙ sym is_line)) in
        let here : holds nat_eq q peers ≡ true = there q (inside_below m d q i) (same ∙ ap (λ (x : ℕ). x % sets) is_line) in
        elim (are.some q here o) as (λ _. holds nat_eq (line_at m.lines q) ms ≡ true) [
          | inl k ↦ k
          | inr k ↦ absurd (false≢true k)
        ]

-- ---- the search back

pub are_of : (m : PointMaps) → ArePointMaps m → AreOf (code_of m) m.before m.lines
are_of m maps = record { rows = λ r q. refl; is_line = λ q. refl; below = maps.below }

pub few_met : (sets ways : ℕ) (m : PointMaps) (d line p : ℕ) (met : List ℕ) → ArePointMaps m
    → TestsFollowing (code_of m) (inside m d) line (picks m d line met) → inside m d p ≡ true → line_at m.lines p ≡ line
    → (AtLeast ways (IsMet (backward_step m d line met) (line_at m.lines) p line sets) → ⊥)
    → AtLeast ways (IsYounger (code_of m) sets (inside m d) p) → ⊥
few_met sets ways m d line p met maps opens here is none = few_younger (code_of m) (inside m d) m.before m.lines (picks m d line met) p line
    sets ways (are_of m maps) opens here is none

pub many_met : (sets ways : ℕ) (m : PointMaps) (d line p : ℕ) (met : List ℕ) → ArePointMaps m
    → TestsFollowing (code_of m) (inside m d) line (picks m d line met) → inside m d p ≡ true → line_at m.lines p ≡ line
    → AtLeast ways (IsMet (backward_step m d line met) (line_at m.lines) p line sets)
    → AtLeast ways (IsYounger (code_of m) sets (inside m d) p)
many_met sets ways m d line p met maps opens here is a = many_younger (code_of m) (inside m d) m.before m.lines (picks m d line met) p line
    sets ways (are_of m maps) opens here is a

-- in a loop each point of another line follows it
pub loop_follows : (m : PointMaps) (d line p : ℕ) (met : List ℕ) → ArePointMaps m → d ≢ 0 → inside m d p ≡ true → line_at m.lines p ≡ line
    → TestsFollowing (code_of m) (inside m d) line (picks m d line met)
loop_follows m d line p met maps ne here is =
    let opens = all_follow (code_of m) (inside m d) line (maps.strong d ne) p here is in
    record {
      sound = λ q h. opens.sound q (left (other m d line q) (sym (same q) ∙ h));
      complete = λ q b. same q
          ∙ right (other m d line q) (opens.complete q b);
    }
  where
    same : (q : ℕ) → picks m d line met q ≡ other m d line q && true
    same q =
        elim (eqb_tells d 0) as (λ _. picks m d line met q ≡ other m d line q && true) [
          | inl t ↦ absurd (ne t.1)
          | inr t ↦ ap (λ (b : Bool). other m d line q && b) (cond-false (nat_eq d 0) (holds nat_eq q met) true t.0)
        ]

    left : (b : Bool) → b && true ≡ true → b ≡ true
    left true h = refl
    left false h = h

    right : (b : Bool) → b ≡ true → b && true ≡ true
    right true h = refl
    right false h = h

pub picks_below : (m : PointMaps) (d line q : ℕ) (met : List ℕ) → picks m d line met q ≡ true → q < length m.home
picks_below m d line q met h = other_below m d line q (first (other m d line q) (if nat_eq d 0 then holds nat_eq q met else true) h)
  where
    first : (a b : Bool) → a && b ≡ true → a ≡ true
    first true b h = refl
    first false b h = h

pub backward_below : (m : PointMaps) (d line r q : ℕ) (met : List ℕ) → holds nat_eq q (backward_step m d line met r) ≡ true
    → q < length m.home
backward_below m d line r q met h = picks_below m d line q met (filter_sound (picks m d line met) q (row_in m.before r) h).0

pub set_has_line : (sets : ℕ) (m : PointMaps) (p line : ℕ) (peers : List ℕ) → line ≡ line_at m.lines p
    → HasSet sets m (line_at m.lines p) peers
    → HasLine m line peers
set_has_line sets m p line peers is all q lt e = all q lt (ap (λ (x : ℕ). x % sets) (e ∙ is))
