-- Lists of lines under fetches.
use Rattle.std.proofs.Common.{◌≡◌, ℕ, zero, suc, ◌+◌, ◌<◌, ◌≤◌, Bool, true, false, if◌then◌else◌, eqb, List, [], ◌∷◌, ◌++◌, length, take, drop, get_or, refl, sym, ap, ◌∙◌, subst, arith}
use Rattle.std.proofs.lemmas.Bool.Decides.{nat_tests}
use Rattle.std.proofs.lemmas.List.{length-take-le, take-append-le}
use Rattle.fetch_timing.specs.Caches.{AreDistinct, fetched, holds, without}
use Rattle.fetch_timing.specs.Tables.{pushed}

pub without_none : (line : ℕ) (xs : List ℕ) → holds line xs ≡ false → without line xs ≡ xs
without_none line [] h = refl
without_none line (x ∷ xs) h = grind (arith, nat_tests, without_none line xs)

-- a line that stands in the list moves to the front
pub pushed_hit : (c line : ℕ) (xs : List ℕ) → AreDistinct xs → holds line xs ≡ true → pushed c line xs ≡ c ∷ without line xs
pushed_hit c line [] d h = grind arith
pushed_hit c line (x ∷ xs) d h = grind (arith, nat_tests, pushed_hit x line xs d.1, without_none line xs, d.0)

-- another goes in front of all
pub pushed_room : (c line : ℕ) (xs : List ℕ) (y : ℕ) → holds line xs ≡ false → pushed c line (xs ++ y ∷ []) ≡ c ∷ xs
pushed_room c line [] y h = grind (arith, nat_tests)
pushed_room c line (x ∷ xs) y h = grind (arith, nat_tests, pushed_room x line xs y)

pub pushed_full : (c line : ℕ) (xs : List ℕ) → holds line xs ≡ false → pushed c line xs ≡ take (length xs) (c ∷ xs)
pushed_full c line [] h = refl
pushed_full c line (x ∷ xs) h = grind (arith, nat_tests, pushed_full x line xs)

pub length_pushed : (c line : ℕ) (xs : List ℕ) → length (pushed c line xs) ≡ length xs
length_pushed c line [] = refl
length_pushed c line (x ∷ xs) = grind (arith, nat_tests, length_pushed x line xs)

-- a list that is short enough is its own front
pub whole : (n : ℕ) (xs : List ℕ) → length xs ≤ n → take n xs ≡ xs
whole zero [] h = refl
whole (suc n) [] h = refl
whole zero (x ∷ xs) h = absurd (omega arith)
whole (suc n) (x ∷ xs) h = ap (λ ys. x ∷ ys) (whole n xs (omega arith))

pub without_hit : (line : ℕ) (xs : List ℕ) → AreDistinct xs → holds line xs ≡ true → length (without line xs) + 1 ≡ length xs
without_hit line [] d h = grind arith
without_hit line (x ∷ xs) d h = grind (arith, nat_tests, without_hit line xs d.1, without_none line xs, d.0)

-- the four arms of a fetch: the newest line again
pub fetched_newest : (line used : ℕ) (places : List ℕ) → 0 < used → used ≤ length places → get_or places 0 0 ≡ line → AreDistinct (take used places)
    → take used places ≡ fetched (length places) line (take used places)
fetched_newest line used [] some within first distinct = absurd (omega arith)
fetched_newest line zero (x ∷ xs) some within first distinct = absurd (omega arith)
fetched_newest line (suc used) (x ∷ xs) some within first distinct =
    let rest = without_none line (take used xs) in
    let short = whole (length xs) (take used xs) in
    let size = length-take-le used xs in
    grind (arith, nat_tests, rest, short, size, distinct.0)

-- another line that stands in the list
pub fetched_hit : (line used : ℕ) (places ys : List ℕ) → ys ≡ pushed line line (take used places) → used ≤ length places → AreDistinct (take used places)
    → holds line (take used places) ≡ true → take used (ys ++ drop used places) ≡ fetched (length places) line (take used places)
fetched_hit line used places ys e within distinct h =
    let size = length-take-le used places within in
    let moved = pushed_hit line line (take used places) distinct h in
    let kept = length_pushed line line (take used places) in
    let few = without_hit line (take used places) distinct h in
    let long : used ≤ length ys = rw e (omega arith) in
    take-append-le used ys (drop used places) long ∙ whole used ys (rw e (omega arith)) ∙ e ∙ moved ∙ sym (whole (length places) (line ∷ without line (take used places)) (omega arith))

next_place : (used : ℕ) (places : List ℕ) → used < length places → take (used + 1) places ≡ take used places ++ get_or places used 0 ∷ []
next_place used [] h = absurd (omega arith)
next_place zero (x ∷ xs) h = refl
next_place (suc used) (x ∷ xs) h =
    let next : suc used + 1 ≡ suc (used + 1) = omega arith in
    rw next (ap (λ ys. x ∷ ys) (next_place used xs (omega arith)))

-- another, with room
pub fetched_room : (line used : ℕ) (places ys : List ℕ) → ys ≡ pushed line line (take (used + 1) places) → used < length places
    → holds line (take used places) ≡ false → take (used + 1) (ys ++ drop (used + 1) places) ≡ fetched (length places) line (take used places)
fetched_room line used places ys e within h =
    let size = length-take-le used places (omega arith) in
    let kept = without_none line (take used places) h in
    let all : ys ≡ line ∷ take used places = e ∙ ap (pushed line line) (next_place used places within) ∙ pushed_room line line (take used places) (get_or places used 0) h in
    let long : length ys ≡ used + 1 = rw all (omega arith) in
    take-append-le (used + 1) ys (drop (used + 1) places) (omega arith) ∙ whole (used + 1) ys (omega arith) ∙ all
    ∙ sym (rw kept (whole (length places) (line ∷ take used places) (omega arith)))

-- another, in place of the oldest
pub fetched_full : (line used : ℕ) (places ys : List ℕ) → ys ≡ pushed line line places → length places ≤ used → used ≤ length places
    → holds line (take used places) ≡ false → take used ys ≡ fetched (length places) line (take used places)
fetched_full line used places ys e full within h =
    let same = whole used places full in
    let absent : holds line places ≡ false = subst (λ xs. holds line xs ≡ false) same h in
    let size = length_pushed line line places in
    whole used ys (rw e (omega arith)) ∙ e ∙ pushed_full line line places absent ∙ rw (same, without_none line places absent) refl

-- the lines stay distinct
absent_without : (l line : ℕ) (xs : List ℕ) → holds l xs ≡ false → holds l (without line xs) ≡ false
absent_without l line [] h = refl
absent_without l line (x ∷ xs) h = grind (arith, nat_tests, absent_without l line xs)

pub none_without : (line : ℕ) (xs : List ℕ) → holds line (without line xs) ≡ false
none_without line [] = refl
none_without line (x ∷ xs) = grind (arith, nat_tests, none_without line xs)

absent_front : (l n : ℕ) (xs : List ℕ) → holds l xs ≡ false → holds l (take n xs) ≡ false
absent_front l zero xs h = refl
absent_front l (suc n) [] h = refl
absent_front l (suc n) (x ∷ xs) h = grind (arith, nat_tests, absent_front l n xs)

distinct_if : (b : Bool) (x : ℕ) (xs : List ℕ) → holds x xs ≡ false → AreDistinct xs → AreDistinct (if b then xs else x ∷ xs)
distinct_if true x xs h d = d
distinct_if false x xs h d = (h, d)

pub distinct_without : (line : ℕ) (xs : List ℕ) → AreDistinct xs → AreDistinct (without line xs)
distinct_without line [] d = tt
distinct_without line (x ∷ xs) d = distinct_if (eqb x line) x (without line xs) (absent_without x line xs d.0) (distinct_without line xs d.1)

distinct_front : (n : ℕ) (xs : List ℕ) → AreDistinct xs → AreDistinct (take n xs)
distinct_front zero xs d = tt
distinct_front (suc n) [] d = tt
distinct_front (suc n) (x ∷ xs) d = (absent_front x n xs d.0, distinct_front n xs d.1)

pub distinct_fetched : (ways line : ℕ) (xs : List ℕ) → AreDistinct xs → AreDistinct (fetched ways line xs)
distinct_fetched ways line xs d = distinct_front ways (line ∷ without line xs) (none_without line xs, distinct_without line xs d)

-- what a fetch leaves is distinct, however it is written
pub distinct_after : (ways line : ℕ) (xs ys : List ℕ) → ys ≡ fetched ways line xs → AreDistinct xs → AreDistinct ys
distinct_after ways line xs ys e d = subst (λ (zs : List ℕ). AreDistinct zs) (sym e) (distinct_fetched ways line xs d)

-- the front of the places is that of those before an end
pub front_of_places : (used ways : ℕ) (places : List ℕ) → used ≤ ways → take used (take ways places) ≡ take used places
front_of_places zero ways places h = refl
front_of_places (suc used) zero places h = absurd (omega arith)
front_of_places (suc used) (suc ways) [] h = refl
front_of_places (suc used) (suc ways) (x ∷ places) h = ap (λ ys. x ∷ ys) (front_of_places used ways places (omega arith))

-- the front that a fetch leaves among the places is distinct
pub distinct_places : (before after ways line n : ℕ) (places ys tail : List ℕ) → take after ys ≡ fetched n line (take before (take ways places)) → before ≤ ways
    → AreDistinct (take before places) → after ≤ length ys → AreDistinct (take after (ys ++ tail))
distinct_places before after ways line n places ys tail e within distinct room =
    let same : take after (ys ++ tail) ≡ fetched n line (take before places) =
    take-append-le after ys tail room ∙ e ∙ ap (fetched n line) (front_of_places before ways places within) in
    distinct_after n line (take before places) (take after (ys ++ tail)) same distinct

pub used_within : (used ways : ℕ) (places lines : List ℕ) → take used places ≡ lines → used ≤ length places → length lines ≤ ways → used ≤ ways
used_within used ways places lines e within few =
    let size = length-take-le used places within in
    let same = ap (λ (xs : List ℕ). length xs) e in
    omega (arith, size, same)
