-- What holds of the rows of a run.
use Rattle.std.proofs.Common.{◌≡◌, refl, sym, ap, ◌∙◌, ℕ, ◌+◌, ◌<◌, ℤ, pos, negsuc, ◌+ℤ◌, ◌*ℤ◌, List, [], ◌∷◌, ◌++◌, length, length-append, append_assoc, Bool, true, false, arith}
use Rattle.std.specs.Prelude.{if◌then◌else◌, ◌&&◌}
use Rattle.std.proofs.lemmas.Int.{ints}
use Rattle.std.proofs.Math.IntN.{zero-*ℤ}
use Rattle.linear_rows.specs.declared.rows.Var.{Var}
use Rattle.linear_rows.specs.declared.rows.RowTerm.{RowTerm}
use Rattle.linear_rows.specs.Rows.{Inequality, sum_at}
use Rattle.linear_rows.specs.Terms.{scaled_terms}
use Rattle.linear_rows.proofs.Values.{sum_at-scaled}
use Rattle.row_elimination.specs.declared.steps.Equality.{Equality}
use Rattle.std.specs.Prelude.{Option}
use Rattle.farkas.specs.Evidence.{row_at}
use Rattle.row_elimination.specs.Derivations.{Derivation, given, given_from, at_most_last, at_least_last, combination, left_at, size_of}
use Rattle.row_elimination.specs.Steps.{Match, mentions, has_positive, has_negative, is_made, equality_of, without, with_var, matches_of, matches_from, matches, combined, candidates, is_plain, is_covered, without_alike, is_alike, with_one, with_each, eliminated, run}
use Rattle.farkas.specs.Deciding.{start_of}
use Rattle.farkas.proofs.Soundness.{one-mul}
use Rattle.farkas.proofs.Deriving.{IsDerived, sum_derived, side_at, constant_of}

-- something holds of each
abbrev pub Each : (Derivation → Type 0) → List Derivation → Type 0
Each P [] = Unit {0}
Each P (r ∷ rs) = P r × Each P rs

pub Each-append : (P : Derivation → Type 0) (rs ss : List Derivation) → Each P rs → Each P ss → Each P (rs ++ ss)
Each-append P [] ss h k = k
Each-append P (r ∷ rs) ss h k = (h.0, Each-append P rs ss h.1 k)

pub Each-front : (P : Derivation → Type 0) (rs ss : List Derivation) → Each P (rs ++ ss) → Each P rs × Each P ss
Each-front P [] ss h = (tt, h)
Each-front P (r ∷ rs) ss h = let k = Each-front P rs ss h.1 in ((h.0, k.0), k.1)

choose_each : (P : Derivation → Type 0) (b : Bool) (rs ss : List Derivation) → Each P rs → Each P ss → Each P (if b then rs else ss)
choose_each P true rs ss h k = h
choose_each P false rs ss h k = k

pub Each-without : (P : Derivation → Type 0) (y : Var) (rs : List Derivation) → Each P rs → Each P (without y rs)
Each-without P y [] h = tt
Each-without P y (r ∷ rs) h = let k = Each-without P y rs h.1 in choose_each P (mentions y r) (without y rs) (r ∷ without y rs) k (h.0, k)

pub Each-with : (P : Derivation → Type 0) (y : Var) (rs : List Derivation) → Each P rs → Each P (with_var y rs)
Each-with P y [] h = tt
Each-with P y (r ∷ rs) h = let k = Each-with P y rs h.1 in choose_each P (mentions y r) (r ∷ with_var y rs) (with_var y rs) (h.0, k) k

Each-without_alike : (P : Derivation → Type 0) (r : Derivation) (rs : List Derivation) → Each P rs → Each P (without_alike r rs)
Each-without_alike P r [] h = tt
Each-without_alike P r (s ∷ ss) h = let k = Each-without_alike P r ss h.1 in choose_each P (is_alike s r) (without_alike r ss) (s ∷ without_alike r ss) k (h.0, k)

pub Each-with_one : (P : Derivation → Type 0) (rs : List Derivation) (r : Derivation) → Each P rs → P r → Each P (with_one rs r)
Each-with_one P rs r h k =
    choose_each P (is_plain r) rs (if is_covered rs r then rs else without_alike r rs ++ r ∷ []) h
    (choose_each P (is_covered rs r) rs (without_alike r rs ++ r ∷ []) h
    (Each-append P (without_alike r rs) (r ∷ []) (Each-without_alike P r rs h) (k, tt)))

pub Each-with_each : (P : Derivation → Type 0) (rs ss : List Derivation) → Each P rs → Each P ss → Each P (with_each rs ss)
Each-with_each P rs [] h k = h
Each-with_each P rs (s ∷ ss) h k = Each-with_each P (with_one rs s) ss (Each-with_one P rs s h k.0) k.1

-- something holds of both parts of each match
abbrev pub EachMatch : (Derivation → Derivation → Type 0) → List Match → Type 0
EachMatch Q [] = Unit {0}
EachMatch Q (m ∷ ms) = Q m.positive m.negative × EachMatch Q ms

pub choose_matches : (Q : Derivation → Derivation → Type 0) (b : Bool) (ms ns : List Match) → EachMatch Q ms → EachMatch Q ns → EachMatch Q (if b then ms else ns)
choose_matches Q true ms ns h k = h
choose_matches Q false ms ns h k = k

pub EachMatch-append : (Q : Derivation → Derivation → Type 0) (ms ns : List Match) → EachMatch Q ms → EachMatch Q ns → EachMatch Q (ms ++ ns)
EachMatch-append Q [] ns h k = k
EachMatch-append Q (m ∷ ms) ns h k = (h.0, EachMatch-append Q ms ns h.1 k)

abbrev pub Both : (Derivation → Type 0) → Derivation → Derivation → Type 0
Both P p n = P p × P n

matches_of-both : (P : Derivation → Type 0) (y : Var) (e : Option Equality) (i : ℕ) (p : Derivation) (j : ℕ) (ns : List Derivation) → P p → Each P ns → EachMatch (Both P) (matches_of y e i p j ns)
matches_of-both P y e i p j [] h k = tt
matches_of-both P y e i p j (n ∷ ns) h k =
    let rest = matches_of-both P y e i p (j + 1) ns h k.1 in
    choose_matches (Both P) (has_negative y n && is_made e i j) (record { positive = p; negative = n } ∷ matches_of y e i p (j + 1) ns) (matches_of y e i p (j + 1) ns) ((h, k.0), rest) rest

pub matches_from-both : (P : Derivation → Type 0) (y : Var) (e : Option Equality) (all : List Derivation) (i : ℕ) (ps : List Derivation) → Each P all → Each P ps → EachMatch (Both P) (matches_from y e all i ps)
matches_from-both P y e all i [] h k = tt
matches_from-both P y e all i (p ∷ ps) h k =
    EachMatch-append (Both P) (if has_positive y p then matches_of y e i p 0 all else []) (matches_from y e all (i + 1) ps)
    (choose_matches (Both P) (has_positive y p) (matches_of y e i p 0 all) [] (matches_of-both P y e i p 0 all k.0 h) tt)
    (matches_from-both P y e all (i + 1) ps h k.1)

combined-each : (P Q : Derivation → Type 0) (y : Var) (ms : List Match) → ((p n : Derivation) → P p → P n → Q (combination y p n)) → EachMatch (Both P) ms → Each Q (combined y ms)
combined-each P Q y [] f h = tt
combined-each P Q y (m ∷ ms) f h = (f m.positive m.negative h.0.0 h.0.1, combined-each P Q y ms f h.1)

-- what a combination keeps, a step keeps
pub Each-eliminated : (P : Derivation → Type 0) (y : Var) (rs : List Derivation) → ((p n : Derivation) → P p → P n → P (combination y p n)) → Each P rs → Each P (eliminated y rs)
Each-eliminated P y rs f h =
    let mentioning : List Derivation = with_var y rs in
    Each-with_each P [] (candidates y rs) tt
    (Each-append P (without y rs) (combined y (matches y mentioning)) (Each-without P y rs h)
    (combined-each P P y (matches y mentioning) f (matches_from-both P y (equality_of mentioning) mentioning 0 mentioning (Each-with P y rs h) (Each-with P y rs h))))

pub Each-run : (P : Derivation → Type 0) (ys : List Var) (rs : List Derivation) → ((y : Var) (p n : Derivation) → P p → P n → P (combination y p n)) → Each P rs → Each P (run ys rs)
Each-run P [] rs f h = h
Each-run P (y ∷ ys) rs f h = Each-run P ys (eliminated y rs) f (Each-eliminated P y rs (f y) h)

row_behind : (front : List Inequality) (row : Inequality) (rest : List Inequality) → row_at (front ++ row ∷ rest) (length front) ≡ row
row_behind [] row rest = refl
row_behind (r ∷ front) row rest = row_behind front row rest

given_derived : (tested : List RowTerm) (rows : List Inequality) (place : ℕ) (row : Inequality) → place < length rows → row_at rows place ≡ row → IsDerived rows tested (given place row)
given_derived tested rows place row h e = record {
  positive = omega arith;
  named = (h, tt);
  left = λ v.
      (let f = zero-*ℤ (sum_at v tested) in let g = one-mul (left_at v (sum_at v tested) (given place row)) in
      let k : side_at v (row_at rows place) ≡ side_at v row = ap (side_at v) e in
      let l = one-mul (side_at v (row_at rows place)) in omega (arith, ints));
  constant =
      (let g = one-mul row.constant in let k : constant_of (row_at rows place) ≡ constant_of row = ap constant_of e in
      let l = one-mul (constant_of (row_at rows place)) in omega (arith, ints));
}

given_from_derived : (tested : List RowTerm) (all front rest : List Inequality) (place : ℕ) → all ≡ front ++ rest → place ≡ length front → Each (IsDerived all tested) (given_from place rest)
given_from_derived tested all front [] place e n = tt
given_from_derived tested all front (row ∷ rest) place e n = (
  given_derived tested all place row
      (let k : length all ≡ length front + length (row ∷ rest) = ap length e ∙ length-append {A = Inequality} front (row ∷ rest) in omega arith)
      (ap (λ (rows : List Inequality). row_at rows place) e ∙ ap (row_at (front ++ row ∷ rest)) n ∙ row_behind front row rest),
  given_from_derived tested all (front ++ row ∷ []) rest (place + 1) (e ∙ sym (append_assoc front (row ∷ []) rest))
      (let k = length-append {A = Inequality} front (row ∷ []) in omega arith),
)

pub given_all_derived : (tested : List RowTerm) (rows : List Inequality) → Each (IsDerived rows tested) (given_from 0 rows)
given_all_derived tested rows = given_from_derived tested rows [] rows 0 refl refl

at_most_derived : (rows : List Inequality) (tested : List RowTerm) → IsDerived rows tested (at_most_last tested)
at_most_derived rows tested = record {
  positive = omega arith;
  named = tt;
  left = λ v. (let e = minus_one (sum_at v tested) in let g = one-mul (sum_at v tested +ℤ (negsuc 0 *ℤ sum_at v tested)) in omega (arith, ints));
  constant = refl;
}
  where
    minus_one : (z : ℤ) → z +ℤ (negsuc 0 *ℤ z) ≡ pos 0
    minus_one z = omega (arith, ints)

at_least_derived : (rows : List Inequality) (tested : List RowTerm) → IsDerived rows tested (at_least_last tested)
at_least_derived rows tested = record {
  positive = omega arith;
  named = tt;
  left = λ v. (let e = sum_at-scaled v (negsuc 0) tested in let f = one-mul (sum_at v tested) in
      let h = minus_one (sum_at v tested) in
      let g = one-mul (sum_at v (scaled_terms (negsuc 0) tested) +ℤ (pos 1 *ℤ sum_at v tested)) in omega (arith, ints));
  constant = refl;
}
  where
    minus_one : (z : ℤ) → z +ℤ (negsuc 0 *ℤ z) ≡ pos 0
    minus_one z = omega (arith, ints)

pub start_derived : (rows : List Inequality) (row : Inequality) → Each (IsDerived rows row.terms) (start_of rows row)
start_derived rows row =
    Each-append (IsDerived rows row.terms) (given_from 0 rows) (at_most_last row.terms ∷ at_least_last row.terms ∷ [])
    (given_all_derived row.terms rows) (at_most_derived rows row.terms, (at_least_derived rows row.terms, tt))

-- each row that is left follows from the given ones
pub run_derived : (ys : List Var) (rows : List Inequality) (tested : List RowTerm) (rs : List Derivation) → Each (IsDerived rows tested) rs → Each (IsDerived rows tested) (run ys rs)
run_derived ys rows tested rs h = Each-run (IsDerived rows tested) ys rs (λ y p n hp hn. sum_derived rows tested (size_of y n) (size_of y p) p n hp hn) h
