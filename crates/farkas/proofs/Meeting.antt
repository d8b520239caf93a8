-- The point with one more number meets each inequality that the step had.
use Rattle.std.proofs.Common.{◌≡◌, refl, sym, ap, ◌∙◌, subst, ℕ, zero, suc, ◌<◌, ℤ, pos, neg_ℤ, ◌+ℤ◌, ◌*ℤ◌, ◌≤ℤ◌, ◌<ℤ◌, List, [], ◌∷◌, ◌++◌, ◌⊎◌, inl, inr, ⊎_elim, Bool, true, false, Option, None, arith}
use Rattle.std.specs.Prelude.{if◌then◌else◌, ◌&&◌, ◌||◌, ◌-ℤ◌, int_le}
use Rattle.std.proofs.lemmas.Int.{ints}
use Rattle.std.proofs.Math.IntN.{zero-*ℤ, *ℤ-zero, *ℤ_comm}
use Rattle.std.specs.Ordering.{is_eq, int_eq}
use Rattle.linear_rows.specs.declared.rows.Var.{Var}
use Rattle.linear_rows.specs.declared.rows.RowTerm.{RowTerm}
use Rattle.linear_rows.specs.Variables.{var_cmp}
use Rattle.linear_rows.specs.Rows.{sum_at}
use Rattle.linear_rows.specs.Terms.{IsAscending, factor_of, is_zero}
use Rattle.linear_rows.proofs.VariableOrder.{same_var}
use Rattle.linear_rows.proofs.TermLists.{is_zero_of}
use Rattle.linear_rows.proofs.Integers.{mul-add, mul-neg, neg-mul}
use Rattle.linear_rows.proofs.Rounding.{mul_monotone}
use Rattle.farkas.specs.declared.placing.Placed.{Placed}
use Rattle.farkas.specs.declared.placing.Limit.{Limit}
use Rattle.row_elimination.specs.Derivations.{Derivation, HoldsAt, size_of}
use Rattle.row_elimination.specs.Steps.{Match, mentions, has_positive, has_negative, without, with_var, matches, combined, are_same, is_alike, is_covered, without_alike, has_no_terms, is_plain, with_one, with_each}
use Rattle.farkas.specs.Placing.{slack_of, limit_of, limits, least_limit, extended, from_above, chosen}
use Rattle.std.specs.Cmp.{signed_Decides}
use Rattle.farkas.proofs.Soundness.{at_most_times}
use Rattle.farkas.proofs.Proving.{lt_of, abs_above, abs_below, both_true, bare}
use Rattle.farkas.proofs.Following.{Each, Each-front, Each-without, Each-with, EachMatch}
use Rattle.farkas.proofs.Agreeing.{Agree, AgreeAt, IsAt, sum_agrees, pairs_agree, equal_of, signed}
use Rattle.farkas.proofs.Reaching.{numbers_at, room_at, slack_of-is, holds_room, room_holds, room_extended}
use Rattle.farkas.proofs.Limiting.{Le, NoLimit, SomeLimit, least}

-- the inequality holds at the point
abbrev pub At : Placed → Derivation → Type 0
At p r = HoldsAt (numbers_at p) p.last p.divisor r

pub same_list : (ts us : List RowTerm) → are_same ts us ≡ true → ts ≡ us
same_list [] [] e = refl
same_list [] (u ∷ us) e = absurd (cc)
same_list (t ∷ ts) [] e = absurd (cc)
same_list (t ∷ ts) (u ∷ us) e =
    let parts = both_true (is_eq (var_cmp t.var u.var) && int_eq t.factor u.factor) (are_same ts us) e in
    let more = both_true (is_eq (var_cmp t.var u.var)) (int_eq t.factor u.factor) parts.0 in
    let var = same_var t.var u.var (equal_of (var_cmp t.var u.var) more.0) in
    let factor : t.factor ≡ u.factor = (signed_Decides t.factor u.factor).0 more.1 in
    let rest = same_list ts us parts.1 in
    λ i. record { var = var i; factor = factor i } ∷ rest i

-- one with the same left side and a constant at least as large holds too
alike_holds : (p : Placed) (s r : Derivation) → pos 0 <ℤ p.divisor → is_alike s r ≡ true → s.constant ≤ℤ r.constant → At p s → At p r
alike_holds p s r d e le h =
    let parts = both_true (are_same s.terms r.terms) (int_eq s.last r.last) e in
    let terms = ap (sum_at (numbers_at p)) (same_list s.terms r.terms parts.0) in
    let last : s.last ≡ r.last = (signed_Decides s.last r.last).0 parts.1 in
    let product = ap (λ (z : ℤ). z *ℤ p.last) last in
    let more = at_most_times s.constant r.constant p.divisor d le in omega (arith, ints)

pub le_of : (a b : ℤ) → int_le a b ≡ true → a ≤ℤ b
le_of a b e = grind (arith, ints)

pub gt_of : (a b : ℤ) → int_le a b ≡ false → b ≤ℤ a
gt_of a b e = grind (arith, ints)

pub either_true : (a b : Bool) → (a || b) ≡ true → (a ≡ true) ⊎ (b ≡ true)
either_true true b e = inl refl
either_true false b e = inr e

both_false : (a b : Bool) → (a || b) ≡ false → (a ≡ false) × (b ≡ false)
both_false true b e = absurd (cc)
both_false false b e = (refl, e)

covered_holds : (p : Placed) (ss : List Derivation) (r : Derivation) → pos 0 <ℤ p.divisor → is_covered ss r ≡ true → Each (At p) ss → At p r
covered_holds p [] r d e h = absurd (cc)
covered_holds p (s ∷ ss) r d e h =
    ⊎_elim
    (λ here. let parts = both_true (is_alike s r) (int_le s.constant r.constant) here in alike_holds p s r d parts.0 (le_of s.constant r.constant parts.1) h.0)
    (λ after. covered_holds p ss r d after h.1)
    (either_true (is_alike s r && int_le s.constant r.constant) (is_covered ss r) e)

true_and : (a b : Bool) → a ≡ true → (a && b) ≡ false → b ≡ false
true_and true b e f = f
true_and false b e f = absurd (cc)

-- alike ones with a greater constant hold where it holds
alike_symmetric : (p : Placed) (s r : Derivation) → pos 0 <ℤ p.divisor → is_alike s r ≡ true → r.constant ≤ℤ s.constant → At p r → At p s
alike_symmetric p s r d e le h =
    let parts = both_true (are_same s.terms r.terms) (int_eq s.last r.last) e in
    let terms = ap (sum_at (numbers_at p)) (same_list s.terms r.terms parts.0) in
    let last : s.last ≡ r.last = (signed_Decides s.last r.last).0 parts.1 in
    let product = ap (λ (z : ℤ). z *ℤ p.last) last in
    let more = at_most_times r.constant s.constant p.divisor d le in omega (arith, ints)

put_back : (p : Placed) (s : Derivation) (ss : List Derivation) (r : Derivation) (b : Bool) → is_alike s r ≡ b → (is_alike s r && int_le s.constant r.constant) ≡ false → pos 0 <ℤ p.divisor → At p r →
    Each (At p) (if b then without_alike r ss else s ∷ without_alike r ss) → At p s × Each (At p) (without_alike r ss)
put_back p s ss r true e f d k h = (alike_symmetric p s r d e (gt_of s.constant r.constant (true_and (is_alike s r) (int_le s.constant r.constant) e f)) k, h)
put_back p s ss r false e f d k h = (h.0, h.1)

removed_hold : (p : Placed) (ss : List Derivation) (r : Derivation) → pos 0 <ℤ p.divisor → is_covered ss r ≡ false → At p r → Each (At p) (without_alike r ss) → Each (At p) ss
removed_hold p [] r d e k h = tt
removed_hold p (s ∷ ss) r d e k h =
    let parts = both_false (is_alike s r && int_le s.constant r.constant) (is_covered ss r) e in
    let back = put_back p s ss r (is_alike s r) refl parts.0 d k h in
    (back.0, removed_hold p ss r d parts.1 k back.1)

plain_holds : (p : Placed) (r : Derivation) → pos 0 <ℤ p.divisor → is_plain r ≡ true → At p r
plain_holds p r d e =
    let parts = both_true (has_no_terms r.terms && is_zero r.last) (int_le (pos 0) r.constant) e in
    let more = both_true (has_no_terms r.terms) (is_zero r.last) parts.0 in
    let terms : sum_at (numbers_at p) r.terms ≡ pos 0 = ap (sum_at (numbers_at p)) (bare r.terms more.0) in
    let last : r.last *ℤ p.last ≡ pos 0 = ap (λ (z : ℤ). z *ℤ p.last) (is_zero_of r.last more.1) ∙ zero-*ℤ p.last in
    let above = at_most_times (pos 0) r.constant p.divisor d (le_of (pos 0) r.constant parts.1) in
    let none = zero-*ℤ p.divisor in omega (arith, ints)

one_holds : (p : Placed) (rs : List Derivation) (r : Derivation) (a : Bool) → is_plain r ≡ a → (b : Bool) → is_covered rs r ≡ b → pos 0 <ℤ p.divisor →
    Each (At p) (if a then rs else (if b then rs else without_alike r rs ++ r ∷ [])) → Each (At p) rs × At p r
one_holds p rs r true e b f d h = (h, plain_holds p r d e)
one_holds p rs r false e true f d h = (h, covered_holds p rs r d f h)
one_holds p rs r false e false f d h =
    let parts = Each-front (At p) (without_alike r rs) (r ∷ []) h in
    (removed_hold p rs r d f parts.1.0 parts.0, parts.1.0)

-- what is left out holds where the rest holds
pub each_holds : (p : Placed) (rs ss : List Derivation) → pos 0 <ℤ p.divisor → Each (At p) (with_each rs ss) → Each (At p) rs × Each (At p) ss
each_holds p rs [] d h = (h, tt)
each_holds p rs (s ∷ ss) d h =
    let rest = each_holds p (with_one rs s) ss d h in
    let one = one_holds p rs s (is_plain s) refl (is_covered rs s) refl d rest.0 in
    (one.0, (one.1, rest.1))

-- where the combinations hold, each match agrees
pub matches_agree : (p : Placed) (y : Var) (ms : List Match) → Each (At p) (combined y ms) → EachMatch (AgreeAt y (numbers_at p) p.last p.divisor) ms
matches_agree p y [] h = tt
matches_agree p y (m ∷ ms) h =
    (sum_agrees (numbers_at p) p.last p.divisor (size_of y m.negative) (size_of y m.positive) m.positive m.negative h.0, matches_agree p y ms h.1)

rejoin_one : (Q : Derivation → Type 0) (y : Var) (r : Derivation) (rs : List Derivation) (b : Bool) →
    Each Q (if b then without y rs else r ∷ without y rs) → Each Q (if b then r ∷ with_var y rs else with_var y rs) → Q r × Each Q (without y rs) × Each Q (with_var y rs)
rejoin_one Q y r rs true h k = (k.0, h, k.1)
rejoin_one Q y r rs false h k = (h.0, h.1, k)

-- those without the variable and those with it are all
pub rejoined : (Q : Derivation → Type 0) (y : Var) (rs : List Derivation) → Each Q (without y rs) → Each Q (with_var y rs) → Each Q rs
rejoined Q y [] h k = tt
rejoined Q y (r ∷ rs) h k = let parts = rejoin_one Q y r rs (mentions y r) h k in (parts.0, rejoined Q y rs parts.1 parts.2)

-- each of the list, by its place
by_place : (Q : Derivation → Type 0) (rs : List Derivation) → ((k : ℕ) (r : Derivation) → IsAt rs k r → Q r) → Each Q rs
by_place Q [] h = tt
by_place Q (r ∷ rs) h = (h 0 r refl, by_place Q rs (λ k s at. h (suc k) s at))

at_place : (Q : Derivation → Type 0) (rs : List Derivation) (k : ℕ) (r : Derivation) → Each Q rs → IsAt rs k r → Q r
at_place Q [] k r h at = absurd at
at_place Q (s ∷ ss) zero r h at = subst Q at h.0
at_place Q (s ∷ ss) (suc k) r h at = at_place Q ss k r h.1 at

-- those with the variable have a factor of it
mention_one : (y : Var) (r : Derivation) (rs : List Derivation) → Each (λ s. is_zero (factor_of y s.terms) ≡ false) (with_var y rs) → (b : Bool) → is_zero (factor_of y r.terms) ≡ b →
    Each (λ s. is_zero (factor_of y s.terms) ≡ false) (if (if b then false else true) then r ∷ with_var y rs else with_var y rs)
mention_one y r rs h true e = h
mention_one y r rs h false e = (e, h)

pub each_mentions : (y : Var) (rs : List Derivation) → Each (λ s. is_zero (factor_of y s.terms) ≡ false) (with_var y rs)
each_mentions y [] = tt
each_mentions y (r ∷ rs) = mention_one y r rs (each_mentions y rs) (is_zero (factor_of y r.terms)) refl

no_zero : (y : Var) (r : Derivation) (rs : List Derivation) → Each (λ s. factor_of y s.terms ≡ pos 0) (without y rs) → (b : Bool) → is_zero (factor_of y r.terms) ≡ b →
    Each (λ s. factor_of y s.terms ≡ pos 0) (if (if b then false else true) then without y rs else r ∷ without y rs)
no_zero y r rs h true e = (is_zero_of (factor_of y r.terms) e, h)
no_zero y r rs h false e = h

pub each_without : (y : Var) (rs : List Derivation) → Each (λ s. factor_of y s.terms ≡ pos 0) (without y rs)
each_without y [] = tt
each_without y (r ∷ rs) = no_zero y r rs (each_without y rs) (is_zero (factor_of y r.terms)) refl

pub both_each : (P Q : Derivation → Type 0) (rs : List Derivation) → Each P rs → Each Q rs → Each (λ r. P r × Q r) rs
both_each P Q [] h k = tt
both_each P Q (r ∷ rs) h k = ((h.0, k.0), both_each P Q rs h.1 k.1)

pub mapped : (P Q : Derivation → Type 0) (rs : List Derivation) → ((r : Derivation) → P r → Q r) → Each P rs → Each Q rs
mapped P Q [] f h = tt
mapped P Q (r ∷ rs) f h = (f r h.0, mapped P Q rs f h.1)

-- ---- the extended point

kept : (y : Var) (n : ℤ) (m : ℕ) (p : Placed) (r : Derivation) → numbers_at p y ≡ pos 0 → IsAscending r.terms → factor_of y r.terms ≡ pos 0 → At p r → At (extended y n m p) r
kept y n m p r h a f k =
    let e = room_extended y n m p r h a in
    let g : factor_of y r.terms *ℤ n ≡ pos 0 = ap (λ (z : ℤ). z *ℤ n) f ∙ zero-*ℤ n in
    let t = mul_monotone m (pos 0) (room_at p r) (room_holds p r k) in
    let z = *ℤ-zero (pos m) in
    holds_room (extended y n m p) r (omega (arith, ints))

-- below the least limit from above of a positive factor
under : (y : Var) (u : Limit) (p : Placed) (r : Derivation) → numbers_at p y ≡ pos 0 → IsAscending r.terms → has_positive y r ≡ true → Le u (limit_of y p r) → At (extended y u.slack u.size p) r
under y u p r h a f k =
    let e = room_extended y u.slack u.size p r h a in
    let factor : factor_of y r.terms *ℤ u.slack ≡ u.slack *ℤ pos (size_of y r) =
    ap (λ (z : ℤ). z *ℤ u.slack) (abs_above (factor_of y r.terms) (lt_of (pos 0) (factor_of y r.terms) f)) ∙ *ℤ_comm (pos (size_of y r)) u.slack in
    let room_is = slack_of-is p r in
    let turned : slack_of p r *ℤ pos u.size ≡ pos u.size *ℤ room_at p r = *ℤ_comm (slack_of p r) (pos u.size) ∙ ap (λ (z : ℤ). pos u.size *ℤ z) room_is in
    holds_room (extended y u.slack u.size p) r (omega (arith, ints))

minus_minus : (b : ℕ) (s : ℤ) → neg_ℤ (pos b) *ℤ (pos 0 -ℤ s) ≡ s *ℤ pos b
minus_minus b s =
    let e = neg-mul (pos b) (pos 0 -ℤ s) in
    let f = mul-add (pos b) (pos 0) (neg_ℤ s) in let g = mul-neg (pos b) s in let z = *ℤ-zero (pos b) in
    let c = *ℤ_comm s (pos b) in
    let k : pos 0 -ℤ s ≡ pos 0 +ℤ neg_ℤ s = omega (arith, ints) in
    let l : pos b *ℤ (pos 0 -ℤ s) ≡ pos b *ℤ (pos 0 +ℤ neg_ℤ s) = ap (λ (x : ℤ). pos b *ℤ x) k in
    omega (arith, ints)

-- above the greatest limit from below of a negative factor
over : (y : Var) (l : Limit) (p : Placed) (r : Derivation) → numbers_at p y ≡ pos 0 → IsAscending r.terms → has_negative y r ≡ true → Le l (limit_of y p r) → At (extended y (pos 0 -ℤ l.slack) l.size p) r
over y l p r h a f k =
    let e = room_extended y (pos 0 -ℤ l.slack) l.size p r h a in
    let factor : factor_of y r.terms *ℤ (pos 0 -ℤ l.slack) ≡ l.slack *ℤ pos (size_of y r) =
    ap (λ (z : ℤ). z *ℤ (pos 0 -ℤ l.slack)) (abs_below (factor_of y r.terms) (lt_of (factor_of y r.terms) (pos 0) f)) ∙ minus_minus (size_of y r) l.slack in
    let room_is = slack_of-is p r in
    let turned : slack_of p r *ℤ pos l.size ≡ pos l.size *ℤ room_at p r = *ℤ_comm (slack_of p r) (pos l.size) ∙ ap (λ (z : ℤ). pos l.size *ℤ z) room_is in
    holds_room (extended y (pos 0 -ℤ l.slack) l.size p) r (omega (arith, ints))

-- and below the limits from above, with which it agrees
between : (y : Var) (l : Limit) (p : Placed) (r : Derivation) → numbers_at p y ≡ pos 0 → IsAscending r.terms → has_positive y r ≡ true → Agree (size_of y r) (room_at p r) l.size l.slack → At (extended y (pos 0 -ℤ l.slack) l.size p) r
between y l p r h a f k =
    let e = room_extended y (pos 0 -ℤ l.slack) l.size p r h a in
    let b : ℕ = size_of y r in
    let first : factor_of y r.terms *ℤ (pos 0 -ℤ l.slack) ≡ pos b *ℤ (pos 0 -ℤ l.slack) =
    ap (λ (z : ℤ). z *ℤ (pos 0 -ℤ l.slack)) (abs_above (factor_of y r.terms) (lt_of (pos 0) (factor_of y r.terms) f)) in
    let g : pos 0 -ℤ l.slack ≡ pos 0 +ℤ neg_ℤ l.slack = omega (arith, ints) in
    let second : pos b *ℤ (pos 0 -ℤ l.slack) ≡ pos b *ℤ (pos 0 +ℤ neg_ℤ l.slack) = ap (λ (x : ℤ). pos b *ℤ x) g in
    let third = mul-add (pos b) (pos 0) (neg_ℤ l.slack) in let fourth = mul-neg (pos b) l.slack in let z = *ℤ-zero (pos b) in
    holds_room (extended y (pos 0 -ℤ l.slack) l.size p) r (omega (arith, ints))

-- what is known before a step
pub record Before (y : Var) (rs : List Derivation) (p : Placed) : Type 0 where
  pub none : numbers_at p y ≡ pos 0
  pub ascending : Each (λ r. IsAscending r.terms) rs
  pub free : Each (At p) (without y rs)
  pub agree : EachMatch (AgreeAt y (numbers_at p) p.last p.divisor) (matches y (with_var y rs))

Each-parts : (P : Derivation → Type 0) (y : Var) (rs : List Derivation) → Each P rs → Each P (without y rs) × Each P (with_var y rs)
Each-parts P y rs h = (Each-without P y rs h, Each-with P y rs h)

free_kept : (y : Var) (n : ℤ) (m : ℕ) (rs : List Derivation) (p : Placed) → Before y rs p → Each (At (extended y n m p)) (without y rs)
free_kept y n m rs p b =
    mapped (λ r. (IsAscending r.terms × At p r) × (factor_of y r.terms ≡ pos 0)) (At (extended y n m p)) (without y rs)
    (λ r h. kept y n m p r b.none h.0.0 h.1 h.0.1)
    (both_each (λ r. IsAscending r.terms × At p r) (λ r. factor_of y r.terms ≡ pos 0) (without y rs)
    (both_each (λ r. IsAscending r.terms) (At p) (without y rs) (Each-parts (λ r. IsAscending r.terms) y rs b.ascending).0 b.free) (each_without y rs))

-- what a limit from below has to agree with
abbrev pub AgreesAbove : Var → Placed → List Derivation → Limit → Type 0
AgreesAbove y p all l = (k : ℕ) (q : Derivation) → IsAt all k q → has_positive y q ≡ true → Agree (size_of y q) (room_at p q) l.size l.slack

lower_agrees : (y : Var) (rs : List Derivation) (p : Placed) → Before y rs p → Each (λ r. limits false y r ≡ true → AgreesAbove y p (with_var y rs) (limit_of y p r)) (with_var y rs)
lower_agrees y rs p b =
    let all : List Derivation = with_var y rs in
    by_place (λ r. limits false y r ≡ true → AgreesAbove y p all (limit_of y p r)) all (λ j n at_n negative k q at_q positive.
    subst (λ (x : ℤ). Agree (size_of y q) (room_at p q) (size_of y n) x) (sym (slack_of-is p n))
    (pairs_agree y (numbers_at p) p.last p.divisor all k j q n (λ i r at. at_place (λ s. is_zero (factor_of y s.terms) ≡ false) all i r (each_mentions y rs) at) b.agree at_q positive at_n negative))

with_kept : (y : Var) (rs : List Derivation) (q : Placed) → Each (λ r. IsAscending r.terms) rs →
    ((k : ℕ) (r : Derivation) → IsAt (with_var y rs) k r → IsAscending r.terms → (has_positive y r ≡ true) ⊎ (has_negative y r ≡ true) → At q r) → Each (At q) (with_var y rs)
with_kept y rs q a f =
    let all : List Derivation = with_var y rs in
    by_place (At q) all (λ k r at.
    f k r at (at_place (λ s. IsAscending s.terms) all k r (Each-parts (λ s. IsAscending s.terms) y rs a).1 at)
    (signed (factor_of y r.terms) (at_place (λ s. is_zero (factor_of y s.terms) ≡ false) all k r (each_mentions y rs) at)))

-- a number was chosen: over a positive size, and so that all hold
pub record Chosen (y : Var) (rs : List Derivation) (p q : Placed) : Type 0 where
  pub number : ℤ
  pub size : ℕ
  pub positive : 0 < size
  pub is : q ≡ extended y number size p
  pub holds : Each (At q) rs

from_lower : (y : Var) (rs : List Derivation) (p : Placed) → Before y rs p → SomeLimit (AgreesAbove y p (with_var y rs)) false y p (with_var y rs) → Chosen y rs p (chosen y (least_limit false y p None (with_var y rs)) (with_var y rs) p)
from_lower y rs p b s =
    let all : List Derivation = with_var y rs in
    let l : Limit = s.limit in
    let q : Placed = extended y (pos 0 -ℤ l.slack) l.size p in
    let same : chosen y (least_limit false y p None all) all p ≡ q = ap (λ (o : Option Limit). chosen y o all p) s.found in
    subst (λ (x : Placed). Chosen y rs p x) (sym same)
    (record {
      number = pos 0 -ℤ l.slack;
      size = l.size;
      positive = s.known.sized;
      is = refl;
      holds = rejoined (At q) y rs (free_kept y (pos 0 -ℤ l.slack) l.size rs p b)
          (with_kept y rs q b.ascending (λ k r at a.
          ⊎_elim (λ positive. between y l p r b.none a positive (s.known.told k r at positive))
          (λ negative. over y l p r b.none a negative (at_place (λ t. limits false y t ≡ true → Le l (limit_of y p t)) all k r s.known.least at negative))));
    })

not_both : (b : Bool) → b ≡ true → b ≡ false → ⊥
not_both b e f = let g : true ≡ false = sym e ∙ f in cc

from_upper : (y : Var) (rs : List Derivation) (p : Placed) → Before y rs p → NoLimit false y p (with_var y rs) → NoLimit true y p (with_var y rs) ⊎ SomeLimit (λ l. Unit {0}) true y p (with_var y rs) →
    Chosen y rs p (chosen y (least_limit false y p None (with_var y rs)) (with_var y rs) p)
from_upper y rs p b n (inr s) =
    let all : List Derivation = with_var y rs in
    let u : Limit = s.limit in
    let q : Placed = extended y u.slack u.size p in
    let same : chosen y (least_limit false y p None all) all p ≡ q = ap (λ (o : Option Limit). chosen y o all p) n.found ∙ ap (λ (o : Option Limit). from_above y o p) s.found in
    subst (λ (x : Placed). Chosen y rs p x) (sym same)
    (record {
      number = u.slack;
      size = u.size;
      positive = s.known.sized;
      is = refl;
      holds = rejoined (At q) y rs (free_kept y u.slack u.size rs p b)
          (with_kept y rs q b.ascending (λ k r at a.
          ⊎_elim (λ positive. under y u p r b.none a positive (at_place (λ t. limits true y t ≡ true → Le u (limit_of y p t)) all k r s.known.least at positive))
          (λ negative. absurd (not_both (has_negative y r) negative (at_place (λ t. limits false y t ≡ false) all k r n.none at)))));
    })
from_upper y rs p b n (inl s) =
    let all : List Derivation = with_var y rs in
    let q : Placed = extended y (pos 0) 1 p in
    let same : chosen y (least_limit false y p None all) all p ≡ q = ap (λ (o : Option Limit). chosen y o all p) n.found ∙ ap (λ (o : Option Limit). from_above y o p) s.found in
    subst (λ (x : Placed). Chosen y rs p x) (sym same)
    (record {
      number = pos 0;
      size = 1;
      positive = omega arith;
      is = refl;
      holds = rejoined (At q) y rs (free_kept y (pos 0) 1 rs p b)
          (with_kept y rs q b.ascending (λ k r at a.
          ⊎_elim (λ positive. absurd (not_both (has_positive y r) positive (at_place (λ t. limits true y t ≡ false) all k r s.none at)))
          (λ negative. absurd (not_both (has_negative y r) negative (at_place (λ t. limits false y t ≡ false) all k r n.none at)))));
    })

all_units : (up : Bool) (y : Var) (p : Placed) (rs : List Derivation) → Each (λ r. limits up y r ≡ true → Unit {0}) rs
all_units up y p [] = tt
all_units up y p (r ∷ rs) = ((λ e. tt), all_units up y p rs)

-- the number that is chosen meets all inequalities that the step had
pub chosen_meets : (y : Var) (rs : List Derivation) (p : Placed) → Before y rs p → Chosen y rs p (chosen y (least_limit false y p None (with_var y rs)) (with_var y rs) p)
chosen_meets y rs p b =
    ⊎_elim (λ n. from_upper y rs p b n (least (λ l. Unit {0}) true y p (with_var y rs) (all_units true y p (with_var y rs)))) (from_lower y rs p b)
    (least (AgreesAbove y p (with_var y rs)) false y p (with_var y rs) (lower_agrees y rs p b))
