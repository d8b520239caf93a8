-- A step's combinations as they are made one after another.
use Rattle.std.proofs.Common.{◌≡◌, ◌≢◌, refl, sym, ap, ◌∙◌, subst, ℕ, suc, ◌+◌, ◌<◌, ◌≤◌, ◌⊎◌, inl, inr, ⊎_elim, List, [], ◌∷◌, ◌++◌, length, length-append, drop, get_or, drop-cons, Bool, true, false, Option, arith}
use Rattle.std.specs.Prelude.{if◌then◌else◌, ◌&&◌, nat_le}
use Rattle.std.proofs.lemmas.Bool.Decides.{nat_tests}
use Rattle.linear_rows.specs.declared.rows.Var.{Var}
use Rattle.row_elimination.specs.declared.steps.Equality.{Equality}
use Rattle.row_elimination.specs.Derivations.{Derivation, combination, combination_fits}
use Rattle.row_elimination.specs.Steps.{Match, has_negative, is_made, matches_of, matches_fit, combined, with_one, with_each, has_positive, matches_from, matches, with_var, without, candidates, eliminated, step_fits}

-- of all matches the rest is left, and as many rows are counted
pub record Progress (y : Var) (all rest : List Match) (made count : ℕ) (kept start : List Derivation) : Type 0 where
  pub within : made ≤ 4096
  pub numbered : made + length rest ≡ count + length all
  pub fits : matches_fit y rest ≡ matches_fit y all
  pub told : with_each kept (combined y rest) ≡ with_each start (combined y all)

and_false : (a b : Bool) → b ≡ false → (a && b) ≡ false
and_false true b e = e
and_false false b e = refl

pub taken : (y : Var) (all rest : List Match) (m : Match) (made count : ℕ) (kept start kept' : List Derivation) →
    Progress y all (m ∷ rest) made count kept start → made ≢ 4096 → combination_fits y m.positive m.negative ≡ true → kept' ≡ with_one kept (combination y m.positive m.negative) →
    Progress y all rest (made + 1) count kept' start
taken y all rest m made count kept start kept' p n f e = record {
  within = (let h = p.within in omega arith);
  numbered = (let h = p.numbered in omega arith);
  fits = sym (ap (λ (b : Bool). b && matches_fit y rest) f) ∙ p.fits;
  told = ap (λ (ks : List Derivation). with_each ks (combined y rest)) e ∙ p.told;
}

-- all are made
pub finished : (y : Var) (all : List Match) (made count : ℕ) (kept start : List Derivation) → Progress y all [] made count kept start →
    (matches_fit y all ≡ true) × (made ≡ count + length all) × (made ≤ 4096) × (kept ≡ with_each start (combined y all))
finished y all made count kept start p = (sym p.fits, (let h = p.numbered in omega arith), p.within, p.told)

le_true : (a b : ℕ) → a ≤ b → nat_le a b ≡ true
le_true a b h = grind (arith, nat_tests)

-- and stay within the limits
pub all_fit : (y : Var) (all : List Match) (made count : ℕ) (kept start : List Derivation) → Progress y all [] made count kept start →
    (matches_fit y all && nat_le (count + length all) 4096) ≡ true
all_fit y all made count kept start p =
    ap (λ (b : Bool). b && nat_le (count + length all) 4096) (sym p.fits)
    ∙ le_true (count + length all) 4096 (let h = p.numbered in let w = p.within in omega arith)

le_false : (a b : ℕ) → b < a → nat_le a b ≡ false
le_false a b h = grind (arith, nat_tests)

-- a row too many
pub too_many : (y : Var) (all rest : List Match) (m : Match) (made count : ℕ) (kept start : List Derivation) →
    Progress y all (m ∷ rest) made count kept start → made ≡ 4096 → (matches_fit y all && nat_le (count + length all) 4096) ≡ false
too_many y all rest m made count kept start p e =
    and_false (matches_fit y all) (nat_le (count + length all) 4096) (le_false (count + length all) 4096 (let h = p.numbered in omega arith))

-- a number that passes the limit
pub too_large : (y : Var) (all rest : List Match) (m : Match) (made count : ℕ) (kept start : List Derivation) →
    Progress y all (m ∷ rest) made count kept start → combination_fits y m.positive m.negative ≡ false → (matches_fit y all && nat_le (count + length all) 4096) ≡ false
too_large y all rest m made count kept start p e =
    let f : matches_fit y all ≡ false = sym p.fits ∙ ap (λ (b : Bool). b && matches_fit y rest) e in
    ap (λ (b : Bool). b && nat_le (count + length all) 4096) f

choose_true : (b : Bool) (xs ys : List Match) → b ≡ true → (if b then xs else ys) ≡ xs
choose_true b xs ys e = ap (λ (c : Bool). if c then xs else ys) e

choose_false : (b : Bool) (xs ys : List Match) → b ≡ false → (if b then xs else ys) ≡ ys
choose_false b xs ys e = ap (λ (c : Bool). if c then xs else ys) e

-- the next inequality is a match
pub match_taken : (y : Var) (e : Option Equality) (i j k : ℕ) (p r : Derivation) (rs : List Derivation) → k < length rs → r ≡ get_or rs k r →
    (has_negative y r && is_made e i j) ≡ true → matches_of y e i p j (drop k rs) ≡ record { positive = p; negative = r } ∷ matches_of y e i p (j + 1) (drop (k + 1) rs)
match_taken y e i j k p r rs h is t =
    let first : drop k rs ≡ r ∷ drop (suc k) rs = drop-cons rs k r h ∙ ap (λ (x : Derivation). x ∷ drop (suc k) rs) (sym is) in
    let next : suc k ≡ k + 1 = omega arith in
    ap (λ (us : List Derivation). matches_of y e i p j us) first
    ∙ choose_true (has_negative y r && is_made e i j) (record { positive = p; negative = r } ∷ matches_of y e i p (j + 1) (drop (suc k) rs)) (matches_of y e i p (j + 1) (drop (suc k) rs)) t
    ∙ ap (λ (n : ℕ). record { positive = p; negative = r } ∷ matches_of y e i p (j + 1) (drop n rs)) next

-- or it isn't
pub match_left : (y : Var) (e : Option Equality) (i j k : ℕ) (p r : Derivation) (rs : List Derivation) → k < length rs → r ≡ get_or rs k r →
    (has_negative y r && is_made e i j) ≡ false → matches_of y e i p j (drop k rs) ≡ matches_of y e i p (j + 1) (drop (k + 1) rs)
match_left y e i j k p r rs h is t =
    let first : drop k rs ≡ r ∷ drop (suc k) rs = drop-cons rs k r h ∙ ap (λ (x : Derivation). x ∷ drop (suc k) rs) (sym is) in
    let next : suc k ≡ k + 1 = omega arith in
    ap (λ (us : List Derivation). matches_of y e i p j us) first
    ∙ choose_false (has_negative y r && is_made e i j) (record { positive = p; negative = r } ∷ matches_of y e i p (j + 1) (drop (suc k) rs)) (matches_of y e i p (j + 1) (drop (suc k) rs)) t
    ∙ ap (λ (n : ℕ). matches_of y e i p (j + 1) (drop n rs)) next

-- one row of the loop over the rows
pub step_taken : (y : Var) (e : Option Equality) (i j k : ℕ) (p r : Derivation) (rs : List Derivation) (all : List Match) (made made' count : ℕ) (kept kept' start : List Derivation) →
    k < length rs → r ≡ get_or rs k r → (has_negative y r && is_made e i j) ≡ true →
    Progress y all (matches_of y e i p j (drop k rs)) made count kept start → made ≢ 4096 → made' ≡ made + 1 → combination_fits y p r ≡ true → kept' ≡ with_one kept (combination y p r) →
    Progress y all (matches_of y e i p (j + 1) (drop (k + 1) rs)) made' count kept' start
step_taken y e i j k p r rs all made made' count kept kept' start h is t g n m f u =
    subst (λ (x : ℕ). Progress y all (matches_of y e i p (j + 1) (drop (k + 1) rs)) x count kept' start) (sym m)
    (taken y all (matches_of y e i p (j + 1) (drop (k + 1) rs)) (record { positive = p; negative = r }) made count kept start kept'
    (subst (λ (ms : List Match). Progress y all ms made count kept start) (match_taken y e i j k p r rs h is t) g) n f u)

pub step_left : (y : Var) (e : Option Equality) (i j k : ℕ) (p r : Derivation) (rs : List Derivation) (all : List Match) (made made' count : ℕ) (kept kept' start : List Derivation) →
    k < length rs → r ≡ get_or rs k r → (has_negative y r && is_made e i j) ≡ false →
    Progress y all (matches_of y e i p j (drop k rs)) made count kept start → made' ≡ made → kept' ≡ kept →
    Progress y all (matches_of y e i p (j + 1) (drop (k + 1) rs)) made' count kept' start
step_left y e i j k p r rs all made made' count kept kept' start h is t g m u =
    subst (λ (x : ℕ). Progress y all (matches_of y e i p (j + 1) (drop (k + 1) rs)) x count kept' start) (sym m)
    (subst (λ (ks : List Derivation). Progress y all (matches_of y e i p (j + 1) (drop (k + 1) rs)) made count ks start) (sym u)
    (subst (λ (ms : List Match). Progress y all ms made count kept start) (match_left y e i j k p r rs h is t) g))

-- the loop ends at a match that can't be made
pub step_ends : (y : Var) (e : Option Equality) (i j k : ℕ) (p r : Derivation) (rs : List Derivation) (all : List Match) (made count : ℕ) (kept start : List Derivation) →
    k < length rs → r ≡ get_or rs k r → (has_negative y r && is_made e i j) ≡ true →
    Progress y all (matches_of y e i p j (drop k rs)) made count kept start → (made ≡ 4096) ⊎ (combination_fits y p r ≡ false) →
    (matches_fit y all && nat_le (count + length all) 4096) ≡ false
step_ends y e i j k p r rs all made count kept start h is t g why =
    let rest : List Match = matches_of y e i p (j + 1) (drop (k + 1) rs) in
    let m : Match = record { positive = p; negative = r } in
    let now : Progress y all (m ∷ rest) made count kept start = subst (λ (ms : List Match). Progress y all ms made count kept start) (match_taken y e i j k p r rs h is t) g in
    ⊎_elim (too_many y all rest m made count kept start now) (too_large y all rest m made count kept start now) why

with_each-append : (rs xs ys : List Derivation) → with_each rs (xs ++ ys) ≡ with_each (with_each rs xs) ys
with_each-append rs [] ys = refl
with_each-append rs (x ∷ xs) ys = with_each-append (with_one rs x) xs ys

pub with_each-push : (rs xs : List Derivation) (x : Derivation) → with_each rs (xs ++ x ∷ []) ≡ with_one (with_each rs xs) x
with_each-push rs xs x = with_each-append rs xs (x ∷ [])

combined-append : (y : Var) (ms ns : List Match) → combined y (ms ++ ns) ≡ combined y ms ++ combined y ns
combined-append y [] ns = refl
combined-append y (m ∷ ms) ns = ap (λ (rs : List Derivation). combination y m.positive m.negative ∷ rs) (combined-append y ms ns)

and_assoc : (a b c : Bool) → (a && (b && c)) ≡ ((a && b) && c)
and_assoc true b c = refl
and_assoc false b c = refl

fit-append : (y : Var) (ms ns : List Match) → matches_fit y (ms ++ ns) ≡ (matches_fit y ms && matches_fit y ns)
fit-append y [] ns = refl
fit-append y (m ∷ ms) ns =
    ap (λ (b : Bool). combination_fits y m.positive m.negative && b) (fit-append y ms ns) ∙ and_assoc (combination_fits y m.positive m.negative) (matches_fit y ms) (matches_fit y ns)

-- some matches in front are made
pub several_taken : (y : Var) (all ms rest : List Match) (made made' count : ℕ) (kept kept' start : List Derivation) →
    Progress y all (ms ++ rest) made count kept start → matches_fit y ms ≡ true → made' ≡ made + length ms → made' ≤ 4096 → kept' ≡ with_each kept (combined y ms) →
    Progress y all rest made' count kept' start
several_taken y all ms rest made made' count kept kept' start p f m w k = record {
  within = w;
  numbered = (let h = p.numbered in let g = length-append {A = Match} ms rest in omega arith);
  fits = sym (fit-append y ms rest ∙ ap (λ (b : Bool). b && matches_fit y rest) f) ∙ p.fits;
  told =
      ap (λ (ks : List Derivation). with_each ks (combined y rest)) k
      ∙ sym (with_each-append kept (combined y ms) (combined y rest))
      ∙ ap (with_each kept) (sym (combined-append y ms rest)) ∙ p.told;
}

both_ways : (a b : Bool) → (a && b) ≡ false → (a ≡ false) ⊎ (b ≡ false)
both_ways true b e = inr e
both_ways false b e = inl refl

le_is_false : (a b : ℕ) → nat_le a b ≡ false → b < a
le_is_false a b h = grind (arith, nat_tests)

-- or can't be made
pub several_end : (y : Var) (all ms rest : List Match) (made count : ℕ) (kept start : List Derivation) →
    Progress y all (ms ++ rest) made count kept start → (matches_fit y ms && nat_le (made + length ms) 4096) ≡ false →
    (matches_fit y all && nat_le (count + length all) 4096) ≡ false
several_end y all ms rest made count kept start p e =
    ⊎_elim
    (λ f. let g : matches_fit y all ≡ false = sym p.fits ∙ fit-append y ms rest ∙ ap (λ (b : Bool). b && matches_fit y rest) f in
    ap (λ (b : Bool). b && nat_le (count + length all) 4096) g)
    (λ f. let h = p.numbered in let g = length-append {A = Match} ms rest in let k = le_is_false (made + length ms) 4096 f in
    and_false (matches_fit y all) (nat_le (count + length all) 4096) (le_false (count + length all) 4096 (omega arith)))
    (both_ways (matches_fit y ms) (nat_le (made + length ms) 4096) e)

-- the matches of one row come before those of the others
pub matches_next : (y : Var) (e : Option Equality) (i k : ℕ) (p : Derivation) (all rs : List Derivation) → k < length rs → p ≡ get_or rs k p → has_positive y p ≡ true →
    matches_from y e all i (drop k rs) ≡ matches_of y e i p 0 all ++ matches_from y e all (i + 1) (drop (k + 1) rs)
matches_next y e i k p all rs h is t =
    let first : drop k rs ≡ p ∷ drop (suc k) rs = drop-cons rs k p h ∙ ap (λ (x : Derivation). x ∷ drop (suc k) rs) (sym is) in
    let next : suc k ≡ k + 1 = omega arith in
    ap (λ (us : List Derivation). matches_from y e all i us) first
    ∙ ap (λ (ms : List Match). ms ++ matches_from y e all (i + 1) (drop (suc k) rs)) (choose_true (has_positive y p) (matches_of y e i p 0 all) [] t)
    ∙ ap (λ (n : ℕ). matches_of y e i p 0 all ++ matches_from y e all (i + 1) (drop n rs)) next

pub matches_passed : (y : Var) (e : Option Equality) (i k : ℕ) (p : Derivation) (all rs : List Derivation) → k < length rs → p ≡ get_or rs k p → has_positive y p ≡ false →
    matches_from y e all i (drop k rs) ≡ matches_from y e all (i + 1) (drop (k + 1) rs)
matches_passed y e i k p all rs h is t =
    let first : drop k rs ≡ p ∷ drop (suc k) rs = drop-cons rs k p h ∙ ap (λ (x : Derivation). x ∷ drop (suc k) rs) (sym is) in
    let next : suc k ≡ k + 1 = omega arith in
    ap (λ (us : List Derivation). matches_from y e all i us) first
    ∙ ap (λ (ms : List Match). ms ++ matches_from y e all (i + 1) (drop (suc k) rs)) (choose_false (has_positive y p) (matches_of y e i p 0 all) [] t)
    ∙ ap (λ (n : ℕ). matches_from y e all (i + 1) (drop n rs)) next

-- a whole step
pub step_made : (y : Var) (rs free kept kept' : List Derivation) (made : ℕ) → free ≡ without y rs → kept ≡ with_each [] free →
    kept' ≡ with_each kept (combined y (matches y (with_var y rs))) → kept' ≡ eliminated y rs
step_made y rs free kept kept' made e k m =
    m ∙ ap (λ (ks : List Derivation). with_each ks (combined y (matches y (with_var y rs)))) (k ∙ ap (with_each []) e)
    ∙ sym (with_each-append [] (without y rs) (combined y (matches y (with_var y rs))))

length-combined : (y : Var) (ms : List Match) → length (combined y ms) ≡ length ms
length-combined y [] = refl
length-combined y (m ∷ ms) = ap suc (length-combined y ms)

length-candidates : (y : Var) (rs : List Derivation) → length (candidates y rs) ≡ length (without y rs) + length (matches y (with_var y rs))
length-candidates y rs =
    length-append {A = Derivation} (without y rs) (combined y (matches y (with_var y rs)))
    ∙ ap (λ (n : ℕ). length (without y rs) + n) (length-combined y (matches y (with_var y rs)))

pub step_settled : (y : Var) (rs : List Derivation) (n : ℕ) (b : Bool) → n ≡ length (without y rs) →
    (matches_fit y (matches y (with_var y rs)) && nat_le (n + length (matches y (with_var y rs))) 4096) ≡ b → step_fits y rs ≡ b
step_settled y rs n b e h =
    ap (λ (k : ℕ). matches_fit y (matches y (with_var y rs)) && nat_le k 4096)
    (length-candidates y rs ∙ ap (λ (k : ℕ). k + length (matches y (with_var y rs))) (sym e)) ∙ h

pub step_too_long : (y : Var) (rs : List Derivation) (n : ℕ) → n ≡ length (without y rs) → 4096 < n → step_fits y rs ≡ false
step_too_long y rs n e h =
    and_false (matches_fit y (matches y (with_var y rs))) (nat_le (length (candidates y rs)) 4096)
    (le_false (length (candidates y rs)) 4096 (let k = length-candidates y rs in omega arith))

pub pushed_each : (rs xs kept : List Derivation) (x : Derivation) → kept ≡ with_each rs xs → with_one kept x ≡ with_each rs (xs ++ x ∷ [])
pushed_each rs xs kept x e = ap (λ (ks : List Derivation). with_one ks x) e ∙ sym (with_each-push rs xs x)

-- a row with a positive factor, in the loop over all rows
pub row_taken : (y : Var) (e : Option Equality) (i k : ℕ) (p : Derivation) (rs : List Derivation) (all : List Match) (made made' count : ℕ) (kept kept' start : List Derivation) →
    k < length rs → p ≡ get_or rs k p → has_positive y p ≡ true →
    Progress y all (matches_from y e rs i (drop k rs)) made count kept start →
    matches_fit y (matches_of y e i p 0 rs) ≡ true → (made' ≡ made + length (matches_of y e i p 0 rs)) → (made' ≤ 4096) → (kept' ≡ with_each kept (combined y (matches_of y e i p 0 rs))) →
    Progress y all (matches_from y e rs (i + 1) (drop (k + 1) rs)) made' count kept' start
row_taken y e i k p rs all made made' count kept kept' start h is t g f m w u =
    several_taken y all (matches_of y e i p 0 rs) (matches_from y e rs (i + 1) (drop (k + 1) rs)) made made' count kept kept' start
    (subst (λ (ms : List Match). Progress y all ms made count kept start) (matches_next y e i k p rs rs h is t) g) f m w u

pub row_ends : (y : Var) (e : Option Equality) (i k : ℕ) (p : Derivation) (rs : List Derivation) (all : List Match) (made count : ℕ) (kept start : List Derivation) →
    k < length rs → p ≡ get_or rs k p → has_positive y p ≡ true →
    Progress y all (matches_from y e rs i (drop k rs)) made count kept start →
    (matches_fit y (matches_of y e i p 0 rs) && nat_le (made + length (matches_of y e i p 0 rs)) 4096) ≡ false →
    (matches_fit y all && nat_le (count + length all) 4096) ≡ false
row_ends y e i k p rs all made count kept start h is t g f =
    several_end y all (matches_of y e i p 0 rs) (matches_from y e rs (i + 1) (drop (k + 1) rs)) made count kept start
    (subst (λ (ms : List Match). Progress y all ms made count kept start) (matches_next y e i k p rs rs h is t) g) f

pub row_passed : (y : Var) (e : Option Equality) (i k : ℕ) (p : Derivation) (rs : List Derivation) (all : List Match) (made made' count : ℕ) (kept kept' start : List Derivation) →
    k < length rs → p ≡ get_or rs k p → has_positive y p ≡ false →
    Progress y all (matches_from y e rs i (drop k rs)) made count kept start → made' ≡ made → kept' ≡ kept →
    Progress y all (matches_from y e rs (i + 1) (drop (k + 1) rs)) made' count kept' start
row_passed y e i k p rs all made made' count kept kept' start h is t g m u =
    subst (λ (x : ℕ). Progress y all (matches_from y e rs (i + 1) (drop (k + 1) rs)) x count kept' start) (sym m)
    (subst (λ (ks : List Derivation). Progress y all (matches_from y e rs (i + 1) (drop (k + 1) rs)) made count ks start) (sym u)
    (subst (λ (ms : List Match). Progress y all ms made count kept start) (matches_passed y e i k p rs rs h is t) g))
