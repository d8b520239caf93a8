-- The loops round a block, and the points in them.
use Rattle.std.proofs.Common.{◌≡◌, ◌≢◌, ℕ, zero, suc, ◌+◌, ◌/◌, ◌<◌, ◌≤◌, ◌⊎◌, inl, inr, Bool, true, false, List, [], ◌∷◌, length, refl}
use Rattle.std.proofs.Common.{sym, ◌∙◌, subst, arith}
use Rattle.std.specs.Prelude.{nat_eq, nat_lt, slice_index_or, None}
use Rattle.std.specs.List.{AllByRecursion}
use Rattle.std.proofs.lemmas.Bool.{cases_Bool, or_left, or_right, eq-eqb, cond-false, false≢true}
use Rattle.std.proofs.lemmas.Bool.Decides.{eqb_tells, nat_tests}
use Rattle.graph_search.specs.NodeLists.{holds}
use Rattle.graph_search.specs.Rows.{row_in}
use Rattle.persistence.specs.Younger.{AtLeast, Code, IsYounger}
use Rattle.persistence.proofs.StrongLemmas.{is_other_sound}
use Rattle.line_uses.specs.PointMaps.{ArePointMaps, PointMaps, block_of, code_of, depth_of, inside, loop_at, within}
use Rattle.line_uses.specs.SearchSteps.{other}
use Rattle.line_uses.specs.Scopes.{AreMany, IsScoped}

-- a place beyond a list
pub beyond : (xs : List ℕ) (i x : ℕ) → length xs ≤ i → slice_index_or xs i x ≡ x
beyond [] zero x le = refl
beyond [] (suc i) x le = refl
beyond (y ∷ ys) zero x le = absurd (omega (arith, le))
beyond (y ∷ ys) (suc i) x le = beyond ys i x (omega (arith, le))

pub beyond_rows : (xs : List (List ℕ)) (i : ℕ) → length xs ≤ i → row_in xs i ≡ []
beyond_rows [] zero le = refl
beyond_rows [] (suc i) le = refl
beyond_rows (y ∷ ys) zero le = absurd (omega (arith, le))
beyond_rows (y ∷ ys) (suc i) le = beyond_rows ys i (omega (arith, le))

pub at_place : (xs : List ℕ) (i x : ℕ) → i < length xs → holds nat_eq (slice_index_or xs i x) xs ≡ true
at_place [] i x lt = absurd (omega (arith, lt))
at_place (y ∷ ys) zero x lt = or_left (nat_eq y y) (holds nat_eq y ys) (eq-eqb y y refl)
at_place (y ∷ ys) (suc i) x lt = or_right (nat_eq (slice_index_or ys i x) y) (holds nat_eq (slice_index_or ys i x) ys)
    (at_place ys i x (omega (arith, lt)))

module _ (m : PointMaps) where
  inside_all : (q : ℕ) → inside m 0 q ≡ nat_lt (block_of m q) (length m.around)
  inside_all q = refl

  pub inside_loop : (d q : ℕ) → d ≢ 0 → inside m d q ≡ holds nat_eq d (row_in m.around (block_of m q))
  inside_loop d q ne =
      elim (eqb_tells d 0) as (λ _. inside m d q ≡ holds nat_eq d (row_in m.around (block_of m q))) [
        | inl t ↦ absurd (ne t.1)
        | inr t ↦ cond-false (nat_eq d 0) (nat_lt (block_of m q) (length m.around)) (holds nat_eq d (row_in m.around (block_of m q))) t.0
      ]

  -- what is in a loop is a point
  pub inside_below : (d q : ℕ) → inside m d q ≡ true → q < length m.home
  inside_below d q h = by_size (cases_Bool (nat_lt q (length m.home)))
    where
      no_home : length m.home ≤ q → block_of m q ≡ length m.around
      no_home le = beyond m.home q (length m.around) le

      never : (e : ℕ) → inside m e q ≡ true → length m.home ≤ q → ⊥
      never zero i le = (let n = no_home le in let j : nat_lt (length m.around) (length m.around) ≡ true = subst
          (λ (x : ℕ). nat_lt x (length m.around) ≡ true) n i in grind (arith, nat_tests))
      never (suc e) i le =
          let n = no_home le in
          let j : holds nat_eq (suc e) (row_in m.around (length m.around)) ≡ true = subst
          (λ (x : ℕ). holds nat_eq (suc e) (row_in m.around x) ≡ true) n (sym (inside_loop (suc e) q (λ z. omega (arith, z))) ∙ i) in
          let k : holds nat_eq (suc e) [] ≡ true = subst (λ (xs : List ℕ). holds nat_eq (suc e) xs ≡ true)
          (beyond_rows m.around (length m.around) (omega arith)) j in
          false≢true k

      by_size : (nat_lt q (length m.home) ≡ true) ⊎ (nat_lt q (length m.home) ≡ false) → q < length m.home
      by_size (inl t) = grind (arith, nat_tests)
      by_size (inr t) = let le : length m.home ≤ q = grind (arith, nat_tests) in absurd (never d h le)

  pub other_below : (d line q : ℕ) → other m d line q ≡ true → q < length m.home
  other_below d line q h = inside_below d q (is_other_sound (code_of m) (inside m d) line q h).0

-- a point is in each loop round its block
pub own_loop : (m : PointMaps) (p d : ℕ) → ArePointMaps m → p < length m.home → d ≤ depth_of m p → within m p d p ≡ true
own_loop m p zero are lt le = (let h = are.blocks p lt in grind (arith, nat_tests))
own_loop m p (suc d) are lt le =
    let x = slice_index_or (row_in m.around (block_of m p)) d 0 in
    let there : holds nat_eq x (row_in m.around (block_of m p)) ≡ true = at_place (row_in m.around (block_of m p)) d 0 (omega (arith, le))
    in
    inside_loop m x p (are.others (block_of m p) x there) ∙ there

-- more points, more younger lines
all_wider : (P Q : ℕ → Type 0) → ((u : ℕ) → P u → Q u) → (us : List ℕ) → AllByRecursion P us → AllByRecursion Q us
all_wider P Q f [] a = tt
all_wider P Q f (u ∷ us) a = (f u a.0, all_wider P Q f us a.1)

pub younger_wider : (c : Code) (sets : ℕ) (small large : ℕ → Bool) → ((q : ℕ) → small q ≡ true → large q ≡ true) → (p m : ℕ)
    → IsYounger c sets small p m → IsYounger c sets large p m
younger_wider c sets small large more p m y =
    let l = y.2.2 in (
      y.0,
      y.1,
      (
        y.2.0,
        y.2.1,
        record {
          from = l.from;
          starts = more y.2.0 l.starts;
          ends = more p l.ends;
          inside = all_wider (λ u. (small u ≡ true) × (c.line u ≢ c.line p)) (λ u. (large u ≡ true) × (c.line u ≢ c.line p))
              (λ u a. (more u a.0, a.1)) y.2.1 l.inside;
          path = l.path;
        },
        y.2.3,
      ),
    )

pub many_shallower : (sets ways : ℕ) (m : PointMaps) (p d e : ℕ) → ArePointMaps m → e ≤ d → d ≤ depth_of m p → AreMany sets ways m p d
    → AreMany sets ways m p e
many_shallower sets ways m p d e are le most a = (
  a.0,
  a.1,
  (λ x h. younger_wider (code_of m) sets (within m p d) (within m p e) (λ q i. are.nested (block_of m p) q d e le most i) p x
      (a.2 x h)),
  a.3,
)

-- none at the greatest depth is none at all
pub none_at_all : (sets ways : ℕ) (m : PointMaps) (p : ℕ) → ArePointMaps m → AreMany sets ways m p (depth_of m p)
    → IsScoped sets ways m p None
none_at_all sets ways m p are a = λ e le. many_shallower sets ways m p (depth_of m p) e are le (omega arith) a

pub many_before : (sets ways : ℕ) (m : PointMaps) (p d : ℕ) → ArePointMaps m → d ≤ depth_of m p → AreMany sets ways m p d → (e : ℕ)
    → e < d + 1 → AreMany sets ways m p e
many_before sets ways m p d are most a e lt = many_shallower sets ways m p d e are (omega (arith, lt)) most a

pub middle_low : (a b : ℕ) → a < b → a ≤ (a + b) / 2
middle_low a b lt = omega (arith, lt)

pub middle_high : (a b : ℕ) → a < b → (a + b) / 2 < b
middle_high a b lt = omega (arith, lt)

-- the answers of a search in the loop of a depth
pub in_loop : (m : PointMaps) (p d n : ℕ) → n ≡ loop_at m (block_of m p) d → ArePointMaps m → p < length m.home → d ≤ depth_of m p
    → inside m n p ≡ true
in_loop m p d n is are lt le = subst (λ (k : ℕ). inside m k p ≡ true) (sym is) (own_loop m p d are lt le)

pub many_in_loop : (sets ways : ℕ) (m : PointMaps) (p d n : ℕ) → n ≡ loop_at m (block_of m p) d
    → AtLeast ways (IsYounger (code_of m) sets (inside m n) p) → AreMany sets ways m p d
many_in_loop sets ways m p d n is a = subst (λ (k : ℕ). AtLeast ways (IsYounger (code_of m) sets (inside m k) p)) is a

pub few_in_loop : (sets ways : ℕ) (m : PointMaps) (p d n : ℕ) → n ≡ loop_at m (block_of m p) d
    → (AtLeast ways (IsYounger (code_of m) sets (inside m n) p) → ⊥) → AreMany sets ways m p d → ⊥
few_in_loop sets ways m p d n is a = subst (λ (k : ℕ). AtLeast ways (IsYounger (code_of m) sets (inside m k) p) → ⊥) is a
