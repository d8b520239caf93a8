-- Edges whose sources come to another node.
use Rattle.std.proofs.Common.{◌≡◌, refl, sym, ap, ◌∙◌, subst, ℕ, inl, inr, Bool, true, false, List, [], ◌∷◌, ◌++◌, ◌+◌, take, arith}
use Rattle.std.specs.Prelude.{◌≢◌, ◌&&◌, ◌||◌, ◌==◌, cond}
use Rattle.std.specs.List.{list_any}
use Rattle.std.specs.BTreeMap.{is_at}
use Rattle.std.proofs.lemmas.Bool.{cases_eq, cases_Bool, cond-true, cond-false, eq-eqb, ne_eqb}
use Rattle.std.proofs.lemmas.Bool.Decides.{nat_tests}
use Rattle.std.specs.BTreeSet as tree
use Rattle.std.specs.BTreeSet.{BTreeSet}
use Rattle.graph_reduction.specs.Sets.{edge_cmp, in_set, one_moved, row_moved}

pub edge_at : (a b c t n w : ℕ) → is_at (edge_cmp (a, b, c)) (t, n, w) ≡ ((t == a) && (n == b) && (w == c))
edge_at a b c t n w = grind (arith, nat_tests)

or_nothing : (b : Bool) → (b || false) ≡ b
or_nothing true = refl
or_nothing false = refl

or_grouped : (a b c : Bool) → (a || (b || c)) ≡ ((a || b) || c)
or_grouped true b c = refl
or_grouped false b c = refl

pub any_last : (x t : ℕ) (xs : List ℕ) → list_any (λ y. y == x) (xs ++ t ∷ []) ≡ (list_any (λ y. y == x) xs || (t == x))
any_last x t [] = or_nothing (t == x)
any_last x t (y ∷ xs) = ap (λ b. (y == x) || b) (any_last x t xs) ∙ or_grouped (y == x) (list_any (λ z. z == x) xs) (t == x)

-- ---- tests of three numbers

all_three : (p q r : Bool) → p ≡ true → q ≡ true → r ≡ true → (p && q && r) ≡ true
all_three p q r e f g = cc

no_first : (p q r : Bool) → p ≡ false → (p && q && r) ≡ false
no_first p q r e = cc

no_second : (p q r : Bool) → q ≡ false → (p && q && r) ≡ false
no_second true true r e = absurd (cc)
no_second true false r e = refl
no_second false q r e = refl

no_third : (p q r : Bool) → r ≡ false → (p && q && r) ≡ false
no_third true true r e = e
no_third true false r e = refl
no_third false q r e = refl

both_true : (p q : Bool) → p ≡ true → q ≡ true → (p && q) ≡ true
both_true p q e f = cc

first_false : (p q : Bool) → p ≡ false → (p && q) ≡ false
first_false p q e = cc

second_false : (p q : Bool) → q ≡ false → (p && q) ≡ false
second_false true q e = e
second_false false q e = refl

or_true : (p q : Bool) → q ≡ true → (p || q) ≡ true
or_true true q e = refl
or_true false q e = e

module _ (u a b : ℕ) (f : ℕ → ℕ → ℕ → Bool) (apart : a ≢ b) (only : (y n : ℕ) → n ≢ a → f y n u ≡ false) where
  -- a triple that the edge isn't stays
  one_apart : (t : ℕ) (g : ℕ → ℕ → ℕ → Bool) (x n w : ℕ) → ((x == t) && (n == b) && (w == u)) ≡ false → ((x == t) && (n == a) && (w == u))
      ≡ false → one_moved t u a b g x n w ≡ g x n w
  one_apart t g x n w e d =
      let rest = cond ((x == t) && (n == b) && (w == u)) true (cond ((x == t) && (n == a) && (w == u)) false (g x n w)) in
      elim (cases_Bool (g t a u)) as (λ _. one_moved t u a b g x n w ≡ g x n w) [
        | inl h ↦
            cond-true (g t a u) rest (g x n w) h
            ∙ (cond-false ((x == t) && (n == b) && (w == u)) true (cond ((x == t) && (n == a) && (w == u)) false (g x n w)) e
            ∙ cond-false ((x == t) && (n == a) && (w == u)) false (g x n w) d)
        | inr h ↦ cond-false (g t a u) rest (g x n w) h
      ]

  row_in : (xs : List ℕ) (x n w : ℕ) → w ≡ u → list_any (λ y. y == x) xs ≡ true → row_moved xs u a b f x n w ≡ ((n == b) && f x a u)
  row_in xs x n w e h = cond-true ((w == u) && list_any (λ y. y == x) xs) ((n == b) && f x a u) (f x n w)
      (both_true (w == u) (list_any (λ y. y == x) xs) (eq-eqb w u e) h)

  row_out : (xs : List ℕ) (x n w : ℕ) → list_any (λ y. y == x) xs ≡ false → row_moved xs u a b f x n w ≡ f x n w
  row_out xs x n w h = cond-false ((w == u) && list_any (λ y. y == x) xs) ((n == b) && f x a u) (f x n w)
      (second_false (w == u) (list_any (λ y. y == x) xs) h)

  row_other : (xs : List ℕ) (x n w : ℕ) → w ≢ u → row_moved xs u a b f x n w ≡ f x n w
  row_other xs x n w ne = cond-false ((w == u) && list_any (λ y. y == x) xs) ((n == b) && f x a u) (f x n w)
      (first_false (w == u) (list_any (λ y. y == x) xs) (ne_eqb w u ne))

  -- where the edge wasn't moved before
  fresh : (t : ℕ) (xs : List ℕ) (n : ℕ) → list_any (λ y. y == t) xs ≡ false → one_moved t u a b (row_moved xs u a b f) t n u ≡
      ((n == b) && f t a u)
  fresh t xs n none =
      let g = row_moved xs u a b f in
      let rest = cond ((t == t) && (n == b) && (u == u)) true (cond ((t == t) && (n == a) && (u == u)) false (g t n u)) in
      let here : g t a u ≡ f t a u = row_out xs t a u none in
      let there : g t n u ≡ f t n u = row_out xs t n u none in
      elim (cases_Bool (f t a u)) as (λ _. one_moved t u a b g t n u ≡ ((n == b) && f t a u)) [
        | inl h ↦
            cond-true (g t a u) rest (g t n u) (here ∙ h)
            ∙ elim (cases_eq n b) as (λ _. rest ≡ ((n == b) && f t a u)) [
              | inl e ↦
                  cond-true ((t == t) && (n == b) && (u == u)) true (cond ((t == t) && (n == a) && (u == u)) false (g t n u))
                  (all_three (t == t) (n == b) (u == u) (eq-eqb t t refl) (eq-eqb n b e) (eq-eqb u u refl))
                  ∙ sym (both_true (n == b) (f t a u) (eq-eqb n b e) h)
              | inr ne ↦
                  cond-false ((t == t) && (n == b) && (u == u)) true (cond ((t == t) && (n == a) && (u == u)) false (g t n u))
                  (no_second (t == t) (n == b) (u == u) (ne_eqb n b ne))
                  ∙ (elim (cases_eq n a) as (λ _. cond ((t == t) && (n == a) && (u == u)) false (g t n u) ≡ false) [
                    | inl e ↦ cond-true ((t == t) && (n == a) && (u == u)) false (g t n u)
                        (all_three (t == t) (n == a) (u == u) (eq-eqb t t refl) (eq-eqb n a e) (eq-eqb u u refl))
                    | inr d ↦ cond-false ((t == t) && (n == a) && (u == u)) false (g t n u)
                        (no_second (t == t) (n == a) (u == u) (ne_eqb n a d)) ∙ (there ∙ only t n d)
                  ]
                  ∙ sym (first_false (n == b) (f t a u) (ne_eqb n b ne)))
            ]
        | inr h ↦
            cond-false (g t a u) rest (g t n u) (here ∙ h)
            ∙ (there ∙ (elim (cases_eq n a) as (λ _. f t n u ≡ false) [
              | inl e ↦ subst (λ m. f t m u ≡ false) (sym e) h
              | inr d ↦ only t n d
            ] ∙ sym (second_false (n == b) (f t a u) h)))
      ]

  again : (t : ℕ) (xs : List ℕ) (n : ℕ) → list_any (λ y. y == t) xs ≡ true → one_moved t u a b (row_moved xs u a b f) t n u ≡
      ((n == b) && f t a u)
  again t xs n some =
      let g = row_moved xs u a b f in
      let none : g t a u ≡ false = row_in xs t a u refl some ∙ first_false (a == b) (f t a u) (ne_eqb a b apart) in
      cond-false (g t a u) (cond ((t == t) && (n == b) && (u == u)) true (cond ((t == t) && (n == a) && (u == u)) false (g t n u)))
      (g t n u) none
      ∙ row_in xs t n u refl some

  last_in : (t : ℕ) (xs : List ℕ) (n : ℕ) → row_moved (xs ++ t ∷ []) u a b f t n u ≡ ((n == b) && f t a u)
  last_in t xs n = row_in (xs ++ t ∷ []) t n u refl (any_last t t xs ∙ or_true (list_any (λ y. y == t) xs) (t == t) (eq-eqb t t refl))

  -- a row with one target more
  pub row_step : (t : ℕ) (xs : List ℕ) (x n w : ℕ) → one_moved t u a b (row_moved xs u a b f) x n w ≡ row_moved (xs ++ t ∷ []) u a b f x n w
  row_step t xs x n w =
      let g = row_moved xs u a b f in
      elim (cases_eq w u) as (λ _. one_moved t u a b g x n w ≡ row_moved (xs ++ t ∷ []) u a b f x n w) [
        | inr ne ↦
            one_apart t g x n w (no_third (x == t) (n == b) (w == u) (ne_eqb w u ne)) (no_third (x == t) (n == a) (w == u) (ne_eqb w u ne))
            ∙ (row_other xs x n w ne ∙ sym (row_other (xs ++ t ∷ []) x n w ne))
        | inl e ↦
            elim (cases_eq x t) as (λ _. one_moved t u a b g x n w ≡ row_moved (xs ++ t ∷ []) u a b f x n w) [
              | inr d ↦
                  one_apart t g x n w (no_first (x == t) (n == b) (w == u) (ne_eqb x t d))
                  (no_first (x == t) (n == a) (w == u) (ne_eqb x t d))
                  ∙ ap (λ c. cond ((w == u) && c) ((n == b) && f x a u) (f x n w))
                  (sym (any_last x t xs ∙ (ap (λ c. list_any (λ y. y == x) xs || c) (ne_eqb t x (λ s. d (sym s))) ∙ or_nothing
                  (list_any (λ y. y == x) xs))))
              | inl s ↦
                  subst (λ (y : ℕ). one_moved t u a b g y n w ≡ row_moved (xs ++ t ∷ []) u a b f y n w) (sym s)
                  (subst (λ (y : ℕ). one_moved t u a b g t n y ≡ row_moved (xs ++ t ∷ []) u a b f t n y) (sym e)
                  (elim (cases_Bool (list_any (λ y. y == t) xs)) as (λ _. one_moved t u a b g t n u ≡ row_moved
                  (xs ++ t ∷ []) u a b f t n u) [
                    | inl some ↦ again t xs n some ∙ sym (last_in t xs n)
                    | inr none ↦ fresh t xs n none ∙ sym (last_in t xs n)
                  ]))
            ]
      ]

-- what a removal and an insertion leave
pub edge_moved : (s m r : BTreeSet (ℕ × ℕ × ℕ)) (t u a b : ℕ) → in_set s t a u ≡ true
    → ((q : ℕ × ℕ × ℕ) → tree.contains edge_cmp m q ≡ cond (is_at (edge_cmp (t, a, u)) q) false (tree.contains edge_cmp s q))
    → ((q : ℕ × ℕ × ℕ) → tree.contains edge_cmp r q ≡ cond (is_at (edge_cmp (t, b, u)) q) true (tree.contains edge_cmp m q))
    → (x n w : ℕ) → in_set r x n w ≡ one_moved t u a b (in_set s) x n w
edge_moved s m r t u a b held out into x n w =
    into (x, n, w) ∙ (ap (λ c. cond c true (in_set m x n w)) (edge_at t b u x n w)
    ∙ (ap (λ c. cond ((x == t) && (n == b) && (w == u)) true c) (out (x, n, w) ∙ ap (λ c. cond c false (in_set s x n w))
    (edge_at t a u x n w))
    ∙ sym (cond-true (in_set s t a u) (cond ((x == t) && (n == b) && (w == u)) true
    (cond ((x == t) && (n == a) && (w == u)) false (in_set s x n w))) (in_set s x n w) held)))

-- a loop's step over a row
pub next_moved : (s l m : BTreeSet (ℕ × ℕ × ℕ)) (row : List ℕ) (i t u a b : ℕ) → a ≢ b → ((y n : ℕ) → n ≢ a → in_set s y n u ≡ false) → take
    (i + 1) row ≡ take i row ++ t ∷ []
    → ((x n w : ℕ) → in_set l x n w ≡ row_moved (take i row) u a b (in_set s) x n w)
    → ((x n w : ℕ) → in_set m x n w ≡ one_moved t u a b (in_set l) x n w)
    → (x n w : ℕ) → in_set m x n w ≡ row_moved (take (i + 1) row) u a b (in_set s) x n w
next_moved s l m row i t u a b apart only more before one x n w =
    let same : in_set l ≡ row_moved (take i row) u a b (in_set s) = λ j x' n' w'. before x' n' w' j in
    one x n w ∙ (ap (λ (f : ℕ → ℕ → ℕ → Bool). one_moved t u a b f x n w) same
    ∙ (row_step u a b (in_set s) apart only t (take i row) x n w ∙ ap (λ (ys : List ℕ). row_moved ys u a b (in_set s) x n w) (sym more)))

and_turned : (p q : Bool) → (p && (q && true)) ≡ (q && p)
and_turned true true = refl
and_turned true false = refl
and_turned false true = refl
and_turned false false = refl

eq_turned : (n b : ℕ) → (n == b) ≡ (b == n)
eq_turned n b = grind (arith, nat_tests)

-- what the set holds after the edges of u came to the node b, where it held the open edges by the numbers of their sources' nodes
pub exact_moved : (P : ℕ → ℕ → Bool) (row : List ℕ) (u a b : ℕ) (label label' : ℕ → ℕ) (f g : ℕ → ℕ → ℕ → Bool)
    → label u ≡ a → label' u ≡ b → ((w : ℕ) → w ≢ u → label' w ≡ label w)
    → ((t : ℕ) → list_any (λ y. y == t) row ≡ false → P u t ≡ false)
    → ((t n w : ℕ) → f t n w ≡ (P w t && (label w == n)))
    → ((t n w : ℕ) → g t n w ≡ row_moved row u a b f t n w)
    → (t n w : ℕ) → g t n w ≡ (P w t && (label' w == n))
exact_moved P row u a b label label' f g at to others none before now t n w =
    elim (cases_eq w u) as (λ _. g t n w ≡ (P w t && (label' w == n))) [
      | inr ne ↦
          now t n w ∙ (cond-false ((w == u) && list_any (λ y. y == t) row) ((n == b) && f t a u) (f t n w)
          (first_false (w == u) (list_any (λ y. y == t) row) (ne_eqb w u ne))
          ∙ (before t n w ∙ ap (λ m. P w t && (m == n)) (sym (others w ne))))
      | inl e ↦
          subst (λ (y : ℕ). g t n y ≡ (P y t && (label' y == n))) (sym e)
          (now t n u ∙ elim (cases_Bool (list_any (λ y. y == t) row)) as (λ _. row_moved row u a b f t n u ≡ (P u t && (label' u == n))) [
            | inl some ↦
                cond-true ((u == u) && list_any (λ y. y == t) row) ((n == b) && f t a u) (f t n u)
                (both_true (u == u) (list_any (λ y. y == t) row) (eq-eqb u u refl) some)
                ∙ (ap (λ c. (n == b) && c) (before t a u ∙ ap (λ c. P u t && c) (eq-eqb (label u) a at))
                ∙ (and_turned (n == b) (P u t) ∙ ap (λ c. P u t && c) (eq_turned n b ∙ ap (λ m. m == n) (sym to))))
            | inr out ↦
                cond-false ((u == u) && list_any (λ y. y == t) row) ((n == b) && f t a u) (f t n u)
                (second_false (u == u) (list_any (λ y. y == t) row) out)
                ∙ (before t n u ∙ (first_false (P u t) (label u == n) (none t out) ∙ sym
                (first_false (P u t) (label' u == n) (none t out))))
          ])
    ]
