-- Which heads a use of a rule fits anew.
use Rattle.std.proofs.Common.{◌≡◌, refl, sym, ap, ◌∙◌, subst, ℕ, zero, suc, ◌⊎◌, inl, inr, Bool, true, false}
use Rattle.std.specs.Prelude.{◌≢◌, ◌&&◌, ◌||◌, not, ◌==◌, if◌then◌else◌, Some, None, is_some}
use Rattle.std.proofs.lemmas.Bool.{cases_eq, cases_Bool, eq-eqb, ne_eqb, cond-true, cond-false}
use Rattle.graph_search.specs.Flows.{Flow, edge}
use Rattle.graph_reduction.specs.Reduction.{State, or_else, first_below, is_open, fits_one, close, Giver, Nobody, Only, Several, with_giver}
use Rattle.graph_reduction.specs.Reduction.{giver_below, other_than, fits_two, put_into}

pub first_below_same : (P Q : ℕ → Bool) (n : ℕ) → ((u : ℕ) → P u ≡ Q u) → first_below P n ≡ first_below Q n
first_below_same P Q zero h = refl
first_below_same P Q (suc n) h =
    ap (λ o. or_else o (if P n then Some n else None)) (first_below_same P Q n h)
    ∙ ap (λ b. or_else (first_below Q n) (if b then Some n else None)) (h n)

pub giver_same : (head : ℕ → ℕ) (P Q : ℕ → Bool) (n : ℕ) → ((u : ℕ) → P u ≡ Q u) → giver_below head P n ≡ giver_below head Q n
giver_same head P Q zero h = refl
giver_same head P Q (suc n) h =
    ap (λ o. if P n then with_giver (head n) o else o) (giver_same head P Q n h)
    ∙ ap (λ b. if b then with_giver (head n) (giver_below head Q n) else giver_below head Q n) (h n)

-- ---- after an edge from a node to itself closes

or_none : (b c : Bool) → c ≡ false → (b || c) ≡ b
or_none true c e = refl
or_none false c e = e

and_none : (b c d : Bool) → b ≡ false → (b && c && d) ≡ false
and_none true c d e = absurd (cc)
and_none false c d e = refl

pub closed_elsewhere : (flow : Flow) (s : State) (h u x : ℕ) → x ≢ h → (close flow h s).closed u x ≡ s.closed u x
closed_elsewhere flow s h u x ne = or_none (s.closed u x) ((x == h) && (s.head u == h) && edge flow u x)
    (and_none (x == h) (s.head u == h) (edge flow u x) (ne_eqb x h ne))

pub close_leaves_one : (flow : Flow) (s : State) (h x : ℕ) → x ≢ h → fits_one flow (close flow h s) x ≡ fits_one flow s x
close_leaves_one flow s h x ne =
    ap (λ o. (s.head x == x) && is_some o)
    (first_below_same (λ u. (s.head u == x) && is_open flow (close flow h s) u x) (λ u. (s.head u == x) && is_open flow s u x) flow.count
    (λ u. ap (λ b. (s.head u == x) && (edge flow u x && not b)) (closed_elsewhere flow s h u x ne)))

pub close_leaves_two : (flow : Flow) (s : State) (h x : ℕ) → x ≢ h → fits_two flow (close flow h s) x ≡ fits_two flow s x
close_leaves_two flow s h x ne =
    ap (λ o. (s.head x == x) && not (x == s.head flow.entry) && is_some (other_than x o))
    (giver_same s.head (λ u. is_open flow (close flow h s) u x) (λ u. is_open flow s u x) flow.count
    (λ u. ap (λ b. edge flow u x && not b) (closed_elsewhere flow s h u x ne)))

-- ---- after a node is put into another

abbrev renamed : (ℕ → ℕ) → Giver → Giver
renamed r Nobody = Nobody
renamed r (Only g) = Only (r g)
renamed r Several = Several

abbrev IfOnly : (ℕ → Type 0) → Giver → Type 0
IfOnly D Nobody = Unit {0}
IfOnly D (Only g) = D g
IfOnly D Several = Unit {0}

module _ (r : ℕ → ℕ) (D : ℕ → Type 0) (one : (y z : ℕ) → D y → D z → (r y == r z) ≡ (y == z)) where
  with_renamed : (f : ℕ) (o : Giver) → D f → IfOnly D o → (with_giver (r f) (renamed r o) ≡ renamed r (with_giver f o)) × IfOnly D
      (with_giver f o)
  with_renamed f Nobody d h = (refl, d)
  with_renamed f (Only e) d h =
      elim (cases_Bool (e == f)) as (λ _. (with_giver (r f) (Only (r e)) ≡ renamed r (with_giver f (Only e))) × IfOnly D
      (with_giver f (Only e))) [
        | inl t ↦
            let is = cond-true (e == f) (Only e) Several t in
            (cond-true (r e == r f) (Only (r e)) Several (one e f h d ∙ t) ∙ ap (renamed r) (sym is), subst (IfOnly D) (sym is) h)
        | inr n ↦
            let is = cond-false (e == f) (Only e) Several n in
            (cond-false (r e == r f) (Only (r e)) Several (one e f h d ∙ n) ∙ ap (renamed r) (sym is), subst (IfOnly D) (sym is) tt)
      ]
  with_renamed f Several d h = (refl, tt)

  giver_renamed : (head : ℕ → ℕ) (P : ℕ → Bool) (n : ℕ) → ((u : ℕ) → P u ≡ true → D (head u))
      → (giver_below (λ u. r (head u)) P n ≡ renamed r (giver_below head P n)) × IfOnly D (giver_below head P n)
  giver_renamed head P zero h = (refl, tt)
  giver_renamed head P (suc n) h =
      let below = giver_renamed head P n h in
      let o = giver_below head P n in
      let o' = giver_below (λ u. r (head u)) P n in
      elim (cases_Bool (P n)) as (λ _. (giver_below (λ u. r (head u)) P (suc n) ≡ renamed r (giver_below head P (suc n))) × IfOnly D
      (giver_below head P (suc n))) [
        | inl t ↦
            let is = cond-true (P n) (with_giver (head n) o) o t in
            let w = with_renamed (head n) o (h n t) below.1 in (
              cond-true (P n) (with_giver (r (head n)) o') o' t ∙ (ap (with_giver (r (head n))) below.0 ∙
                  (w.0 ∙ ap (renamed r) (sym is))),
              subst (IfOnly D) (sym is) w.1,
            )
        | inr f ↦
            let is = cond-false (P n) (with_giver (head n) o) o f in
            (cond-false (P n) (with_giver (r (head n)) o') o' f ∙ (below.0 ∙ ap (renamed r) (sym is)), subst (IfOnly D) (sym is) below.1)
      ]

abbrev pub moved : ℕ → ℕ → ℕ → ℕ
moved v g y = if y == v then g else y

pub moved_there : (v g y : ℕ) → y ≡ v → moved v g y ≡ g
moved_there v g y e = cond-true (y == v) g y (eq-eqb y v e)

pub not_moved : (v g y : ℕ) → y ≢ v → moved v g y ≡ y
not_moved v g y ne = cond-false (y == v) g y (ne_eqb y v ne)

-- another number is as much a node's after it as before
same_number : (v g x y : ℕ) → x ≢ v → x ≢ g → (moved v g y == x) ≡ (y == x)
same_number v g x y nv ng =
    elim (cases_eq y v) as (λ _. (moved v g y == x) ≡ (y == x)) [
      | inl e ↦
          ap (λ z. z == x) (moved_there v g y e) ∙ (ne_eqb g x (λ d. ng (sym d)) ∙ sym (ne_eqb y x (λ d. nv (sym d ∙ e))))
      | inr ne ↦ ap (λ z. z == x) (not_moved v g y ne)
    ]

one_not_v : (v g y z : ℕ) → y ≢ v → z ≢ v → (moved v g y == moved v g z) ≡ (y == z)
one_not_v v g y z a b = ap (λ w. w == moved v g z) (not_moved v g y a) ∙ ap (λ w. y == w) (not_moved v g z b)

one_not_g : (v g y z : ℕ) → y ≢ g → z ≢ g → (moved v g y == moved v g z) ≡ (y == z)
one_not_g v g y z a b =
    elim (cases_eq y v) as (λ _. (moved v g y == moved v g z) ≡ (y == z)) [
      | inl e ↦
          elim (cases_eq z v) as (λ _. (moved v g y == moved v g z) ≡ (y == z)) [
            | inl f ↦ eq-eqb (moved v g y) (moved v g z) (moved_there v g y e ∙ sym (moved_there v g z f)) ∙ sym (eq-eqb y z (e ∙ sym f))
            | inr f ↦
                ap (λ w. w == moved v g z) (moved_there v g y e) ∙ (ap (λ w. g == w) (not_moved v g z f)
                ∙ (ne_eqb g z (λ d. b (sym d)) ∙ sym (ne_eqb y z (λ d. f (sym d ∙ e)))))
          ]
      | inr e ↦
          elim (cases_eq z v) as (λ _. (moved v g y == moved v g z) ≡ (y == z)) [
            | inl f ↦
                ap (λ w. w == moved v g z) (not_moved v g y e) ∙ (ap (λ w. y == w) (moved_there v g z f)
                ∙ (ne_eqb y g a ∙ sym (ne_eqb y z (λ d. e (d ∙ f)))))
            | inr f ↦ one_not_v v g y z e f
          ]
    ]

some_either : (b : Bool) (y z : ℕ) → is_some (if b then None else Some y) ≡ is_some (if b then None else Some z)
some_either true y z = refl
some_either false y z = refl

same_giver : (v g x : ℕ) (o : Giver) → x ≢ v → x ≢ g → is_some (other_than x (renamed (moved v g) o)) ≡ is_some (other_than x o)
same_giver v g x Nobody nv ng = refl
same_giver v g x (Only f) nv ng =
    ap (λ b. is_some (if b then None else Some (moved v g f))) (same_number v g x f nv ng) ∙ some_either (f == x) (moved v g f) f
same_giver v g x Several nv ng = refl

-- a head that stands apart, and into whose node not both lead, fits as before
pub put_leaves_two : (flow : Flow) (s : State) (v g x : ℕ) → x ≢ v → x ≢ g → v ≢ s.head flow.entry
    → ((u : ℕ) → is_open flow s u x ≡ true → s.head u ≢ v) ⊎ ((u : ℕ) → is_open flow s u x ≡ true → s.head u ≢ g)
    → fits_two flow (put_into v g s) x ≡ fits_two flow s x
put_leaves_two flow s v g x nv ng entry apart =
    let P = λ (u : ℕ). is_open flow s u x in
    let o = giver_below s.head P flow.count in
    let renames : giver_below (λ u. moved v g (s.head u)) P flow.count ≡ renamed (moved v g) o =
    elim apart as (λ _. giver_below (λ u. moved v g (s.head u)) P flow.count ≡ renamed (moved v g) o) [
      | inl a ↦ (giver_renamed (moved v g) (λ y. y ≢ v) (one_not_v v g) s.head P flow.count a).0
      | inr b ↦ (giver_renamed (moved v g) (λ y. y ≢ g) (one_not_g v g) s.head P flow.count b).0
    ] in
    ap (λ b. b && not (x == moved v g (s.head flow.entry)) && is_some (other_than x (giver_below (λ u. moved v g (s.head u)) P flow.count)))
    (same_number v g x (s.head x) nv ng)
    ∙ (ap (λ y. (s.head x == x) && not (x == y) && is_some (other_than x (giver_below (λ u. moved v g (s.head u)) P flow.count)))
    (not_moved v g (s.head flow.entry) (λ e. entry (sym e)))
    ∙ (ap (λ p. (s.head x == x) && not (x == s.head flow.entry) && is_some (other_than x p)) renames
    ∙ ap (λ b. (s.head x == x) && not (x == s.head flow.entry) && b) (same_giver v g x o nv ng)))

-- a head that stands apart has an edge to itself as before
pub put_leaves_one : (flow : Flow) (s : State) (v g x : ℕ) → x ≢ v → x ≢ g → fits_one flow (put_into v g s) x ≡ fits_one flow s x
put_leaves_one flow s v g x nv ng =
    ap (λ b. b && is_some (first_below (λ u. (moved v g (s.head u) == x) && is_open flow s u x) flow.count))
    (same_number v g x (s.head x) nv ng)
    ∙ ap (λ o. (s.head x == x) && is_some o)
    (first_below_same (λ u. (moved v g (s.head u) == x) && is_open flow s u x) (λ u. (s.head u == x) && is_open flow s u x) flow.count
    (λ u. ap (λ b. b && is_open flow s u x) (same_number v g x (s.head u) nv ng)))

-- the head that was put in fits neither rule
pub put_takes : (flow : Flow) (s : State) (v g : ℕ) → g ≢ v → ((y : ℕ) → moved v g y ≢ v)
put_takes flow s v g ne y e =
    elim (cases_eq y v) as (λ _. ⊥) [
      | inl is ↦ ne (sym (moved_there v g y is) ∙ e)
      | inr other ↦ other (sym (not_moved v g y other) ∙ e)
    ]
