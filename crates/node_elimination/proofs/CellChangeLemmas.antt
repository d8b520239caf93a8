-- An edge of a table that is changed.
use Rattle.std.proofs.Common.{◌≡◌, ℕ, ◌+◌, Bool, true, false, if◌then◌else◌, nat_eq, List, [], ◌∷◌, refl, sym, ap, subst, ◌∙◌, arith}
use Rattle.std.specs.Prelude.{◌&&◌, cond, Option, is_some}
use Rattle.std.specs.List.{AllByRecursion}
use Rattle.std.specs.BTreeMap as tree
use Rattle.std.specs.BTreeMap.{BTreeMap, is_at}
use Rattle.std.specs.BTreeSet as keys
use Rattle.std.specs.BTreeSet.{BTreeSet}
use Rattle.std.proofs.lemmas.Bool.Decides.{nat_tests}
use Rattle.graph_reduction.specs.Sets.{edge_cmp, in_set}
use Rattle.tree_law.specs.NodeOrders.{sum_over, over_pairs, without}
use Rattle.elimination_plans.specs.Plans.{pair_cmp}
use Rattle.elimination_plans.specs.Weights.{Only}
use Rattle.elimination_plans.proofs.PlanStepLemmas.{ap2}
use Rattle.elimination_plans.proofs.WeightLemmas.{sum_same, sum_out, others, every}
use Rattle.node_elimination.specs.declared.cells.Cell.{Cell}
use Rattle.node_elimination.specs.declared.tally.Sums.{Sums}
use Rattle.node_elimination.specs.declared.table.Table.{Table}
use Rattle.node_elimination.specs.Cells.{one, leaves_in, size_in, put}
use Rattle.node_elimination.specs.Tables.{sums_at, Keeps, ShiftedIn, ShiftedOut, link_put}

pub pair_at : (a b x y : ℕ) → is_at (pair_cmp (a, b)) (x, y) ≡ (nat_eq x a && nat_eq y b)
pair_at a b x y = grind (arith, nat_tests)

triple_at : (a b c x y z : ℕ) → is_at (edge_cmp (a, b, c)) (x, y, z) ≡ (nat_eq x a && nat_eq y b && nat_eq z c)
triple_at a b c x y z = grind (arith, nat_tests)

pub self_eq : (n : ℕ) → nat_eq n n ≡ true
self_eq n = grind (arith, nat_tests)

pub same_number : (x y : ℕ) → nat_eq x y ≡ true → x ≡ y
same_number x y e = grind (arith, nat_tests)

pub linked : (p q : ℕ) (on b : Bool) → on ≡ b → (old mid new : BTreeSet (ℕ × ℕ × ℕ))
    → ((k : ℕ × ℕ × ℕ) → keys.contains edge_cmp mid k ≡ cond (is_at (edge_cmp (p, 1, q)) k) b (keys.contains edge_cmp old k))
    → ((k : ℕ × ℕ × ℕ) → keys.contains edge_cmp new k ≡ cond (is_at (edge_cmp (q, 0, p)) k) b (keys.contains edge_cmp mid k))
    → (v s u : ℕ) → in_set new v s u ≡ link_put p q on (in_set old) v s u
linked p q on b e old mid new first second v s u =
    second (v, s, u)
    ∙ ap2 (λ (c o : Bool). cond c b o) (triple_at q 0 p v s u) (first (v, s, u)
    ∙ ap (λ (c : Bool). cond c b (in_set old v s u)) (triple_at p 1 q v s u))
    ∙ ap (λ (c : Bool). link_put p q c (in_set old) v s u) (sym e)

pub cell_put : (p q : ℕ) (after value : Option Cell) → after ≡ value → (old new : BTreeMap (ℕ × ℕ) Cell)
    → ((k : ℕ × ℕ) → tree.get pair_cmp new k ≡ cond (is_at (pair_cmp (p, q)) k) value (tree.get pair_cmp old k))
    → (x y : ℕ) → tree.get pair_cmp new (x, y) ≡ put p q after (λ a b. tree.get pair_cmp old (a, b)) x y
cell_put p q after value e old new into x y =
    into (x, y)
    ∙ ap2 (λ (c : Bool) (o : Option Cell). cond c o (tree.get pair_cmp old (x, y))) (pair_at p q x y) (sym e)

-- ---- sums

all_same : (f g : ℕ → ℕ) (p : ℕ) (us : List ℕ) → ((x : ℕ) → nat_eq x p ≡ false → g x ≡ f x) → AllByRecursion (λ w. nat_eq w p ≡ false) us
    → AllByRecursion (λ w. g w ≡ f w) us
all_same f g p [] h all = tt
all_same f g p (u ∷ us) h all = (h u all.0, all_same f g p us h all.1)

pub sum_moved : (f g : ℕ → ℕ) (p : ℕ) (us : List ℕ) → Only p us → ((x : ℕ) → nat_eq x p ≡ false → g x ≡ f x)
    → sum_over g us + f p ≡ sum_over f us + g p
sum_moved f g p us o h =
    let a : sum_over f us ≡ f p + sum_over f (without p us) = sum_out f p us o in
    let b : sum_over g us ≡ g p + sum_over g (without p us) = sum_out g p us o in
    let c : sum_over g (without p us) ≡ sum_over f (without p us) = sum_same g f (without p us)
    (all_same f g p (without p us) h (others p us)) in
    omega (arith, a, b, c)

module _ (p q : ℕ) (before after : Option Cell) (E : ℕ → ℕ → Option Cell) (is : E p q ≡ before) where
  at_put : put p q after E p q ≡ after
  at_put = ap2 (λ (a b : Bool). if a && b then after else E p q) (self_eq p) (self_eq q)

  other_row : (x y : ℕ) → nat_eq x p ≡ false → put p q after E x y ≡ E x y
  other_row x y e = ap (λ (a : Bool). if a && nat_eq y q then after else E x y) e

  other_column : (x y : ℕ) → nat_eq y q ≡ false → put p q after E x y ≡ E x y
  other_column x y e = ap (λ (a : Bool). if nat_eq x p && a then after else E x y) e ∙ none (nat_eq x p)
    where
      none : (b : Bool) → (if b && false then after else E x y) ≡ E x y
      none true = refl
      none false = refl

  -- the sum of a column
  pub column : (f : Option Cell → ℕ) (all : List ℕ) → Only p all → (u old new : ℕ) → old ≡ sum_over (λ y. f (E y u)) all
      → (nat_eq u q ≡ true → new + f before ≡ old + f after) → (nat_eq u q ≡ false → new ≡ old)
      → new ≡ sum_over (λ y. f (put p q after E y u)) all
  column f all o u old new h hit off = by_test (nat_eq u q) refl
    where
      by_test : (b : Bool) → nat_eq u q ≡ b → new ≡ sum_over (λ y. f (put p q after E y u)) all
      by_test false e = off e ∙ h ∙ sum_same (λ y. f (E y u)) (λ y. f (put p q after E y u)) all
          (every (λ y. f (E y u) ≡ f (put p q after E y u)) all (λ y. ap f (sym (other_column y u e))))
      by_test true e =
          let same : u ≡ q = same_number u q e in
          let m : sum_over (λ y. f (put p q after E y u)) all + f (E p u) ≡ sum_over (λ y. f (E y u)) all + f (put p q after E p u)
          = sum_moved (λ y. f (E y u)) (λ y. f (put p q after E y u)) p all o (λ x d. ap f (other_row x u d)) in
          let a : f (E p u) ≡ f before = ap f (ap (E p) same ∙ is) in
          let b : f (put p q after E p u) ≡ f after = ap f (ap (put p q after E p) same ∙ at_put) in
          let y = hit e in
          omega (arith, m, a, b, y, h)

  pub row : (f : Option Cell → ℕ) (all : List ℕ) → Only q all → (u old new : ℕ) → old ≡ sum_over (λ y. f (E u y)) all
      → (nat_eq u p ≡ true → new + f before ≡ old + f after) → (nat_eq u p ≡ false → new ≡ old)
      → new ≡ sum_over (λ y. f (put p q after E u y)) all
  row f all o u old new h hit off = by_test (nat_eq u p) refl
    where
      by_test : (b : Bool) → nat_eq u p ≡ b → new ≡ sum_over (λ y. f (put p q after E u y)) all
      by_test false e = off e ∙ h ∙ sum_same (λ y. f (E u y)) (λ y. f (put p q after E u y)) all
          (every (λ y. f (E u y) ≡ f (put p q after E u y)) all (λ y. ap f (sym (other_row u y e))))
      by_test true e =
          let same : u ≡ p = same_number u p e in
          let m : sum_over (λ y. f (put p q after E u y)) all + f (E u q) ≡ sum_over (λ y. f (E u y)) all + f (put p q after E u q)
          = sum_moved (λ y. f (E u y)) (λ y. f (put p q after E u y)) q all o (λ x d. ap f (other_column u x d)) in
          let a : f (E u q) ≡ f before = ap f (ap (λ (x : ℕ). E x q) same ∙ is) in
          let b : f (put p q after E u q) ≡ f after = ap f (ap (λ (x : ℕ). put p q after E x q) same ∙ at_put) in
          let y = hit e in
          omega (arith, m, a, b, y, h)

  pub pairs : (f : Option Cell → ℕ) (all : List ℕ) → Only p all → Only q all → (old new : ℕ) → old ≡ over_pairs (λ x y. f (E x y)) all
      → new + f before ≡ old + f after → new ≡ over_pairs (λ x y. f (put p q after E x y)) all
  pairs f all op oq old new h change =
      let R : ℕ → ℕ = λ x. sum_over (λ y. f (E x y)) all in
      let R' : ℕ → ℕ = λ x. sum_over (λ y. f (put p q after E x y)) all in
      let m : sum_over (λ y. f (put p q after E p y)) all + f (E p q) ≡ sum_over (λ y. f (E p y)) all + f (put p q after E p q) = sum_moved
      (λ y. f (E p y)) (λ y. f (put p q after E p y)) q all oq (λ x d. ap f (other_column p x d)) in
      let w : over_pairs (λ x y. f (put p q after E x y)) all + sum_over (λ y. f (E p y)) all ≡ over_pairs (λ x y. f (E x y)) all + sum_over
      (λ y. f (put p q after E p y)) all
      = sum_moved (λ x. sum_over (λ y. f (E x y)) all) (λ x. sum_over (λ y. f (put p q after E x y)) all) p all op
      (λ x d. sum_same (λ y. f (put p q after E x y)) (λ y. f (E x y)) all
      (every (λ y. f (put p q after E x y) ≡ f (E x y)) all (λ y. ap f (other_row x y d)))) in
      let a : f (E p q) ≡ f before = ap f is in
      let b : f (put p q after E p q) ≡ f after = ap f at_put in
      omega (arith, m, w, a, b, h, change)

-- ---- links

in_link : (p q v u : ℕ) (on : Bool) (after : Option Cell) (E : ℕ → ℕ → Option Cell) (f : ℕ → ℕ → ℕ → Bool) → on ≡ is_some after
    → f v 0 u ≡ is_some (E u v) → link_put p q on f v 0 u ≡ is_some (put p q after E u v)
in_link p q v u on after E f e h = by_tests (nat_eq v q) (nat_eq u p) (nat_eq v p)
  where
    by_tests : (a b d : Bool) → (if a && true && b then on else (if d && false && nat_eq u q then on else f v 0 u)) ≡ is_some
        (if b && a then after else E u v)
    by_tests true true d = e
    by_tests true false true = h
    by_tests true false false = h
    by_tests false true true = h
    by_tests false true false = h
    by_tests false false true = h
    by_tests false false false = h

out_link : (p q v u : ℕ) (on : Bool) (after : Option Cell) (E : ℕ → ℕ → Option Cell) (f : ℕ → ℕ → ℕ → Bool) → on ≡ is_some after
    → f v 1 u ≡ is_some (E v u) → link_put p q on f v 1 u ≡ is_some (put p q after E v u)
out_link p q v u on after E f e h = by_tests (nat_eq v q) (nat_eq v p) (nat_eq u q)
  where
    by_tests : (a b d : Bool) → (if a && false && nat_eq u p then on else (if b && true && d then on else f v 1 u)) ≡ is_some
        (if b && d then after else E v u)
    by_tests true true true = e
    by_tests true true false = h
    by_tests true false d = h
    by_tests false true true = e
    by_tests false true false = h
    by_tests false false d = h

-- ---- the whole change

-- only the sums of edges from a node change, or those of edges to it
out_keeps : (p : ℕ) (before after : Option Cell) (old new : List Sums) → ShiftedOut p before after old new → (u : ℕ)
    → ((sums_at new u).ins ≡ (sums_at old u).ins) × ((sums_at new u).into ≡ (sums_at old u).into)
out_keeps p before after old new h u = by_test (nat_eq u p) refl
  where
    by_test : (b : Bool) → nat_eq u p ≡ b → ((sums_at new u).ins ≡ (sums_at old u).ins) × ((sums_at new u).into ≡ (sums_at old u).into)
    by_test false e = (ap (λ (s : Sums). s.ins) (h.others u e), ap (λ (s : Sums). s.into) (h.others u e))
    by_test true e = subst (λ (x : ℕ). ((sums_at new x).ins ≡ (sums_at old x).ins) × ((sums_at new x).into ≡ (sums_at old x).into))
        (sym (same_number u p e)) (h.ins, h.into)

in_keeps : (q : ℕ) (before after : Option Cell) (old new : List Sums) → ShiftedIn q before after old new → (u : ℕ)
    → ((sums_at new u).outs ≡ (sums_at old u).outs) × ((sums_at new u).out ≡ (sums_at old u).out)
in_keeps q before after old new h u = by_test (nat_eq u q) refl
  where
    by_test : (b : Bool) → nat_eq u q ≡ b → ((sums_at new u).outs ≡ (sums_at old u).outs) × ((sums_at new u).out ≡ (sums_at old u).out)
    by_test false e = (ap (λ (s : Sums). s.outs) (h.others u e), ap (λ (s : Sums). s.out) (h.others u e))
    by_test true e = subst (λ (x : ℕ). ((sums_at new x).outs ≡ (sums_at old x).outs) × ((sums_at new x).out ≡ (sums_at old x).out))
        (sym (same_number u q e)) (h.outs, h.out)

pub changed : (p q : ℕ) (before after : Option Cell) (old new : Table) (mid : List Sums) (on : Bool) → on ≡ is_some after
    → ShiftedIn q before after old.tally.sums.items mid → ShiftedOut p before after mid new.tally.sums.items
    → new.total + size_in before ≡ old.total + size_in after
    → ((x y : ℕ) → tree.get pair_cmp new.cells (x, y) ≡ put p q after (λ a b. tree.get pair_cmp old.cells (a, b)) x y)
    → ((v s u : ℕ) → in_set new.links v s u ≡ link_put p q on (in_set old.links) v s u)
    → (all : List ℕ) (E : ℕ → ℕ → Option Cell) → Keeps all E old → E p q ≡ before → Only p all → Only q all
    → Keeps all (put p q after E) new
changed p q before after old new mid on some in_ out_ total cells links all E h is op oq =
    record {
      cells = λ x y. cells x y ∙ ap (λ (o : Option Cell). if nat_eq x p && nat_eq y q then after else o) (h.cells x y);
      linked_in = λ v u. links v 0 u ∙ in_link p q v u on after E (in_set old.links) some (h.linked_in v u);
      linked_out = λ v u. links v 1 u ∙ out_link p q v u on after E (in_set old.links) some (h.linked_out v u);
      ins = λ u. (out_keeps p before after mid S2 out_ u).0 ∙ column p q before after E is one all op u (sums_at S0 u).ins
          (sums_at mid u).ins (h.ins u)
          (λ e. subst (λ (x : ℕ). (sums_at mid x).ins + one before ≡ (sums_at S0 x).ins + one after) (sym (same_number u q e)) in_.ins)
          (λ e. ap (λ (s : Sums). s.ins) (in_.others u e));
      into = λ u. (out_keeps p before after mid S2 out_ u).1 ∙ column p q before after E is leaves_in all op u (sums_at S0 u).into
          (sums_at mid u).into (h.into u)
          (λ e. subst (λ (x : ℕ). (sums_at mid x).into + leaves_in before ≡ (sums_at S0 x).into + leaves_in after) (sym (same_number u q e))
          in_.into) (λ e. ap (λ (s : Sums). s.into) (in_.others u e));
      outs = λ u. row p q before after E is one all oq u (sums_at mid u).outs (sums_at S2 u).outs
          ((in_keeps q before after S0 mid in_ u).0 ∙ h.outs u)
          (λ e. subst (λ (x : ℕ). (sums_at S2 x).outs + one before ≡ (sums_at mid x).outs + one after) (sym (same_number u p e)) out_.outs)
          (λ e. ap (λ (s : Sums). s.outs) (out_.others u e));
      out = λ u. row p q before after E is leaves_in all oq u (sums_at mid u).out (sums_at S2 u).out
          ((in_keeps q before after S0 mid in_ u).1 ∙ h.out u)
          (λ e. subst (λ (x : ℕ). (sums_at S2 x).out + leaves_in before ≡ (sums_at mid x).out + leaves_in after) (sym (same_number u p e))
          out_.out) (λ e. ap (λ (s : Sums). s.out) (out_.others u e));
      total = pairs p q before after E is size_in all op oq old.total new.total h.total total;
    }
  where
    S0 : List Sums
    S0 = old.tally.sums.items

    S2 : List Sums
    S2 = new.tally.sums.items
