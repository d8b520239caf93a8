-- The formula of a tree has its value, by induction over the tree.
use Rattle.std.proofs.Common.{◌≡◌, ℕ, zero, suc, ◌+◌, ◌*◌, max, Bool, true, false, if◌then◌else◌, nat_le, eqb, cond, List, [], ◌∷◌, map, length, refl, sym, ap, subst, ◌∙◌, arith}
use Rattle.std.proofs.lemmas.Bool.{eqb-true}
use denote.Hole.Holds.{Such}
use Rattle.wsym_terms.specs.Extents.{Extent, Finite, Infinite, plus, times, if_any}
use Rattle.wsym_terms.specs.Trees.{Meaning, best, greatest_scope, in_order, level_meaning, loop_value, meaning_of, outside, part, scope_of_all, shared_out, tree_value}
use Rattle.wsym_terms.specs.declared.costs.Cost.TheVariants.{Fin}
use Rattle.wsym_terms.specs.declared.trees.Tree.{Tree, fold-roll-Tree, roll-Tree, ind-Tree}
use Rattle.wsym_terms.specs.declared.trees.Tree.TheOpen.{Tree-F}
use Rattle.wsym_terms.specs.declared.trees.Tree.TheOpen.Tree-F.{Leaf, Seq, Alt, Loop}
use Rattle.wsym_terms.specs.declared.trees.Tree.TheBlock.{the_family, member-Tree}
use Rattle.wsym_terms.specs.declared.trees.Tree.TheFolds.{claims, map-Tree}
use Rattle.wsym_terms.proofs.ExtentLaws.{nothing_plus}
use Rattle.cost_multiset.specs.CostLists.{CostList, followed, place, prefix_sum}
use Rattle.cost_multiset.proofs.PlaceLaws.{run, followed_behind}
use Rattle.cost_multiset.proofs.SumLaws.{sum_first_constant}
use Rattle.wsym_formula.specs.Terms.{block_costs, power_at, scaled_at, shared_at, sum_at, term_value}
use Rattle.wsym_formula.specs.Trees.{Shape, formula_of, greatest_of, leaving_term, level_shape, scope_outside, shape_of, terms_of, turns_term}
use Rattle.wsym_formula.specs.declared.terms.Term.{Term}
use Rattle.wsym_formula.specs.declared.terms.Term.TheVariants as t
use Rattle.wsym_formula.proofs.Valuing.{value_alt, value_const, value_once, value_power, value_scaled, value_sum}

-- the costs of a block, for each number of executions but none
block_by : (test : Bool) (base misses n : ℕ) → (test ≡ true → misses ≡ 0)
    → prefix_sum (cond test (record { runs = []; tail = Fin base }) (record { runs = run (Fin (base + misses)) 1 ∷ []; tail = Fin base })) (suc n) ≡ Finite (suc n * base + misses)
block_by true base misses n none =
    sum_first_constant (λ _. Fin base) (Fin base) (suc n) (λ k less. refl)
    ∙ ap Finite (let e : suc n * base ≡ suc n * base + misses = omega (arith, none refl) in e)
block_by false base misses n none =
    ap (plus (Finite (base + misses))) (sum_first_constant (λ k. followed (run (Fin (base + misses)) 1 ∷ []) (λ _. Fin base) (suc k)) (Fin base) n (λ k less. followed_behind (run (Fin (base + misses)) 1) [] (λ _. Fin base) (suc k) (omega arith)))
    ∙ ap Finite (let e : base + misses + n * base ≡ suc n * base + misses = grind arith in e)

block_value : (base miss uses n : ℕ) → if_any (prefix_sum (block_costs base miss uses)) n ≡ if_any (λ m. Finite (m * base + miss * uses)) n
block_value base miss uses zero = refl
block_value base miss uses (suc n) = block_by (eqb (miss * uses) 0) base (miss * uses) n (eqb-true (miss * uses) 0)

module _ (bounds : ℕ → Extent) where
  abbrev V : Term → ℕ → Extent
  V = term_value bounds

  -- a tree's term costs what the tree does
  pub record Agrees (s : Shape) (m : Meaning) : Type 0 where
    pub scope : (depth : ℕ) → s.scope depth ≡ m.scope depth
    pub value : (depth n : ℕ) → V (s.term depth) n ≡ m.value depth n

  abbrev AllAgree : List Shape → List Meaning → Type 0
  AllAgree [] [] = Unit {0}
  AllAgree [] (m ∷ ms) = ⊥
  AllAgree (s ∷ ss) [] = ⊥
  AllAgree (s ∷ ss) (m ∷ ms) = Agrees s m × AllAgree ss ms

  scopes_agree : (ss : List Shape) (ms : List Meaning) → AllAgree ss ms → (depth : ℕ) → greatest_of ss depth ≡ scope_of_all ms depth
  scopes_agree [] [] h depth = refl
  scopes_agree [] (m ∷ ms) h depth = absurd h
  scopes_agree (s ∷ ss) [] h depth = absurd h
  scopes_agree (s ∷ ss) (m ∷ ms) h depth = λ i. max (h.0.scope depth i) (scopes_agree ss ms h.1 depth i)

  sums_agree : (ss : List Shape) (ms : List Meaning) → AllAgree ss ms → (depth n : ℕ) → sum_at (map V (terms_of ss depth)) n ≡ in_order ms depth n
  sums_agree [] [] h depth n = refl
  sums_agree [] (m ∷ ms) h depth n = absurd h
  sums_agree (s ∷ ss) [] h depth n = absurd h
  sums_agree (s ∷ ss) (m ∷ ms) h depth n = λ i. plus (h.0.value depth n i) (sums_agree ss ms h.1 depth n i)

  shares_agree : (ss : List Shape) (ms : List Meaning) → AllAgree ss ms → (depth n : ℕ) → shared_at (map V (terms_of ss depth)) n ≡ shared_out ms depth n
  shares_agree [] [] h depth n = refl
  shares_agree [] (m ∷ ms) h depth n = absurd h
  shares_agree (s ∷ ss) [] h depth n = absurd h
  shares_agree (s ∷ []) (m ∷ []) h depth n = h.0.value depth n
  shares_agree (s ∷ []) (m ∷ k ∷ ms) h depth n = absurd h.1
  shares_agree (s ∷ r ∷ ss) (m ∷ []) h depth n = absurd h.1
  shares_agree (s ∷ r ∷ ss) (m ∷ k ∷ ms) h depth n = λ i. best (λ j. h.0.value depth j i) (λ j. shares_agree (r ∷ ss) (k ∷ ms) h.1 depth j i) n n

  any_same : (f g : ℕ → Extent) → ((n : ℕ) → f (suc n) ≡ g (suc n)) → (n : ℕ) → if_any f n ≡ if_any g n
  any_same f g h zero = refl
  any_same f g h (suc n) = h n

  at_value : (u : Term) (f : ℕ → Extent) → V u ≡ if_any f → (n : ℕ) → V u n ≡ if_any f n
  at_value u f e n = ap (λ (g : ℕ → Extent). g n) e

  -- the body and the exit of a loop whose bound has a value
  module _ (id depth b n : ℕ) (s : Shape) (m : Meaning) (h : Agrees s m) where
    abbrev u : Term
    u = s.term (depth + 1)

    turns_by : (test : Bool) → bounds id ≡ Finite b
        → V (if test then t.Power id u else t.Scaled id u) (suc n) ≡ (if test then m.value (depth + 1) (suc n * b) else times (suc n) (m.value (depth + 1) b))
    turns_by true e =
        at_value (t.Power id u) (power_at (bounds id) (V u)) (value_power bounds id u) (suc n)
        ∙ ap (λ (x : Extent). power_at x (V u) (suc n)) e
        ∙ h.value (depth + 1) (suc n * b)
    turns_by false e =
        at_value (t.Scaled id u) (scaled_at (bounds id) (V u)) (value_scaled bounds id u) (suc n)
        ∙ ap (λ (x : Extent). scaled_at x (V u) (suc n)) e
        ∙ ap (times (suc n)) (h.value (depth + 1) b)

    turns_agree : bounds id ≡ Finite b → V (turns_term id depth (s.scope (depth + 1)) u) (suc n) ≡ part m depth (suc n) b
    turns_agree e =
        turns_by (nat_le (s.scope (depth + 1)) depth) e
        ∙ ap (λ (k : ℕ). if nat_le k depth then m.value (depth + 1) (suc n * b) else times (suc n) (m.value (depth + 1) b)) (h.scope (depth + 1))

    leaving_by : (test : Bool) → V (if test then u else t.Once u) (suc n) ≡ (if test then m.value (depth + 1) (suc n * 1) else times (suc n) (m.value (depth + 1) 1))
    leaving_by true = let one : suc n ≡ suc n * 1 = omega arith in h.value (depth + 1) (suc n) ∙ ap (m.value (depth + 1)) one
    leaving_by false =
        at_value (t.Once u) (λ k. times k (V u 1)) (value_once bounds u) (suc n)
        ∙ ap (times (suc n)) (h.value (depth + 1) 1)

    leaving_agrees : V (leaving_term depth (s.scope (depth + 1)) u) (suc n) ≡ part m depth (suc n) 1
    leaving_agrees =
        leaving_by (nat_le (s.scope (depth + 1)) depth)
        ∙ ap (λ (k : ℕ). if nat_le k depth then m.value (depth + 1) (suc n * 1) else times (suc n) (m.value (depth + 1) 1)) (h.scope (depth + 1))

  -- the body of a loop without a bound
  endless : (id depth n scope : ℕ) (u : Term) → bounds id ≡ Infinite → V (turns_term id depth scope u) (suc n) ≡ Infinite
  endless id depth n scope u e = by (nat_le scope depth)
    where
      by : (test : Bool) → V (if test then t.Power id u else t.Scaled id u) (suc n) ≡ Infinite
      by true = at_value (t.Power id u) (power_at (bounds id) (V u)) (value_power bounds id u) (suc n) ∙ ap (λ (x : Extent). power_at x (V u) (suc n)) e
      by false = at_value (t.Scaled id u) (scaled_at (bounds id) (V u)) (value_scaled bounds id u) (suc n) ∙ ap (λ (x : Extent). scaled_at x (V u) (suc n)) e

  loop_agrees : (id depth n : ℕ) (s r : Shape) (m k : Meaning) → Agrees s m → Agrees r k → (e : Extent) → bounds id ≡ e
      → plus (V (turns_term id depth (s.scope (depth + 1)) (s.term (depth + 1))) (suc n)) (plus (V (leaving_term depth (r.scope (depth + 1)) (r.term (depth + 1))) (suc n)) (Finite 0)) ≡ loop_value e m k depth (suc n)
  loop_agrees id depth n s r m k h j Infinite e =
      ap (λ (x : Extent). plus x (plus (V (leaving_term depth (r.scope (depth + 1)) (r.term (depth + 1))) (suc n)) (Finite 0))) (endless id depth n (s.scope (depth + 1)) (s.term (depth + 1)) e)
  loop_agrees id depth n s r m k h j (Finite b) e =
      λ i. plus (turns_agree id depth b n s m h e i) ((nothing_plus (V (leaving_term depth (r.scope (depth + 1)) (r.term (depth + 1))) (suc n)) ∙ leaving_agrees id depth b n r k j) i)

  module _ (miss : ℕ) where
    abbrev S : Tree → Shape
    S = shape_of miss

    abbrev M : Tree → Meaning
    M = meaning_of miss bounds

    abbrev TreeAgrees : Tree → Type 0
    TreeAgrees tree = Agrees (S tree) (M tree)

    abbrev Known : Type 0
    Known = Such the_family (claims TreeAgrees) member-Tree

    all_known : (ys : List Known) → AllAgree (map S (map (λ e. e.0) ys)) (map M (map (λ e. e.0) ys))
    all_known [] = tt
    all_known (y ∷ ys) = (y.1, all_known ys)

    at_level : (y : Tree-F Known) → Agrees (level_shape miss (map-Tree Tree Shape S (map-Tree Known Tree (λ e. e.0) y))) (level_meaning miss bounds (map-Tree Tree Meaning M (map-Tree Known Tree (λ e. e.0) y)))
    at_level (Leaf block base uses) = record {
      scope = λ depth. refl;
      value = λ depth n. at_value (t.Const (block_costs base miss (length uses))) (prefix_sum (block_costs base miss (length uses))) (value_const bounds (block_costs base miss (length uses))) n ∙ block_value base miss (length uses) n;
    }
    at_level (Seq ys) =
        let ss : List Shape = map S (map (λ e. e.0) ys) in
        let ms : List Meaning = map M (map (λ e. e.0) ys) in
        record {
          scope = scopes_agree ss ms (all_known ys);
          value = λ depth n.
              at_value (t.Sum (terms_of ss depth)) (sum_at (map V (terms_of ss depth))) (value_sum bounds (terms_of ss depth)) n
              ∙ any_same (sum_at (map V (terms_of ss depth))) (in_order ms depth) (λ j. sums_agree ss ms (all_known ys) depth (suc j)) n;
        }
    at_level (Alt ys) =
        let ss : List Shape = map S (map (λ e. e.0) ys) in
        let ms : List Meaning = map M (map (λ e. e.0) ys) in
        record {
          scope = scopes_agree ss ms (all_known ys);
          value = λ depth n.
              at_value (t.Alt (terms_of ss depth)) (shared_at (map V (terms_of ss depth))) (value_alt bounds (terms_of ss depth)) n
              ∙ any_same (shared_at (map V (terms_of ss depth))) (shared_out ms depth) (λ j. shares_agree ss ms (all_known ys) depth (suc j)) n;
        }
    at_level (Loop id body exit) =
        let s : Shape = S body.0 in
        let r : Shape = S exit.0 in
        let m : Meaning = M body.0 in
        let k : Meaning = M exit.0 in
        record {
          scope = λ depth i. max (scope_outside depth (body.1.scope (depth + 1) i)) (scope_outside depth (exit.1.scope (depth + 1) i));
          value = λ depth n.
              let us : List Term = turns_term id depth (s.scope (depth + 1)) (s.term (depth + 1)) ∷ leaving_term depth (r.scope (depth + 1)) (r.term (depth + 1)) ∷ [] in
              at_value (t.Sum us) (sum_at (map V us)) (value_sum bounds us) n
              ∙ any_same (sum_at (map V us)) (loop_value (bounds id) m k depth) (λ j. loop_agrees id depth j s r m k body.1 exit.1 (bounds id) refl) n;
        }

    one_level : (y : Tree-F Known) → TreeAgrees (roll-Tree (map-Tree Known Tree (λ e. e.0) y))
    one_level y =
        let z : Tree-F Tree = map-Tree Known Tree (λ e. e.0) y in
        subst (λ (s : Shape). Agrees s (M (roll-Tree z))) (sym (fold-roll-Tree Shape (level_shape miss) z))
        (subst (λ (m : Meaning). Agrees (level_shape miss (map-Tree Tree Shape S z)) m) (sym (fold-roll-Tree Meaning (level_meaning miss bounds) z)) (at_level y))

    pub tree_agrees : (tree : Tree) → TreeAgrees tree
    tree_agrees tree = ind-Tree TreeAgrees (λ x y e. subst (λ (l : Tree-F Tree). TreeAgrees (roll-Tree l)) e (one_level y)) tree

pub formula_value : (miss : ℕ) (bounds : ℕ → Extent) (tree : Tree) (n : ℕ) → term_value bounds (formula_of miss tree) n ≡ tree_value miss bounds tree n
formula_value miss bounds tree n = (tree_agrees bounds miss tree).value 0 n
