-- The formula of a tree has at most twice its size, and nests at most twice as deep.
use Rattle.std.proofs.Common.{◌≡◌, ℕ, zero, suc, ◌+◌, ◌*◌, ◌≤◌, max, Bool, true, false, if◌then◌else◌, nat_le, List, [], ◌∷◌, map, length, sum, refl, sym, ap, subst, ◌∙◌, arith}
use Rattle.std.proofs.lemmas.List.Sums.{sum_by-cons}
use denote.Hole.Holds.{Such}
use Rattle.wsym_terms.specs.Trees.{level_size, size_of}
use Rattle.wsym_terms.specs.declared.trees.Tree.{Tree, fold-roll-Tree, roll-Tree, ind-Tree}
use Rattle.wsym_terms.specs.declared.trees.Tree.TheOpen.{Tree-F}
use Rattle.wsym_terms.specs.declared.trees.Tree.TheOpen.Tree-F.{Leaf, Seq, Alt, Loop}
use Rattle.wsym_terms.specs.declared.trees.Tree.TheBlock.{the_family, member-Tree}
use Rattle.wsym_terms.specs.declared.trees.Tree.TheFolds.{claims, map-Tree}
use Rattle.wsym_formula.specs.Terms.{block_costs}
use Rattle.wsym_formula.specs.Trees.{Shape, leaving_term, level_shape, shape_of, terms_of, turns_term}
use Rattle.wsym_formula.specs.Values.{total}
use Rattle.wsym_formula.specs.declared.terms.Term.{Term, fold-roll-Term, roll-Term}
use Rattle.wsym_formula.specs.declared.terms.Term.TheOpen.{Term-F}
use Rattle.wsym_formula.specs.declared.terms.Term.TheFolds.{map-Term}
use Rattle.wsym_formula.specs.declared.terms.Term.TheVariants as t
use Rattle.wsym_terms.specs.TreeNesting.{level_depth, most, tree_nesting}
use Rattle.simplifier.specs.Sizes.{level_nesting, level_nodes, nesting_of, nodes_of}

pub nodes_open : (y : Term-F Term) (u : Term) → roll-Term y ≡ u → nodes_of u ≡ level_nodes (map-Term Term ℕ nodes_of y)
nodes_open y u e = ap nodes_of (sym e) ∙ fold-roll-Term ℕ level_nodes y

pub nesting_open : (y : Term-F Term) (u : Term) → roll-Term y ≡ u → nesting_of u ≡ level_nesting (map-Term Term ℕ nesting_of y)
nesting_open y u e = ap nesting_of (sym e) ∙ fold-roll-Term ℕ level_nesting y

turns_nodes : (id depth scope : ℕ) (u : Term) → nodes_of (turns_term id depth scope u) ≡ suc (nodes_of u)
turns_nodes id depth scope u = by (nat_le scope depth)
  where
    by : (test : Bool) → nodes_of (if test then t.Power id u else t.Scaled id u) ≡ suc (nodes_of u)
    by true = nodes_open (Term-F.Power id u) (t.Power id u) (t.rolls-Power id u)
    by false = nodes_open (Term-F.Scaled id u) (t.Scaled id u) (t.rolls-Scaled id u)

leaving_nodes : (depth scope : ℕ) (u : Term) → nodes_of (leaving_term depth scope u) ≤ suc (nodes_of u)
leaving_nodes depth scope u = by (nat_le scope depth)
  where
    by : (test : Bool) → nodes_of (if test then u else t.Once u) ≤ suc (nodes_of u)
    by true = omega arith
    by false = omega (arith, nodes_open (Term-F.Once u) (t.Once u) (t.rolls-Once u))

turns_nesting : (id depth scope : ℕ) (u : Term) → nesting_of (turns_term id depth scope u) ≡ suc (nesting_of u)
turns_nesting id depth scope u = by (nat_le scope depth)
  where
    by : (test : Bool) → nesting_of (if test then t.Power id u else t.Scaled id u) ≡ suc (nesting_of u)
    by true = nesting_open (Term-F.Power id u) (t.Power id u) (t.rolls-Power id u)
    by false = nesting_open (Term-F.Scaled id u) (t.Scaled id u) (t.rolls-Scaled id u)

leaving_nesting : (depth scope : ℕ) (u : Term) → nesting_of (leaving_term depth scope u) ≤ suc (nesting_of u)
leaving_nesting depth scope u = by (nat_le scope depth)
  where
    by : (test : Bool) → nesting_of (if test then u else t.Once u) ≤ suc (nesting_of u)
    by true = omega arith
    by false = omega (arith, nesting_open (Term-F.Once u) (t.Once u) (t.rolls-Once u))

pub record IsSmall (s : Shape) (size nesting : ℕ) : Type 0 where
  pub nodes : (depth : ℕ) → nodes_of (s.term depth) + 1 ≤ 2 * size
  pub deep : (depth : ℕ) → nesting_of (s.term depth) ≤ 2 * nesting

module _ (miss : ℕ) where
  abbrev S : Tree → Shape
  S = shape_of miss

  abbrev TreeIsSmall : Tree → Type 0
  TreeIsSmall tree = IsSmall (S tree) (size_of tree) (tree_nesting tree)

  abbrev Known : Type 0
  Known = Such the_family (claims TreeIsSmall) member-Tree

  nodes_all : (ys : List Known) (depth : ℕ) → total (map nodes_of (terms_of (map S (map (λ e. e.0) ys)) depth)) + length ys ≤ 2 * sum (map size_of (map (λ e. e.0) ys))
  nodes_all [] depth = omega arith
  nodes_all (y ∷ ys) depth = omega (arith, y.1.nodes depth, nodes_all ys depth, sum_by-cons (λ x. x) (size_of y.0) (map size_of (map (λ e. e.0) ys)))

  deep_all : (ys : List Known) (depth : ℕ) → most (map nesting_of (terms_of (map S (map (λ e. e.0) ys)) depth)) ≤ 2 * most (map tree_nesting (map (λ e. e.0) ys))
  deep_all [] depth = omega arith
  deep_all (y ∷ ys) depth = omega (arith, y.1.deep depth, deep_all ys depth)

  at_level : (y : Tree-F Known) → IsSmall (level_shape miss (map-Tree Tree Shape S (map-Tree Known Tree (λ e. e.0) y))) (level_size (map-Tree Tree ℕ size_of (map-Tree Known Tree (λ e. e.0) y))) (level_depth (map-Tree Tree ℕ tree_nesting (map-Tree Known Tree (λ e. e.0) y)))
  at_level (Leaf block base uses) =
      let c = block_costs base miss (length uses) in
      record {
        nodes = λ depth. omega (arith, nodes_open (Term-F.Const c) (t.Const c) (t.rolls-Const c));
        deep = λ depth. omega (arith, nesting_open (Term-F.Const c) (t.Const c) (t.rolls-Const c));
      }
  at_level (Seq ys) = record {
    nodes = λ depth. let us = terms_of (map S (map (λ e. e.0) ys)) depth in omega (arith, nodes_open (Term-F.Sum us) (t.Sum us) (t.rolls-Sum us), nodes_all ys depth);
    deep = λ depth. let us = terms_of (map S (map (λ e. e.0) ys)) depth in omega (arith, nesting_open (Term-F.Sum us) (t.Sum us) (t.rolls-Sum us), deep_all ys depth);
  }
  at_level (Alt ys) = record {
    nodes = λ depth. let us = terms_of (map S (map (λ e. e.0) ys)) depth in omega (arith, nodes_open (Term-F.Alt us) (t.Alt us) (t.rolls-Alt us), nodes_all ys depth);
    deep = λ depth. let us = terms_of (map S (map (λ e. e.0) ys)) depth in omega (arith, nesting_open (Term-F.Alt us) (t.Alt us) (t.rolls-Alt us), deep_all ys depth);
  }
  at_level (Loop id body exit) =
      let s : Shape = S body.0 in
      let r : Shape = S exit.0 in
      record {
        nodes = λ depth.
            let a : Term = turns_term id depth (s.scope (depth + 1)) (s.term (depth + 1)) in
            let b : Term = leaving_term depth (r.scope (depth + 1)) (r.term (depth + 1)) in
            omega (
              arith,
              nodes_open (Term-F.Sum (a ∷ b ∷ [])) (t.Sum (a ∷ b ∷ [])) (t.rolls-Sum (a ∷ b ∷ [])),
              turns_nodes id depth (s.scope (depth + 1)) (s.term (depth + 1)),
              leaving_nodes depth (r.scope (depth + 1)) (r.term (depth + 1)),
              body.1.nodes (depth + 1),
              exit.1.nodes (depth + 1),
            );
        deep = λ depth.
            let a : Term = turns_term id depth (s.scope (depth + 1)) (s.term (depth + 1)) in
            let b : Term = leaving_term depth (r.scope (depth + 1)) (r.term (depth + 1)) in
            omega (
              arith,
              nesting_open (Term-F.Sum (a ∷ b ∷ [])) (t.Sum (a ∷ b ∷ [])) (t.rolls-Sum (a ∷ b ∷ [])),
              turns_nesting id depth (s.scope (depth + 1)) (s.term (depth + 1)),
              leaving_nesting depth (r.scope (depth + 1)) (r.term (depth + 1)),
              body.1.deep (depth + 1),
              exit.1.deep (depth + 1),
            );
      }

  one_level : (y : Tree-F Known) → TreeIsSmall (roll-Tree (map-Tree Known Tree (λ e. e.0) y))
  one_level y =
      let z : Tree-F Tree = map-Tree Known Tree (λ e. e.0) y in
      subst (λ (s : Shape). IsSmall s (size_of (roll-Tree z)) (tree_nesting (roll-Tree z))) (sym (fold-roll-Tree Shape (level_shape miss) z))
      (subst (λ (n : ℕ). IsSmall (level_shape miss (map-Tree Tree Shape S z)) n (tree_nesting (roll-Tree z))) (sym (fold-roll-Tree ℕ level_size z))
      (subst (λ (n : ℕ). IsSmall (level_shape miss (map-Tree Tree Shape S z)) (level_size (map-Tree Tree ℕ size_of z)) n) (sym (fold-roll-Tree ℕ level_depth z)) (at_level y)))

  pub tree_is_small : (tree : Tree) → TreeIsSmall tree
  tree_is_small tree = ind-Tree TreeIsSmall (λ x y e. subst (λ (l : Tree-F Tree). TreeIsSmall (roll-Tree l)) e (one_level y)) tree
