-- The numbers of a level's edges are those of its ways.
use Rattle.std.proofs.Common.{◌≡◌, ℕ, suc, ◌+◌, max, Bool, true, false, if◌then◌else◌, ◌||◌, nat_eq, nat_le, List, [], ◌∷◌, ◌++◌, length}
use Rattle.std.proofs.Common.{refl, sym, ap, ◌∙◌, arith}
use Rattle.std.specs.Prelude.{Some, None, is_some}
use Rattle.std.proofs.lemmas.Bool.Decides.{nat_tests}
use Rattle.wsym_terms.specs.TreeNesting.{tree_nesting}
use Rattle.wsym_terms.specs.Trees.{size_of}
use Rattle.wsym_terms.specs.declared.trees.Tree.{Tree}
use Rattle.tree_law.specs.Ways.{members, through, taken_out}
use Rattle.tree_law.specs.NodeOrders.{leaves_of, leaves_of_ways, sum_over}
use Rattle.elimination_plans.specs.PlanSteps.{some}
use Rattle.elimination_plans.specs.Weights.{value_of, one_if}
use Rattle.elimination_plans.specs.TreeDepths.{max_over}
use Rattle.elimination_plans.proofs.WeightLemmas.{sum_append, members_leaves}
use Rattle.elimination_plans.proofs.LinkedLevelLemmas.{members_size}
use Rattle.elimination_plans.proofs.DepthLemmas.{max_append, several_depth, choices_deep}
use Rattle.node_elimination.specs.declared.cells.Cell.{Cell}
use Rattle.node_elimination.specs.Cells.{cell_of, node_cell, members_size as size_of_members, members_depth, passed, joined, pass_of}
use Rattle.node_elimination.specs.Cells.{joined_of, cells_step, one, leaves_in, size_in}

abbrev pub figures : List (List Tree) → Cell
figures ws = record {
  count = length ws;
  leaves = leaves_of_ways ws;
  size = value_of size_of ws;
  depth = max_over (max_over tree_nesting) ws;
}

pub same_cell : (a b : Cell) → a.count ≡ b.count → a.leaves ≡ b.leaves → a.size ≡ b.size → a.depth ≡ b.depth → a ≡ b
same_cell a b c l s d = λ i. record { count = c i; leaves = l i; size = s i; depth = d i }

two_more : (n : ℕ) → nat_le (suc (suc n)) 1 ≡ false
two_more n = grind (arith, nat_tests)

pub size_is : (w : List Tree) (ws : List (List Tree)) → sum_over size_of (members (w ∷ ws)) ≡ size_of_members (figures (w ∷ ws))
size_is w [] = omega arith
size_is w (u ∷ ws) =
    let t : nat_le (length (w ∷ u ∷ ws)) 1 ≡ false = two_more (length ws) in
    members_size w u ws ∙ sym (ap (λ (b : Bool). if b then value_of size_of (w ∷ u ∷ ws) else 1 + length (w ∷ u ∷ ws) + value_of size_of
    (w ∷ u ∷ ws)) t)

deep_is : (w : List Tree) (ws : List (List Tree)) → choices_deep (w ∷ ws) ≡ 1 + max_over (max_over tree_nesting) (w ∷ ws)
deep_is w [] = omega arith
deep_is w (u ∷ ws) = (let r = deep_is u ws in omega (arith, r))

pub depth_is : (w : List Tree) (ws : List (List Tree)) → max_over tree_nesting (members (w ∷ ws)) ≡ members_depth (figures (w ∷ ws))
depth_is w [] = omega arith
depth_is w (u ∷ ws) =
    let t : nat_le (length (w ∷ u ∷ ws)) 1 ≡ false = two_more (length ws) in
    let s : max_over tree_nesting (members (w ∷ u ∷ ws)) ≡ 1 + choices_deep (w ∷ u ∷ ws) = several_depth w u ws in
    let d : choices_deep (w ∷ u ∷ ws) ≡ 1 + max_over (max_over tree_nesting) (w ∷ u ∷ ws) = deep_is w (u ∷ ws) in
    let e : max_over tree_nesting (members (w ∷ u ∷ ws)) ≡ 2 + max_over (max_over tree_nesting) (w ∷ u ∷ ws) = omega (arith, s, d) in
    e ∙ sym (ap (λ (b : Bool). if b then max_over (max_over tree_nesting) (w ∷ u ∷ ws) else 2 + max_over (max_over tree_nesting)
    (w ∷ u ∷ ws)) t)

-- the way through a node, av one way
way_is : (a : List Tree) (av : List (List Tree)) (x : Tree) (b : List Tree) (bs : List (List Tree))
    → figures ((members (a ∷ av) ++ x ∷ members (b ∷ bs)) ∷ []) ≡ passed (figures (a ∷ av)) (node_cell x) (figures (b ∷ bs))
way_is a av x b bs = same_cell (figures ((members (a ∷ av) ++ x ∷ members (b ∷ bs)) ∷ []))
    (passed (figures (a ∷ av)) (node_cell x) (figures (b ∷ bs))) refl leaves size depth
  where
    leaves : leaves_of_ways ((members (a ∷ av) ++ x ∷ members (b ∷ bs)) ∷ []) ≡ leaves_of_ways (a ∷ av) + leaves_of x + leaves_of_ways
        (b ∷ bs)
    leaves =
        let f : sum_over leaves_of (members (a ∷ av)) ≡ leaves_of_ways (a ∷ av) = members_leaves (a ∷ av) in
        let g : sum_over leaves_of (members (b ∷ bs)) ≡ leaves_of_ways (b ∷ bs) = members_leaves (b ∷ bs) in
        let h : sum_over leaves_of (members (a ∷ av) ++ x ∷ members (b ∷ bs)) ≡ sum_over leaves_of (members (a ∷ av)) + sum_over leaves_of
        (x ∷ members (b ∷ bs)) = sum_append leaves_of (members (a ∷ av)) (x ∷ members (b ∷ bs)) in
        omega (arith, f, g, h)

    size : value_of size_of ((members (a ∷ av) ++ x ∷ members (b ∷ bs)) ∷ []) ≡ size_of_members (figures (a ∷ av)) + size_of x +
        size_of_members (figures (b ∷ bs))
    size =
        let f : sum_over size_of (members (a ∷ av)) ≡ size_of_members (figures (a ∷ av)) = size_is a av in
        let g : sum_over size_of (members (b ∷ bs)) ≡ size_of_members (figures (b ∷ bs)) = size_is b bs in
        let h : sum_over size_of (members (a ∷ av) ++ x ∷ members (b ∷ bs)) ≡ sum_over size_of (members (a ∷ av)) + sum_over size_of
        (x ∷ members (b ∷ bs)) = sum_append size_of (members (a ∷ av)) (x ∷ members (b ∷ bs)) in
        omega (arith, f, g, h)

    depth : max_over (max_over tree_nesting) ((members (a ∷ av) ++ x ∷ members (b ∷ bs)) ∷ []) ≡ max (members_depth (figures (a ∷ av)))
        (max (tree_nesting x) (members_depth (figures (b ∷ bs))))
    depth =
        let f : max_over tree_nesting (members (a ∷ av)) ≡ members_depth (figures (a ∷ av)) = depth_is a av in
        let g : max_over tree_nesting (members (b ∷ bs)) ≡ members_depth (figures (b ∷ bs)) = depth_is b bs in
        let h : max_over tree_nesting (members (a ∷ av) ++ x ∷ members (b ∷ bs)) ≡ max (max_over tree_nesting (members (a ∷ av)))
        (max_over tree_nesting (x ∷ members (b ∷ bs))) = max_append tree_nesting (members (a ∷ av)) (x ∷ members (b ∷ bs)) in
        omega (arith, f, g, h)

length_append : (xs ys : List (List Tree)) → length (xs ++ ys) ≡ length xs + length ys
length_append [] ys = omega arith
length_append (x ∷ xs) ys = (let r = length_append xs ys in omega (arith, r))

none_right : {A : Type 0} (xs : List A) → xs ++ [] ≡ xs
none_right [] = refl
none_right (x ∷ xs) = ap (λ l. x ∷ l) (none_right xs)

more_is : (ws : List (List Tree)) (way : List Tree) (p : Cell) → figures (way ∷ []) ≡ p
    → cell_of (ws ++ way ∷ []) ≡ Some (joined (cell_of ws) p)
more_is [] way p e = ap Some e
more_is (w ∷ ws) way p e =
    ap Some
    (same_cell (figures (w ∷ ws ++ way ∷ [])) (joined (Some (figures (w ∷ ws))) (figures (way ∷ []))) (length_append (w ∷ ws) (way ∷ []))
    (sum_append (sum_over leaves_of) (w ∷ ws) (way ∷ [])) (sum_append (sum_over size_of) (w ∷ ws) (way ∷ []))
    (max_append (max_over tree_nesting) (w ∷ ws) (way ∷ [])))
    ∙ ap (λ (c : Cell). Some (joined (cell_of (w ∷ ws)) c)) e

pub cell_step : (ws a : List (List Tree)) (x : Tree) (b : List (List Tree))
    → cell_of (ws ++ through a x b) ≡ joined_of (cell_of ws) (pass_of (cell_of a) (node_cell x) (cell_of b))
cell_step ws [] x b = ap cell_of (none_right ws)
cell_step ws (a ∷ av) x [] = ap cell_of (none_right ws)
cell_step ws (a ∷ av) x (b ∷ bs) = more_is ws (members (a ∷ av) ++ x ∷ members (b ∷ bs))
    (passed (figures (a ∷ av)) (node_cell x) (figures (b ∷ bs))) (way_is a av x b bs)

pub cells_out : (tree : ℕ → Tree) (v : ℕ) (W : ℕ → ℕ → List (List Tree)) (p q : ℕ)
    → cell_of (taken_out tree v W p q) ≡ cells_step v (node_cell (tree v)) (λ x y. cell_of (W x y)) p q
cells_out tree v W p q = by_test (nat_eq p v || nat_eq q v)
  where
    by_test : (b : Bool) → cell_of (if b then [] else W p q ++ through (W p v) (tree v) (W v q)) ≡
        (if b then None else joined_of (cell_of (W p q)) (pass_of (cell_of (W p v)) (node_cell (tree v)) (cell_of (W v q))))
    by_test true = refl
    by_test false = cell_step (W p q) (W p v) (tree v) (W v q)

pub one_is : (ws : List (List Tree)) → one (cell_of ws) ≡ one_if (some ws)
one_is [] = refl
one_is (w ∷ ws) = refl

pub leaves_is : (ws : List (List Tree)) → leaves_in (cell_of ws) ≡ leaves_of_ways ws
leaves_is [] = refl
leaves_is (w ∷ ws) = refl

pub value_is : (ws : List (List Tree)) → size_in (cell_of ws) ≡ value_of size_of ws
value_is [] = refl
value_is (w ∷ ws) = refl

pub some_is : (ws : List (List Tree)) → is_some (cell_of ws) ≡ some ws
some_is [] = refl
some_is (w ∷ ws) = refl
