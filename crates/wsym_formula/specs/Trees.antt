-- The formula of a control-flow tree.
use Rattle.std.specs.Prelude.{ℕ, ◌+◌, max, nat_le, if◌then◌else◌, List, [], ◌∷◌, length}
use Rattle.wsym_terms.specs.Trees.{greatest_scope}
use Rattle.wsym_terms.specs.declared.trees.Use.{Use}
use Rattle.wsym_terms.specs.declared.trees.Tree.{Tree, fold-Tree}
use Rattle.wsym_terms.specs.declared.trees.Tree.TheOpen.{Tree-F}
use Rattle.wsym_terms.specs.declared.trees.Tree.TheOpen.Tree-F.{Leaf, Seq, Alt, Loop}
use Rattle.wsym_formula.specs.declared.terms.Term.{Term}
use Rattle.wsym_formula.specs.declared.terms.Term.TheVariants as t
use Rattle.wsym_formula.specs.Terms.{block_costs}

-- What a tree is at a depth, which is the number of loops round it: the greatest scope of its uses, and its term.
pub record Shape : Type 0 where
  pub scope : ℕ → ℕ
  pub term : ℕ → Term

abbrev pub greatest_of : List Shape → ℕ → ℕ
greatest_of [] depth = 0
greatest_of (s ∷ shapes) depth = max (s.scope depth) (greatest_of shapes depth)

abbrev pub terms_of : List Shape → ℕ → List Term
terms_of [] depth = []
terms_of (s ∷ shapes) depth = s.term depth ∷ terms_of shapes depth

-- The body of a loop at a depth: over all turns together where the scope of its uses reaches past the loop, else over
-- the turns of each entry alone.
abbrev pub turns_term : ℕ → ℕ → ℕ → Term → Term
turns_term id depth scope body = if nat_le scope depth then t.Power id body else t.Scaled id body

-- its exit, likewise
abbrev pub leaving_term : ℕ → ℕ → Term → Term
leaving_term depth scope exit = if nat_le scope depth then exit else t.Once exit

-- a scope inside the loop counts as 0 outside of it
abbrev pub scope_outside : ℕ → ℕ → ℕ
scope_outside depth scope = if nat_le scope depth then scope else 0

abbrev pub leaf_shape : ℕ → ℕ → List Use → Shape
leaf_shape miss base uses = record {
  scope = λ depth. greatest_scope uses;
  term = λ depth. t.Const (block_costs base miss (length uses));
}

abbrev pub seq_shape : List Shape → Shape
seq_shape members = record { scope = greatest_of members; term = λ depth. t.Sum (terms_of members depth) }

abbrev pub alt_shape : List Shape → Shape
alt_shape choices = record { scope = greatest_of choices; term = λ depth. t.Alt (terms_of choices depth) }

abbrev pub loop_shape : ℕ → Shape → Shape → Shape
loop_shape id body exit = record {
  scope = λ depth. max (scope_outside depth (body.scope (depth + 1))) (scope_outside depth (exit.scope (depth + 1)));
  term = λ depth. t.Sum (turns_term id depth (body.scope (depth + 1)) (body.term (depth + 1)) ∷ leaving_term depth (exit.scope (depth + 1)) (exit.term (depth + 1)) ∷ []);
}

-- with the cycles of a miss
abbrev pub level_shape : ℕ → Tree-F Shape → Shape
level_shape miss (Leaf block base uses) = leaf_shape miss base uses
level_shape miss (Seq members) = seq_shape members
level_shape miss (Alt choices) = alt_shape choices
level_shape miss (Loop id body exit) = loop_shape id body exit

abbrev pub shape_of : ℕ → Tree → Shape
shape_of miss = fold-Tree Shape (level_shape miss)

-- the term of the tree of a whole function
abbrev pub formula_of : ℕ → Tree → Term
formula_of miss tree = (shape_of miss tree).term 0
