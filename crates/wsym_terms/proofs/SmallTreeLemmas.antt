-- The values of small trees, level by level.
use Rattle.std.proofs.Common.{◌≡◌, ℕ, List, [], ◌∷◌, ap, ◌∙◌}
use Rattle.wsym_terms.specs.Extents.{Finite}
use Rattle.wsym_terms.specs.SmallTrees.{body_and_exit, dear_or_missing, five, line_in, loop_in_loop, loop_with_line, plain}
use Rattle.wsym_terms.specs.Trees.{Meaning, level_meaning, meaning_of, tree_value}
use Rattle.wsym_terms.specs.declared.trees.Use.{Use}
use Rattle.wsym_terms.specs.declared.trees.Tree.{Tree, fold-roll-Tree}
use Rattle.wsym_terms.specs.declared.trees.Tree.TheVariants as tree
use Rattle.wsym_terms.specs.declared.trees.Tree.TheOpen.{Tree-F}
use Rattle.wsym_terms.specs.declared.trees.Tree.TheOpen.Tree-F.{Leaf, Alt, Loop}

abbrev means : Tree → Meaning
means = meaning_of 10 five

abbrev level : Tree-F Meaning → Meaning
level = level_meaning 10 five

leaf_is : (base : ℕ) (uses : List Use) → means (tree.Leaf 0 base uses) ≡ level (Leaf 0 base uses)
unfolding Rattle.wsym_terms.specs.declared.trees.Tree.TheViews.roll-Tree denote.Hole.Carrier.roll
leaf_is base uses = fold-roll-Tree Meaning (level_meaning 10 five) (Leaf 0 base uses)

loop_is : (id : ℕ) (body exit : Tree) (b e : Meaning) → means body ≡ b → means exit ≡ e
    → means (tree.Loop id body exit) ≡ level (Loop id b e)
unfolding Rattle.wsym_terms.specs.declared.trees.Tree.TheViews.roll-Tree denote.Hole.Carrier.roll
loop_is id body exit b e of_body of_exit =
    fold-roll-Tree Meaning (level_meaning 10 five) (Loop id body exit)
    ∙ ap (λ (m : Meaning). level (Loop id m (means exit))) of_body
    ∙ ap (λ (m : Meaning). level (Loop id b m)) of_exit

either_is : (one other : Tree) (m n : Meaning) → means one ≡ m → means other ≡ n
    → means (tree.Alt (one ∷ other ∷ [])) ≡ level (Alt (m ∷ n ∷ []))
unfolding Rattle.wsym_terms.specs.declared.trees.Tree.TheViews.roll-Tree denote.Hole.Carrier.roll
either_is one other m n of_one of_other =
    fold-roll-Tree Meaning (level_meaning 10 five) (Alt (one ∷ other ∷ []))
    ∙ ap (λ (k : Meaning). level (Alt (k ∷ means other ∷ []))) of_one
    ∙ ap (λ (k : Meaning). level (Alt (m ∷ k ∷ []))) of_other

abbrev plain_level : ℕ → Meaning
plain_level base = level (Leaf 0 base [])

abbrev line_level : ℕ → ℕ → Meaning
line_level scope base = level (Leaf 0 base (record { line = 2048; scope = scope } ∷ []))

plain_is : (base : ℕ) → means (plain base) ≡ plain_level base
plain_is base = leaf_is base []

line_is : (scope base : ℕ) → means (line_in scope base) ≡ line_level scope base
line_is scope base = leaf_is base (record { line = 2048; scope = scope } ∷ [])

abbrev loop_level : ℕ → Meaning
loop_level scope = level (Loop 1 (line_level scope 4) (plain_level 0))

with_line : (scope : ℕ) → means (loop_with_line scope) ≡ loop_level scope
with_line scope = loop_is 1 (line_in scope 4) (plain 0) (line_level scope 4) (plain_level 0) (line_is scope 4) (plain_is 0)

pub exit_is_paid : tree_value 10 five body_and_exit 2 ≡ Finite 46
exit_is_paid =
    ap (λ (m : Meaning). m.value 0 2)
    (loop_is 1 (plain 4) (plain 3) (plain_level 4) (plain_level 3) (plain_is 4) (plain_is 3))

pub once_a_run : tree_value 10 five (loop_with_line 0) 2 ≡ Finite 50
once_a_run = ap (λ (m : Meaning). m.value 0 2) (with_line 0)

pub once_an_entry : tree_value 10 five (loop_with_line 1) 2 ≡ Finite 60
once_an_entry = ap (λ (m : Meaning). m.value 0 2) (with_line 1)

pub once_an_outer_entry : tree_value 10 five (loop_in_loop 1) 1 ≡ Finite 110
once_an_outer_entry =
    ap (λ (m : Meaning). m.value 0 1)
    (loop_is 2 (loop_with_line 1) (plain 0) (loop_level 1) (plain_level 0) (with_line 1) (plain_is 0))

pub choices_share : tree_value 10 five dear_or_missing 3 ≡ Finite 34
choices_share =
    ap (λ (m : Meaning). m.value 0 3)
    (either_is (plain 10) (line_in 0 4) (plain_level 10) (line_level 0 4) (plain_is 10) (line_is 0 4))
