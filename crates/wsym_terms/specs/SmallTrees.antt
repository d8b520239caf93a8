-- Small trees, each with a rule of the value that it shows.
use Rattle.std.specs.Prelude.{ℕ, [], ◌∷◌}
use Rattle.wsym_terms.specs.Extents.{Extent, Finite}
use Rattle.wsym_terms.specs.declared.trees.Tree.{Tree}
use Rattle.wsym_terms.specs.declared.trees.Tree.TheVariants.{Leaf, Alt, Loop}

-- a block of some cycles that uses no line, and one whose line has a scope
abbrev pub plain : ℕ → Tree
plain base = Leaf 0 base []

abbrev pub line_in : ℕ → ℕ → Tree
line_in scope base = Leaf 0 base (record { line = 2048; scope = scope } ∷ [])

-- a loop whose body costs 4 and whose exit costs 3
abbrev pub body_and_exit : Tree
body_and_exit = Loop 1 (plain 4) (plain 3)

-- a loop whose body costs 4 and uses a line in a scope
abbrev pub loop_with_line : ℕ → Tree
loop_with_line scope = Loop 1 (line_in scope 4) (plain 0)

-- that loop as the body of another one
abbrev pub loop_in_loop : ℕ → Tree
loop_in_loop scope = Loop 2 (loop_with_line scope) (plain 0)

-- 10 cycles without a line, or 4 with one
abbrev pub dear_or_missing : Tree
dear_or_missing = Alt (plain 10 ∷ line_in 0 4 ∷ [])

-- five turns of each loop
abbrev pub five : ℕ → Extent
five id = Finite 5
