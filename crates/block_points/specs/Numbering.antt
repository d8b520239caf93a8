-- Numbers for the points of a function's blocks: block after block, and in each in the order in which control passes
-- them.
use Rattle.std.specs.Prelude.{ℕ, zero, suc, ◌+◌, List, [], ◌∷◌, ◌++◌, map, length, get_or}
use Rattle.flow_graph.specs.declared.graph.Block.{Block}
use Rattle.flow_graph.specs.declared.graph.GraphPoint.{GraphPoint}

-- the number of the first point of a block: how many points the blocks before it have
abbrev pub first_of : List Block → ℕ → ℕ
first_of [] b = 0
first_of (x ∷ xs) zero = 0
first_of (x ∷ xs) (suc b) = length x.points + first_of xs b

-- how many points blocks have
abbrev pub total_of : List Block → ℕ
total_of [] = 0
total_of (x ∷ xs) = length x.points + total_of xs

-- n numbers from a first one on
abbrev pub numbers_from : ℕ → ℕ → List ℕ
numbers_from i zero = []
numbers_from i (suc n) = i ∷ numbers_from (i + 1) n

-- the points' numbers of each block, the first block's from a number on
abbrev pub rows_from : ℕ → List Block → List (List ℕ)
rows_from i [] = []
rows_from i (x ∷ xs) = numbers_from i (length x.points) ∷ rows_from (i + length x.points) xs

-- something of each block by its number, one after another
abbrev pub joined : {A : Type 0} → (ℕ → Block → List A) → ℕ → List Block → List A
joined f k [] = []
joined f k (x ∷ xs) = f k x ++ joined f (k + 1) xs

-- the points of all blocks, in the order of their numbers
abbrev pub all_points : List Block → List GraphPoint
all_points bs = joined (λ k b. b.points) 0 bs

-- the first numbers of some blocks
abbrev pub firsts_at : List ℕ → List ℕ → List ℕ
firsts_at firsts bs = map (λ b. get_or firsts b 0) bs

-- what follows each of n points, the first of which has this number: the next one, and what follows the last
abbrev pub following : ℕ → ℕ → List ℕ → List (List ℕ)
following i zero after = []
following i (suc zero) after = after ∷ []
following i (suc (suc n)) after = ((i + 1) ∷ []) ∷ following (i + 1) (suc n) after

-- the first numbers of blocks, a block's points counting from a number on
abbrev pub firsts_from : ℕ → List Block → List ℕ
firsts_from i [] = []
firsts_from i (x ∷ xs) = i ∷ firsts_from (i + length x.points) xs

-- what follows each point of blocks, by the first numbers of all blocks
abbrev pub next_from : List ℕ → ℕ → List Block → List (List ℕ)
next_from firsts i [] = []
next_from firsts i (x ∷ xs) =
    following i (length x.points) (firsts_at firsts x.next) ++ next_from firsts (i + length x.points) xs
