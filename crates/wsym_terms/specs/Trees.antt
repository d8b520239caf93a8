-- The size of a control-flow tree, and what it may cost for a number of executions.
use Rattle.std.specs.Prelude.{ℕ, zero, suc, ◌+◌, ◌-◌, ◌*◌, max, sum, List, [], ◌∷◌, length, nat_le, if◌then◌else◌}
use Rattle.std.specs.List.{sum_by}
use Rattle.wsym_terms.specs.Extents.{Extent, Finite, Infinite, plus, greater, times, if_any}
use Rattle.wsym_terms.specs.declared.trees.Use.{Use}
use Rattle.wsym_terms.specs.declared.trees.Tree.{Tree, fold-Tree}
use Rattle.wsym_terms.specs.declared.trees.Tree.TheOpen.{Tree-F}
use Rattle.wsym_terms.specs.declared.trees.Tree.TheOpen.Tree-F.{Leaf, Seq, Alt, Loop}

-- nodes and uses
abbrev pub level_size : Tree-F ℕ → ℕ
level_size (Leaf block base uses) = 1 + length uses
level_size (Seq members) = 1 + sum members
level_size (Alt choices) = 1 + sum choices
level_size (Loop id body exit) = 1 + body + exit

abbrev pub size_of : Tree → ℕ
size_of = fold-Tree ℕ level_size

abbrev pub sizes_of : List Tree → ℕ
sizes_of = sum_by size_of

-- What a tree means at a depth, which is the number of loops round it: the greatest scope of its uses, and
-- its cost for a number of executions.
pub record Meaning : Type 0 where
  pub scope : ℕ → ℕ
  pub value : ℕ → ℕ → Extent

abbrev pub greatest_scope : List Use → ℕ
greatest_scope [] = 0
greatest_scope (u ∷ uses) = max u.scope (greatest_scope uses)

abbrev pub scope_of_all : List Meaning → ℕ → ℕ
scope_of_all [] depth = 0
scope_of_all (m ∷ ms) depth = max (m.scope depth) (scope_of_all ms depth)

-- one after another: the sum
abbrev pub in_order : List Meaning → ℕ → ℕ → Extent
in_order [] depth n = Finite 0
in_order (m ∷ ms) depth n = plus (m.value depth n) (in_order ms depth n)

-- the greatest f(k) + g(n - k), for all k up to the given one
abbrev pub best : (ℕ → Extent) → (ℕ → Extent) → ℕ → ℕ → Extent
best f g zero n = plus (f 0) (g n)
best f g (suc k) n = greater (plus (f (suc k)) (g (n - suc k))) (best f g k n)

-- one of several at each execution: the greatest sum over all ways to share the executions out
abbrev pub shared_out : List Meaning → ℕ → ℕ → Extent
shared_out [] depth n = Finite 0
shared_out (m ∷ []) depth n = m.value depth n
shared_out (m ∷ k ∷ ms) depth n = best (m.value depth) (shared_out (k ∷ ms) depth) n n

-- A part of a loop that runs `turns` times for each of n entries. Uses whose scope reaches past the loop
-- are charged for all entries together, others anew for each.
abbrev pub part : Meaning → ℕ → ℕ → ℕ → Extent
part m depth n turns =
    if nat_le (m.scope (depth + 1)) depth
    then m.value (depth + 1) (n * turns)
    else times n (m.value (depth + 1) turns)

-- a scope inside the loop counts as 0 outside of it
abbrev pub outside : Meaning → ℕ → ℕ
outside m depth = if nat_le (m.scope (depth + 1)) depth then m.scope (depth + 1) else 0

-- the body as often as the bound says, and the exit once
abbrev pub loop_value : Extent → Meaning → Meaning → ℕ → ℕ → Extent
loop_value Infinite body exit depth n = Infinite
loop_value (Finite b) body exit depth n = plus (part body depth n b) (part exit depth n 1)

-- With the cycles of a miss, and the value of the bound of each loop by its number.
abbrev pub level_meaning : ℕ → (ℕ → Extent) → Tree-F Meaning → Meaning
level_meaning miss bounds (Leaf block base uses) = record {
  scope = λ depth. greatest_scope uses;
  value = λ depth. if_any (λ n. Finite (n * base + miss * length uses));
}
level_meaning miss bounds (Seq members) = record {
  scope = scope_of_all members;
  value = λ depth. if_any (in_order members depth);
}
level_meaning miss bounds (Alt choices) = record {
  scope = scope_of_all choices;
  value = λ depth. if_any (shared_out choices depth);
}
level_meaning miss bounds (Loop id body exit) = record {
  scope = λ depth. max (outside body depth) (outside exit depth);
  value = λ depth. if_any (loop_value (bounds id) body exit depth);
}

abbrev pub meaning_of : ℕ → (ℕ → Extent) → Tree → Meaning
meaning_of miss bounds = fold-Tree Meaning (level_meaning miss bounds)

-- the cost of n executions of the tree of a whole function, in cycles
abbrev pub tree_value : ℕ → (ℕ → Extent) → Tree → ℕ → Extent
tree_value miss bounds tree n = (meaning_of miss bounds tree).value 0 n

-- the same for a tree that stands at some depth
abbrev pub value_at : ℕ → (ℕ → Extent) → Tree → ℕ → ℕ → Extent
value_at miss bounds tree depth n = (meaning_of miss bounds tree).value depth n
