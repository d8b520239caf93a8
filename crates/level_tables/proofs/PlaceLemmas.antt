-- What a search along a row finds.
use Rattle.std.proofs.Common.{◌≡◌, ℕ, zero, suc, ◌+◌, ◌<◌, ◌≤◌, Bool, true, false, ◌∷◌, List, [], length, drop, get_or, refl, ap, ◌∙◌}
use Rattle.std.specs.Prelude.{◌||◌, if◌then◌else◌, nat_eq}
use Rattle.std.proofs.lemmas.List.{drop_more}
use Rattle.std.proofs.Math.ListN.{drop_of_length-le}
use Rattle.graph_search.specs.NodeLists.{holds}
use Rattle.graph_search.specs.Flows.{Flow}
use Rattle.interval_loops.specs.Loops.{node_in}
use Rattle.interval_loops.specs.Nests.{around_of, header_of, inner_of, loops_of}
use Rattle.interval_loops.specs.Rounds.{after, first_or}
use Rattle.interval_loops.specs.declared.nest.LoopNest.{LoopNest}
use Rattle.flow_tree.specs.FlowTables.{header_by}
use Rattle.level_tables.specs.LevelPlaces.{node_by}

-- what comes next, where what is left of the row is known and whether the number was met
abbrev pub next_of : ℕ → Bool → List ℕ → ℕ
next_of c found xs = if found then first_or 0 xs else after c xs

pub next_now : (c : ℕ) (xs : List ℕ) (i : ℕ) (found : Bool) → i < length xs → found ≡ true → next_of c found (drop i xs) ≡ get_or xs i 0
next_now c xs i found lt e = ap (λ f. next_of c f (drop i xs)) e ∙ ap (first_or 0) (drop_more xs i 0 lt)

pub next_later : (c : ℕ) (xs : List ℕ) (i : ℕ) (found : Bool) → i < length xs → found ≡ false
    → next_of c found (drop i xs) ≡ next_of c (nat_eq (get_or xs i 0) c) (drop (i + 1) xs)
next_later c xs i found lt e = ap (λ f. next_of c f (drop i xs)) e ∙ ap (after c) (drop_more xs i 0 lt)

pub next_none : (c : ℕ) (xs : List ℕ) (i : ℕ) (found : Bool) → length xs ≤ i → next_of c found (drop i xs) ≡ 0
next_none c xs i found le = ap (next_of c found) (drop_of_length-le xs le) ∙ none found
  where
    none : (f : Bool) → next_of c f [] ≡ 0
    none true = refl
    none false = refl

pub held_next : (u : ℕ) (xs : List ℕ) (i : ℕ) → i < length xs
    → holds nat_eq u (drop i xs) ≡ (nat_eq u (get_or xs i 0) || holds nat_eq u (drop (i + 1) xs))
held_next u xs i lt = ap (holds nat_eq u) (drop_more xs i 0 lt)

pub held_none : (u : ℕ) (xs : List ℕ) (i : ℕ) → length xs ≤ i → holds nat_eq u (drop i xs) ≡ false
held_none u xs i le = ap (holds nat_eq u) (drop_of_length-le xs le)

-- the header of a loop is that of the nest
pub same_header : (flow : Flow) (n : LoopNest) (c : ℕ) → header_by flow.count n c ≡ header_of flow n c
same_header flow n zero = refl
same_header flow n (suc d) = refl

pub same_node : (flow : Flow) (n : LoopNest) (c b : ℕ) → node_by flow.count n c b ≡ node_in (loops_of flow n) c b
same_node flow n c b = ap (λ h. if nat_eq (inner_of n b) c then b else h) (same_header flow n (after c (0 ∷ around_of n b)))
