-- The reduction of a flow graph to nodes, which finds the closing edges.
use Rattle.std.specs.Prelude.{◌≡◌, ℕ, zero, suc, Bool, false, ◌&&◌, ◌||◌, not, ◌==◌, if◌then◌else◌, Option, Some, None}
use Rattle.std.specs.Prelude.{is_some}
use Rattle.graph_search.specs.Flows.{Flow, edge}

-- the head of the node of each block, and the edges that close
pub record State : Type 0 where
  pub head : ℕ → ℕ
  pub closed : ℕ → ℕ → Bool

-- each block is a node
abbrev pub start : State
start = record { head = λ x. x; closed = λ u h. false }

abbrev pub or_else : Option ℕ → Option ℕ → Option ℕ
or_else None o = o
or_else (Some n) o = Some n

-- the least number below a bound that passes
abbrev pub first_below : (ℕ → Bool) → ℕ → Option ℕ
first_below P zero = None
first_below P (suc n) = or_else (first_below P n) (if P n then Some n else None)

abbrev pub is_open : Flow → State → ℕ → ℕ → Bool
is_open flow s u h = edge flow u h && not (s.closed u h)

-- ---- an edge from a node to itself

abbrev pub fits_one : Flow → State → ℕ → Bool
fits_one flow s h = (s.head h == h) && is_some (first_below (λ u. (s.head u == h) && is_open flow s u h) flow.count)

-- the graph's edges from the node's blocks to its head close
abbrev pub close : Flow → ℕ → State → State
close flow h s = record {
  head = s.head;
  closed = λ u x. s.closed u x ||
      ((x == h) && (s.head u == h) && edge flow u x);
}

-- ---- a node that is entered from one other node

pub data Giver : Type 0 where
  Nobody : Giver
  Only : (node : ℕ) → Giver
  Several : Giver

abbrev pub with_giver : ℕ → Giver → Giver
with_giver g Nobody = Only g
with_giver g (Only f) = if f == g then Only f else Several
with_giver g Several = Several

-- the nodes of the numbers below a bound that pass
abbrev pub giver_below : (ℕ → ℕ) → (ℕ → Bool) → ℕ → Giver
giver_below head P zero = Nobody
giver_below head P (suc n) = if P n then with_giver (head n) (giver_below head P n) else giver_below head P n

abbrev pub other_than : ℕ → Giver → Option ℕ
other_than v Nobody = None
other_than v (Only g) = if g == v then None else Some g
other_than v Several = None

-- the one other node from which edges lead into the node of v
abbrev pub giver_of : Flow → State → ℕ → Option ℕ
giver_of flow s v = other_than v (giver_below s.head (λ u. is_open flow s u v) flow.count)

abbrev pub fits_two : Flow → State → ℕ → Bool
fits_two flow s v = (s.head v == v) && not (v == s.head flow.entry) && is_some (giver_of flow s v)

-- the node of v is put into that of g
abbrev pub put_into : ℕ → ℕ → State → State
put_into v g s = record { head = λ x. if s.head x == v then g else s.head x; closed = s.closed }

-- ---- the rules in their order, each at its least head

abbrev pub put_some : ℕ → Option ℕ → State → Option State
put_some v None s = None
put_some v (Some g) s = Some (put_into v g s)

abbrev pub second_rule : Flow → State → Option ℕ → Option State
second_rule flow s None = None
second_rule flow s (Some v) = put_some v (giver_of flow s v) s

abbrev pub first_rule : Flow → State → Option ℕ → Option State
first_rule flow s None = second_rule flow s (first_below (fits_two flow s) flow.count)
first_rule flow s (Some h) = Some (close flow h s)

abbrev pub step : Flow → State → Option State
step flow s = first_rule flow s (first_below (fits_one flow s) flow.count)

abbrev pub and_on : (State → State) → State → Option State → State
and_on f s None = s
and_on f s (Some t) = f t

-- after n uses of the rules, or as many as fit
abbrev pub reduced : Flow → ℕ → State → State
reduced flow zero s = s
reduced flow (suc n) s = and_on (reduced flow n) s (step flow s)

-- what is left where neither rule fits
abbrev pub IsReduced : Flow → State → Type 0
IsReduced flow s = (n : ℕ) × (s ≡ reduced flow n start) × (step flow s ≡ None)
