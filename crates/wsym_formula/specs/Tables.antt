-- Tables of nodes, and what they mean.
use Rattle.std.specs.Prelude.{◌≡◌, ◌≢◌, ℕ, suc, ◌<◌, ◌^◌, ◌++◌, List, [], ◌∷◌, length, map, get_or}
use Rattle.wsym_formula.specs.declared.nodes.Node.{Node}
use Rattle.wsym_formula.specs.declared.nodes.Node.TheVariants as n
use Rattle.wsym_formula.specs.declared.terms.Term.{Term}
use Rattle.wsym_formula.specs.declared.terms.Term.TheVariants as t

-- what stands at a place of a list of terms
abbrev pub term_at : List Term → ℕ → Term
term_at terms k = get_or terms k (t.Sum [])

-- a node over the meanings of the nodes before it
abbrev pub opened : List Term → Node → Term
opened terms (n.Const c) = t.Const c
opened terms (n.Sum members) = t.Sum (map (term_at terms) members)
opened terms (n.Alt members) = t.Alt (map (term_at terms) members)
opened terms (n.Power id body) = t.Power id (term_at terms body)
opened terms (n.Scaled id body) = t.Scaled id (term_at terms body)
opened terms (n.Once body) = t.Once (term_at terms body)

-- the meanings of nodes that stand after nodes with these meanings
abbrev pub meanings_after : List Term → List Node → List Term
meanings_after terms [] = []
meanings_after terms (node ∷ nodes) = opened terms node ∷ meanings_after (terms ++ opened terms node ∷ []) nodes

-- the meanings of the nodes of a table, in order
abbrev pub meanings : List Node → List Term
meanings = meanings_after []

abbrev pub meaning_at : List Node → ℕ → Term
meaning_at nodes k = term_at (meanings nodes) k

abbrev pub AllBelow : ℕ → List ℕ → Type 0
AllBelow k [] = Unit {0}
AllBelow k (m ∷ members) = (m < k) × AllBelow k members

-- the members of a node are numbers below k
abbrev pub IsBelow : ℕ → Node → Type 0
IsBelow k (n.Const c) = Unit {0}
IsBelow k (n.Sum members) = AllBelow k members
IsBelow k (n.Alt members) = AllBelow k members
IsBelow k (n.Power id body) = body < k
IsBelow k (n.Scaled id body) = body < k
IsBelow k (n.Once body) = body < k

-- the members of each node are earlier nodes, where the first node has the number k
abbrev pub IsClosedFrom : ℕ → List Node → Type 0
IsClosedFrom k [] = Unit {0}
IsClosedFrom k (node ∷ nodes) = IsBelow k node × IsClosedFrom (suc k) nodes

abbrev pub IsClosed : List Node → Type 0
IsClosed = IsClosedFrom 0

-- the second is the first with more nodes after
abbrev pub Extends : List Node → List Node → Type 0
Extends old new = (more : List Node) × (new ≡ old ++ more)

-- another node than each of some
abbrev pub DiffersFrom : List Node → Node → Type 0
DiffersFrom [] node = Unit {0}
DiffersFrom (other ∷ nodes) node = (node ≢ other) × DiffersFrom nodes node

-- no node stands twice
abbrev pub AllDiffer : List Node → Type 0
AllDiffer [] = Unit {0}
AllDiffer (node ∷ nodes) = DiffersFrom nodes node × AllDiffer nodes

-- a list of nodes that a table holds
pub record IsTable (nodes : List Node) : Type 0 where
  pub closed : IsClosed nodes
  pub different : AllDiffer nodes
  pub few : length nodes < 2 ^ 32
