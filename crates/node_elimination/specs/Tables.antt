-- What the table of a level holds.
use Rattle.std.specs.Prelude.{◌≡◌, ℕ, ◌+◌, ◌<◌, ◌≤◌, ◌⊎◌, Bool, false, if◌then◌else◌, ◌&&◌, nat_eq, List, Option}
use Rattle.std.specs.Prelude.{is_some, slice_get}
use Rattle.std.specs.Option.{unwrap_or}
use Rattle.std.specs.BTreeMap as tree
use Rattle.std.specs.BTreeSet as keys
use Rattle.graph_reduction.specs.Sets.{in_set}
use Rattle.tree_law.specs.NodeOrders.{sum_over, over_pairs}
use Rattle.elimination_plans.specs.Plans.{pair_cmp}
use Rattle.elimination_plans.specs.Weights.{gain}
use Rattle.node_elimination.specs.declared.cells.Cell.{Cell}
use Rattle.node_elimination.specs.declared.tally.Sums.{Sums}
use Rattle.node_elimination.specs.declared.tally.Tally.{Tally}
use Rattle.node_elimination.specs.declared.table.Table.{Table}
use Rattle.node_elimination.specs.Cells.{one, leaves_in, size_in}

abbrev pub no_sums : Sums
no_sums = record { ins = 0; outs = 0; into = 0; out = 0 }

abbrev pub sums_at : List Sums → ℕ → Sums
sums_at xs u = unwrap_or (slice_get xs u) no_sums

abbrev pub leaves_at : List ℕ → ℕ → ℕ
leaves_at xs u = unwrap_or (slice_get xs u) 0

abbrev pub gain_by : Sums → ℕ → ℕ
gain_by s n = gain s.ins s.outs s.into s.out n

abbrev pub gain_at : Tally → ℕ → ℕ
gain_at t u = gain_by (sums_at t.sums.items u) (leaves_at t.leaves.items u)

-- the set has the gains of the nodes that are left
abbrev pub Gains : (ℕ → Bool) → Tally → Type 0
Gains live t = (g u : ℕ) → keys.contains pair_cmp t.gains (g, u) ≡ (live u && nat_eq g (gain_at t u))

abbrev pub Before : Tally → ℕ → ℕ → Type 0
Before t v u = (gain_at t v < gain_at t u) ⊎ ((gain_at t v ≡ gain_at t u) × (v ≤ u))

abbrev pub without_node : ℕ → (ℕ → Bool) → ℕ → Bool
without_node v live u = if nat_eq u v then false else live u

-- sums that change by an edge to a node, or from it
pub record ShiftedIn (q : ℕ) (before after : Option Cell) (old new : List Sums) : Type 0 where
  pub ins : (sums_at new q).ins + one before ≡ (sums_at old q).ins + one after
  pub into : (sums_at new q).into + leaves_in before ≡ (sums_at old q).into + leaves_in after
  pub outs : (sums_at new q).outs ≡ (sums_at old q).outs
  pub out : (sums_at new q).out ≡ (sums_at old q).out
  pub others : (w : ℕ) → nat_eq w q ≡ false → sums_at new w ≡ sums_at old w

pub record ShiftedOut (p : ℕ) (before after : Option Cell) (old new : List Sums) : Type 0 where
  pub outs : (sums_at new p).outs + one before ≡ (sums_at old p).outs + one after
  pub out : (sums_at new p).out + leaves_in before ≡ (sums_at old p).out + leaves_in after
  pub ins : (sums_at new p).ins ≡ (sums_at old p).ins
  pub into : (sums_at new p).into ≡ (sums_at old p).into
  pub others : (w : ℕ) → nat_eq w p ≡ false → sums_at new w ≡ sums_at old w

-- the table holds the edges E between some nodes
pub record Keeps (all : List ℕ) (E : ℕ → ℕ → Option Cell) (t : Table) : Type 0 where
  pub cells : (p q : ℕ) → tree.get pair_cmp t.cells (p, q) ≡ E p q
  pub linked_in : (v u : ℕ) → in_set t.links v 0 u ≡ is_some (E u v)
  pub linked_out : (v u : ℕ) → in_set t.links v 1 u ≡ is_some (E v u)
  pub ins : (u : ℕ) → (sums_at t.tally.sums.items u).ins ≡ sum_over (λ p. one (E p u)) all
  pub outs : (u : ℕ) → (sums_at t.tally.sums.items u).outs ≡ sum_over (λ q. one (E u q)) all
  pub into : (u : ℕ) → (sums_at t.tally.sums.items u).into ≡ sum_over (λ p. leaves_in (E p u)) all
  pub out : (u : ℕ) → (sums_at t.tally.sums.items u).out ≡ sum_over (λ q. leaves_in (E u q)) all
  pub total : t.total ≡ over_pairs (λ p q. size_in (E p q)) all

abbrev pub link_put : ℕ → ℕ → Bool → (ℕ → ℕ → ℕ → Bool) → ℕ → ℕ → ℕ → Bool
link_put p q on f v s u = if nat_eq v q && nat_eq s 0 && nat_eq u p then on else
    (if nat_eq v p && nat_eq s 1 && nat_eq u q then on else f v s u)
