use Rattle.std.proofs.Common.{◌≡◌, ℕ, ◌<◌, take}
use Rattle.std.specs.Prelude.{◌==◌, nat_lt, Some, slice_get}
use Rattle.std.specs.List.{list_any}
use Rattle.std.specs.BTreeSet.{BTreeSet}
use Rattle.graph_search.specs.Flows.{Flow, IsBounded}
use Rattle.graph_reduction.specs.Nodes.{AreHeld}
use Rattle.interval_loops.specs.BlockOrders.{IsListing, IsPartly}
use Rattle.interval_loops.proofs.order.take_row.Given as goal

abbrev pub invariant-loop-target : goal.invariant-loop-target
invariant-loop-target l =
    (flow : Flow) (label : ℕ → ℕ) (first : BTreeSet (ℕ × ℕ × ℕ)) (at : ℕ) → IsBounded flow → AreHeld flow label first →
    ((u : ℕ) → u < flow.count → label u < flow.count) → l.node ≡ label l.block → l.row ≡ flow.next l.block
    → slice_get l.fn.order.items at ≡ Some l.block → IsListing (λ t. nat_lt t flow.count) flow label first l.fn.into at at l.fn.order.items
    → IsPartly flow label first l.into at l.block (λ x. list_any (λ y. y == x) (take l.target-index l.row)) l.order.items
