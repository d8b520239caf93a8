use Rattle.std.proofs.Common.{◌≡◌, ◌+◌, ◌≤◌, drop, map, min}
use Rattle.simplifier.specs.Sizes.{nodes_of}
use Rattle.wsym_formula.specs.Values.{total}
use Rattle.report_elements.proofs.sizes.+nodes.Given as goal

abbrev pub invariant-terms_nodes-loop-term : goal.invariant-terms_nodes-loop-term
invariant-terms_nodes-loop-term l = (min (l.nodes + total (map nodes_of (drop l.term-index l.terms))) l.limit ≡ min (total (map nodes_of l.terms)) l.limit) × (l.nodes ≤ l.limit)
