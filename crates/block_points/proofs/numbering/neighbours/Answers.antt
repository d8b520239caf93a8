use Rattle.std.proofs.Common.{◌∙◌, List, ℕ, ap, sym}
use Rattle.std.specs.Prelude.{nat_eq}
use Rattle.graph_search.specs.Flows.{GraphRows}
use Rattle.graph_search.specs.NodeLists.{holds}
use Rattle.graph_search.specs.Rows.{row_in}
use Rattle.block_points.proofs.BelowLemmas.{edge_is_held}
use Rattle.block_points.proofs.numbering.neighbours.Goals as goal

pub returns-clause-before : goal.returns-clause-before
returns-clause-before c r q =
    ap (λ (g : GraphRows). holds nat_eq q (row_in g.rows r)) (sym c.new-graph.ensures)
    ∙ sym (edge_is_held c.new-graph.result r q) ∙ sym (c.in_ok-before.ensures.exact q r)
    ∙ ap (λ (v : List (List ℕ)). holds nat_eq r (row_in v q)) (sym c.from_vec.ensures)
