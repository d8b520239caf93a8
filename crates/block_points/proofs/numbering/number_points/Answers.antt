use Rattle.std.proofs.Common.{◌∙◌, List, ℕ, [], ap, sym, subst, length, arith}
use Rattle.graph_search.specs.Flows.{IsBounded, flow_of}
use Rattle.block_points.specs.Numbering.{next_from}
use Rattle.block_points.proofs.BelowLemmas.{blocks_few, points_bounded}
use Rattle.block_points.proofs.PlaceLemmas.{next_length}
use Rattle.block_points.proofs.numbering.number_points.Goals as goal

pub home_of-requires : goal.home_of-requires
home_of-requires c =
    let few = c.requires.few in
    let f = blocks_few c.args.blocks.now c.requires.linked in
    omega (arith, f, few)

pub neighbours-requires-clause-few : goal.neighbours-requires-clause-few
neighbours-requires-clause-few c =
    let few = c.requires.few in
    let s = ap length c.in_ok-next.ensures ∙ next_length c.as_slice.result.now c.args.blocks.now 0 in
    omega (arith, s, few)

pub neighbours-requires-clause-bounded : goal.neighbours-requires-clause-bounded
neighbours-requires-clause-bounded c =
    subst (λ (rows : List (List ℕ)). IsBounded (flow_of (record { rows = rows; entry = 0; returns = [] })))
    (ap (λ (firsts : List ℕ). next_from firsts 0 c.args.blocks.now) (sym c.in_ok-firsts.ensures ∙ sym c.as_slice.ensures)
    ∙ sym c.in_ok-next.ensures)
    (points_bounded c.args.blocks.now c.requires.linked c.requires.few c.requires.some)
