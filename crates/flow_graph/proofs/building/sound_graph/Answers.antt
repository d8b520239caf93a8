use Rattle.std.proofs.Common.{◌≡◌, ◌∙◌, ◌<◌, ◌^◌, sym, ap, subst, length, List, Bool, ℕ}
use Rattle.std.specs.Prelude.{Some, slice_get}
use Rattle.basic_blocks.specs.Chains.{is_flagged}
use Rattle.control_flow.specs.Points.{entry_point}
use Rattle.control_flow.specs.Ways.{ways_from}
use Rattle.function_points.specs.PointLists.{points_at}
use Rattle.point_tables.specs.Tables.{AreTables}
use Rattle.flow_graph.proofs.GraphLemmas.{not_alive, points_few}
use Rattle.flow_graph.proofs.building.sound_graph.Goals as goal

pub tabulated-requires-clause-few : goal.tabulated-requires-clause-few
tabulated-requires-clause-few c =
    subst (λ (zs : List (ℕ × ℕ)). length zs < 2 ^ 31) (sym c.as_slice.ensures)
    (points_few c.args.image.now c.args.entry c.args.contexts.now c.args.points c.requires.arranged c.requires.sound)

pub entry_number-first-requires-clause-few : goal.entry_number-first-requires-clause-few
entry_number-first-requires-clause-few c =
    subst (λ (zs : List (ℕ × ℕ)). length zs < 2 ^ 31) (sym c.as_slice-2.ensures)
    (points_few c.args.image.now c.args.entry c.args.contexts.now c.args.points c.requires.arranged c.requires.sound)

pub assemble-requires-clause-few : goal.assemble-requires-clause-few
assemble-requires-clause-few c = points_few c.args.image.now c.args.entry c.args.contexts.now c.args.points c.requires.arranged
    c.requires.sound

pub returns-else-is_set-clause-refused : goal.returns-else-is_set-clause-refused
returns-else-is_set-clause-refused c =
    let t = c.in_ok-tables.tables in
    not_alive c.args.image.now c.args.entry c.args.contexts.now c.args.points c.requires.arranged t.targets t.sources t.live
    c.entry_number-first.result c.requires.sound
    (subst (λ (zs : List (ℕ × ℕ)). AreTables (ways_from c.args.image.now c.args.entry) (entry_point c.args.entry)
    (points_at c.args.contexts.now zs)
    t.targets t.sources t.live) c.as_slice.ensures c.in_ok-tables.ensures.ok)
    (subst (λ (zs : List (ℕ × ℕ)). slice_get zs c.entry_number-first.result ≡ Some (0, c.args.entry)) c.as_slice-2.ensures
    c.entry_number-first.ensures)
    (ap (λ (zs : List Bool). is_flagged zs c.entry_number-first.result) (sym c.as_slice-3.ensures) ∙ sym c.is_set.ensures
    ∙ c.if-is_set.false)
