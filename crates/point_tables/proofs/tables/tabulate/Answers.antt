use Rattle.std.proofs.Common.{◌≤◌, ◌∙◌, sym, subst, List, ℕ, length}
use Rattle.std.specs.Prelude.{Contains}
use Rattle.basic_blocks.specs.LivePoints.{before}
use Rattle.function_points.specs.PointLists.{points_at}
use Rattle.point_tables.specs.declared.targets.Targets.{Targets}
use Rattle.point_tables.specs.Numbers.{AreSources}
use Rattle.point_tables.specs.Targets.{step_in}
use Rattle.point_tables.proofs.ArrangedLemmas.{are_targets, table_inside, live_same}
use Rattle.point_tables.proofs.tables.tabulate.Goals as goal

pub rows_of-requires-clause-inside : goal.rows_of-requires-clause-inside
rows_of-requires-clause-inside c =
    let all = c.in_ok-targets.ensures.ok in
    subst (λ (zs : List Targets). (i j : ℕ) → Contains (step_in zs i) j → j ≤ length zs) (sym c.as_slice.ensures)
    (table_inside c.args.image.now c.args.entry c.args.contexts.now c.args.points.now c.requires.arranged c.in_ok-targets.targets all)

pub returns-clause-ok : goal.returns-clause-ok
returns-clause-ok c =
    let all = c.in_ok-targets.ensures.ok in
    record {
      ahead = are_targets c.args.image.now c.args.entry c.args.contexts.now c.args.points.now c.requires.arranged c.in_ok-targets.targets
          all;
      back =
          subst (λ (zs : List (List ℕ)). AreSources (step_in c.in_ok-targets.targets) (before zs)) (sym c.from_vec.ensures)
          (subst (λ (zs : List Targets). AreSources (step_in zs) (before c.in_ok-rows.rows.items)) c.as_slice.ensures
          c.in_ok-rows.ensures.before);
      live =
          live_same c.in_ok-flags.flags.items c.from_vec-2.result c.as_slice-2.result.now c.from_vec.result c.len.result
          (length (points_at c.args.contexts.now c.args.points.now)) (sym c.from_vec-2.ensures)
          (c.as_slice-2.ensures.value ∙ sym c.from_vec.ensures)
          (c.len.ensures ∙ all.long) c.in_ok-flags.ensures.live;
    }
