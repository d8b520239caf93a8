use Rattle.std.proofs.Common.{sym, subst, length, List, ℕ}
use Rattle.std.specs.Prelude.{Option}
use Rattle.basic_blocks.specs.Chains.{AreOpposite, IsSplit, is_flagged}
use Rattle.basic_blocks.specs.LivePoints.{before}
use Rattle.point_tables.specs.Tables.{AreLinkChains}
use Rattle.point_tables.specs.Targets.{step_in}
use Rattle.point_tables.proofs.CutLemmas.{links_cut, links_opposite}
use Rattle.point_tables.proofs.CutLemmas.{if_ok}
use Rattle.point_tables.proofs.cutting.cut.Goals as goal

pub split-requires-clause-opposite : goal.split-requires-clause-opposite
split-requires-clause-opposite c =
    subst (λ (zs : List (Option ℕ)). AreOpposite zs c.as_slice-2.result.now) (sym c.as_slice.ensures)
    (subst (λ (zs : List (Option ℕ)). AreOpposite c.in_ok-only.only zs) (sym c.as_slice-2.ensures)
    (links_opposite c.args.table.now (before c.args.rows.now) (is_flagged c.args.flags.now) c.args.entry c.in_ok-only.only c.in_ok-back.back
    c.in_ok-only.ensures c.in_ok-back.ensures))

pub returns : goal.returns
returns c =
    if_ok c.split.result (IsSplit c.as_slice.result.now (is_flagged c.args.flags.now))
    (AreLinkChains (step_in c.args.table.now) (before c.args.rows.now) (is_flagged c.args.flags.now) (length c.args.table.now) c.args.entry)
    (λ xss w. links_cut (step_in c.args.table.now) (before c.args.rows.now) (is_flagged c.args.flags.now)
    (length c.args.table.now) c.args.entry
    c.in_ok-only.only c.in_ok-back.back xss c.in_ok-only.ensures c.in_ok-back.ensures
    (subst (λ (zs : List (Option ℕ)). IsSplit zs (is_flagged c.args.flags.now) xss) c.as_slice.ensures w)) c.split.ensures
