use Rattle.std.proofs.Common.{subst, List, ℕ}
use Rattle.basic_blocks.specs.Chains.{is_flagged}
use Rattle.point_tables.specs.Numbers.{Answers, IsOnlyFlagged}
use Rattle.point_tables.proofs.LinkLemmas.{some_before}
use Rattle.point_tables.proofs.links.before_of.Goals as goal

pub returns-then-number-rows : goal.returns-then-number-rows
returns-then-number-rows c =
    some_before (is_flagged c.args.flags.now) c.args.rows.now c.args.number c.index-rows-number.result c.one_of.result
    c.if-number-rows.true c.index-rows-number.is
    (subst (λ (xs : List ℕ). Answers (IsOnlyFlagged (is_flagged c.args.flags.now) xs) c.one_of.result) c.as_slice.ensures c.one_of.ensures)
