use Rattle.std.proofs.Common.{rules, sym, subst, ◌+◌, take, get_or, List, ℕ}
use Rattle.std.specs.Prelude.{Option}
use Rattle.std.proofs.lemmas.List.{take_all}
use Rattle.basic_blocks.specs.Chains.{is_flagged}
use Rattle.point_tables.proofs.LinkLemmas.{Sole, sole_next, sole_unflagged, sole_answers, row_next}
use Rattle.point_tables.proofs.links.one_of.Goals.{then-is_set+else-differs, else-is_set}
use Rattle.point_tables.proofs.links.one_of.Goals as goal

pub loop-number-preserved : goal.loop-number-preserved
loop-number-preserved c = elim c.if-is_set.branch [
  | then-is_set+else-differs w ↦
      subst (λ (o : Option ℕ). Sole (is_flagged c.args.flags.now) (take (c.loop-number.number-index + 1) c.args.row.now) o) (sym w.found-is)
      (sole_next (is_flagged c.args.flags.now) (take c.loop-number.number-index c.args.row.now)
      (take (c.loop-number.number-index + 1) c.args.row.now) (get_or c.args.row.now c.loop-number.number-index 0)
      (row_next c.args.row.now c.loop-number.number-index c.loop-number-test.true) c.loop-number.found (search rules)
      (search rules) c.loop-number.invariant)
  | else-is_set w ↦
      subst (λ (o : Option ℕ). Sole (is_flagged c.args.flags.now) (take (c.loop-number.number-index + 1) c.args.row.now) o) (sym w.found-is)
      (sole_unflagged (is_flagged c.args.flags.now) (take c.loop-number.number-index c.args.row.now)
      (get_or c.args.row.now c.loop-number.number-index 0) (take (c.loop-number.number-index + 1) c.args.row.now)
      (row_next c.args.row.now c.loop-number.number-index c.loop-number-test.true) c.loop-number.found
      (search rules) c.loop-number.invariant)
]

pub returns : goal.returns
returns c =
    sole_answers (is_flagged c.args.flags.now) c.args.row.now c.loop-number.found
    (subst (λ (xs : List ℕ). Sole (is_flagged c.args.flags.now) xs c.loop-number.found)
    (take_all c.loop-number.number-index c.args.row.now c.loop-number-test.false) c.loop-number.invariant)
