use Rattle.std.proofs.Common.{◌∙◌, sym, get_or}
use Rattle.std.specs.Prelude.{None}
use Rattle.basic_blocks.specs.Chains.{is_flagged}
use Rattle.basic_blocks.proofs.SplitLemmas.{same_cut, more_cut, begins_parts, begins_not}
use Rattle.basic_blocks.proofs.chains.split.Goals as goal
use Rattle.basic_blocks.proofs.chains.split.Goals.{then-begins+in_ok-chain+in_ok-push, else-begins}

pub loop-at-preserved : goal.loop-at-preserved
loop-at-preserved c = elim c.if-begins.branch [
  | then-begins+in_ok-chain+in_ok-push w ↦
      more_cut c.args.only.now c.args.back.now c.requires.opposite
      (is_flagged c.args.flags.now) c.loop-at.at c.loop-at.chains c.if-begins.chains w.in_ok-chain.chain c.loop-at.invariant
      c.loop-at-test.true
      (begins_parts (is_flagged c.args.flags.now c.loop-at.at) (get_or c.args.back.now c.loop-at.at None)
      (sym c.begins.ensures ∙ w.if-begins.true)).0 w.in_ok-chain.ensures (w.chains-is ∙ w.in_ok-push.ensures.ok)
  | else-begins w ↦
      same_cut c.args.only.now c.args.back.now c.requires.opposite
      (is_flagged c.args.flags.now) c.loop-at.at c.loop-at.chains c.if-begins.chains c.loop-at.invariant
      (begins_not (is_flagged c.args.flags.now c.loop-at.at) (get_or c.args.back.now c.loop-at.at None)
      (sym c.begins.ensures ∙ w.if-begins.false)) w.chains-is
]
