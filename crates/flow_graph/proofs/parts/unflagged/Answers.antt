use Rattle.std.proofs.Common.{rules, ◌∙◌, sym}
use Rattle.basic_blocks.specs.Chains.{is_flagged}
use Rattle.flow_graph.proofs.PartLemmas.{more_unflagged, same_unflagged}
use Rattle.flow_graph.proofs.parts.unflagged.Goals as goal
use Rattle.flow_graph.proofs.parts.unflagged.Goals.{then-not-is_set+in_ok-push, else-not-is_set}

pub loop-at-preserved : goal.loop-at-preserved
loop-at-preserved c =
    record {
      within = search rules;
      numbers =
          elim c.if-not-is_set.branch [
            | then-not-is_set+in_ok-push w ↦
                more_unflagged (is_flagged c.args.flags.now) c.loop-at.at c.loop-at.numbers c.if-not-is_set.numbers
                (w.numbers-is ∙ w.in_ok-push.ensures.ok) (sym c.is_set.ensures ∙ w.if-not-is_set.true) c.loop-at.invariant.numbers
            | else-not-is_set w ↦
                same_unflagged (is_flagged c.args.flags.now) c.loop-at.at c.loop-at.numbers c.if-not-is_set.numbers w.numbers-is
                (sym c.is_set.ensures ∙ w.if-not-is_set.false) c.loop-at.invariant.numbers
          ];
    }
