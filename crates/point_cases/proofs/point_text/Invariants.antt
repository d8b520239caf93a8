use Rattle.point_cases.proofs.point_text.Given as goal

abbrev pub decreases-loop-context : goal.decreases-loop-context
decreases-loop-context l = l.context
